-- Each arm is settled as its place is, and what is stored and planned of it is that. The arms that meet Anchor check it first.
use mathlib.Core.Path.{refl, ap, ◌∙◌}
use native.Mathlib.Omega.{arith}
use Rattle.threads_model.specs.Split.{meets_anchor, place_refusal}
use Rattle.touch.proofs.Filled as filled
use Rattle.touch.proofs.Dispatch as by
use Rattle.touch.proofs.{Tested.{low, high}, Border.done}
use Rattle.touch.proofs.settle.Goals as goal

pub returns-in-1 : goal.returns-in-1
unfolding meets_anchor
returns-in-1 c none =
    let a = c.args in
    let r = c.call_of-r in
    let k = c.knowing-c in
    let busy = ap place_refusal r.ensures ∙ none in
    done a.pooled a.slots a.w a.task.now _ r.result c.checked.result c.put.result r.ensures
    (λ n. by.settles_on a.pooled a.slots r.result a.w n busy 1 c.in-1.is _ _ _ k.ensures refl refl c.checked.ensures
    (filled.met k.result r.result a.w 1 refl refl refl refl refl refl _ c.at1.ensures))
    c.put.ensures _ _ c.ahead.ensures.reply_value c.ahead.ensures.by_index

pub returns-in-2 : goal.returns-in-2
unfolding meets_anchor
returns-in-2 c none =
    let a = c.args in
    let r = c.call_of-r in
    let k = c.knowing-c in
    let busy = ap place_refusal r.ensures ∙ none in
    done a.pooled a.slots a.w a.task.now _ r.result c.checked-in-2.result c.put-in-2.result r.ensures
    (λ n. by.settles_on a.pooled a.slots r.result a.w n busy 2 c.in-2.is _ _ _ k.ensures refl refl c.checked-in-2.ensures
    (filled.met k.result r.result a.w 2 refl refl refl refl refl refl _ c.at2.ensures))
    c.put-in-2.ensures _ _ c.ahead-in-2.ensures.reply_value c.ahead-in-2.ensures.by_index

pub returns-in-3 : goal.returns-in-3
unfolding meets_anchor
returns-in-3 c none =
    let a = c.args in
    let r = c.call_of-r in
    let k = c.knowing-c in
    let busy = ap place_refusal r.ensures ∙ none in
    done a.pooled a.slots a.w a.task.now _ r.result c.at3.result c.put-in-3.result r.ensures
    (λ n. by.settles_off a.pooled a.slots r.result a.w n busy 3 c.in-3.is k.result c.at3.result k.ensures refl refl
    (filled.met3 k.result r.result a.w c.at3.result c.at3.ensures))
    c.put-in-3.ensures _ _ c.ahead-in-3.ensures.reply_value c.ahead-in-3.ensures.by_index

pub returns-in-4 : goal.returns-in-4
unfolding meets_anchor
returns-in-4 c none =
    let a = c.args in
    let r = c.call_of-r in
    let k = c.knowing-c in
    let busy = ap place_refusal r.ensures ∙ none in
    done a.pooled a.slots a.w a.task.now _ r.result c.checked-in-4.result c.put-in-4.result r.ensures
    (λ n. by.settles_on a.pooled a.slots r.result a.w n busy 4 c.in-4.is _ _ _ k.ensures refl refl c.checked-in-4.ensures
    (filled.met k.result r.result a.w 4 refl refl refl refl refl refl _ c.at4.ensures))
    c.put-in-4.ensures _ _ c.ahead-in-4.ensures.reply_value c.ahead-in-4.ensures.by_index

pub returns-in-5 : goal.returns-in-5
unfolding meets_anchor
returns-in-5 c none =
    let a = c.args in
    let r = c.call_of-r in
    let k = c.knowing-c in
    let busy = ap place_refusal r.ensures ∙ none in
    done a.pooled a.slots a.w a.task.now _ r.result c.at5.result c.put-in-5.result r.ensures
    (λ n. by.settles_off a.pooled a.slots r.result a.w n busy 5 c.in-5.is k.result c.at5.result k.ensures refl refl
    (filled.met5 k.result r.result a.w c.at5.result c.at5.ensures))
    c.put-in-5.ensures _ _ c.ahead-in-5.ensures.reply_value c.ahead-in-5.ensures.by_index

pub returns-in-6 : goal.returns-in-6
unfolding meets_anchor
returns-in-6 c none =
    let a = c.args in
    let r = c.call_of-r in
    let k = c.knowing-c in
    let busy = ap place_refusal r.ensures ∙ none in
    done a.pooled a.slots a.w a.task.now _ r.result c.checked-in-6.result c.put-in-6.result r.ensures
    (λ n. by.settles_on a.pooled a.slots r.result a.w n busy 6 c.in-6.is _ _ _ k.ensures refl refl c.checked-in-6.ensures
    (filled.met k.result r.result a.w 6 refl refl refl refl refl refl _ c.at6.ensures))
    c.put-in-6.ensures _ _ c.ahead-in-6.ensures.reply_value c.ahead-in-6.ensures.by_index

pub returns-in-7 : goal.returns-in-7
unfolding meets_anchor
returns-in-7 c none =
    let a = c.args in
    let r = c.call_of-r in
    let k = c.knowing-c in
    let busy = ap place_refusal r.ensures ∙ none in
    done a.pooled a.slots a.w a.task.now _ r.result c.at7.result c.put-in-7.result r.ensures
    (λ n. by.settles_off a.pooled a.slots r.result a.w n busy 7 c.in-7.is k.result c.at7.result k.ensures refl refl
    (filled.met7 k.result r.result a.w c.at7.result c.at7.ensures))
    c.put-in-7.ensures _ _ c.ahead-in-7.ensures.reply_value c.ahead-in-7.ensures.by_index

pub returns-in-8 : goal.returns-in-8
unfolding meets_anchor
returns-in-8 c none =
    let a = c.args in
    let r = c.call_of-r in
    let k = c.knowing-c in
    let busy = ap place_refusal r.ensures ∙ none in
    done a.pooled a.slots a.w a.task.now _ r.result c.checked-in-8.result c.put-in-8.result r.ensures
    (λ n. by.settles_on a.pooled a.slots r.result a.w n busy 8 c.in-8.is _ _ _ k.ensures refl refl c.checked-in-8.ensures
    (filled.met k.result r.result a.w 8 refl refl refl refl refl refl _ c.at8.ensures))
    c.put-in-8.ensures _ _ c.ahead-in-8.ensures.reply_value c.ahead-in-8.ensures.by_index

pub returns-in-9 : goal.returns-in-9
unfolding meets_anchor
returns-in-9 c none =
    let a = c.args in
    let r = c.call_of-r in
    let k = c.knowing-c in
    let busy = ap place_refusal r.ensures ∙ none in
    done a.pooled a.slots a.w a.task.now _ r.result c.at9.result c.put-in-9.result r.ensures
    (λ n. by.settles_off a.pooled a.slots r.result a.w n busy 9 c.in-9.is k.result c.at9.result k.ensures refl refl
    (filled.met9 k.result r.result a.w c.at9.result c.at9.ensures))
    c.put-in-9.ensures _ _ c.ahead-in-9.ensures.reply_value c.ahead-in-9.ensures.by_index

pub returns-in-10 : goal.returns-in-10
unfolding meets_anchor
returns-in-10 c none =
    let a = c.args in
    let r = c.call_of-r in
    let k = c.knowing-c in
    let busy = ap place_refusal r.ensures ∙ none in
    done a.pooled a.slots a.w a.task.now _ r.result c.checked-in-10.result c.put-in-10.result r.ensures
    (λ n. by.settles_on a.pooled a.slots r.result a.w n busy 10 c.in-10.is _ _ _ k.ensures refl refl c.checked-in-10.ensures
    (filled.met k.result r.result a.w 10 refl refl refl refl refl refl _ c.at10.ensures))
    c.put-in-10.ensures _ _ c.ahead-in-10.ensures.reply_value c.ahead-in-10.ensures.by_index

pub returns-in-11 : goal.returns-in-11
returns-in-11 c none =
    let a = c.args in
    let r = c.call_of-r in
    let k = c.knowing-c in
    let busy = ap place_refusal r.ensures ∙ none in
    done a.pooled a.slots a.w a.task.now _ r.result c.at11.result c.put-in-11.result r.ensures
    (λ n. by.settles_11 a.pooled a.slots r.result a.w n busy c.in-11.is k.result c.at11.result k.ensures c.at11.ensures)
    c.put-in-11.ensures _ _ c.ahead-in-11.ensures.reply_value c.ahead-in-11.ensures.by_index

pub returns-in-12 : goal.returns-in-12
unfolding meets_anchor
returns-in-12 c none =
    let a = c.args in
    let r = c.call_of-r in
    let k = c.knowing-c in
    let busy = ap place_refusal r.ensures ∙ none in
    done a.pooled a.slots a.w a.task.now _ r.result c.at12.result c.put-in-12.result r.ensures
    (λ n. by.settles_off a.pooled a.slots r.result a.w n busy 12 c.in-12.is k.result c.at12.result k.ensures refl refl
    (filled.met k.result r.result a.w 12 refl refl refl refl refl refl c.at12.result c.at12.ensures))
    c.put-in-12.ensures _ _ c.ahead-in-12.ensures.reply_value c.ahead-in-12.ensures.by_index

pub returns-in-13 : goal.returns-in-13
unfolding meets_anchor
returns-in-13 c none =
    let a = c.args in
    let r = c.call_of-r in
    let k = c.knowing-c in
    let busy = ap place_refusal r.ensures ∙ none in
    done a.pooled a.slots a.w a.task.now _ r.result c.at13.result c.put-in-13.result r.ensures
    (λ n. by.settles_off a.pooled a.slots r.result a.w n busy 13 c.in-13.is k.result c.at13.result k.ensures refl refl
    (filled.met13 k.result r.result a.w c.at13.result c.at13.ensures))
    c.put-in-13.ensures _ _ c.ahead-in-13.ensures.reply_value c.ahead-in-13.ensures.by_index

pub returns-in-14 : goal.returns-in-14
unfolding meets_anchor
returns-in-14 c none =
    let a = c.args in
    let r = c.call_of-r in
    let k = c.knowing-c in
    let busy = ap place_refusal r.ensures ∙ none in
    done a.pooled a.slots a.w a.task.now _ r.result c.at14.result c.put-in-14.result r.ensures
    (λ n. by.settles_off a.pooled a.slots r.result a.w n busy 14 c.in-14.is k.result c.at14.result k.ensures refl refl
    (filled.met14 k.result r.result a.w c.at14.result c.at14.ensures))
    c.put-in-14.ensures _ _ c.ahead-in-14.ensures.reply_value c.ahead-in-14.ensures.by_index

pub returns-in-15 : goal.returns-in-15
unfolding meets_anchor
returns-in-15 c none =
    let a = c.args in
    let r = c.call_of-r in
    let k = c.knowing-c in
    let busy = ap place_refusal r.ensures ∙ none in
    done a.pooled a.slots a.w a.task.now _ r.result c.at15.result c.put-in-15.result r.ensures
    (λ n. by.settles_off a.pooled a.slots r.result a.w n busy 15 c.in-15.is k.result c.at15.result k.ensures refl refl
    (filled.met k.result r.result a.w 15 refl refl refl refl refl refl c.at15.result c.at15.ensures))
    c.put-in-15.ensures _ _ c.ahead-in-15.ensures.reply_value c.ahead-in-15.ensures.by_index

pub returns-in-16 : goal.returns-in-16
unfolding meets_anchor
returns-in-16 c none =
    let a = c.args in
    let r = c.call_of-r in
    let k = c.knowing-c in
    let busy = ap place_refusal r.ensures ∙ none in
    done a.pooled a.slots a.w a.task.now _ r.result c.at16.result c.put-in-16.result r.ensures
    (λ n. by.settles_off a.pooled a.slots r.result a.w n busy 16 c.in-16.is k.result c.at16.result k.ensures refl refl
    c.at16.ensures)
    c.put-in-16.ensures _ _ c.ahead-in-16.ensures.reply_value c.ahead-in-16.ensures.by_index

pub returns-in_default : goal.returns-in_default
unfolding meets_anchor
returns-in_default c none =
    let a = c.args in
    let r = c.call_of-r in
    let k = c.knowing-c in
    let busy = ap place_refusal r.ensures ∙ none in
    let lowest = low r.result busy in
    let highest = high r.result busy in
    done a.pooled a.slots a.w a.task.now _ r.result c.at17.result c.put-in_default.result r.ensures
    (λ n. by.settles_off a.pooled a.slots r.result a.w n busy 17 (omega (arith, lowest, highest)) k.result c.at17.result k.ensures refl refl
    (filled.met k.result r.result a.w 17 refl refl refl refl refl refl c.at17.result c.at17.ensures))
    c.put-in_default.ensures _ _ c.ahead-in_default.ensures.reply_value c.ahead-in_default.ensures.by_index
