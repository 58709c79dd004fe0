use Rattle.std.proofs.Common.{◌≡◌, ◌<◌, ◌+◌, ℕ, ◌∙◌, sym, ap, arith, add-one, List, [], get_or, take}
use mathlib.Core.Bool.{not}
use lib.{Dec.eqb, ListN.set}
use mir.Val.{bool_byte}
use Rattle.std.proofs.lemmas.List.{get_or-take, length-take-le}
use Rattle.model.specs.declared.{Call.Call, Record.Record}
use Rattle.layout.{specs.Rows.{record_of, records_of}, proofs.Rows.record_read}
use Rattle.model.specs.Tables.{unused}
use Rattle.capi.specs.Replies.{busy_in, counts_in}
use Rattle.capi.proofs.{Count.{one_at_most, busy-none, busy_le, busy-more}, Listed.{counts-none, counts-more}}
use Rattle.capi.proofs.look.Goals as goal

pub loop-i-init : goal.loop-i-init
loop-i-init c = record { busy = sym (busy-none (records_of c.args.records.now)); retries = counts-none (records_of c.args.records.now) }

-- No more than i are busy, and i is below 16.
pub overflow_add-busy : goal.overflow_add-busy
overflow_add-busy c =
    let l = length-take-le c.args.n c.args.records.now c.requires.0 in
    let most = busy_le c.loop-i.i (records_of c.args.records.now) in
    let one = one_at_most (not (eqb c.call_of.result.place 0)) in
    record { fits = omega (arith, c.loop-i.invariant.busy, c.from-busy.ensures) }

pub loop-i-preserved : goal.loop-i-preserved
unfolding record_of
loop-i-preserved c =
    let l = c.loop-i in
    let rows = c.args.records.now in
    let rs = records_of rows in
    let n = length-take-le c.args.n rows c.requires.0 in
    let in_front : l.i < c.args.n = omega arith in
    let read : record_of (get_or (take c.args.n rows) l.i []) ≡ get_or rs l.i unused =
    ap record_of (get_or-take c.args.n rows l.i [] in_front) ∙ record_read rows l.i in
    record {
      busy = ap (λ (k : ℕ). k + c.from-busy.result) l.invariant.busy
          ∙ ap (λ (k : ℕ). busy_in l.i rs + k) c.from-busy.ensures
          ∙ ap (λ (r : Call). busy_in l.i rs + bool_byte (not (eqb r.place 0))) (c.call_of.ensures ∙ ap (λ (r : Record). r.call) read)
          ∙ busy-more l.i rs
          ∙ ap (λ (k : ℕ). busy_in k rs) (sym (add-one l.i));
      retries = ap (λ (xs : List ℕ). set xs l.i c.retries_of.result) l.invariant.retries
          ∙ ap (set (counts_in l.i rs) l.i) (c.retries_of.ensures ∙ ap (λ (r : Record). r.retries) read)
          ∙ counts-more rs l.i
          ∙ ap (λ (k : ℕ). counts_in k rs) (sym (add-one l.i));
    }

pub returns : goal.returns
returns c =
    let n = length-take-le c.args.n c.args.records.now c.requires.0 in
    let e : c.loop-i.i ≡ c.args.n = omega arith in
    let rs = records_of c.args.records.now in
    (c.loop-i.invariant.busy ∙ ap (λ (k : ℕ). busy_in k rs) e, c.loop-i.invariant.retries ∙ ap (λ (k : ℕ). counts_in k rs) e)
