use Rattle.std.proofs.Common.{◌≡◌, ◌<◌, ◌≤◌, ℕ, ◌∙◌, ap, arith, bit_or, length, get_or, min, sym}
use mathlib.Core.List.{map}
use lib.Dec.{eqb}
use Rattle.std.proofs.lemmas.List.{get_or-map, get_or-take, length-map, length-take, length-take-le}
use Rattle.std.proofs.Math.Nat.{min-le_left}
use Rattle.join_model.specs.Join.{blank}
use Rattle.join.proofs.Tested.{blank-more, blank-min}
use Rattle.join.proofs.rest.blank.Goals as goal

pub loop-x-preserved : goal.loop-x-preserved
loop-x-preserved g c number h =
    let l = c.loop-x in
    let t = c.args.t.now in
    let i : ℕ = l.x-index in
    let x = c.x-item.result in
    let m = length-take c.min-k.result t in
    let in_front : i < c.min-k.result = omega arith in
    let in_t : i < length t = omega arith in
    let e : number x ≡ get_or (map number t) i 0 =
    ap number (c.x-item.is ∙ get_or-take c.min-k.result t i x in_front) ∙ sym (get_or-map number t i x 0 in_t) in
    ap (λ (n : ℕ). eqb n 0) (h.either l.any x c.bitor-any.result c.bitor-any.ensures ∙ ap (bit_or (number l.any)) e)
    ∙ blank-more (map number t) i (number l.any) (l.invariant number h)

pub returns : goal.returns
returns g c number h =
    let t = c.args.t.now in
    let k = c.min-k.result in
    let in_t : k ≤ length t = omega (arith, min-le_left (length t) c.args.n) in
    let e : c.loop-x.x-index ≡ k = omega (arith, length-take-le k t in_t) in
    ap (λ (n : ℕ). eqb n 0) (h.whole c.loop-x.any c.into.result c.into.ensures)
    ∙ c.loop-x.invariant number h
    ∙ ap (λ (i : ℕ). blank i (map number t)) (e ∙ c.min-k.ensures ∙ ap (λ (m : ℕ). min m c.args.n) (sym (length-map t number)))
    ∙ blank-min (map number t) c.args.n
