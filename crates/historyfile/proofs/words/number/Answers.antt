-- A number with one more digit, up to the first that has no room.
use borrow.Author.Tests.{eq-eqb, le-ltb, lt-ltb, ne_eqb}
use Rattle.model.proofs.Tests.Truth.{and-true}
use Rattle.historyfile.proofs.Digits.{digits_more, grows, refused, taken, valued-more}
use Rattle.historyfile.specs.Words.{number, valued}
use Rattle.historyfile.specs.declared.words.{Meaning.TheVariants.Number, Fault.TheVariants.Large}
use Rattle.std.specs.{Char.is_ascii_digit}
use Rattle.std.proofs.lemmas.Result.{err_from_is_err_and}
use mathlib.Core.{Path.{◌≡◌, sym, ap, ◌∙◌}}
use Rattle.std.proofs.Common.{ℕ, List, Ok, Err, ◌+◌, ◌-◌, ◌*◌, ◌^◌, ◌<◌, ◌≤◌, length, get_or, drop, arith, drop_of_length-le}
use Rattle.historyfile.proofs.words.number.Goals as goal

-- Where the digits read come to 2 ^ 64 or more, so do all.
above : (column : ℕ) (w : List ℕ) → 2 ^ 64 ≤ valued 0 w → Err Large ≡ number column w
unfolding number
above column w h = rw (le-ltb (valued 0 w) (2 ^ 64) h)

at_least : (w : List ℕ) (i n : ℕ) → i < length w → valued n (drop i w) ≡ valued 0 w → n * 10 + (get_or w i 0 - 48) ≤ valued 0 w
at_least w i n h e =
    let k = grows (n * 10 + (get_or w i 0 - 48)) (drop (i + 1) w) in
    let z : valued n (drop i w) ≡ valued (n * 10 + (get_or w i 0 - 48)) (drop (i + 1) w) = valued-more w i h n in
    omega arith

pub returns-in_err-tens : goal.returns-in_err-tens
returns-in_err-tens c =
    let p = err_from_is_err_and c.from_residual.result c.from_residual.ensures.1 in
    let f = refused c.checked_mul.result _ _ _ c.checked_mul.ensures c.ok_or.ensures.value (c.in_err-tens.was) in
    let least = at_least c.args.word.now c.loop-b.b-index c.loop-b.n (omega arith) c.loop-b.invariant.1 in
    rw (p.1, p.2, f.1) (above _ _ (omega (arith, f.0)))

pub returns-in_err-n : goal.returns-in_err-n
returns-in_err-n c =
    let p = err_from_is_err_and c.from_residual-in_err-n.result c.from_residual-in_err-n.ensures.1 in
    let t = taken c.checked_mul.result _ _ _ c.checked_mul.ensures c.ok_or.ensures.value (c.in_ok-tens.was) in
    let f = refused c.checked_add.result _ _ _ c.checked_add.ensures c.ok_or-in-loop-b.ensures.value (c.in_err-n.was) in
    let least = at_least c.args.word.now c.loop-b.b-index c.loop-b.n (omega arith) c.loop-b.invariant.1 in
    rw (p.1, p.2, f.1) (above _ _ (omega (arith, f.0, t.1, c.from.ensures)))

pub loop-b-preserved : goal.loop-b-preserved
loop-b-preserved c =
    let i = c.loop-b.b-index in
    let w = c.args.word.now in
    let h : i < length w = omega arith in
    let t = taken c.checked_mul.result _ _ _ c.checked_mul.ensures c.ok_or.ensures.value (c.in_ok-tens.was) in
    let u = taken c.checked_add.result _ _ _ c.checked_add.ensures c.ok_or-in-loop-b.ensures.value (c.in_ok-n.was) in
    let both = and-true (is_ascii_digit (get_or w i 0)) _ (sym (digits_more w i h) ∙ c.loop-b.invariant.0) in
    let e : c.in_ok-n.n ≡ c.loop-b.n * 10 + (get_or w i 0 - 48) = omega (arith, t.1, u.1, c.from.ensures) in
    (both.1, ap (λ (n : ℕ). valued n (drop (i + 1) w)) e ∙ sym (valued-more w i h c.loop-b.n) ∙ c.loop-b.invariant.1, omega (arith, u.0, u.1))

pub returns-then-column-eq7 : goal.returns-then-column-eq7
unfolding number valued
returns-then-column-eq7 c =
    let w = c.args.word.now in
    let n = c.loop-b.n in
    let h : length w ≤ c.loop-b.b-index = omega arith in
    let e : n ≡ valued 0 w = sym (ap (valued n) (drop_of_length-le w {i = c.loop-b.b-index} h)) ∙ c.loop-b.invariant.1 in
    rw (lt-ltb (valued 0 w) (2 ^ 64) (omega (arith, c.loop-b.invariant.2)), eq-eqb _ 7 c.if-column-eq7.true)

pub returns : goal.returns
unfolding number valued
returns c =
    let w = c.args.word.now in
    let n = c.loop-b.n in
    let h : length w ≤ c.loop-b.b-index = omega arith in
    let e : n ≡ valued 0 w = sym (ap (valued n) (drop_of_length-le w {i = c.loop-b.b-index} h)) ∙ c.loop-b.invariant.1 in
    rw (lt-ltb (valued 0 w) (2 ^ 64) (omega (arith, c.loop-b.invariant.2)), ne_eqb _ 7 c.if-column-eq7.false) (ap (λ (x : ℕ). Ok (Number x)) e)
