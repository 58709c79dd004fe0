-- The first word's marks, with those up to the last word's, with this one's.
use mathlib.Core.Path.{◌≡◌, ap, ◌∙◌}
use Prim.Native.Nat.{ℕ, ◌≤◌, ◌+◌, ◌/◌, min}
use native.Mathlib.Omega.{arith}
use borrow.Author.Rules.{rules}
use lib.Count.{ones}
use Rattle.model.specs.Report.{taken_slots}
use Rattle.marks.specs.Masked.{masked_word}
use Rattle.marks.proofs.{Ones.{marks, first_word, last_word, marks_le}, taken.Statement.statement}
use Rattle.marks.proofs.taken.Tie as tie

module _ (m : tie.After-masked) where
  abbrev given : tie.Start
  given = m.before.before.before

  first : ones m.masked.result ≡ marks given.args.marks.now (min 63 given.args.slots)
  first =
      let a = given.args in
      ap ones (m.masked.ensures ∙ ap (λ (x : ℕ). masked_word x 0 a.slots) m.before.get_or.ensures)
      ∙ first_word a.marks.now a.slots (omega (arith, m.before.get_or.ensures))

  few : ones m.masked.result ≤ 63
  few = omega (arith, first, marks_le given.args.marks.now (min 63 given.args.slots))

returns : tie.Need-returns-then-slots-lt64
unfolding taken_slots
returns c =
    let a = (given c.before).args in
    let e : min 63 a.slots ≡ a.slots = omega arith in
    first c.before ∙ ap (marks a.marks.now) e

before_last_requires : tie.Need-before_last-n-requires
unfolding taken_slots
before_last_requires c κs =
    let a = (given c.before).args in
    let e : min 63 a.slots ≡ 63 = omega arith in
    (omega arith, first c.before ∙ ap (marks a.marks.now) e)

module _ (m : tie.After-masked-2) where
  abbrev lent : tie.Start
  lent = given m.before.before.before.before

  total : m.before.before.before_last-n.result + ones m.masked-2.result ≡ marks lent.args.marks.now lent.args.slots
  unfolding taken_slots
  total =
      let a = lent.args in
      let w = m.masked-2.ensures ∙ ap (λ (x : ℕ). masked_word x (a.slots / 64) a.slots) m.before.get_or-2.ensures in
      (λ i. m.before.before.before_last-n.ensures i + ones (w i))
      ∙ last_word a.marks.now a.slots (omega arith) (omega (arith, m.before.get_or-2.ensures))

  room : m.before.before.before_last-n.result + ones m.masked-2.result ≤ lent.args.slots
  room = omega (arith, total, marks_le lent.args.marks.now lent.args.slots)

returns-2 : tie.Need-returns
unfolding taken_slots
returns-2 c = total c

pub taken_spec : {M : Type 1} → statement M
taken_spec =
    tie.close
    (tie.spec
    (λ c κs. search rules)
    (λ c κs. omega arith)
    (λ c. omega (arith, few c))
    returns
    before_last_requires
    (λ c κs. search rules)
    (λ c κs. omega arith)
    (λ c. omega (arith, room c))
    (λ c. omega (arith, room c))
    returns-2)
