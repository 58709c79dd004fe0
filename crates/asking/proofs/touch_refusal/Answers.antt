-- What each place is refused by.
use mathlib.Core.{Path.{◌≡◌, ap, ◌∙◌}, Logic.{inl, inr}, Bool.false}
use Prim.Native.Nat.{ℕ, ◌≤◌}
use native.Mathlib.Omega.{arith}
use lib.Dec.{eqb}
use borrow.Author.Tests.{ne_eqb}
use Rattle.model.{specs.{Places.{move, at17}, Refusals.step_sound}, proofs.Tests.Truth.split}
use Rattle.asking.specs.WhyRefused.{why_unchanged, touch_refusal}
use Rattle.asking.proofs.Told.{said, at, change2, change4, change10, none1, none6, none8, none16, told3, told9, told11, told14}
use Rattle.asking.proofs.touch_refusal.Goals as goal

pub returns-in-1 : goal.returns-in-1
returns-in-1 c ms =
    elim c.in-1.is [
      | inl e ↦ none1 _ _ _ _ _ ms _ e
      | inr f ↦ elim f [
        | inl e ↦ none6 _ _ _ _ _ ms _ e
        | inr g ↦ elim g [
          | inl e ↦ none8 _ _ _ _ _ ms _ e
          | inr e ↦ none16 _ _ _ _ _ ms _ e
        ]
      ]
    ]

pub returns-in-2 : goal.returns-in-2
returns-in-2 c ms = c.why_unchanged.ensures ∙ ap (why_unchanged _ _) c.new2.ensures ∙ change2 _ _ _ _ _ ms _ c.in-2.is

pub returns-in-3 : goal.returns-in-3
returns-in-3 c ms = c.why_not.ensures ∙ told3 _ _ _ _ _ ms _ c.in-3.is _ (rw (c.link_at.ensures, c.link3.ensures) at c.at3.ensures)

pub returns-in-4 : goal.returns-in-4
returns-in-4 c ms = c.why_unchanged-in-4.ensures ∙ ap (why_unchanged _ _) c.new4.ensures ∙ change4 _ _ _ _ _ ms _ c.in-4.is

pub returns-in-5 : goal.returns-in-5
returns-in-5 c ms = c.why_not-in-5.ensures ∙ said _ _ _ _ _ ms _ 5 (at _ _ _ _ _ ms _ 5 c.in-5.is) (c.at5.ensures _ ms _ 0)

pub returns-in-7 : goal.returns-in-7
returns-in-7 c ms = c.why_not-in-7.ensures ∙ said _ _ _ _ _ ms _ 7 (at _ _ _ _ _ ms _ 7 c.in-7.is) (c.at7.ensures _ ms _ 0)

pub returns-in-9 : goal.returns-in-9
returns-in-9 c ms =
    c.why_not-in-9.ensures ∙ told9 _ _ _ _ _ ms _ c.in-9.is _ (rw (c.link_at-in-9.ensures, c.link7.ensures) at c.at9.ensures)

pub returns-in-10 : goal.returns-in-10
returns-in-10 c ms =
    c.why_unchanged-in-10.ensures ∙ ap (why_unchanged _ _) c.new10.ensures ∙ change10 _ _ _ _ _ ms _ c.in-10.is

pub returns-in-11 : goal.returns-in-11
returns-in-11 c ms =
    c.why_not-in-11.ensures ∙ told11 _ _ _ _ _ ms _ c.in-11.is _ (rw (c.get_or.ensures, c.own_end.ensures) at c.at11.ensures)

pub returns-in-12 : goal.returns-in-12
returns-in-12 c ms = c.why_not-in-12.ensures ∙ said _ _ _ _ _ ms _ 12 (at _ _ _ _ _ ms _ 12 c.in-12.is) (c.at12.ensures _ _ _ ms _ 0)

pub returns-in-13 : goal.returns-in-13
returns-in-13 c ms = c.why_not-in-13.ensures ∙ said _ _ _ _ _ ms _ 13 (at _ _ _ _ _ ms _ 13 c.in-13.is) (c.at13.ensures _ _ _ ms 0)

pub returns-in-14 : goal.returns-in-14
returns-in-14 c ms = c.why_not-in-14.ensures ∙ told14 _ _ _ _ _ ms _ c.in-14.is _ c.at14.ensures

pub returns-in-15 : goal.returns-in-15
returns-in-15 c ms = c.why_not-in-15.ensures ∙ said _ _ _ _ _ ms _ 15 (at _ _ _ _ _ ms _ 15 c.in-15.is) (c.at15.ensures _ _ _ ms _ 0)

-- Any other is asked what 17 is.
pub returns-in_default : goal.returns-in_default
unfolding touch_refusal step_sound move at17
returns-in_default c ms =
    let a = c.args in
    let no : (k : ℕ) → 1 ≤ k → k ≤ 16 → eqb a.r.place k ≡ false = λ k low high. ne_eqb _ k (λ e. grind (arith, low, high, e)) in
    let n1 = no 1 (omega arith) (omega arith) in
    let n2 = no 2 (omega arith) (omega arith) in
    let n3 = no 3 (omega arith) (omega arith) in
    let n4 = no 4 (omega arith) (omega arith) in
    let n5 = no 5 (omega arith) (omega arith) in
    let n6 = no 6 (omega arith) (omega arith) in
    let n7 = no 7 (omega arith) (omega arith) in
    let n8 = no 8 (omega arith) (omega arith) in
    let n9 = no 9 (omega arith) (omega arith) in
    let n10 = no 10 (omega arith) (omega arith) in
    let n11 = no 11 (omega arith) (omega arith) in
    let n12 = no 12 (omega arith) (omega arith) in
    let n13 = no 13 (omega arith) (omega arith) in
    let n14 = no 14 (omega arith) (omega arith) in
    let n15 = no 15 (omega arith) (omega arith) in
    let n16 = no 16 (omega arith) (omega arith) in
    c.why_not-in_default.ensures
    ∙ said a.c a.r a.lefts.now a.rights.now a.labels.now ms a.next.now 17
    (split (eqb a.c.head a.r.link)
    (λ y. rw (n1, n2, n3, n4, n5, n6, n7, n8, n9, n10, n11, n12, n13, n14, n15, n16, y))
    (λ y. rw (n1, n2, n3, n4, n5, n6, n7, n8, n9, n10, n11, n12, n13, n14, n15, n16, y)))
    (c.at17.ensures _ _ _ ms _ 0)
