-- The answer: refused before the walk, by the walk, or found.
use mathlib.Core.{Path.{◌≡◌, refl, sym, ◌∙◌}, Bool.{Bool, true, false, not}, List.{List, [], ◌∷◌}}
use Prim.Native.Nat.{ℕ, ◌≤◌}
use native.Mathlib.Omega.{arith}
use lib.{Dec.ltb, ListN.length}
use borrow.Author.Tests.{ltb-false, ne_eqb}
use Rattle.model.specs.{Tables.Tables, Sound.{control_sound, rows_fit}, Walk.{Walk, contents, is_broken, entries, broken}}
use Rattle.model.specs.Refusals.{rule, first}
use Rattle.find_model.specs.Find.{find, find_refusal, refused}
use Rattle.find.specs.Looked.{found_in, refusal_before}

none-applies : (a b c : Bool) → refusal_before a b c ≡ 0 → (a ≡ true) × (b ≡ false) × (c ≡ true)
unfolding refusal_before
none-applies true false true e = (refl, refl, refl)
none-applies true false false e = let z : ⊥ = omega arith in absurd z
none-applies true true c e = let z : ⊥ = omega arith in absurd z
none-applies false b c e = let z : ⊥ = omega arith in absurd z

one_applies : (a b c d : Bool) → (refusal_before a b c ≡ 0 → ⊥)
    → first (rule 34 (not a) ∷ rule 45 b ∷ rule 12 (not c) ∷ rule 34 d ∷ []) ≡ refusal_before a b c
unfolding refusal_before
one_applies true false true d h = absurd (h refl)
one_applies true false false d h = refl
one_applies true true c d h = refl
one_applies false b c d h = refl

module _ (q : Tables) (wanted : List ℕ) where
  abbrev pub why : ℕ
  why = refusal_before (control_sound q.control) (ltb 32 (length wanted)) (rows_fit false q.control.slots q)

  pub turned_away : (n : ℕ) → n ≡ why → (n ≡ 0 → ⊥) → refused n ≡ find q wanted
  unfolding find find_refusal
  turned_away n e h =
      let fits = rows_fit false q.control.slots q in
      let r = one_applies (control_sound q.control) (ltb 32 (length wanted)) fits (is_broken (contents q)) (λ z. h (e ∙ z)) ∙ sym e in
      rw (r, ne_eqb n 0 h)

  module _ (n : ℕ) (e : n ≡ why) (z : n ≡ 0) where
    passed : (control_sound q.control ≡ true) × (ltb 32 (length wanted) ≡ false) × (rows_fit false q.control.slots q ≡ true)
    passed = none-applies _ _ _ (sym e ∙ z)

    pub few : length wanted ≤ 32
    few = ltb-false 32 (length wanted) passed.1

    pub finds : (v : Walk) → contents q ≡ v → found_in v wanted ≡ find q wanted
    unfolding find find_refusal
    finds (entries l) e = rw (passed.0, passed.1, passed.2, e)
    finds broken e = rw (passed.0, passed.1, passed.2, e)
