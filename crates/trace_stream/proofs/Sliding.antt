-- Bytes copied to the front of their buffer stand there.
use Rattle.std.proofs.Common.{◌≡◌, ℕ, ◌+◌, ◌-◌, ◌<◌, ◌≤◌, Bool, true, false, List, length}
use Rattle.std.proofs.Common.{take, drop, min, refl, sym, ap, ◌∙◌, arith, length-drop, length-take-le, leb-true}
use native.Mathlib.Nat.{zero-add}
use lib.{Dec.leb, Seq.{slice, slice_empty, take-paste}}
use borrow.Author.Tests.{leb-false}
use Rattle.std.proofs.lemmas.List.{drop_all, drop-take}
use Rattle.std.specs.List.{copy_within}

module _ (xs : List ℕ) where
  copied : (m have : ℕ) → m ≤ have → have ≤ length xs → take (have - m) (copy_within xs m have 0) ≡ slice m have xs
  copied m have h k =
      let n = have - m in
      let e : m + n ≡ have = omega arith in
      ap (λ (j : ℕ). take j (copy_within xs m have 0)) (sym (zero-add n))
      ∙ take-paste xs 0 (drop m xs) n (omega arith) (omega (arith, length-drop m xs))
      ∙ sym (drop-take m n xs) ∙ ap (λ (j : ℕ). drop m (take j xs)) e

  pub copied_front : (from have : ℕ) → have ≤ length xs
      → take (have - min from have) (copy_within xs (min from have) have 0) ≡ slice from have xs
  copied_front from have h = go (leb from have) refl
    where
      go : (b : Bool) → leb from have ≡ b → take (have - min from have) (copy_within xs (min from have) have 0) ≡ slice from have xs
      go true e =
          let k : from ≤ have = leb-true _ _ e in
          let m : min from have ≡ from = omega arith in
          rw m (copied from have k h)
      go false e =
          let k : have < from = leb-false _ _ e in
          let m : min from have ≡ have = omega arith in
          rw m (copied have have (omega arith) h ∙ slice_empty have xs
          ∙ sym (drop_all from (take have xs) (omega (arith, length-take-le have xs h))))
