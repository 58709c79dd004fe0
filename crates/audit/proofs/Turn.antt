-- One turn of the replay, at index i of the order: call c with the calls behind it, from queue q. No position before `first` stands too early.
use mathlib.Core.{Bool.{Bool, true, false, ◌&&◌, cond}, List.{List, ◌∷◌}, Path.{◌≡◌, refl}}
use Prim.Native.Nat.{ℕ, suc, ◌+◌, ◌<◌}
use native.Mathlib.{Numerals.add-one, Omega.arith}
use Rattle.model.proofs.Tests.Truth.{split}
use Rattle.audit_model.specs.{declared.{Finished.Finished, Verdict.TheVariants.Failed}, Laws.answers}
use Rattle.audit_model.specs.Audit.{all_of, gives, not_earlier, replay}
use Rattle.audit.specs.FirstMisplaced.{first_misplaced}

module _ (c : Finished) (rest : List Finished) (i first : ℕ) (is : i + first_misplaced (c ∷ rest) ≡ first) where
  not_misplaced : i < first → (all_of (not_earlier c) rest ≡ true) × (i + 1 + first_misplaced rest ≡ first)
  unfolding first_misplaced
  not_misplaced h = split (all_of (not_earlier c) rest)
      (λ t. (t, let z = rw t at is in omega arith))
      (λ t. absurd (let z = rw t at is in omega arith))

  pub next_misplaced : i < first → i + 1 + first_misplaced rest ≡ first
  next_misplaced h = (not_misplaced h).1

  module _ (q : List ℕ) where
    pub fails : i < first → answers c q ≡ false → Failed (i + 1) ≡ replay (i + 1) (c ∷ rest) q
    unfolding replay
    fails h e = rw e

    pub goes_on : i < first → answers c q ≡ true → (r : List ℕ) → r ≡ (gives c q).queue → replay (i + 1 + 1) rest r ≡ replay (i + 1) (c ∷ rest) q
    unfolding replay
    goes_on h e r k = rw (e, (not_misplaced h).0, k, add-one (i + 1))

    pub stops : (i < first → ⊥) → Failed (i + 1) ≡ replay (i + 1) (c ∷ rest) q
    unfolding replay first_misplaced
    stops h = split (all_of (not_earlier c) rest)
        (λ t. absurd (let z = rw t at is in h (omega arith)))
        (λ t. rw t (go (answers c q)))
      where
        go : (b : Bool) → Failed (i + 1) ≡ cond (b && false) (replay (suc (i + 1)) rest (gives c q).queue) (Failed (i + 1))
        go true = refl
        go false = refl
