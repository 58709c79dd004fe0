-- A place suits the kind of its record and the way of the queue.
use mathlib.Core.{Bool.{Bool, cond, false, true}, Logic.◌≢◌, Path.{◌≡◌, refl}}
use Prim.Native.Nat.{◌≤◌, ℕ}
use native.Mathlib.Omega.{arith}
use lib.Dec.{eqb}
use borrow.Author.Tests.{eqb-false, eqb-true}
use Rattle.model.proofs.{Tests.{ByPlace.by_place, Truth.not_both}, Bridge.View.{kind_of, place_of}}
use Rattle.model.proofs.Machine.{Book.BookCall, Machine.{Kind, Rec, Shared, pop, push}}
use Rattle.model.proofs.Invariant.{Fields.Extra, Owners.Owner, Tasks.Task}

pub record Suits (pooled : Bool) (k : Kind) (n : ℕ) : Type 0 where
  pub named : pooled ≡ false → n ≤ 11
  pub last : n ≡ 11 → k ≡ pop
  pub gives : 15 ≤ n → k ≡ pop
  pub draws : 12 ≤ n → n ≤ 14 → k ≡ push

module _ (s : Shared) (h : ℕ → Owner) (t : ℕ) (r : Rec) (c : BookCall) where
  abbrev Says : ℕ → Type 0
  Says n = Task (place_of n) s h t r c → Extra (place_of n) r → Suits s.pooled r.kind n

  low : (n : ℕ) → n ≤ 10 → Suits s.pooled r.kind n
  low n l = record { named = λ e. omega arith; last = λ e. absurd (omega arith); gives = λ e. absurd (omega arith); draws = λ e g. absurd (omega arith) }

  eleven : r.kind ≡ pop → Suits s.pooled r.kind 11
  eleven k = record { named = λ e. omega arith; last = λ e. k; gives = λ e. absurd (omega arith); draws = λ e g. absurd (omega arith) }

  drawing : (n : ℕ) → 12 ≤ n → n ≤ 14 → s.pooled ≡ true → r.kind ≡ push → Suits s.pooled r.kind n
  drawing n l m p k = record { named = λ e. absurd (not_both p e); last = λ e. absurd (omega arith); gives = λ e. absurd (omega arith); draws = λ e g. k }

  giving : (n : ℕ) → 15 ≤ n → s.pooled ≡ true → r.kind ≡ pop → Suits s.pooled r.kind n
  giving n l p k = record { named = λ e. absurd (not_both p e); last = λ e. absurd (omega arith); gives = λ e. k; draws = λ e g. absurd (omega arith) }

  pub suits : (n : ℕ) → n ≢ 0 → n ≤ 17 → Says n
  suits = by_place Says
      (λ y x. low 1 (omega arith))
      (λ y x. low 2 (omega arith))
      (λ y x. low 3 (omega arith))
      (λ y x. low 4 (omega arith))
      (λ y x. low 5 (omega arith))
      (λ y x. low 6 (omega arith))
      (λ y x. low 7 (omega arith))
      (λ y x. low 8 (omega arith))
      (λ y x. low 9 (omega arith))
      (λ y x. low 10 (omega arith))
      (λ y x. eleven x.kept.0)
      (λ y x. drawing 12 (omega arith) (omega arith) y.0 y.1.kind)
      (λ y x. drawing 13 (omega arith) (omega arith) y.0 y.1.kind)
      (λ y x. drawing 14 (omega arith) (omega arith) y.0 y.1.kind)
      (λ y x. giving 15 (omega arith) y.0 x.kept.0)
      (λ y x. giving 16 (omega arith) y.0 x.kept.0)
      (λ y x. giving 17 (omega arith) y.0 x.kept.0)

-- The kind as a number.
pub kind_pop : (k : ℕ) → k ≤ 1 → kind_of k ≡ pop → k ≡ 1
kind_pop k h e = go (eqb k 0) refl e
  where
    go : (b : Bool) → eqb k 0 ≡ b → cond b push pop ≡ pop → k ≡ 1
    go true g z = absurd (let w : ◌≡◌ {A = ℕ} 0 1 = cc in omega arith)
    go false g z = let w = eqb-false k 0 g in omega arith

pub kind_push : (k : ℕ) → kind_of k ≡ push → k ≡ 0
kind_push k e = go (eqb k 0) refl e
  where
    go : (b : Bool) → eqb k 0 ≡ b → cond b push pop ≡ push → k ≡ 0
    go true g z = eqb-true k 0 g
    go false g z = absurd (let w : ◌≡◌ {A = ℕ} 0 1 = cc in omega arith)
