-- Truth values: branches with their test as an equation, and what holds where a test does.
use Rattle.std.specs.Prelude.{Result, Ok, Err}
use Rattle.model.specs.{declared.Refusal.Refusal, Outcomes.Refused}
use mathlib.Core.{Bool.{Bool, beq, ◌&&◌, ◌||◌, cond, false, true}, Logic.{◌≢◌, ◌⊎◌, inl, inr}}
use mathlib.Core.Path.{◌≡◌, refl, sym, ap}
use Prim.Native.Nat.{ℕ}
use native.Mathlib.Omega.{arith}
use lib.Dec.{eqb}
use borrow.Author.Tests.{eqb-false, eqb-true}

-- What holds of both branches of a test; below, each branch has the test's value as an equation.
pub either : {A : Type 0} (P : A → Type 0) (b : Bool) {x y : A} → P x → P y → P (cond b x y)
either P true h k = h
either P false h k = k

pub by_test : {A : Type 0} (P : A → Type 0) (b : Bool) {x y : A} → (b ≡ true → P x) → (b ≡ false → P y) → P (cond b x y)
by_test P true f g = f refl
by_test P false f g = g refl

pub split : {P : Type 0} (b : Bool) → (b ≡ true → P) → (b ≡ false → P) → P
split true f g = f refl
split false f g = g refl

pub decide_eq : (x y : ℕ) → (x ≡ y) ⊎ (x ≢ y)
decide_eq x y = go (eqb x y) refl
  where
    go : (b : Bool) → eqb x y ≡ b → (x ≡ y) ⊎ (x ≢ y)
    go true e = inl (eqb-true x y e)
    go false e = inr (eqb-false x y e)

pub not_both : {b : Bool} → b ≡ true → b ≡ false → ⊥
not_both e f = let z : true ≡ false = cc in let w : ◌≡◌ {A = ℕ} 0 1 = cc in omega arith

-- Two tests with the same truth are equal.
pub agree : (a b : Bool) → (a ≡ true → b ≡ true) → (b ≡ true → a ≡ true) → a ≡ b
agree true b f g = sym (f refl)
agree false true f g = g refl
agree false false f g = refl

pub and-true : (a b : Bool) → a && b ≡ true → (a ≡ true) × (b ≡ true)
and-true true b e = (refl, e)
and-true false b e = (e, cc)

pub and_of : {a b : Bool} → a ≡ true → b ≡ true → a && b ≡ true
and_of e f = rw (e, f)

pub or_right : (a b : Bool) → a || b ≡ true → a ≡ false → b ≡ true
or_right true b e f = absurd (not_both refl f)
or_right false b e f = e

pub or_left : (a b : Bool) → a || b ≡ true → b ≡ false → a ≡ true
or_left true b e f = refl
or_left false b e f = absurd (not_both e f)

pub or-false : (a b : Bool) → a || b ≡ false → (a ≡ false) × (b ≡ false)
or-false true b e = absurd (not_both refl e)
or-false false b e = (refl, e)

pub or_cases : {P : Type 0} (a b : Bool) → a || b ≡ true → (a ≡ true → P) → (b ≡ true → P) → P
or_cases true b e f g = f refl
or_cases false b e f g = g e

pub or_first : {a : Bool} (b : Bool) → a ≡ true → a || b ≡ true
or_first b e = rw e

pub or_second : (a : Bool) {b : Bool} → b ≡ true → a || b ≡ true
or_second true e = refl
or_second false e = e

pub beq_eq : (a b : Bool) → beq a b ≡ true → a ≡ b
beq_eq true true e = refl
beq_eq true false e = sym e
beq_eq false true e = e
beq_eq false false e = refl

pub beq_of : (a b : Bool) → a ≡ b → beq a b ≡ true
beq_of true b e = rw (sym e)
beq_of false b e = rw (sym e)

-- Refusals that are the same have the same number.
abbrev numbered : {A : Type 0} → Result A Refusal → ℕ → ℕ
numbered (Err refusal) n = refusal.number
numbered (Ok a) n = n

pub same_refusal : {A : Type 0} {n m : ℕ} → ◌≡◌ {A = Result A Refusal} (Refused n) (Refused m) → n ≡ m
same_refusal {A} {n} e = ap (λ (o : Result A Refusal). numbered o n) e
