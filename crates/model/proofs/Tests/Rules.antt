-- Lists of tests and of rules: all tests hold, no rule applies.
use mathlib.Core.{Bool.{Bool, ◌&&◌, cond, false, not, true}, List.{List, [], ◌∷◌, ◌++◌}, Logic.◌≢◌}
use mathlib.Core.Path.{◌∙◌, ◌≡◌, ap, refl, sym}
use Prim.Native.Nat.{ℕ}
use lib.Dec.{eqb}
use borrow.Author.Tests.{eq-eqb, eqb-false, not-true}
use Rattle.model.specs.{Refusals.{Rule, first}, Lists.{All, every}}
use Rattle.model.proofs.Tests.Truth.{and-true, not_both}

-- One fact after another: the facts of a list, which end with tt.
infixr 4 ◌and◌
pub ◌and◌ : {A B : Type 0} → A → B → A × B
a and b = (a, b)

pub tests : (l : List Bool) → every l ≡ true → All (λ b. b ≡ true) l
tests [] e = tt
tests (b ∷ []) e = (e, tt)
tests (b ∷ c ∷ l) e = let z = and-true b (every (c ∷ l)) e in (z.0, tests (c ∷ l) z.1)

pub passes : (l : List Bool) → All (λ b. b ≡ true) l → every l ≡ true
passes [] z = refl
passes (b ∷ []) z = z.0
passes (b ∷ c ∷ l) z = rw z.0 (passes (c ∷ l) z.1)

-- A refusal has a number, so with 0 for an answer no rule applies.
abbrev pub numbered : List Rule → Bool
numbered [] = true
numbered (r ∷ l) = not (eqb r.number 0) && numbered l

pub cleared : (l : List Rule) → numbered l ≡ true → first l ≡ 0 → All (λ (r : Rule). r.applies ≡ false) l
cleared [] n e = tt
cleared (r ∷ l) n e = let z = and-true (not (eqb r.number 0)) (numbered l) n in go r.applies refl z.0 (λ f. cleared l z.1 f)
  where
    go : (b : Bool) → r.applies ≡ b → not (eqb r.number 0) ≡ true → (first l ≡ 0 → All (λ (r : Rule). r.applies ≡ false) l)
        → (r.applies ≡ false) × All (λ (r : Rule). r.applies ≡ false) l
    go true a z f = absurd (eqb-false _ _ (not-true _ z) (ap (λ (b : Bool). cond b r.number (first l)) (sym a) ∙ e))
    go false a z f = (a, f (ap (λ (b : Bool). cond b r.number (first l)) (sym a) ∙ e))

-- A number is not the answer where no rule with it applies.
pub never : (n : ℕ) (l : List Rule) → n ≢ 0 → All (λ (r : Rule). eqb r.number n && r.applies ≡ false) l → first l ≢ n
never n [] z h = λ e. z (sym e)
never n (r ∷ l) z h = go r.applies h.0 (never n l z h.1)
  where
    go : (b : Bool) → eqb r.number n && b ≡ false → first l ≢ n → cond b r.number (first l) ≢ n
    go true a f = λ e. not_both (ap (λ (b : Bool). b && true) (eq-eqb _ _ e)) a
    go false a f = f

-- Of two lists of rules the first one's number counts, unless none of its rules applies.
pub first_passed : (l m : List Rule) → numbered l ≡ true → first l ≡ 0 → first (l ++ m) ≡ first m
first_passed [] m n e = refl
first_passed (r ∷ l) m n e =
    let z = and-true (not (eqb r.number 0)) (numbered l) n in
    let c = cleared (r ∷ l) n e in
    ap (λ (b : Bool). cond b r.number (first (l ++ m))) c.0
    ∙ first_passed l m z.1 (ap (λ (b : Bool). cond b r.number (first l)) (sym c.0) ∙ e)

pub first-refused : (l m : List Rule) → first l ≢ 0 → first (l ++ m) ≡ first l
first-refused [] m h = absurd (h refl)
first-refused (r ∷ l) m h = go r.applies refl (λ z. first-refused l m z)
  where
    same : (b : Bool) → r.applies ≡ b → (n : ℕ) → cond r.applies r.number n ≡ cond b r.number n
    same b e n = ap (λ (b : Bool). cond b r.number n) e

    go : (b : Bool) → r.applies ≡ b → (first l ≢ 0 → first (l ++ m) ≡ first l) → first ((r ∷ l) ++ m) ≡ first (r ∷ l)
    go true e f = same true e (first (l ++ m)) ∙ sym (same true e (first l))
    go false e f = same false e (first (l ++ m)) ∙ f (λ z. h (same false e (first l) ∙ z)) ∙ sym (same false e (first l))

-- The rules of a list up to one that applies, or all of them: tests made one after the other give the first one's number.
pub data Tried : List Rule → ℕ → Type 0 where
  none : Tried [] 0
  stop : {r : Rule} {l : List Rule} → r.applies ≡ true → Tried (r ∷ l) r.number
  pass : {r : Rule} {l : List Rule} {n : ℕ} → r.applies ≡ false → Tried l n → Tried (r ∷ l) n

pub tried : {l : List Rule} {n : ℕ} → Tried l n → n ≡ first l
tried none = refl
tried (stop e) = rw e
tried (pass e t) = rw e (tried t)
