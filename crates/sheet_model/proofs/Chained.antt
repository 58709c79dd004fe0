-- The test `through` and the relation `Chained` agree where every rule points into the list.
use mathlib.Core.{Bool.{◌&&◌, true, false}, List.{List, [], ◌∷◌}, Logic.{◌⊎◌, inl, inr}, Path.{◌≡◌, refl, subst}}
use Prim.Native.Nat.{ℕ, zero, suc, ◌≤◌}
use native.Mathlib.Omega.{arith}
use lib.Dec.{eqb}
use borrow.Author.Tests.{eqb-true, leb-true, not-false}
use Rattle.model.specs.Sound.{from1}
use Rattle.model.proofs.Tests.Truth.{and-true, and_of, or_cases, or-false, or_first, or_second, decide_eq, not_both}
use Rattle.sheet_model.specs.Sheet.{Chained, ruled, joined, any, before, after, outside, through}

module _ (rules : List ℕ) where
  abbrev T : ℕ → ℕ → ℕ → Type 0
  T k a b = through rules k a b ≡ true

  grows : (k a b : ℕ) → T k a b → T (suc k) a b
  unfolding through
  grows k a b e = or_first _ e

  meets : (k a b : ℕ) → T k a (suc k) → T k (suc k) b → T (suc k) a b
  unfolding through
  meets k a b e f = or_second (through rules k a b) (and_of e f)

  -- What the next round adds.
  cases : {P : Type 0} (k a b : ℕ) → T (suc k) a b → (T k a b → P) → (T k a (suc k) → T k (suc k) b → P) → P
  unfolding through
  cases k a b e f g = or_cases _ _ e f (λ z. let y = and-true _ _ z in g y.0 y.1)

  to_new : (k a : ℕ) → T (suc k) a (suc k) → T k a (suc k)
  to_new k a e = cases k a (suc k) e (λ z. z) (λ y z. y)

  of_new : (k b : ℕ) → T (suc k) (suc k) b → T k (suc k) b
  of_new k b e = cases k (suc k) b e (λ z. z) (λ y z. z)

  -- Chains that meet at one of the places 1 to k join.
  joins : (k a x b : ℕ) → 1 ≤ x → x ≤ k → T k a x → T k x b → T k a b
  joins zero a x b l h e f = absurd (omega arith)
  joins (suc k) a x b l h e f = go (λ a x b. joins k a x b) (decide_eq x (suc k))
    where
      go : ((a x b : ℕ) → 1 ≤ x → x ≤ k → T k a x → T k x b → T k a b) → (x ≡ suc k) ⊎ (x ≡ suc k → ⊥) → T (suc k) a b
      go ih (inl z) = meets k a b (to_new k a (subst (λ y. T (suc k) a y) z e)) (of_new k b (subst (λ y. T (suc k) y b) z f))
      go ih (inr n) =
          let g : x ≤ k = omega arith in
          cases k a x e
          (λ p. cases k x b f (λ q. grows k a b (ih a x b l g p q)) (λ q r. meets k a b (ih a x (suc k) l g p q) r))
          (λ p q. cases k x b f (λ r. meets k a b p (ih (suc k) x b l g q r)) (λ r s. meets k a b p s))

  rules_in : (k a b : ℕ) → T 0 a b → T k a b
  rules_in zero a b e = e
  rules_in (suc k) a b e = grows k a b (rules_in k a b e)

  pub chained_of : (k a b : ℕ) → T k a b → Chained rules a b
  unfolding through
  chained_of zero a b e = ruled a b e
  chained_of (suc k) a b e = cases k a b e (λ z. chained_of k a b z) (λ y z. joined a (suc k) b (chained_of k a (suc k) y) (chained_of k (suc k) b z))

-- A rule's places are in the list.
in_list : (n a b : ℕ) (l : List ℕ) → any (outside n) l ≡ false → any (λ w. eqb (before w) a && eqb (after w) b) l ≡ true
    → (from1 n a ≡ true) × (from1 n b ≡ true)
in_list n a b [] h e = absurd (not_both e refl)
in_list n a b (w ∷ l) h e =
    or_cases (eqb (before w) a && eqb (after w) b) (any (λ w. eqb (before w) a && eqb (after w) b) l) e
    (λ z. let y = and-true (eqb (before w) a) (eqb (after w) b) z in
    let q = and-true (from1 n (before w)) (from1 n (after w)) (not-false _ (or-false (outside n w) (any (outside n) l) h).0) in
    (subst (λ v. from1 n v ≡ true) (eqb-true (before w) a y.0) q.0, subst (λ v. from1 n v ≡ true) (eqb-true (after w) b y.1) q.1))
    (λ z. in_list n a b l (or-false (outside n w) (any (outside n) l) h).1 z)

module _ (rules : List ℕ) (n : ℕ) (h : any (outside n) rules ≡ false) where
  ends : (a b : ℕ) → Chained rules a b → (from1 n a ≡ true) × (from1 n b ≡ true)
  ends _ _ (ruled a b e) = in_list n a b rules h e
  ends _ _ (joined a b c x y) = ((ends a b x).0, (ends b c y).1)

  pub chained-within : (a b : ℕ) → Chained rules a b → ((1 ≤ a) × (a ≤ n)) × ((1 ≤ b) × (b ≤ n))
  chained-within a b c =
      let z = ends a b c in
      let x = and-true _ _ z.0 in
      let y = and-true _ _ z.1 in
      ((leb-true _ _ x.0, leb-true _ _ x.1), (leb-true _ _ y.0, leb-true _ _ y.1))

  pub chained_in : (a b : ℕ) → Chained rules a b → through rules n a b ≡ true
  unfolding through
  chained_in _ _ (ruled a b e) = rules_in rules n a b e
  chained_in _ _ (joined a b c x y) =
      let z = (chained-within a b x).1 in
      joins rules n a b c z.0 z.1 (chained_in a b x) (chained_in b c y)
