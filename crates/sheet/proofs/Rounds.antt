-- The square that the rounds leave holds the chained rules: one argument for rows of bytes and rows of bits.
use mathlib.Core.{Bool.{Bool, true, false, ◌&&◌, ◌||◌, cond}, List.{List, [], ◌∷◌, ◌++◌}, Logic.{◌⊎◌, inl, inr}}
use mathlib.Core.Path.{◌≡◌, refl, sym, ap, ◌∙◌}
use Prim.Native.Nat.{ℕ, zero, suc, ◌+◌, ◌-◌, ◌≤◌, ◌<◌}
use native.Mathlib.{Numerals.add-one, Omega.arith}
use lib.{Dec.{eqb, ltb}, ListN.{length, get_or, set, length-set, get_or-append}}
use lib.Seq.{get_or-set_same, get_or-set_other, set-append_left}
use borrow.Author.Tests.{eq-eqb, ne_eqb, ltb-true, ltb-false}
use Rattle.model.proofs.Tests.Truth.{decide_eq, or-false}
use Rattle.sheet_model.specs.{Sheet.{before, after, any, outside, ruled_before, through}, Words.{list_of, linked}}
use Rattle.sheet_model.proofs.ListOf.{length_list_of, get_d_list_of, as_list_of, ext_list_of}
use Rattle.sheet.specs.Squares.{Row, sweep, join_via, rounds, rule_marked, rules_marked}
use Rattle.sheet.proofs.{Sweep.{length_sweep, sweep-at, sweep-beyond, sweep_append}, Turns.inside}

or-none : (a : Bool) → a || false ≡ a
or-none true = refl
or-none false = refl

or_assoc : (a b c : Bool) → (a || b) || c ≡ a || (b || c)
or_assoc true b c = refl
or_assoc false b c = refl

-- No chain begins beyond the list.
not_ruled : (n : ℕ) (l : List ℕ) (a b : ℕ) → any (outside n) l ≡ false → n ≤ a → ruled_before l (suc a) b ≡ false
not_ruled n [] a b h g = refl
not_ruled n (w ∷ l) a b h g =
    let e = inside n 0 (w ∷ l) h (omega arith) in
    let z : eqb (before w) (suc a) ≡ false = ne_eqb (before w) (suc a) (λ y. let f = e.first.1 in omega arith) in
    ap (λ t. (t && eqb (after w) b) || ruled_before l (suc a) b) z ∙ not_ruled n l a b (or-false (outside n w) (any (outside n) l) h).1 g

not_linked : (n : ℕ) (rules : List ℕ) → any (outside n) rules ≡ false → (k a b : ℕ) → n ≤ a → linked rules k a b ≡ false
unfolding through
not_linked n rules h zero a b g = not_ruled n rules a (suc b) h g
not_linked n rules h (suc k) a b g =
    (λ i. not_linked n rules h k a b g i || (through rules k (suc a) (suc k) && through rules k (suc k) (suc b)))
    ∙ ap (λ t. t && through rules k (suc k) (suc b)) (not_linked n rules h k a k g)

-- A kind of row shows 32 marks.
pub record Shows {A : Type 0} (r : Row A) (R : (ℕ → Bool) → A) : Type 0 where
  pub same : (f g : ℕ → Bool) → ((b : ℕ) → b < 32 → f b ≡ g b) → R f ≡ R g
  pub has : (f : ℕ → Bool) (k : ℕ) → k < 32 → r.has (R f) k ≡ f k
  pub put : (f : ℕ → Bool) (j : ℕ) → j < 32 → r.put (R f) j ≡ R (λ b. f b || eqb b j)
  pub join : (f g : ℕ → Bool) → r.join (R g) (R f) ≡ R (λ b. f b || g b)

-- 32 rows, and what lies beyond them.
module _ {A : Type 0} (r : Row A) (R : (ℕ → Bool) → A) (law : Shows r R) (beyond : List A) where
  abbrev pub rows_of : (ℕ → ℕ → Bool) → List A
  rows_of f = list_of (λ a. R (f a)) 32

  abbrev pub marks : (ℕ → ℕ → Bool) → List A
  marks f = rows_of f ++ beyond

  same-marks : (f g : ℕ → ℕ → Bool) → ((a b : ℕ) → f a b ≡ g a b) → marks f ≡ marks g
  same-marks f g h =
      ap (λ (l : List A). l ++ beyond) (ext_list_of (λ a. R (f a)) (λ a. R (g a)) 32 (λ a _. law.same (f a) (g a) (λ b _. h a b)))

  pub row_at : (f : ℕ → ℕ → Bool) (k : ℕ) → k < 32 → get_or (marks f) k r.bare ≡ R (f k)
  row_at f k h =
      get_or-append (rows_of f) beyond r.bare k (omega (arith, length_list_of (λ a. R (f a)) 32)) ∙ get_d_list_of (λ a. R (f a)) 32 k r.bare h

  -- One round.
  joined-row : (f : ℕ → ℕ → Bool) (k a : ℕ) → k < 32 → join_via r k (R (f k)) a (R (f a)) ≡ R (λ b. f a b || (f a k && f k b))
  joined-row f k a h = ap (λ t. cond t (r.join (R (f k)) (R (f a))) (R (f a))) (law.has (f a) k h) ∙ go (f a k)
    where
      go : (t : Bool) → cond t (r.join (R (f k)) (R (f a))) (R (f a)) ≡ R (λ b. f a b || (t && f k b))
      go true = law.join (f a) (f k)
      go false = law.same (f a) (λ b. f a b || false) (λ b _. sym (or-none (f a b)))

  -- Rows beyond the size have no marks.
  abbrev Bare : ℕ → (ℕ → ℕ → Bool) → Type 0
  Bare size f = (a b : ℕ) → size ≤ a → f a b ≡ false

  round : (size : ℕ) (f : ℕ → ℕ → Bool) (k : ℕ) → size ≤ 32 → Bare size f → k < 32
      → sweep r.bare (join_via r k (get_or (marks f) k r.bare)) 0 size (marks f) ≡ marks (λ a b. f a b || (f a k && f k b))
  round size f k few none h =
      ap (λ (v : A). sweep r.bare (join_via r k v) 0 size (marks f)) (row_at f k h)
      ∙ sweep_append r.bare (join_via r k (R (f k))) 0 size (rows_of f) beyond (omega (arith, len))
      ∙ ap (λ (l : List A). l ++ beyond)
      (as_list_of r.bare (sweep r.bare (join_via r k (R (f k))) 0 size (rows_of f)) (λ a. R (λ b. f a b || (f a k && f k b))) 32
      (length_sweep r.bare (join_via r k (R (f k))) 0 size (rows_of f) ∙ len) (λ a g. go a g (ltb a size) refl))
    where
      len : length (rows_of f) ≡ 32
      len = length_list_of (λ a. R (f a)) 32

      go : (a : ℕ) → a < 32 → (t : Bool) → ltb a size ≡ t
          → get_or (sweep r.bare (join_via r k (R (f k))) 0 size (rows_of f)) a r.bare ≡ R (λ b. f a b || (f a k && f k b))
      go a g true e =
          sweep-at r.bare (join_via r k (R (f k))) 0 size (rows_of f) a (omega arith) (let z = ltb-true a size e in omega arith) (omega (arith, len))
          ∙ ap (join_via r k (R (f k)) a) (get_d_list_of (λ a. R (f a)) 32 a r.bare g)
          ∙ joined-row f k a h
      go a g false e =
          sweep-beyond r.bare (join_via r k (R (f k))) 0 size (rows_of f) a (let z = ltb-false a size e in omega arith)
          ∙ get_d_list_of (λ a. R (f a)) 32 a r.bare g
          ∙ law.same (f a) (λ b. f a b || (f a k && f k b))
          (λ b _. sym (ap (λ t. f a b || (t && f k b)) (none a k (ltb-false a size e)) ∙ or-none (f a b)))

  -- All rounds.
  all-rounds : (size : ℕ) (rules : List ℕ) (n k : ℕ) → size ≤ 32 → ((j : ℕ) → Bare size (linked rules j)) → k + n ≤ 32
      → rounds r size k n (marks (linked rules k)) ≡ marks (linked rules (k + n))
  unfolding rounds through
  all-rounds size rules zero k few none h = let e : k ≡ k + 0 = omega arith in ap (λ (m : ℕ). marks (linked rules m)) e
  all-rounds size rules (suc n) k few none h =
      let e : suc k + n ≡ k + suc n = omega arith in
      ap (rounds r size (k + 1) n) (round size (linked rules k) k few (none k) (omega arith))
      ∙ ap (λ (m : ℕ). rounds r size m n (marks (linked rules (suc k)))) (add-one k)
      ∙ all-rounds size rules n (suc k) few none (omega arith)
      ∙ ap (λ (m : ℕ). marks (linked rules m)) e

  -- The rules themselves.
  module _ (f : ℕ → ℕ → Bool) (w : ℕ) (first : (1 ≤ before w) × (before w ≤ 32)) (second : (1 ≤ after w) × (after w ≤ 32)) where
    abbrev i : ℕ
    i = before w - 1

    abbrev j : ℕ
    j = after w - 1

    abbrev g : ℕ → ℕ → Bool
    g a b = f a b || (eqb (before w) (suc a) && eqb (after w) (suc b))

    in_row : r.put (R (f i)) j ≡ R (g i)
    in_row =
        law.put (f i) j (omega arith)
        ∙ law.same (λ b. f i b || eqb b j) (g i) (λ b _. ap (λ t. f i b || t) (go b (decide_eq b j) ∙ ap (λ t. t && eqb (after w) (suc b)) (sym here)))
      where
        here : eqb (before w) (suc i) ≡ true
        here = eq-eqb (before w) (suc i) (omega arith)

        go : (b : ℕ) → (b ≡ j) ⊎ (b ≡ j → ⊥) → eqb b j ≡ eqb (after w) (suc b)
        go b (inl e) = eq-eqb b j e ∙ sym (eq-eqb (after w) (suc b) (omega arith))
        go b (inr e) = ne_eqb b j e ∙ sym (ne_eqb (after w) (suc b) (λ z. e (omega arith)))

    v : A
    v = r.put (get_or (marks f) i r.bare) j

    is_v : v ≡ R (g i)
    unfolding v
    is_v = ap (λ (x : A). r.put x j) (row_at f i (omega arith)) ∙ in_row

    put-rows : set (rows_of f) i v ≡ rows_of g
    put-rows =
        as_list_of r.bare (set (rows_of f) i v) (λ a. R (g a)) 32 (length-set (rows_of f) i v ∙ length_list_of (λ a. R (f a)) 32)
        (λ a h. go a h (decide_eq a i))
      where
        go : (a : ℕ) → a < 32 → (a ≡ i) ⊎ (a ≡ i → ⊥) → get_or (set (rows_of f) i v) a r.bare ≡ R (g a)
        go a h (inl e) =
            ap (λ (x : ℕ). get_or (set (rows_of f) i v) x r.bare) e
            ∙ get_or-set_same (rows_of f) i v r.bare (omega (arith, length_list_of (λ a. R (f a)) 32))
            ∙ is_v
            ∙ ap (λ (x : ℕ). R (g x)) (sym e)
        go a h (inr e) =
            get_or-set_other (rows_of f) i a v r.bare e
            ∙ get_d_list_of (λ a. R (f a)) 32 a r.bare h
            ∙ law.same (f a) (g a)
            (λ b _. sym (ap (λ t. f a b || (t && eqb (after w) (suc b))) (ne_eqb (before w) (suc a) (λ z. e (omega arith))) ∙ or-none (f a b)))

    rule-marked : rule_marked r w (marks f) ≡ marks g
    unfolding v
    rule-marked =
        set-append_left (rows_of f) beyond i v (omega (arith, length_list_of (λ a. R (f a)) 32)) ∙ ap (λ (l : List A). l ++ beyond) put-rows

  all-marked : (n : ℕ) (l : List ℕ) (f : ℕ → ℕ → Bool) → n ≤ 32 → any (outside n) l ≡ false
      → rules_marked r l (marks f) ≡ marks (λ a b. f a b || ruled_before l (suc a) (suc b))
  unfolding rules_marked
  all-marked n [] f k h = same-marks f (λ a b. f a b || false) (λ a b. sym (or-none (f a b)))
  all-marked n (w ∷ l) f k h =
      let e = inside n 0 (w ∷ l) h (omega arith) in
      let p : (1 ≤ before w) × (before w ≤ 32) = (e.first.0, omega arith) in
      let q : (1 ≤ after w) × (after w ≤ 32) = (e.second.0, omega arith) in
      ap (rules_marked r l) (rule-marked f w p q)
      ∙ all-marked n l (g f w p q) k (or-false (outside n w) (any (outside n) l) h).1
      ∙ same-marks (λ a b. (f a b || (eqb (before w) (suc a) && eqb (after w) (suc b))) || ruled_before l (suc a) (suc b))
      (λ a b. f a b || ruled_before (w ∷ l) (suc a) (suc b))
      (λ a b. or_assoc (f a b) (eqb (before w) (suc a) && eqb (after w) (suc b)) (ruled_before l (suc a) (suc b)))

  pub marks-chained : (rules : List ℕ) (n : ℕ) → n ≤ 32 → any (outside n) rules ≡ false
      → rounds r n 0 n (rules_marked r rules (marks (λ a b. false))) ≡ marks (linked rules n)
  unfolding through
  marks-chained rules n k h =
      let e : 0 + n ≡ n = omega arith in
      ap (rounds r n 0 n) (all-marked n rules (λ a b. false) k h)
      ∙ all-rounds n rules n 0 k (λ j a b g. not_linked n rules h j a b g) (omega arith)
      ∙ ap (λ (m : ℕ). marks (linked rules m)) e
