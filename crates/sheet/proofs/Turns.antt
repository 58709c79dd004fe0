-- One turn of each loop: what is left to do before it and after it give the same.
use mathlib.Core.{Bool.{Bool, true, false, not, ◌&&◌, ◌||◌, cond}, List.{List, [], ◌∷◌}, Path.{◌≡◌, refl, sym, ap, ◌∙◌}}
use Prim.Native.Nat.{ℕ, zero, suc, ◌+◌, ◌-◌, ◌≤◌, ◌<◌}
use native.Mathlib.{Numerals.add-one, Omega.arith}
use lib.{Dec.{eqb, leb, ltb}, ListN.{length, get_or, set, drop, drop_of_length-le, length-drop}}
use lib.Seq.{drop-cons, set-get_or}
use Rattle.std.proofs.lemmas.List.{get_or_default}
use borrow.Author.Tests.{eq-eqb, ne_eqb, leb-true, not-false, lt-ltb, le-ltb, ltb-true, ltb-false}
use Rattle.model.{specs.Sound.from1, proofs.Tests.Truth.{and-true, or-false, split}}
use Rattle.sheet_model.specs.{declared.SheetReply.SheetReply, Verdict.{broken_by, kept}}
use Rattle.sheet_model.specs.Sheet.{before, after, any, twice, outside}
use Rattle.sheet.specs.{Extents.{place_of, next_at}, Search.{in_row, in_rows}}
use Rattle.sheet.specs.Squares.{Row, crossed, sweep, rule_marked, rules_marked, rounds, join_via}

left : (n i : ℕ) → i < n → n - i ≡ suc (n - (i + 1))
left n i h = omega arith

none_left : (n i : ℕ) → n ≤ i → n - i ≡ 0
none_left n i h = omega arith

suc_ltb : (a b : ℕ) → ltb a b ≡ ltb (suc a) (suc b)
suc_ltb a b =
    split (ltb a b)
    (λ e. e ∙ sym (lt-ltb (suc a) (suc b) (let h = ltb-true a b e in omega arith)))
    (λ e. e ∙ sym (le-ltb (suc a) (suc b) (let h = ltb-false a b e in omega arith)))

-- A label is in a list if its place is.
pub any_place : (x : ℕ) (l : List ℕ) → any (eqb x) l ≡ ltb (place_of x l) (length l)
unfolding place_of
any_place x [] = refl
any_place x (y ∷ l) =
    split (eqb x y) (λ e. rw e (sym (lt-ltb 0 (suc (length l)) (omega arith)))) (λ e. rw e (any_place x l ∙ suc_ltb (place_of x l) (length l)))

-- The rest of a list from i on: its element at i, and the rest after that.
module _ (l : List ℕ) (i : ℕ) where
  rest : i < length l → drop i l ≡ get_or l i 0 ∷ drop (i + 1) l
  rest h = rw (add-one i) (drop-cons l i 0 h)

  no-rest : length l ≤ i → drop i l ≡ []
  no-rest h = drop_of_length-le l h

  pub place_here : (x : ℕ) → i < length l → get_or l i 0 ≡ x → i ≡ i + place_of x (drop i l)
  unfolding place_of
  place_here x h e = rw (rest h, eq-eqb x (get_or l i 0) (sym e)) (omega arith)

  pub place-on : (x : ℕ) → i < length l → (get_or l i 0 ≡ x → ⊥) → (i + 1) + place_of x (drop (i + 1) l) ≡ i + place_of x (drop i l)
  unfolding place_of
  place-on x h e = rw (rest h, ne_eqb x (get_or l i 0) (λ z. e (sym z))) (omega arith)

  pub place_end : (x : ℕ) → length l ≤ i → i ≡ i + place_of x (drop i l)
  unfolding place_of
  place_end x h = rw (no-rest h) (omega arith)

  pub twice-here : (r : ℕ) → i < length l → twice (drop i l) ≡ twice l → r ≡ (i + 1) + place_of (get_or l i 0)
      (drop (i + 1) l) → r < length l → true ≡ twice l
  twice-here r h g e f =
      let t =
      any_place (get_or l i 0) (drop (i + 1) l)
      ∙ lt-ltb (place_of (get_or l i 0) (drop (i + 1) l)) (length (drop (i + 1) l)) (omega (arith, length-drop (i + 1) l)) in
      sym (sym g ∙ ap twice (rest h) ∙ ap (λ b. b || twice (drop (i + 1) l)) t)

  pub twice-on : (r : ℕ) → i < length l → twice (drop i l) ≡ twice l → r ≡ (i + 1) + place_of (get_or l i 0) (drop (i + 1) l) → length l ≤ r
      → twice (drop (i + 1) l) ≡ twice l
  twice-on r h g e f =
      let t =
      any_place (get_or l i 0) (drop (i + 1) l)
      ∙ le-ltb (place_of (get_or l i 0) (drop (i + 1) l)) (length (drop (i + 1) l)) (omega (arith, length-drop (i + 1) l)) in
      sym (sym g ∙ ap twice (rest h) ∙ ap (λ b. b || twice (drop (i + 1) l)) t)

  pub twice_end : length l ≤ i → twice (drop i l) ≡ twice l → false ≡ twice l
  twice_end h g = ap twice (sym (no-rest h)) ∙ g

  pub rules-on : {A : Type 0} (r : Row A) (m : List A) → i < length l
      → rules_marked r (drop i l) m ≡ rules_marked r (drop (i + 1) l) (rule_marked r (get_or l i 0) m)
  unfolding rules_marked
  rules-on r m h = ap (λ (t : List ℕ). rules_marked r t m) (rest h)

  pub rules_end : {A : Type 0} (r : Row A) (m : List A) → length l ≤ i → rules_marked r (drop i l) m ≡ m
  unfolding rules_marked
  rules_end r m h = ap (λ (t : List ℕ). rules_marked r t m) (no-rest h)

-- A rule of a sheet that has the form points into the list.
pub record Inside (n w : ℕ) : Type 0 where
  pub first : (1 ≤ before w) × (before w ≤ n)
  pub second : (1 ≤ after w) × (after w ≤ n)

pub inside : (n i : ℕ) (l : List ℕ) → any (outside n) l ≡ false → i < length l → Inside n (get_or l i 0)
inside n i [] e h = absurd (omega arith)
inside n zero (w ∷ l) e h = go (or-false _ _ e).0
  where
    go : not (from1 n (before w) && from1 n (after w)) ≡ false → Inside n w
    go z =
        let b = and-true _ _ (not-false _ z) in
        let f = and-true _ _ b.0 in
        let g = and-true _ _ b.1 in
        record { first = (leb-true _ _ f.0, leb-true _ _ f.1); second = (leb-true _ _ g.0, leb-true _ _ g.1) }
inside n (suc i) (w ∷ l) e h = inside n i l (or-false (outside n w) _ e).1 (omega arith)

-- Loops that count to n.
module _ (n i : ℕ) where
  pub sweep-on : {A : Type 0} (z : A) (h : ℕ → A → A) (l : List A) → i < n → sweep z h i (n - i) l ≡ sweep z h (i + 1) (n - (i + 1))
      (set l i (h i (get_or l i z)))
  unfolding sweep
  sweep-on z h l g = ap (λ (k : ℕ). sweep z h i k l) (left n i g)

  pub sweep_end : {A : Type 0} (z : A) (h : ℕ → A → A) (l : List A) → n ≤ i → sweep z h i (n - i) l ≡ l
  unfolding sweep
  sweep_end z h l g = ap (λ (k : ℕ). sweep z h i k l) (none_left n i g)

  pub rounds-on : {A : Type 0} (r : Row A) (size : ℕ) (m : List A) → i < n
      → rounds r size i (n - i) m ≡ rounds r size (i + 1) (n - (i + 1)) (sweep r.bare (join_via r i (get_or m i r.bare)) 0 size m)
  unfolding rounds
  rounds-on r size m g = ap (λ (k : ℕ). rounds r size i k m) (left n i g)

  pub rounds_end : {A : Type 0} (r : Row A) (size : ℕ) (m : List A) → n ≤ i → rounds r size i (n - i) m ≡ m
  unfolding rounds
  rounds_end r size m g = ap (λ (k : ℕ). rounds r size i k m) (none_left n i g)

  pub row_here : (p : ℕ → ℕ → Bool) (a : ℕ) (o : SheetReply) → i < n → p a (i + 1) ≡ true → broken_by a (i + 1) ≡ in_row p a (i + 1) (n - i) o
  unfolding in_row
  row_here p a o g e =
      sym (ap (λ (k : ℕ). in_row p a (i + 1) k o) (left n i g) ∙ ap (λ b. cond b (broken_by a (i + 1)) (in_row p a ((i + 1) + 1) (n - (i + 1)) o)) e)

  pub row_on : (p : ℕ → ℕ → Bool) (a : ℕ) (o : SheetReply) → i < n → p a (i + 1) ≡ false
      → in_row p a ((i + 1) + 1) (n - (i + 1)) o ≡ in_row p a (i + 1) (n - i) o
  unfolding in_row
  row_on p a o g e =
      sym (ap (λ (k : ℕ). in_row p a (i + 1) k o) (left n i g) ∙ ap (λ b. cond b (broken_by a (i + 1)) (in_row p a ((i + 1) + 1) (n - (i + 1)) o)) e)

  pub row_end : (p : ℕ → ℕ → Bool) (a : ℕ) (o : SheetReply) → n ≤ i → in_row p a (i + 1) (n - i) o ≡ o
  unfolding in_row
  row_end p a o g = ap (λ (k : ℕ). in_row p a (i + 1) k o) (none_left n i g)

  pub rows_on : (p : ℕ → ℕ → Bool) (m : ℕ) → i < n → in_rows p m (i + 1) (n - i) ≡ in_row p (i + 1) 1 m (in_rows p m ((i + 1) + 1) (n - (i + 1)))
  unfolding in_rows
  rows_on p m g = ap (λ (k : ℕ). in_rows p m (i + 1) k) (left n i g)

  pub rows_end : (p : ℕ → ℕ → Bool) (m : ℕ) → n ≤ i → in_rows p m (i + 1) (n - i) ≡ kept
  unfolding in_rows
  rows_end p m g = ap (λ (k : ℕ). in_rows p m (i + 1) k) (none_left n i g)

pub all_left : (n : ℕ) → n - 0 ≡ n
all_left n = omega arith

-- Whether a row gets another's marks.
pub join-marked : {A : Type 0} (r : Row A) (k : ℕ) (via : A) (i : ℕ) (row : A) → r.has row k ≡ true → join_via r k via i row ≡ r.join via row
join-marked r k via i row h = ap (λ b. cond b (r.join via row) row) h

pub join_unmarked : {A : Type 0} (r : Row A) (k : ℕ) (via : A) (i : ℕ) (row : A) → r.has row k ≡ false → join_via r k via i row ≡ row
join_unmarked r k via i row h = ap (λ b. cond b (r.join via row) row) h

-- A pair of places counted from 0.
pub crossed-at : {A : Type 0} (r : Row A) (m : List A) (low high : List ℕ) (a b : ℕ)
    → crossed r m low high (a + 1) (b + 1) ≡ r.has (get_or m a r.bare) b && leb (get_or low b 0) (get_or high a 0)
crossed-at r m low high a b = rw (back a, back b)
  where
    back : (n : ℕ) → (n + 1) - 1 ≡ n
    back n = omega arith

-- Rows as they are read, whatever stands for one that isn't there.
module _ {A : Type 0} (r : Row A) (m : List A) (i : ℕ) (h : i < length m) where
  pub rule-set : (w b a : ℕ) (x : A) → b ≡ before w → a ≡ after w → b - 1 ≡ i → set m (b - 1) (r.put (get_or m (b - 1) x) (a - 1)) ≡ rule_marked r w m
  rule-set w b a x e f g =
      (λ j. set m (g j) (r.put (get_or m (g j) x) (f j - 1)))
      ∙ ap (λ (v : A). set m i (r.put v (after w - 1))) (get_or_default m i x r.bare h)
      ∙ ap (λ (k : ℕ). set m k (r.put (get_or m k r.bare) (after w - 1))) (sym g ∙ ap (λ (k : ℕ). k - 1) e)

  pub row-joined : (k : ℕ) (via x y : A) → r.has (get_or m i x) k ≡ true
      → set m i (r.join via (get_or m i y)) ≡ set m i (join_via r k via i (get_or m i r.bare))
  row-joined k via x y e =
      ap (λ (v : A). set m i (r.join via v)) (get_or_default m i y r.bare h)
      ∙ ap (set m i) (sym (join-marked r k via i _ (ap (λ (v : A). r.has v k) (get_or_default m i r.bare x h) ∙ e)))

  pub row-kept : (k : ℕ) (via x : A) → r.has (get_or m i x) k ≡ false → m ≡ set m i (join_via r k via i (get_or m i r.bare))
  row-kept k via x e =
      sym (ap (set m i) (join_unmarked r k via i _ (ap (λ (v : A). r.has v k) (get_or_default m i r.bare x h) ∙ e)) ∙ set-get_or m i r.bare)

  -- The same of a row that is there.
  pub crossed-here : (low high : List ℕ) (b : ℕ) (x : A) → x ≡ get_or m i x
      → crossed r m low high (i + 1) (b + 1) ≡ r.has x b && leb (get_or low b 0) (get_or high i 0)
  crossed-here low high b x e =
      crossed-at r m low high i b
      ∙ ap (λ (v : A). r.has v b && leb (get_or low b 0) (get_or high i 0)) (get_or_default m i r.bare x h ∙ sym e)

-- The position after k steps of a walk.
abbrev pub position : Bool → ℕ → ℕ
position up k = cond up (1 + k) (1023 - k)

pub position-on : (up : Bool) (k : ℕ) → next_at up (position up k) ≡ position up (k + 1)
position-on true k = omega arith
position-on false k = omega arith
