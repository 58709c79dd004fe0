-- Lowest and highest positions tell whether a copy of one label waits at or before a copy of another.
use mathlib.Core.{Bool.{Bool, true, false, ◌&&◌, ◌||◌, cond}, List.{List, [], ◌∷◌, ◌++◌, reverse, reverse-cons}}
use mathlib.Core.Path.{◌≡◌, refl, sym, ap, ◌∙◌}
use Prim.Native.Nat.{ℕ, ◌+◌, ◌-◌, ◌≤◌, min, max}
use native.Mathlib.Omega.{arith}
use lib.{Dec.{eqb, leb, ltb}, ListN.length}
use borrow.Author.Tests.{eqb-true, ne_eqb, leb-true, leb-false, le-leb, lt-leb, ltb-true, ltb-false}
use Rattle.model.specs.declared.Entry.{Entry}
use Rattle.sheet_model.specs.Sheet.{waits, left_of}
use Rattle.sheet.specs.Extents.{lower, higher, next_at}

or_false_right : (a : Bool) → a || false ≡ a
or_false_right true = refl
or_false_right false = refl

assoc : (a b c : Bool) → (a || b) || c ≡ a || (b || c)
assoc true b c = refl
assoc false b c = refl

swap : (a b : Bool) → a || b ≡ b || a
swap true true = refl
swap true false = refl
swap false true = refl
swap false false = refl

-- A copy of y is met at or before a copy of x.
abbrev pub meets : ℕ → ℕ → List Entry → Bool
meets y x [] = false
meets y x (e ∷ l) = (eqb e.label y && (eqb e.label x || waits x l)) || meets y x l

-- The lowest and the highest position of a label, where the first entry's is given; 1,024 and 0 where it doesn't wait.
unfoldable pub lowest : Bool → ℕ → ℕ → List Entry → ℕ
lowest up at y [] = 1024
lowest up at y (e ∷ l) = cond (eqb e.label y) (lower at (lowest up (next_at up at) y l)) (lowest up (next_at up at) y l)

unfoldable pub highest : Bool → ℕ → ℕ → List Entry → ℕ
highest up at x [] = 0
highest up at x (e ∷ l) = cond (eqb e.label x) (higher at (highest up (next_at up at) x l)) (highest up (next_at up at) x l)

pub record Lower (at x r : ℕ) : Type 0 where
  pub one : r ≤ at
  pub two : r ≤ x
  pub from : (k : ℕ) → k ≤ at → k ≤ x → k ≤ r

pub lower-is : (at x : ℕ) → Lower at x (lower at x)
lower-is at x = go (ltb at x) refl
  where
    go : (b : Bool) → ltb at x ≡ b → Lower at x (cond b at x)
    go true e = let h = ltb-true at x e in record { one = omega arith; two = omega arith; from = λ k f g. f }
    go false e = let h = ltb-false at x e in record { one = omega arith; two = omega arith; from = λ k f g. g }

pub record Higher (at x r : ℕ) : Type 0 where
  pub one : at ≤ r
  pub two : x ≤ r
  pub upto : (k : ℕ) → at ≤ k → x ≤ k → r ≤ k

pub higher-is : (at x : ℕ) → Higher at x (higher at x)
higher-is at x = go (ltb x at) refl
  where
    go : (b : Bool) → ltb x at ≡ b → Higher at x (cond b at x)
    go true e = let h = ltb-true x at e in record { one = omega arith; two = omega arith; upto = λ k f g. f }
    go false e = let h = ltb-false x at e in record { one = omega arith; two = omega arith; upto = λ k f g. g }

-- A walk from the left.
rises : (at y : ℕ) (l : List Entry) → at + length l ≤ 1024 → at ≤ lowest true at y l
unfolding lowest
rises at y [] h = omega arith
rises at y (e ∷ l) h = go (eqb e.label y) (rises (at + 1) y l (omega arith))
  where
    go : (b : Bool) → at + 1 ≤ lowest true (at + 1) y l → at ≤ cond b (lower at (lowest true (at + 1) y l)) (lowest true (at + 1) y l)
    go true ih = (lower-is at (lowest true (at + 1) y l)).from at (omega arith) (omega arith)
    go false ih = omega arith

-- A label waits where its highest position is at or beyond one up to the first.
waits-high : (k at x : ℕ) (l : List Entry) → 1 ≤ k → k ≤ at → leb k (highest true at x l) ≡ waits x l
unfolding highest
waits-high k at x [] g h = lt-leb k 0 (omega arith)
waits-high k at x (e ∷ l) g h = go (eqb e.label x) (waits-high k (at + 1) x l g (omega arith))
  where
    go : (b : Bool) → leb k (highest true (at + 1) x l) ≡ waits x l
        → leb k (cond b (higher at (highest true (at + 1) x l)) (highest true (at + 1) x l)) ≡ b || waits x l
    go true ih = le-leb k (higher at (highest true (at + 1) x l)) (let z = (higher-is at (highest true (at + 1) x l)).one in omega arith)
    go false ih = ih

meets_waits : (y x : ℕ) (l : List Entry) → waits x l || meets y x l ≡ waits x l
meets_waits y x [] = refl
meets_waits y x (e ∷ l) = go (eqb e.label y) (eqb e.label x) (waits x l) (meets y x l) (meets_waits y x l)
  where
    go : (p q w m : Bool) → w || m ≡ w → (q || w) || ((p && (q || w)) || m) ≡ q || w
    go p true w m ih = refl
    go p false true m ih = refl
    go true false false m ih = ih
    go false false false m ih = ih

pub crosses_up : (at y x : ℕ) (l : List Entry) → 1 ≤ at → at + length l ≤ 1024 → leb (lowest true at y l) (highest true at x l) ≡ meets y x l
unfolding lowest highest
crosses_up at y x [] g h = refl
crosses_up at y x (e ∷ l) g h =
    go (eqb e.label y) (eqb e.label x) (rises (at + 1) y l (omega arith)) (crosses_up (at + 1) y x l (omega arith) (omega arith))
    (waits-high at (at + 1) x l g (omega arith))
  where
    L : ℕ
    L = lowest true (at + 1) y l

    H : ℕ
    H = highest true (at + 1) x l

    go : (p q : Bool) → at + 1 ≤ L → leb L H ≡ meets y x l → leb at H ≡ waits x l
        → leb (cond p (lower at L) L) (cond q (higher at H) H) ≡ (p && (q || waits x l)) || meets y x l
    go true true r ih w =
        le-leb (lower at L) (higher at H) (let a = (lower-is at L).one in let b = (higher-is at H).one in omega arith)
    go true false r ih w = ap (λ (k : ℕ). leb k H) low ∙ w ∙ sym (meets_waits y x l)
      where
        low : lower at L ≡ at
        low = let a = lower-is at L in let b : at ≤ lower at L = a.from at (omega arith) (omega arith) in omega (arith, a.one)
    go false true r ih w = same (leb L H) refl ∙ ih
      where
        same : (b : Bool) → leb L H ≡ b → leb L (higher at H) ≡ leb L H
        same true e = le-leb L (higher at H) (let z = leb-true L H e in let b = (higher-is at H).two in omega arith) ∙ sym e
        same false e =
            lt-leb L (higher at H) (let z = leb-false L H e in let b = (higher-is at H).upto (L - 1) (omega arith) (omega arith) in omega arith)
            ∙ sym e
    go false false r ih w = ih

-- A walk from the right is one from the left, with positions counted down from 1,024.
pub lower_min : (a x : ℕ) → lower a x ≡ min a x
lower_min a x = go (ltb a x) refl
  where
    go : (b : Bool) → ltb a x ≡ b → cond b a x ≡ min a x
    go true e = let h = ltb-true a x e in omega arith
    go false e = let h = ltb-false a x e in omega arith

pub higher_max : (a x : ℕ) → higher a x ≡ max a x
higher_max a x = go (ltb x a) refl
  where
    go : (b : Bool) → ltb x a ≡ b → cond b a x ≡ max a x
    go true e = let h = ltb-true x a e in omega arith
    go false e = let h = ltb-false x a e in omega arith

flip_low : (a h : ℕ) → a ≤ 1024 → lower a (1024 - h) ≡ 1024 - higher (1024 - a) h
flip_low a h g = lower_min a (1024 - h) ∙ flip ∙ ap (λ (k : ℕ). 1024 - k) (sym (higher_max (1024 - a) h))
  where
    flip : min a (1024 - h) ≡ 1024 - max (1024 - a) h
    flip = omega arith

flip_high : (a h : ℕ) → a ≤ 1024 → higher a (1024 - h) ≡ 1024 - lower (1024 - a) h
flip_high a h g = higher_max a (1024 - h) ∙ flip ∙ ap (λ (k : ℕ). 1024 - k) (sym (lower_min (1024 - a) h))
  where
    flip : max a (1024 - h) ≡ 1024 - min (1024 - a) h
    flip = omega arith

falls_low : (at y : ℕ) (l : List Entry) → at ≤ 1023 → length l ≤ at → lowest false at y l ≡ 1024 - highest true (1024 - at) y l
unfolding lowest highest
falls_low at y [] g h = refl
falls_low at y (e ∷ l) g h =
    let z : 1024 - (at - 1) ≡ (1024 - at) + 1 = omega arith in
    go (eqb e.label y) (falls_low (at - 1) y l (omega arith) (omega arith) ∙ ap (λ (k : ℕ). 1024 - highest true k y l) z)
  where
    H : ℕ
    H = highest true ((1024 - at) + 1) y l

    go : (b : Bool) → lowest false (at - 1) y l ≡ 1024 - H
        → cond b (lower at (lowest false (at - 1) y l)) (lowest false (at - 1) y l) ≡ 1024 - cond b (higher (1024 - at) H) H
    go true ih = ap (lower at) ih ∙ flip_low at H (omega arith)
    go false ih = ih

falls_high : (at x : ℕ) (l : List Entry) → at ≤ 1023 → length l ≤ at → highest false at x l ≡ 1024 - lowest true (1024 - at) x l
unfolding lowest highest
falls_high at x [] g h = refl
falls_high at x (e ∷ l) g h =
    let z : 1024 - (at - 1) ≡ (1024 - at) + 1 = omega arith in
    go (eqb e.label x) (falls_high (at - 1) x l (omega arith) (omega arith) ∙ ap (λ (k : ℕ). 1024 - lowest true k x l) z)
  where
    L : ℕ
    L = lowest true ((1024 - at) + 1) x l

    go : (b : Bool) → highest false (at - 1) x l ≡ 1024 - L
        → cond b (higher at (highest false (at - 1) x l)) (highest false (at - 1) x l) ≡ 1024 - cond b (lower (1024 - at) L) L
    go true ih = ap (higher at) ih ∙ flip_high at L (omega arith)
    go false ih = ih

pub low-bound : (up : Bool) (at y : ℕ) (l : List Entry) → lowest up at y l ≤ 1024
unfolding lowest
low-bound up at y [] = omega arith
low-bound up at y (e ∷ l) = go (eqb e.label y) (low-bound up (next_at up at) y l)
  where
    go : (b : Bool) → lowest up (next_at up at) y l ≤ 1024 → cond b (lower at (lowest up (next_at up at) y l)) (lowest up (next_at up at) y l) ≤ 1024
    go true ih = let z = (lower-is at (lowest up (next_at up at) y l)).two in omega arith
    go false ih = ih

pub crosses_down : (at y x : ℕ) (l : List Entry) → at ≤ 1023 → length l ≤ at → leb (lowest false at y l) (highest false at x l) ≡ meets x y l
crosses_down at y x l g h =
    rw (falls_low at y l g h, falls_high at x l g h) (flip (leb L H) refl ∙ crosses_up (1024 - at) x y l (omega arith) (omega arith))
  where
    L : ℕ
    L = lowest true (1024 - at) x l

    H : ℕ
    H = highest true (1024 - at) y l

    flip : (b : Bool) → leb L H ≡ b → leb (1024 - H) (1024 - L) ≡ leb L H
    flip true e = le-leb (1024 - H) (1024 - L) (let z = leb-true L H e in omega arith) ∙ sym e
    flip false e = lt-leb (1024 - H) (1024 - L) (let z = leb-false L H e in omega (arith, low-bound true (1024 - at) x l)) ∙ sym e

-- The walk turned round.
waits_snoc : (x : ℕ) (l : List Entry) (e : Entry) → waits x (l ++ (e ∷ [])) ≡ waits x l || eqb e.label x
waits_snoc x [] e = or_false_right (eqb e.label x)
waits_snoc x (f ∷ l) e = ap (λ b. eqb f.label x || b) (waits_snoc x l e) ∙ sym (assoc (eqb f.label x) (waits x l) (eqb e.label x))

meets_snoc : (y x : ℕ) (l : List Entry) (e : Entry) → meets y x (l ++ (e ∷ [])) ≡ meets y x l || ((waits y l || eqb e.label y) && eqb e.label x)
meets_snoc y x [] e = alone (eqb e.label y) (eqb e.label x)
  where
    alone : (p q : Bool) → (p && (q || false)) || false ≡ p && q
    alone true true = refl
    alone true false = refl
    alone false q = refl
meets_snoc y x (f ∷ l) e =
    (λ i. (eqb f.label y && (eqb f.label x || waits_snoc x l e i)) || meets_snoc y x l e i)
    ∙ shuffle (eqb f.label y) (eqb f.label x) (waits x l) (meets y x l) (waits y l) (eqb e.label y) (eqb e.label x)
  where
    shuffle : (p q w m v s t : Bool) → (p && (q || (w || t))) || (m || ((v || s) && t)) ≡ ((p && (q || w)) || m) || (((p || v) || s) && t)
    shuffle true true w m v s t = refl
    shuffle true false true m v s t = refl
    shuffle true false false true v s true = refl
    shuffle true false false true v s false = refl
    shuffle true false false false v s true = refl
    shuffle true false false false true s false = refl
    shuffle true false false false false true false = refl
    shuffle true false false false false false false = refl
    shuffle false q w m v s t = refl

waits_reverse : (x : ℕ) (l : List Entry) → waits x (reverse l) ≡ waits x l
waits_reverse x [] = refl
waits_reverse x (e ∷ l) =
    ap (waits x) (reverse-cons e l) ∙ waits_snoc x (reverse l) e ∙ ap (λ b. b || eqb e.label x) (waits_reverse x l)
    ∙ swap (waits x l) (eqb e.label x)

pub meets_reverse : (y x : ℕ) (l : List Entry) → meets y x (reverse l) ≡ meets x y l
meets_reverse y x [] = refl
meets_reverse y x (e ∷ l) =
    ap (meets y x) (reverse-cons e l)
    ∙ meets_snoc y x (reverse l) e
    ∙ (λ i. meets_reverse y x l i || ((waits_reverse y l i || eqb e.label y) && eqb e.label x))
    ∙ turn (meets x y l) (waits y l) (eqb e.label y) (eqb e.label x)
  where
    turn : (m w p q : Bool) → m || ((w || p) && q) ≡ (q && (p || w)) || m
    turn true true true true = refl
    turn true true true false = refl
    turn true true false true = refl
    turn true true false false = refl
    turn true false true true = refl
    turn true false true false = refl
    turn true false false true = refl
    turn true false false false = refl
    turn false true true true = refl
    turn false true true false = refl
    turn false true false true = refl
    turn false true false false = refl
    turn false false true true = refl
    turn false false true false = refl
    turn false false false true = refl
    turn false false false false = refl

-- Two different labels, and one with itself.
pub meets_left : (y x : ℕ) (l : List Entry) → (x ≡ y → ⊥) → meets y x l ≡ left_of y x l
meets_left y x [] h = refl
meets_left y x (e ∷ l) h = go (eqb e.label y) refl (meets_left y x l h)
  where
    go : (b : Bool) → eqb e.label y ≡ b → meets y x l ≡ left_of y x l → (b && (eqb e.label x || waits x l)) || meets y x l ≡
        (b && waits x l) || left_of y x l
    go true z ih =
        ap (λ b. (b || waits x l) || meets y x l) (ne_eqb e.label x (λ w. h (let v = eqb-true e.label y z in omega arith)))
        ∙ ap (λ b. waits x l || b) ih
    go false z ih = ih

pub meets_self : (x : ℕ) (l : List Entry) → meets x x l ≡ waits x l
meets_self x [] = refl
meets_self x (e ∷ l) = go (eqb e.label x) (meets_self x l)
  where
    go : (b : Bool) → meets x x l ≡ waits x l → (b && (b || waits x l)) || meets x x l ≡ b || waits x l
    go true ih = refl
    go false ih = ih
