-- Rows filled over scratch, and the labels that scratch leads to.
use mathlib.Core.{Path.{◌≡◌, refl, sym, ap, subst, ◌∙◌}, Bool.{Bool, true, false, cond}}
use mathlib.Core.List.{List, [], ◌∷◌, map, reverse_aux}
use Prim.Native.Nat.{ℕ, zero, suc, ◌+◌, ◌-◌, ◌<◌, ◌≤◌}
use native.Mathlib.{Decide.dec_le, Omega.arith}
use lib.{Dec.{eqb, leb}, ListN.{length, get_or, set, drop}, Seq.{ext_get_or, get_or-set_other}}
use borrow.Author.Tests.{leb-true, lt-ltb, le-ltb}
use Rattle.word.specs.Link.{link_of}
use Rattle.model.specs.{declared.Entry.Entry, Tables.with_mark, Sound.{from1, link_sound}}
use Rattle.model.specs.Walk.{Walk, entries, broken, and_then, along, is_broken, met}
use Rattle.model.proofs.Tests.Truth.{and-true, not_both}
use Rattle.join_model.specs.Closed.{filled, right_of, label_of, marked_to}
use Rattle.join_model.proofs.Filling.{filled_length, filled-beyond, filled_at}
use Rattle.join.specs.Scratch.{trail, rows_down, right_to, walked_to}

-- Row 0 is not filled.
filled_none : (f : ℕ → ℕ) (n : ℕ) (l : List ℕ) → get_or (filled f n l) 0 0 ≡ get_or l 0 0
filled_none f zero l = refl
filled_none f (suc n) l = get_or-set_other (filled f n l) (suc n) 0 (f (suc n)) 0 (λ z. omega arith) ∙ filled_none f n l

-- A row is 0, one of 1 to n, or beyond.
data Row (n i : ℕ) : Type 0 where
  zeroth : i ≡ 0 → Row n i
  within : 1 ≤ i → i ≤ n → Row n i
  beyond : n < i → Row n i

row : (n i : ℕ) → Row n i
row n zero = zeroth refl
row n (suc i) = go (dec_le (suc i) n)
  where
    go : Dec (suc i ≤ n) → Row n (suc i)
    go (yes h) = within (omega arith) h
    go (no h) = beyond (omega arith)

-- What fills all of the scratch leaves nothing of it.
pub overwritten : (f g : ℕ → ℕ) (n k : ℕ) (l : List ℕ) → k ≤ n → n < length l → filled f n (filled g k l) ≡ filled f n l
overwritten f g n k l h s = ext_get_or 0 (filled f n (filled g k l)) (filled f n l) same (λ i _. go i (row n i))
  where
    long : n < length (filled g k l)
    long = omega (arith, filled_length g k l)

    same : length (filled f n (filled g k l)) ≡ length (filled f n l)
    same = filled_length f n (filled g k l) ∙ filled_length g k l ∙ sym (filled_length f n l)

    go : (i : ℕ) → Row n i → get_or (filled f n (filled g k l)) i 0 ≡ get_or (filled f n l) i 0
    go i (zeroth z) = rw z (filled_none f n (filled g k l) ∙ filled_none g k l ∙ sym (filled_none f n l))
    go i (within a b) = filled_at f n (filled g k l) i a b long ∙ sym (filled_at f n l i a b s)
    go i (beyond b) = filled-beyond f n (filled g k l) i b ∙ filled-beyond g k l i (omega arith) ∙ sym (filled-beyond f n l i b)

-- The last one's Right was 0 before.
pub linked : (n : ℕ) (l : List ℕ) → suc n < length l → get_or l (suc n) 0 ≡ 0 → filled (right_to (suc n)) (suc n) l ≡ filled right_of n l
linked n l s z =
    ext_get_or 0 (filled (right_to (suc n)) (suc n) l) (filled right_of n l) (filled_length (right_to (suc n)) (suc n) l ∙ sym (filled_length right_of n l))
    (λ i _. go i (row n i))
  where
    last : (i : ℕ) → n < i → Row (suc n) i → get_or (filled (right_to (suc n)) (suc n) l) i 0 ≡ get_or l i 0
    last i b (zeroth e) = absurd (omega arith)
    last i b (within a c) =
        let e : i ≡ suc n = omega arith in
        filled_at (right_to (suc n)) (suc n) l i a c s ∙ rw (le-ltb i (suc n) (omega arith), e) (sym z)
    last i b (beyond c) = filled-beyond (right_to (suc n)) (suc n) l i c

    go : (i : ℕ) → Row n i → get_or (filled (right_to (suc n)) (suc n) l) i 0 ≡ get_or (filled right_of n l) i 0
    go i (zeroth e) = rw e (filled_none (right_to (suc n)) (suc n) l ∙ sym (filled_none right_of n l))
    go i (within a b) =
        filled_at (right_to (suc n)) (suc n) l i a (omega arith) s
        ∙ rw (lt-ltb i (suc n) (omega arith)) (sym (filled_at right_of n l i a b (omega arith)))
    go i (beyond b) = last i b (row (suc n) i) ∙ sym (filled-beyond right_of n l i b)

-- A walk as the slots that it treads, none above slots.
pub data Trod (slots : ℕ) (links labels : List ℕ) : ℕ → List Entry → Type 0 where
  stops : (x : ℕ) → x ≤ slots → Trod slots links labels x (record { slot = x; label = get_or labels x 0 } ∷ [])
  treads : (x : ℕ) {l : List Entry} → x ≤ slots → Trod slots links labels (link_of (get_or links x 0)).slot l → Trod slots links labels x
      (record { slot = x; label = get_or labels x 0 } ∷ l)

astray : (l : List Entry) {A : Type 0} → broken ≡ entries l → A
astray l e = absurd (not_both (sym (ap is_broken e)) refl)

module _ (slots : ℕ) (links labels : List ℕ) (last : ℕ) where
  pub trod : (n x : ℕ) (l : List Entry) → along slots links labels last n x ≡ entries l → Trod slots links labels x l
  unfolding along
  trod zero x l e = astray l e
  trod (suc n) x l e = go (from1 slots x) refl (eqb x last) (link_sound slots (get_or links x 0)) (along slots links labels last n y) (λ m. trod n y m) e
    where
      y : ℕ
      y = (link_of (get_or links x 0)).slot

      low : from1 slots x ≡ true → x ≤ slots
      low f = leb-true x slots (and-true (leb 1 x) (leb x slots) f).1

      go : (a : Bool) → from1 slots x ≡ a → (b c : Bool) (w : Walk)
          → ((m : List Entry) → w ≡ entries m → Trod slots links labels (link_of (get_or links x 0)).slot m)
          → cond a (cond b (entries (record { slot = x; label = get_or labels x 0 } ∷ []))
          (and_then (record { slot = x; label = get_or labels x 0 }) (cond c w broken))) broken ≡ entries l
          → Trod slots links labels x l
      go true f true c w h e = subst (Trod slots links labels x) (ap met e) (stops x (low f))
      go true f false true (entries m) h e = subst (Trod slots links labels x) (ap met e) (treads x (low f) (h m refl))
      go true f false true broken h e = astray l e
      go true f false false w h e = astray l e
      go false f b c w h e = astray l e

  pub stays : (x : ℕ) (l : List Entry) → Trod slots links labels x l → (j : ℕ) → j < length l → trail links x j ≤ slots
  unfolding trail
  stays x l (stops y low) zero h = low
  stays x l (stops y low) (suc j) h = absurd (omega arith)
  stays x l (treads y low t) zero h = low
  stays x l (treads y {l = m} low t) (suc j) h = stays (link_of (get_or links y 0)).slot m t j (omega arith)

abbrev pub names : List Entry → List ℕ
names l = map (λ (e : Entry). e.label) l

-- Turned, its labels are what the rows hold from the last one down, where row k + 1 has the label of the k-th slot.
module _ (slots : ℕ) (links labels : List ℕ) (f : ℕ → ℕ) where
  pub turned : (x : ℕ) (l : List Entry) → Trod slots links labels x l → (k : ℕ) (before : List Entry)
      → ((j : ℕ) → j < length l → f (suc (k + j)) ≡ get_or labels (trail links x j) 0) → names before ≡ rows_down f k
      → names (reverse_aux l before) ≡ rows_down f (k + length l)
  unfolding trail
  turned x l (stops y low) k before h e =
      let z : k ≡ k + 0 = omega arith in
      let g : k + 1 ≡ suc k = omega arith in
      (λ i. (sym (h 0 (omega arith)) ∙ ap (λ (n : ℕ). f (suc n)) (sym z)) i ∷ e i) ∙ ap (rows_down f) (sym g)
  turned x l (treads y {l = m} low t) k before h e =
      let z : k ≡ k + 0 = omega arith in
      let g : suc k + length m ≡ k + suc (length m) = omega arith in
      turned (link_of (get_or links y 0)).slot m t (suc k) (record { slot = y; label = get_or labels y 0 } ∷ before)
      (λ j b. let s : suc k + j ≡ k + suc j = omega arith in ap (λ (n : ℕ). f (suc n)) s ∙ h (suc j) (omega arith))
      (λ i. (sym (h 0 (omega arith)) ∙ ap (λ (n : ℕ). f (suc n)) (sym z)) i ∷ e i)
      ∙ ap (rows_down f) g

-- One row more.
pub filled_more : (f : ℕ → ℕ) (k : ℕ) (l now : List ℕ) (v : ℕ) → now ≡ filled f k l → v ≡ f (k + 1) → set now (k + 1) v ≡ filled f (k + 1) l
filled_more f k l now v e g =
    let s : k + 1 ≡ suc k = omega arith in
    (λ i. set (e i) (s i) (g i)) ∙ ap (set (filled f k l) (suc k)) (ap f s) ∙ ap (λ (n : ℕ). filled f n l) (sym s)

pub marked_more : (k : ℕ) (l now : List ℕ) → now ≡ marked_to k l → with_mark now (k + 1) 1 ≡ marked_to (k + 1) l
marked_more k l now e =
    let s : k + 1 ≡ suc k = omega arith in
    (λ i. with_mark (e i) (s i) 1) ∙ ap (λ (n : ℕ). marked_to n l) (sym s)

-- One link further.
trail-on : (links : List ℕ) (x k : ℕ) → trail links x (suc k) ≡ (link_of (get_or links (trail links x k) 0)).slot
unfolding trail
trail-on links x zero = refl
trail-on links x (suc k) = trail-on links (link_of (get_or links x 0)).slot k

pub trail_more : (links : List ℕ) (end k x : ℕ) → x ≡ trail links end k → (link_of (get_or links x 0)).slot ≡ trail links end (k + 1)
trail_more links end k x e =
    let s : suc k ≡ k + 1 = omega arith in
    ap (λ (y : ℕ). (link_of (get_or links y 0)).slot) e ∙ sym (trail-on links end k) ∙ ap (trail links end) s

pub at_row : (links : List ℕ) (end x k : ℕ) → x ≡ trail links end k → x ≡ walked_to links end (k + 1)
at_row links end x k e = let s : k ≡ k + 1 - 1 = omega arith in e ∙ ap (trail links end) s

-- One label less remains.
pub drop_more : (l : List ℕ) (k v : ℕ) (rest : List ℕ) → drop k l ≡ v ∷ rest → (v ≡ label_of l (k + 1)) × (drop (k + 1) l ≡ rest)
drop_more l k v rest e =
    let s : suc k ≡ k + 1 = omega arith in
    let z = go l k e in
    (z.0 ∙ ap (label_of l) s, ap (λ (n : ℕ). drop n l) (sym s) ∙ z.1)
  where
    go : (l : List ℕ) (k : ℕ) → drop k l ≡ v ∷ rest → (v ≡ get_or l k 0) × (drop (suc k) l ≡ rest)
    go [] zero e = absurd (let z = ap length e in omega arith)
    go [] (suc k) e = absurd (let z = ap length e in omega arith)
    go (x ∷ l) zero e = (sym (ap (λ (m : List ℕ). get_or m 0 0) e), ap (drop 1) e)
    go (x ∷ l) (suc k) e = go l k e
