-- The test of a pair is what the document calls broken, and the verdict is kept or the first such pair.
use mathlib.Core.{Bool.{Bool, true, false, ◌&&◌, cond}, List.{List, [], ◌∷◌, ◌++◌, map}, Logic.{◌⊎◌, inl, inr}}
use mathlib.Core.Path.{◌≡◌, ap, refl, sym, subst}
use Prim.Native.Nat.{ℕ, zero, suc, ◌+◌, ◌≤◌, ◌<◌}
use native.Mathlib.Omega.{arith}
use lib.{Dec.eqb, ListN.length}
use borrow.Author.Tests.{eqb-true, eq-eqb}
use Rattle.model.{specs.{declared.Entry.Entry, Walk.CopyAt}, proofs.Tests.Truth.split}
use Rattle.model.proofs.Tests.Truth.{and_of, and-true, by_test, decide_eq, not_both, or_cases, or_first, or_second}
use Rattle.sheet_model.specs.{declared.SheetReply.SheetReply, Pairs.first_pair, Laws.VerdictRight}
use Rattle.sheet_model.specs.Sheet.{Sheet, Chained, breaks, chained, label_at, left_of, malformed, waits}
use Rattle.sheet_model.specs.Verdict.{Pair, broken_by, first_broken, kept, pairs, places, verdict}
use Rattle.sheet_model.specs.Pairs.{Broken, Copy, Earlier, LeftCopy, NoneBroken, Rightly, crossed, itself, keeps}
use Rattle.sheet_model.proofs.{Formed.formed, Chained.{chained_in, chained_of, chained-within}}

-- One entry further left.
further : (x : ℕ) (e : Entry) (l : List Entry) (i : ℕ) → CopyAt x l i → CopyAt x (e ∷ l) (suc i)
further x e l i c = (omega (arith, c.0), c.1)

copy_of : (x : ℕ) (l : List Entry) → waits x l ≡ true → Copy x l
copy_of x [] h = absurd (not_both h refl)
copy_of x (e ∷ l) h = or_cases (eqb e.label x) (waits x l) h
    (λ z. record { place = 0; copy = (omega arith, eqb-true _ _ z) })
    (λ z. let c = copy_of x l z in record { place = suc c.place; copy = further x e l c.place c.copy })

waits_in : (x : ℕ) (l : List Entry) (i : ℕ) → CopyAt x l i → waits x l ≡ true
waits_in x [] i c = absurd (omega (arith, c.0))
waits_in x (e ∷ l) zero c = or_first (waits x l) (eq-eqb _ _ c.1)
waits_in x (e ∷ l) (suc i) c = or_second (eqb e.label x) (waits_in x l i (omega (arith, c.0), c.1))

left_of_lem : (y x : ℕ) (l : List Entry) → left_of y x l ≡ true → LeftCopy y x l
left_of_lem y x [] h = absurd (not_both h refl)
left_of_lem y x (e ∷ l) h = or_cases (eqb e.label y && waits x l) (left_of y x l) h
    (λ z. let b = and-true (eqb e.label y) (waits x l) z in
    let c = copy_of x l b.1 in
    record {
      left = 0;
      right = suc c.place;
      order = omega arith;
      second = (omega arith, eqb-true _ _ b.0);
      first = further x e l c.place c.copy;
    })
    (λ z. let c = left_of_lem y x l z in
    record {
      left = suc c.left;
      right = suc c.right;
      order = omega (arith, c.order);
      second = further y e l c.left c.second;
      first = further x e l c.right c.first;
    })

left_in : (y x : ℕ) (l : List Entry) (i j : ℕ) → i < j → CopyAt y l i → CopyAt x l j → left_of y x l ≡ true
left_in y x [] i j h c d = absurd (omega (arith, c.0))
left_in y x (e ∷ l) i zero h c d = absurd (omega arith)
left_in y x (e ∷ l) zero (suc j) h c d =
    or_first (left_of y x l) (and_of (eq-eqb _ _ c.1) (waits_in x l j (omega (arith, d.0), d.1)))
left_in y x (e ∷ l) (suc i) (suc j) h c d =
    or_second (eqb e.label y && waits x l) (left_in y x l i j (omega arith) (omega (arith, c.0), c.1) (omega (arith, d.0), d.1))

module _ (s : Sheet) (l : List Entry) where
  broken_of : (a b : ℕ) → breaks s l a b ≡ true → Broken s l a b
  unfolding breaks chained
  broken_of a b h =
      let z = and-true (chained s a b) (cond (eqb a b) (waits (label_at s a) l) (left_of (label_at s b) (label_at s a) l)) h in
      let c = chained_of s.rules (length s.listed) a b z.0 in
      split (eqb a b)
      (λ e. let same = eqb-true a b e in
      subst (Broken s l a) same (itself a (subst (Chained s.rules a) (sym same) c) (copy_of (label_at s a) l (rw e at z.1))))
      (λ e. crossed a b c (left_of_lem (label_at s b) (label_at s a) l (rw e at z.1)))

  module _ (form : malformed s ≡ false) where
    breaks_in : (a b : ℕ) → Broken s l a b → breaks s l a b ≡ true
    unfolding breaks chained
    breaks_in _ _ (crossed a b c k) =
        and_of (chained_in s.rules (length s.listed) (formed s form).inside a b c)
        (split (eqb a b)
        (λ e. rw e (waits_in (label_at s a) l k.right k.first))
        (λ e. rw e (left_in (label_at s b) (label_at s a) l k.left k.right k.order k.second k.first)))
    breaks_in _ _ (itself a c k) =
        and_of (chained_in s.rules (length s.listed) (formed s form).inside a a c)
        (rw (eq-eqb a a refl) (waits_in (label_at s a) l k.place k.copy))

    abbrev n : ℕ
    n = length s.listed

    within : (a b : ℕ) → Broken s l a b → ((1 ≤ a) × (a ≤ n)) × ((1 ≤ b) × (b ≤ n))
    within _ _ (crossed a b c k) = chained-within s.rules n (formed s form).inside a b c
    within _ _ (itself a c k) = chained-within s.rules n (formed s form).inside a a c

-- A row searched: the first pair of it that passes, or another answer where none does.
data InRow (p : ℕ → ℕ → Bool) (a b n : ℕ) (other : SheetReply) : SheetReply → Type 0 where
  hit : (d : ℕ) → b ≤ d → d < b + n → p a d ≡ true → ((e : ℕ) → b ≤ e → e < d → p a e ≡ false) → InRow p a b n other (broken_by a d)
  miss : ((e : ℕ) → b ≤ e → e < b + n → p a e ≡ false) → InRow p a b n other other

-- Rows searched one after the other.
data InRows (p : ℕ → ℕ → Bool) (m a n : ℕ) : SheetReply → Type 0 where
  found : (c d : ℕ) → a ≤ c → c < a + n → 1 ≤ d → d ≤ m → p c d ≡ true
      → ((e f : ℕ) → a ≤ e → 1 ≤ f → f ≤ m → Earlier e f c d → p e f ≡ false) → InRows p m a n (broken_by c d)
  none : ((e f : ℕ) → a ≤ e → e < a + n → 1 ≤ f → f ≤ m → p e f ≡ false) → InRows p m a n kept

module _ (p : ℕ → ℕ → Bool) where
  -- What fails at b and after it fails from b on.
  from_here : (a b e : ℕ) → p a b ≡ false → b ≤ e → (b + 1 ≤ e → p a e ≡ false) → p a e ≡ false
  from_here a b e z h f = go (decide_eq e b)
    where
      go : (e ≡ b) ⊎ (e ≡ b → ⊥) → p a e ≡ false
      go (inl w) = subst (λ e. p a e ≡ false) (sym w) z
      go (inr w) = f (omega arith)

  next : (a b n : ℕ) (other r : SheetReply) → p a b ≡ false → InRow p a (b + 1) n other r → InRow p a b (suc n) other r
  next a b n other _ z (hit d g h k f) = hit d (omega arith) (omega arith) k (λ e x y. from_here a b e z x (λ w. f e w y))
  next a b n other _ z (miss f) = miss (λ e x y. from_here a b e z x (λ w. f e w (omega arith)))

  in_row : (a b n : ℕ) (l : List Pair)
      → InRow p a b n (first_broken p l) (first_broken p (map (λ (x : ℕ). record { first = a; second = x }) (places b n) ++ l))
  unfolding first_broken places
  in_row a b zero l = miss (λ e x y. absurd (omega arith))
  in_row a b (suc n) l = by_test (InRow p a b (suc n) (first_broken p l)) (p a b)
      (λ y. hit b (omega arith) (omega arith) y (λ e x y. absurd (omega arith)))
      (λ z. next a b n (first_broken p l) _ z (in_row a (b + 1) n l))

  -- What fails in row a and in the rows after it fails from row a on.
  from_row : (m a e f : ℕ) → ((d : ℕ) → 1 ≤ d → d < 1 + m → p a d ≡ false) → a ≤ e → 1 ≤ f → f ≤ m → (a + 1 ≤ e → p e f ≡ false) → p e f ≡ false
  from_row m a e f z h g k w = go (decide_eq e a)
    where
      go : (e ≡ a) ⊎ (e ≡ a → ⊥) → p e f ≡ false
      go (inl x) = subst (λ e. p e f ≡ false) (sym x) (z f g (omega arith))
      go (inr x) = w (omega arith)

  rows-after : (m a n : ℕ) (r : SheetReply) → ((d : ℕ) → 1 ≤ d → d < 1 + m → p a d ≡ false) → InRows p m (a + 1) n r → InRows p m a (suc n) r
  rows-after m a n _ z (found c d g h i j k f) =
      found c d (omega arith) (omega arith) i j k (λ e x u v w o. from_row m a e x z u v w (λ y. f e x y v w o))
  rows-after m a n _ z (none f) = none (λ e x u y v w. from_row m a e x z u v w (λ g. f e x g (omega arith) v w))

  row_first : (m a n : ℕ) (other r : SheetReply) → InRow p a 1 m other r → InRows p m (a + 1) n other → InRows p m a (suc n) r
  row_first m a n other _ (hit d g h k f) ih =
      found a d (omega arith) (omega arith) g (omega arith) k (λ e x u v w o. before e x u v o)
    where
      before : (e x : ℕ) → a ≤ e → 1 ≤ x → Earlier e x a d → p e x ≡ false
      before e x u v (inl o) = absurd (omega arith)
      before e x u v (inr o) = subst (λ e. p e x ≡ false) (sym o.0) (f x v o.1)
  row_first m a n other _ (miss f) ih = rows-after m a n other f ih

  in_rows : (m a n : ℕ) → InRows p m a n (first_broken p (pairs (places a n) (places 1 m)))
  unfolding first_broken places pairs
  in_rows m a zero = none (λ e f x y. absurd (omega arith))
  in_rows m a (suc n) =
      let after = pairs (places (a + 1) n) (places 1 m) in
      row_first m a n (first_broken p after) _ (in_row a 1 m after) (in_rows m (a + 1) n)

module _ (s : Sheet) (l : List Entry) (form : malformed s ≡ false) where
  rightly : (r : SheetReply) → InRows (breaks s l) (length s.listed) 1 (length s.listed) r → Rightly s l r
  rightly _ (found a b g h i j k f) = first_pair a b (broken_of s l a b k) (λ c d o x.
      let w = within s l form c d x in
      not_both (breaks_in s l form c d x) (f c d w.0.0 w.1.0 w.1.1 o))
  rightly _ (none f) = keeps (λ c d x.
      let w = within s l form c d x in
      let y = w.0.1 in
      not_both (breaks_in s l form c d x) (f c d w.0.0 (omega arith) w.1.0 w.1.1))

  -- Place 0 is none of the sheet's, so kept tells no pair.
  pub none_told : (r : SheetReply) → Rightly s l r → r ≡ kept → NoneBroken s l
  none_told _ (keeps f) e = f
  none_told _ (first_pair a b k f) e = absurd (let z : a ≡ 0 = ap (λ (r : SheetReply). r.first) e in let w = (within s l form a b k).0.0 in omega arith)

  pub kept-told : (r : SheetReply) → Rightly s l r → NoneBroken s l → r ≡ kept
  kept-told _ (keeps f) h = refl
  kept-told _ (first_pair a b k f) h = absurd (h a b k)

pub verdict-right : VerdictRight
unfolding verdict
verdict-right s l form = rightly s l form _ (in_rows (breaks s l) (length s.listed) 1 (length s.listed))
