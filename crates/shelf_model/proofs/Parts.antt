-- Eight parts of a flat table: one replaced, the others as they were.
use mathlib.Core.{List.{List, [], ◌∷◌, ◌++◌, append_assoc}, Logic.{◌≢◌, ◌⊎◌, inl, inr}, Path.{◌≡◌, ◌∙◌, ap, refl, sym}}
use Prim.Native.Nat.{ℕ, zero, suc, ◌+◌, ◌*◌, ◌/◌, ◌-◌, ◌<◌, ◌≤◌}
use native.Mathlib.{Nat.{mul-le-mul_right, suc-mul}, Decide.dec_lt, Omega.arith}
use lib.{Arith.lt_of_le-ne, ListN.{drop, length, length-append, length-drop, take}, Seq.take-take}
use lib.Seq.{drop-append-add, drop-append-le, drop_at, drop-drop, length-take-le, take-append-le, take_at, take-nil}
use Rattle.shelf_model.specs.Shelves.{over, part, share, with_part}

module _ {A : Type 0} where
  -- One table put over another.
  pub length_over : (k : ℕ) (l m : List A) → k ≤ length l → k ≤ length m → length (over k l m) ≡ length m
  length_over k l m h g = length-append (take k l) (drop k m) ∙ (let a = length-take-le k l h in let b = length-drop k m in omega arith)

  pub take_over : (k : ℕ) (l m : List A) → k ≤ length l → take k (over k l m) ≡ take k l
  take_over k l m h = take-append-le k (take k l) (drop k m) (let a = length-take-le k l h in omega arith) ∙ take-take k k l (omega arith)

  -- A part that lies within a beginning.
  drop-take : (a b k : ℕ) (l : List A) → a ≡ b + k → drop b (take a l) ≡ take k (drop b l)
  drop-take a zero k l e = ap (λ (n : ℕ). take n l) (let z : a ≡ k = omega arith in z)
  drop-take zero (suc b) k l e = absurd (omega arith)
  drop-take (suc a) (suc b) k [] e = sym (take-nil k)
  drop-take (suc a) (suc b) k (x ∷ l) e = drop-take a b k l (omega arith)

module _ {A : Type 0} (l p : List A) (a s : ℕ) (long : length p ≡ s) (room : a + s ≤ length l) where
  abbrev put : List A
  put = take a l ++ (p ++ drop (a + s) l)

  front : length (take a l) ≡ a
  front = length-take-le a l (omega arith)

  length-put : length put ≡ length l
  length-put =
      length-append (take a l) (p ++ drop (a + s) l)
      ∙ (let b = length-append p (drop (a + s) l) in let c = length-drop (a + s) l in omega (arith, front, long))

  put_there : take s (drop a put) ≡ p
  put_there = ap (λ (m : List A). take s m) (drop_at (take a l) (p ++ drop (a + s) l) a front) ∙ take_at p (drop (a + s) l) s long

  put-before : (b : ℕ) → b + s ≤ a → take s (drop b put) ≡ take s (drop b l)
  put-before b h =
      let z = length-drop b (take a l) in
      ap (λ (m : List A). take s m) (drop-append-le b (take a l) (p ++ drop (a + s) l) (omega (arith, front)))
      ∙ take-append-le s (drop b (take a l)) (p ++ drop (a + s) l) (omega (arith, front, z))
      ∙ ap (λ (m : List A). take s m) (drop-take a b (a - b) l (omega arith))
      ∙ take-take s (a - b) (drop b l) (omega arith)

  put-behind : (b : ℕ) → a + s ≤ b → take s (drop b put) ≡ take s (drop b l)
  put-behind b h =
      let c : length (take a l ++ p) + (b - (a + s)) ≡ b = let d = length-append (take a l) p in omega (arith, front, long) in
      ap (λ (m : List A). take s m) (
      ap (λ (m : List A). drop b m) (sym (append_assoc (take a l) p (drop (a + s) l)))
      ∙ ap (λ (n : ℕ). drop n ((take a l ++ p) ++ drop (a + s) l)) (sym c)
      ∙ drop-append-add (take a l ++ p) (drop (a + s) l) (b - (a + s))
      ∙ drop-drop (b - (a + s)) (a + s) l
      ∙ ap (λ (n : ℕ). drop n l) (let z : a + s + (b - (a + s)) ≡ b = omega arith in z)
      )

apart : (m n : ℕ) → m ≢ n → (m < n) ⊎ (n < m)
apart m n d = go (dec_lt m n)
  where
    go : Dec (m < n) → (m < n) ⊎ (n < m)
    go (yes l) = inl l
    go (no l) = inr (lt_of_le-ne {i = n} {k = m} (omega arith) (λ e. d (sym e)))

-- Eight of them.
within : (n s k : ℕ) → n ≤ 7 → s ≡ k / 8 → n * s + s ≤ k
within n s k h e = let a = mul-le-mul_right s (let z : suc n ≤ 8 = omega arith in z) in let b = suc-mul n s in omega arith

module _ {A : Type 0} (n : ℕ) (l p : List A) (h : n ≤ 7) (long : length p ≡ share l) where
  abbrev s : ℕ
  s = share l

  room : n * s + s ≤ length l
  room = within n s (length l) h refl

  same_length : length (with_part n l p) ≡ length l
  unfolding with_part
  same_length = length-put l p (n * s) s long room

  pub part_same : part n (with_part n l p) ≡ p
  unfolding part with_part
  part_same = ap (λ (k : ℕ). take (k / 8) (drop (n * (k / 8)) (with_part n l p))) same_length ∙ put_there l p (n * s) s long room

  pub part_other : (m : ℕ) → m ≤ 7 → m ≢ n → part m (with_part n l p) ≡ part m l
  unfolding part with_part
  part_other m g d = ap (λ (k : ℕ). take (k / 8) (drop (m * (k / 8)) (with_part n l p))) same_length ∙ go (apart m n d)
    where
      go : (m < n) ⊎ (n < m) → take s (drop (m * s) (with_part n l p)) ≡ take s (drop (m * s) l)
      go (inl z) = put-before l p (n * s) s long room (m * s) (let a = mul-le-mul_right s z in let b = suc-mul m s in omega arith)
      go (inr z) = put-behind l p (n * s) s long room (m * s) (let a = mul-le-mul_right s z in let b = suc-mul n s in omega arith)

pub part_length : {A : Type 0} (n : ℕ) (l : List A) → n ≤ 7 → length (part n l) ≡ share l
unfolding part
part_length n l h =
    let a = within n (share l) (length l) h refl in
    let b = length-drop (n * share l) l in
    length-take-le (share l) (drop (n * share l) l) (omega arith)
