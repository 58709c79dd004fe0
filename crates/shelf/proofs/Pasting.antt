-- What a stretch put into a table makes of shelves and of a queue, and where it fits.
use mathlib.Core.{List.{List, [], ◌∷◌, ◌++◌, append_assoc, map}, Path.{◌≡◌, ◌∙◌, ap, refl, sym}}
use mathlib.Core.Bool.{true, ◌&&◌}
use Prim.Native.Nat.{ℕ, zero, suc, ◌+◌, ◌-◌, ◌*◌, ◌/◌, ◌≤◌}
use native.Mathlib.{Nat.{mul-le-mul_right, suc-mul}, Omega.arith}
use lib.{Dec.leb, ListN.{drop, length, length-drop, length-map, take}}
use lib.Seq.{drop-drop, length-take-le, take-take}
use borrow.Author.Tests.{le-leb, leb-true}
use borrow.Rule.Slice.PartMut.{put_mid}
use Rattle.std.specs.Prelude.{Option, Some, None}
use Rattle.std.proofs.lemmas.Slice.{put_mid-paste}
use Rattle.model.proofs.Tests.Truth.{and-true}
use Rattle.shelf_model.specs.Shelves.{over, part, share, with_part}
use Rattle.shelf.specs.Pasting.{if_fits, on_shelf, pasted, put_back, put_on}

module _ {A : Type 0} where
  -- A part taken out and put together again.
  rejoined : (k s : ℕ) (l : List A) → k ≤ s → drop k (take s l) ++ drop s l ≡ drop k l
  rejoined zero zero l h = refl
  rejoined zero (suc s) [] h = refl
  rejoined zero (suc s) (x ∷ l) h = ap (λ (m : List A). x ∷ m) (rejoined zero s l (omega arith))
  rejoined (suc k) zero l h = absurd (omega arith)
  rejoined (suc k) (suc s) [] h = refl
  rejoined (suc k) (suc s) (x ∷ l) h = rejoined k s l (omega arith)

  -- What is put at a shelf's part is put over that part.
  pub put_is : (n k : ℕ) (from to : List A) → n ≤ 7 → k ≤ length from
      → k ≤ share to → put_on n k from to ≡ with_part n to (over k from (part n to))
  unfolding put_on on_shelf pasted with_part part
  put_is n k from to h f g =
      let a = n * share to in
      let s = share to in
      rw (le-leb n 7 h, le-leb k (share to) g, le-leb k (length from) f) (
      append_assoc (take a to) (take k from) (drop (a + k) to)
      ∙ ap (λ (m : List A). take a to ++ (take k from ++ m))
      (sym (drop-drop k a to) ∙ sym (rejoined k s (drop a to) g) ∙ ap (λ (m : List A). drop k (take s (drop a to)) ++ m) (drop-drop s a to))
      ∙ ap (λ (m : List A). take a to ++ m) (sym (append_assoc (take k from) (drop k (take s (drop a to))) (drop (a + s) to)))
      )

  pub back_is : (n k : ℕ) (from to : List A) → n ≤ 7 → k ≤ share from → k ≤ length to → put_back n k from to ≡ over k (part n from) to
  unfolding put_back on_shelf pasted part
  back_is n k from to h f g =
      let a = n * share from in
      rw (le-leb n 7 h, le-leb k (share from) f, le-leb k (length to) g) (
      ap (λ (j : ℕ). take k (drop a from) ++ drop j to) (let z : 0 + k ≡ k = omega arith in z)
      ∙ ap (λ (m : List A). m ++ drop k to) (sym (take-take k (share from) (drop a from) f))
      )

-- A shelf's part lies in the table.
pub room : (n k shelves table : ℕ) → leb n 7 && leb k (shelves / 8) && leb k table ≡ true → (n * (shelves / 8) + k ≤ shelves) × (0 + k ≤ table)
room n k shelves table e =
    let y = and-true (leb n 7 && leb k (shelves / 8)) (leb k table) e in
    let x = and-true (leb n 7) (leb k (shelves / 8)) y.0 in
    let low = leb-true n 7 x.0 in
    let f = leb-true k (shelves / 8) x.1 in
    let g = leb-true k table y.1 in
    let a = mul-le-mul_right (shelves / 8) (let z : suc n ≤ 8 = omega arith in z) in
    let b = suc-mul n (shelves / 8) in
    (omega arith, omega arith)

-- A copy of the stretch is what the definitions say.
module _ {A : Type 0} (n k : ℕ) (from to : List A) (start : ℕ) (put : List A) where
  pub put_by : Some start ≡ on_shelf n k (length to) (length from) → k ≤ length from → put ≡ take k from
      → put_mid start (start + k - start) to put ≡ put_on n k from to
  unfolding put_on pasted
  put_by e h p =
      let l = length-take-le k from h in
      rw (← e) (put_mid-paste start (start + k - start) to put (take k from) k p (omega arith) (omega arith)
      ∙ ap (λ (xs : List A). (take start to ++ xs) ++ drop (start + k) to) (take-take k k from (omega arith)))

  pub back_by : Some start ≡ on_shelf n k (length from) (length to) → start + k ≤ length from → put ≡ take (start + k - start) (drop start from)
      → put_mid 0 k to put ≡ put_back n k from to
  unfolding put_back pasted
  back_by e h p =
      let d = length-drop start from in
      let l = length-take-le k (drop start from) (omega arith) in
      let n : start + k - start ≡ k = omega arith in
      rw (← e) (put_mid-paste 0 k to put (take k (drop start from)) k (p ∙ ap (λ (j : ℕ). take j (drop start from)) n) (omega arith) (omega arith)
      ∙ ap (λ (xs : List A). xs ++ drop (0 + k) to) (take-take k k (drop start from) (omega arith)))

module _ {A : Type 0} (n k : ℕ) (from to : List A) where
  pub unput : None ≡ on_shelf n k (length to) (length from) → to ≡ put_on n k from to
  unfolding put_on
  unput e = rw (← e)

  pub unback : None ≡ on_shelf n k (length from) (length to) → to ≡ put_back n k from to
  unfolding put_back
  unback e = rw (← e)

-- Entry by entry.
module _ {A B : Type 0} (f : A → B) where
  map_app : (l m : List A) → map f (l ++ m) ≡ map f l ++ map f m
  map_app [] m = refl
  map_app (x ∷ l) m = ap (λ (k : List B). f x ∷ k) (map_app l m)

  map_take : (n : ℕ) (l : List A) → map f (take n l) ≡ take n (map f l)
  map_take zero l = refl
  map_take (suc n) [] = refl
  map_take (suc n) (x ∷ l) = ap (λ (k : List B). f x ∷ k) (map_take n l)

  map_drop : (n : ℕ) (l : List A) → map f (drop n l) ≡ drop n (map f l)
  map_drop zero l = refl
  map_drop (suc n) [] = refl
  map_drop (suc n) (x ∷ l) = map_drop n l

  map_pasted : (from : List A) (start : ℕ) (to : List A) (at k : ℕ)
      → map f (pasted from start to at k) ≡ pasted (map f from) start (map f to) at k
  unfolding pasted
  map_pasted from start to at k =
      map_app (take at to ++ take k (drop start from)) (drop (at + k) to)
      ∙ ap (λ (m : List B). m ++ map f (drop (at + k) to)) (map_app (take at to) (take k (drop start from)))
      ∙ (λ i. map_take at to i
      ++ (map_take k (drop start from) ∙ ap (λ (m : List B). take k m) (map_drop start from)) i
      ++ map_drop (at + k) to i)

  map_fits : (s : Option ℕ) (copied : ℕ → List A) (copied' : ℕ → List B) (to : List A) → ((n : ℕ) → map f (copied n) ≡ copied' n)
      → map f (if_fits s copied to) ≡ if_fits s copied' (map f to)
  map_fits (Some start) copied copied' to h = h start
  map_fits None copied copied' to h = refl

  pub map_put : (n k : ℕ) (from to : List A) → map f (put_on n k from to) ≡ put_on n k (map f from) (map f to)
  unfolding put_on
  map_put n k from to =
      rw (length-map from f, length-map to f)
      (map_fits (on_shelf n k (length to) (length from)) (λ at. pasted from 0 to at k) (λ at. pasted (map f from) 0 (map f to) at k) to
      (λ at. map_pasted from 0 to at k))

  pub map_back : (n k : ℕ) (from to : List A) → map f (put_back n k from to) ≡ put_back n k (map f from) (map f to)
  unfolding put_back
  map_back n k from to =
      rw (length-map from f, length-map to f)
      (map_fits (on_shelf n k (length from) (length to)) (λ x. pasted from x to 0 k) (λ x. pasted (map f from) x (map f to) 0 k) to
      (λ x. map_pasted from x to 0 k))
