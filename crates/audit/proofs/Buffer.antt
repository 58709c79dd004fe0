-- Labels from one index of a list up to another: an end moved by one, and the label there. The list is a buffer's labels.
use mathlib.Core.{Bool.{Bool, true, false, ◌&&◌, cond}, Path.{◌≡◌, refl, sym, ap, ◌∙◌, subst}}
use mathlib.Core.List.{List, [], ◌∷◌, ◌++◌, map, reverse, reverse-cons, reverse-reverse}
use Prim.Native.Nat.{ℕ, zero, suc, ◌+◌, ◌-◌, ◌<◌, ◌≤◌}
use native.Mathlib.{Decide.ℕ_discrete, Numerals.add-one, Omega.arith}
use lib.{Dec.eqb, ListN.{length, get_or, set, take, drop, length-set, replicate}}
use lib.Seq.{slice, slice-cons, slice_empty, length-take-le, take-suc, take-suc-set, take-set-lt, drop-set-lt}
use lib.Seq.{drop-append-le, get_or-set_other, get_or-set_same}
use borrow.Author.Tests.{eq-eqb, ne_eqb}
use Rattle.model.specs.Deque.{seen_from}
use Rattle.audit_model.specs.Audit.{agrees, take_label}
use Rattle.audit.specs.LabelQueue.{Holds}

-- Seen from the right, and from the left.
from_right : {A : Type 0} (side : ℕ) (l : List A) → side ≡ 1 → seen_from side l ≡ reverse l
from_right side l e = ap (λ (b : Bool). cond b (reverse l) l) (eq-eqb side 1 e)

from_left : {A : Type 0} (side : ℕ) (l : List A) → (side ≡ 1 → ⊥) → seen_from side l ≡ l
from_left side l e = ap (λ (b : Bool). cond b (reverse l) l) (ne_eqb side 1 e)

pub map-set : (f : ℕ → ℕ) (l : List ℕ) (i x : ℕ) → map f (set l i x) ≡ set (map f l) i (f x)
map-set f [] i x = refl
map-set f (y ∷ l) zero x = refl
map-set f (y ∷ l) (suc i) x = ap (λ (r : List ℕ). f y ∷ r) (map-set f l i x)

pub zeros_hold : (n m j : ℕ) → get_or (replicate m 0) j 0 ≤ n
zeros_hold n zero j = omega arith
zeros_hold n (suc m) zero = omega arith
zeros_hold n (suc m) (suc j) = zeros_hold n m j

-- The index of a call more.
pub holds_more : (n : ℕ) (l : List ℕ) (i x : ℕ) → i < 128 → x < n → Holds n l → Holds n (set l i x)
holds_more n l i x h k was = record { size = length-set l i x ∙ was.size; calls = λ j. go j (ℕ_discrete j i) }
  where
    go : (j : ℕ) → Dec (j ≡ i) → get_or (set l i x) j 0 ≤ n - 1
    go j (yes e) = let z = get_or-set_same l i x 0 (let y = was.size in omega arith) in rw (e, z) (omega arith)
    go j (no e) = rw (get_or-set_other l i j x 0 e) (was.calls j)

-- An answer that has no label.
pub plain : (answer label given : ℕ) → (given ≡ 4 → ⊥) → eqb answer given ≡ agrees answer label given 0
unfolding agrees
plain answer label given h = rw (ne_eqb given 4 h) (go (eqb answer given))
  where
    go : (t : Bool) → t ≡ t && true
    go true = refl
    go false = refl

module _ (b : List ℕ) (low high : ℕ) where
  -- One label more at the right, stored or there already.
  snoc : (l : List ℕ) (x : ℕ) → low ≤ high → take (suc high) l ≡ take high b ++ (x ∷ []) → high ≤ length b → slice low (high + 1) l
      ≡ slice low high b ++ (x ∷ [])
  snoc l x h e k = ap (λ (m : ℕ). slice low m l) (add-one high) ∙ ap (drop low) e
      ∙ drop-append-le low (take high b) (x ∷ []) (let z = length-take-le high b k in omega arith)

  pub push_right : (x side : ℕ) → side ≡ 1 → low ≤ high → high < length b → slice low (high + 1) (set b high x)
      ≡ seen_from side (x ∷ seen_from side (slice low high b))
  push_right x side e h k =
      snoc (set b high x) x h (take-suc-set b high x k) (omega arith)
      ∙ sym (ap (λ (l : List ℕ). l ++ (x ∷ [])) (reverse-reverse (slice low high b)))
      ∙ sym (reverse-cons x (reverse (slice low high b)))
      ∙ sym (ap (λ (l : List ℕ). reverse (x ∷ l)) (from_right side (slice low high b) e))
      ∙ sym (from_right side (x ∷ seen_from side (slice low high b)) e)

  pub push_left : (x side first : ℕ) → (side ≡ 1 → ⊥) → first + 1 ≡ low → low ≤ high → high ≤ length b
      → slice first high (set b first x) ≡ seen_from side (x ∷ seen_from side (slice low high b))
  push_left x side first e f h k =
      let s : suc first ≡ low = omega arith in
      slice-cons first high (set b first x) 0 (omega arith) (subst (λ (m : ℕ). high ≤ m) (sym (length-set b first x)) k)
      ∙ (λ i. get_or-set_same b first x 0 (omega arith) i ∷ rest i)
      ∙ ap (λ (m : ℕ). x ∷ slice m high b) s
      ∙ sym (ap (λ (l : List ℕ). x ∷ l) (from_left side (slice low high b) e))
      ∙ sym (from_left side (x ∷ seen_from side (slice low high b)) e)
    where
      rest : slice (suc first) high (set b first x) ≡ slice (suc first) high b
      rest = ap (drop (suc first)) (take-set-lt high b first x (omega arith)) ∙ drop-set-lt (suc first) (take high b) first x (omega arith)

  pub pop_none : (side : ℕ) → low ≡ high → take_label side (seen_from side (slice low high b)) ≡ record { answer = 3; label = 0; queue = slice low high b }
  pop_none side e = ap (λ (l : List ℕ). take_label side (seen_from side l)) z ∙ go (eqb side 1)
      ∙ ap (λ (l : List ℕ). record { answer = 3; label = 0; queue = l }) (sym z)
    where
      z : slice low high b ≡ []
      z = ap (λ (m : ℕ). slice m high b) e ∙ slice_empty high b

      go : (t : Bool) → take_label side (cond t (reverse []) []) ≡ record { answer = 3; label = 0; queue = [] }
      go true = refl
      go false = refl

  pub pop_right : (side last d : ℕ) → side ≡ 1 → last + 1 ≡ high → low ≤ last → high ≤ length b
      → take_label side (seen_from side (slice low high b)) ≡ record { answer = 4; label = get_or b last d; queue = slice low last b }
  pop_right side last d e f h k =
      ap (take_label side) (from_right side (slice low high b) e ∙ ap reverse split ∙ flip)
      ∙ ap (λ (l : List ℕ). record { answer = 4; label = get_or b last d; queue = l })
      (from_right side (reverse (slice low last b)) e ∙ reverse-reverse (slice low last b))
    where
      split : slice low high b ≡ slice low last b ++ (get_or b last d ∷ [])
      split = let z : high ≡ suc last = omega arith in
          ap (λ (m : ℕ). slice low m b) z ∙ ap (drop low) (take-suc b last d (omega arith))
          ∙ drop-append-le low (take last b) (get_or b last d ∷ []) (let y = length-take-le last b (omega arith) in omega arith)

      flip : reverse (slice low last b ++ (get_or b last d ∷ [])) ≡ get_or b last d ∷ reverse (slice low last b)
      flip = ap (λ (l : List ℕ). reverse (l ++ (get_or b last d ∷ []))) (sym (reverse-reverse (slice low last b)))
          ∙ ap reverse (sym (reverse-cons (get_or b last d) (reverse (slice low last b)))) ∙ reverse-reverse (get_or b last d ∷ reverse (slice low last b))

  pub pop_left : (side d : ℕ) → (side ≡ 1 → ⊥) → low < high → high ≤ length b
      → take_label side (seen_from side (slice low high b)) ≡ record { answer = 4; label = get_or b low d; queue = slice (low + 1) high b }
  pop_left side d e h k =
      ap (take_label side) (from_left side (slice low high b) e ∙ slice-cons low high b d h k)
      ∙ ap (λ (l : List ℕ). record { answer = 4; label = get_or b low d; queue = l })
      (from_left side (slice (suc low) high b) e ∙ ap (λ (m : ℕ). slice m high b) (sym (add-one low)))
