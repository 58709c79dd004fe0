-- Writes one after the other are one write of both texts.
use Prim.Native.Nat.{ℕ, suc, ◌+◌, ◌≤◌}
use native.Mathlib.{Nat.add-zero, Omega.arith}
use mathlib.Core.{Path.{◌≡◌, refl, sym, ap, ◌∙◌}, List.{List, [], ◌∷◌, ◌++◌}}
use lib.{ListN.{length, set, take, drop, length-append}, Seq.{sets, sets-eq, take_all}}
use borrow.Rule.Slice.PartMut.{put_mid}
use Rattle.std.proofs.lemmas.Slice.{put_mid-paste}
use borrow.Author.Tests.{le-leb}
use Rattle.lines.specs.Line.{Put, given_room}

pub sets_append : (l : List ℕ) (i : ℕ) (xs ys : List ℕ) → sets (sets l i xs) (i + length xs) ys ≡ sets l i (xs ++ ys)
sets_append l i [] ys = ap (λ (k : ℕ). sets l k ys) (add-zero i)
sets_append l i (a ∷ xs) ys =
    let e : i + suc (length xs) ≡ suc i + length xs = omega arith in
    ap (λ (k : ℕ). sets (sets (set l i a) (suc i) xs) k ys) e ∙ sets_append (set l i a) (suc i) xs ys

pub put-more : {a b c : List ℕ} {i m r : ℕ} {xs ys : List ℕ} → Put a b i m xs → Put b c m r ys → Put a c i r (xs ++ ys)
put-more {a} {b} {c} {i} {m} {r} {xs} {ys} p q =
    record {
      stop = omega (arith, p.stop, q.stop, length-append xs ys);
      stored = q.stored ∙ rw (p.stored, p.stop) (sets_append a i xs ys);
    }

-- Bytes copied into the part of a list from position at on.
pub put-copied : (l s part : List ℕ) (at k : ℕ) → part ≡ s → k ≡ length s → at + length s ≤ length l
    → Put l (put_mid at k l part) at (at + length s) s
put-copied l s part at k e n h = record {
  stop = refl;
  stored = put_mid-paste at k l part s (length s) e (sym n) refl
      ∙ ap (λ (x : List ℕ). take at l ++ x ++ drop (at + length s) l) (take_all (length s) s (omega arith)) ∙ sym (sets-eq s l at h);
}

pub put-none : (l : List ℕ) (at : ℕ) → Put l l at at []
put-none l at = record { stop = sym (add-zero at); stored = refl }

-- Bytes that have room are written.
pub put-fits : {a b : List ℕ} {i r : ℕ} {xs : List ℕ} (most : ℕ) → Put a b i r (given_room most (length a) i xs) → i + most ≤ length a → Put a b i r xs
unfolding given_room
put-fits {a} {b} {i} {r} {xs} most p h = rw (le-leb (i + most) (length a) h) at p

-- What `put_*` and `write_*` are proved by.
pub ruleset puts = (put-more, put-none, put-fits)
