-- A label noted by the walk, and the walk's length.
use mathlib.Core.{Bool.{Bool, true, false, cond}, List.{List, [], ◌∷◌}, Path.{◌≡◌, ap, ◌∙◌}}
use Prim.Native.Nat.{ℕ, zero, suc, ◌+◌, ◌≤◌}
use native.Mathlib.{Nat.zero-add, Omega.arith}
use lib.{Dec.eqb, ListN.{length, get_or, set}}
use Rattle.word.specs.Link.{link_of}
use Rattle.model.specs.{declared.Entry.Entry, Sound.{from1, link_sound}, Walk.{Walk, entries, broken, and_then, along}}
use Rattle.sheet.specs.Extents.{Noting, place_of, lower, higher, noted, next_at}

-- A label noted at its place.
pub noted-is : (up : Bool) (listed : List ℕ) (k x y z at : ℕ) (low high low' high' : List ℕ) → k ≡ 0 + place_of x listed → x ≡ y
    → low' ≡ set low k (lower at (get_or low k 0)) → high' ≡ set high k (higher at (get_or high k 0))
    → ◌≡◌ {A = Noting} (record { at = next_at up at; low = low'; high = high' })
    (noted up listed (record { at = at; low = low; high = high }) (record { slot = z; label = y }))
noted-is up listed k x y z at low high low' high' e f g h =
    let p : k ≡ place_of y listed = e ∙ zero-add (place_of x listed) ∙ ap (λ (v : ℕ). place_of v listed) f in
    (λ i. record {
      at = next_at up at;
      low = (g ∙ ap (λ (p : ℕ). set low p (lower at (get_or low p 0))) p) i;
      high = (h ∙ ap (λ (p : ℕ). set high p (higher at (get_or high p 0))) p) i;
    })

abbrev pub Short : ℕ → Walk → Type 0
Short n (entries l) = length l ≤ n
Short n broken = Unit {0}

-- No more entries than slots.
pub along_short : (slots : ℕ) (links labels : List ℕ) (last n x : ℕ) → Short n (along slots links labels last n x)
unfolding along
along_short slots links labels last zero x = tt
along_short slots links labels last (suc n) x =
    go (from1 slots x) (eqb x last) (link_sound slots (get_or links x 0)) (along_short slots links labels last n (link_of (get_or links x 0)).slot)
  where
    y : Entry
    y = record { slot = x; label = get_or labels x 0 }

    more : (w : Walk) → Short n w → Short (suc n) (and_then y w)
    more (entries l) h = omega arith
    more broken h = tt

    go : (p q r : Bool) → Short n (along slots links labels last n (link_of (get_or links x 0)).slot)
        → Short (suc n) (cond p (cond q (entries (y ∷ []))
        (and_then y (cond r (along slots links labels last n (link_of (get_or links x 0)).slot) broken))) broken)
    go false q r h = tt
    go true true r h = omega arith
    go true false false h = tt
    go true false true h = more (along slots links labels last n (link_of (get_or links x 0)).slot) h
