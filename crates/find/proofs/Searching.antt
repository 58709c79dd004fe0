-- The walk from either end finds the positions.
use mathlib.Core.{Path.{◌≡◌, refl, sym, ap, subst, ◌∙◌}, Bool.{Bool, true, false}}
use mathlib.Core.List.{List, [], ◌∷◌, ◌++◌, append-nil, map}
use Prim.Native.Nat.{ℕ, zero, suc, ◌+◌, ◌<◌, ◌≤◌}
use native.Mathlib.Omega.{arith}
use lib.ListN.{length, get_or, length-reverse, replicate, drop_of_length-le}
use borrow.Author.Tests.{le-leb}
use Rattle.table.specs.Filling.{filling}
use Rattle.model.specs.{declared.Entry.Entry, Walk.{Walk, broken, entries}}
use Rattle.std.specs.Prelude.{Ok}
use Rattle.walk.specs.{declared.Way.Way, Ways.turned_back}
use Rattle.walk.specs.Over.{Made, made, lost, each, over}
use Rattle.find_model.specs.{declared.FindReply.FindReply, Find.{found, refused}, Noting.{note, turned}}
use Rattle.find_model.proofs.Positions.{notes, from_left, from_right}
use Rattle.find.specs.Looked.{Noted, note_on, noted, turning, found_in}
use Rattle.find.proofs.{Noted.{notes_beyond, notes_most}, Turning.turn_all}

abbrev pub blank : List ℕ
blank = replicate 32 0

abbrev pub with : ℕ → List ℕ → Noted
with n ps = record { count = n; positions = ps }

zeros : (n i : ℕ) → ◌≡◌ {A = ℕ} (get_or (replicate n 0) i 0) 0
zeros zero i = refl
zeros (suc n) zero = refl
zeros (suc n) (suc i) = zeros n i

each-noted : (foremost : Bool) (wanted : List ℕ) (k : ℕ) (ps : List ℕ) (l : List Entry)
    → each (note_on foremost wanted) (with k ps) l ≡ with (k + length l) (notes foremost wanted (k + 1) ps l)
each-noted foremost wanted k ps [] = let e : k ≡ k + 0 = omega arith in ap (λ (n : ℕ). with n ps) e
each-noted foremost wanted k ps (e ∷ l) =
    let s : k + 1 + length l ≡ k + length (e ∷ l) = omega arith in
    let qs = note foremost e.label (k + 1) wanted ps in
    each-noted foremost wanted (k + 1) qs l ∙ ap (λ (n : ℕ). with n (notes foremost wanted (k + 1 + 1) qs l)) s

-- What came of the walk: its rows, and what it noted.
module _ (foremost : Bool) (wanted : List ℕ) (n : ℕ) (ps : List ℕ) where
  abbrev Came : Walk → Type 0
  Came v = made (with n ps) ≡ over (note_on foremost wanted) (with 0 blank) v

  rows_are : (l : List Entry) → Came (entries l) → n ≡ length l
  rows_are l e = let z : n ≡ 0 + length l = ap rows (e ∙ ap made (each-noted foremost wanted 0 blank l)) in omega arith
    where
      rows : Made Noted → ℕ
      rows (made s) = s.count
      rows lost = 0

  noted_are : (l : List Entry) → Came (entries l) → ps ≡ notes foremost wanted 1 blank l
  noted_are l e = ap positions (e ∙ ap made (each-noted foremost wanted 0 blank l))
    where
      positions : Made Noted → List ℕ
      positions (made s) = s.positions
      positions lost = []

  -- No position is above the rows.
  pub within : (v : Walk) → Came v → (i : ℕ) → get_or ps i 0 ≤ n
  within (entries l) e i =
      subst (λ (qs : List ℕ). get_or qs i 0 ≤ n) (sym (noted_are l e))
      (omega (arith, rows_are l e, notes_most foremost wanted 0 blank l (λ j. omega (arith, zeros 32 j)) i))
  within broken e i = absurd (let z : ◌≡◌ {A = ℕ} 0 1 = cc in omega arith)

-- The positions zeroed.
pub blanked : (ps : List ℕ) → length ps ≡ 32 → filling 32 0 ps ≡ blank
unfolding filling
blanked ps e =
    rw (le-leb 32 (length ps) (omega arith))
    (ap (λ (l : List ℕ). replicate 32 0 ++ l) (drop_of_length-le ps {i = 32} (omega arith)) ∙ append-nil (replicate 32 0))

-- Where nothing waits nothing is found, nor in a broken walk.
pub none_found : (wanted : List ℕ) → length wanted ≤ 32 → refused 0 ≡ found [] wanted
unfolding found
none_found wanted few = ap (λ (ps : List ℕ). record { code = 0; rows = 0; positions = ps }) (from_left wanted few [])

pub nothing-found : (f : Noted → Entry → Noted) (s : Noted) (w : Way) (v : Walk) (wanted : List ℕ) → lost ≡ over f s v
    → refused 34 ≡ found_in (turned_back w v) wanted
nothing-found f s w (entries l) wanted e = absurd (let z : ◌≡◌ {A = ℕ} 0 1 = cc in omega arith)
nothing-found f s w broken wanted e = refl

module _ (w : Way) (wanted : List ℕ) (few : length wanted ≤ 32) (n : ℕ) (ps : List ℕ) where
  pub left-found : (v : Walk) → w.rightward ≡ true → noted (Ok n) ps ≡ over (note_on w.rightward wanted) (with 0 blank) v
      → ◌≡◌ {A = FindReply} (record { code = 0; rows = n; positions = ps }) (found_in (turned_back w v) wanted)
  unfolding found
  left-found (entries l) z e =
      let e' = rw z at e in
      rw z (λ i. record { code = 0; rows = rows_are true wanted n ps l e' i; positions = (noted_are true wanted n ps l e' ∙ from_left wanted few l) i })
  left-found broken z e = absurd (let y : ◌≡◌ {A = ℕ} 0 1 = cc in omega arith)

  pub right-found : (v : Walk) → w.rightward ≡ false → noted (Ok n) ps ≡ over (note_on w.rightward wanted) (with 0 blank) v
      → ◌≡◌ {A = FindReply} (record { code = 0; rows = n; positions = turning (turned n) (length wanted) ps }) (found_in (turned_back w v) wanted)
  unfolding found
  right-found (entries l) z e =
      let e' = rw z at e in
      let rows = rows_are false wanted n ps l e' in
      let all = noted_are false wanted n ps l e' in
      let beyond : (j : ℕ) → length wanted ≤ j → j < length ps → turned n (get_or ps j 0) ≡ get_or ps j 0 = λ j h g. still all j h in
      rw z (λ i. record {
        code = 0;
        rows = (rows ∙ sym (length-reverse l)) i;
        positions = (turn_all (turned n) (length wanted) ps beyond ∙ (λ j. map (turned (rows j)) (all j)) ∙ from_right wanted few l) i;
      })
    where
      still : ps ≡ notes false wanted 1 blank l → (j : ℕ) → length wanted ≤ j → turned n (get_or ps j 0) ≡ get_or ps j 0
      still all j h = rw (ap (λ (qs : List ℕ). get_or qs j 0) all ∙ notes_beyond false wanted 1 blank l j h ∙ zeros 32 j)
  right-found broken z e = absurd (let y : ◌≡◌ {A = ℕ} 0 1 = cc in omega arith)
