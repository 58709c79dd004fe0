-- What the tests and the copies of a saving and of a return come to.
use mathlib.Core.{Bool.{Bool, true, false, ◌&&◌, cond}, List.List, Logic.◌≢◌, Path.{◌≡◌, ◌∙◌, ap, refl, subst, sym}}
use Prim.Native.Nat.{ℕ, suc, ◌+◌, ◌/◌, ◌<◌, ◌≤◌}
use native.Mathlib.{Numerals.add-one, Omega.arith}
use lib.{Dec.leb, ListN.{length, set}}
use borrow.Author.Tests.{leb-true, ne_eqb, not-false}
use Rattle.model.specs.{declared.Control.Control, Tables.{Queue, is_pooled, tables_of}, Sound.rows_fit, Refusals.first}
use Rattle.model.proofs.{Bridge.Facts.control_fine, Tests.{Rules.cleared, Truth.and-true}}
use Rattle.sound.specs.{declared.Lengths.Lengths, Lengths.lengths_fit}
use Rattle.layout.{specs.Rows.{control_of, queue_in, records_of, uppers_of}, proofs.Rows.{length_records, length_uppers}}
use Rattle.shelf_model.specs.Shelves.{Shelves, both_hold, copied, holds, over, part, return_refusal, return_rules, saved}
use Rattle.shelf_model.specs.Shelves.{returned, save_refusal, save_rules, shelf_at, with_part, return_tests, save_tests}
use Rattle.shelf_model.proofs.{Parts.part_length, Copied.{Long, long}}
use Rattle.shelf.specs.{Pasting.{put_back, put_on}, Lengths.{both_fit, return_number, save_number}}
use Rattle.shelf.specs.Lent.{Returned, Saved, controls_of, returning, saving, shelves_in}
use Rattle.shelf.proofs.Pasting.{back_is, put_is}
use Rattle.shelf.proofs.Controls.{back-records, back-uppers, length_controls, put-records, put-uppers}

-- A control that passed has at most 1,023 slots.
pub save_low : (c : Control) (n : ℕ) (queue shelves : Lengths) (controls why : ℕ)
    → why ≡ save_number c n queue shelves controls → why ≡ 0 → c.slots ≤ 1023
unfolding save_number
save_low c n queue shelves controls why w z =
    (control_fine c (not-false _ (cleared (save_tests c n (both_fit c queue shelves controls)) refl (sym w ∙ z)).0)).slots

pub return_low : (c : Control) (n : ℕ) (queue shelves : Lengths) (controls why : ℕ)
    → why ≡ return_number c n queue shelves controls → why ≡ 0 → c.slots ≤ 1023
unfolding return_number
return_low c n queue shelves controls why w z =
    (control_fine c (not-false _ (cleared (return_tests c n (both_fit c queue shelves controls)) refl (sym w ∙ z)).1.1.0)).slots

module _ (row : List ℕ) (rs : List (List ℕ)) (l r b m x : List ℕ) (cs8 rs8 : List (List ℕ)) (l8 r8 b8 m8 x8 : List ℕ) (n : ℕ) where
  abbrev q : Queue
  q = queue_in row rs l r b m x

  abbrev s : Shelves
  s = shelves_in cs8 rs8 l8 r8 b8 m8 x8

  abbrev here : Lengths
  here = record { records = length rs; lefts = length l; rights = length r; labels = length b; marks = length m; next = length x }

  abbrev there : Lengths
  there = record { records = length rs8; lefts = length l8; rights = length r8; labels = length b8; marks = length m8; next = length x8 }

  -- The lengths tell what 12 asks.
  fit_is : (c : Control) → n ≤ 7 → both_fit c here there (length cs8) ≡ both_hold c q s n
  unfolding both_fit lengths_fit rows_fit
  fit_is c h = rw (
    length_records rs,
    part_length n l8 h,
    part_length n r8 h,
    part_length n b8 h,
    part_length n m8 h,
    part_length n x8 h,
    part_length n (records_of rs8) h,
    length_records rs8,
    length_controls cs8,
  )

  save_number_lem : save_number (control_of row) n here there (length cs8) ≡ save_refusal q s n
  unfolding save_number save_refusal
  save_number_lem = go (leb n 7) refl
    where
      go : (k : Bool) → leb n 7 ≡ k
          → first (save_tests (control_of row) n (both_fit (control_of row) here there (length cs8))) ≡ first (save_rules q s n)
      go true e = ap (λ (f : Bool). first (save_tests (control_of row) n f)) (fit_is (control_of row) (leb-true n 7 e))
      go false e = rw e

  abbrev on : Control
  on = (shelf_at s n).tables.control

  return_number_lem : return_number on n here there (length cs8) ≡ return_refusal q s n
  unfolding return_number return_refusal
  return_number_lem = go (leb n 7) refl
    where
      go : (k : Bool) → leb n 7 ≡ k → first (return_tests on n (both_fit on here there (length cs8))) ≡ first (return_rules q s n)
      go true e = ap (λ (f : Bool). first (return_tests on n f)) (fit_is on (leb-true n 7 e))
      go false e = rw e

  both_long : (c : Control) → both_hold c q s n ≡ true → Long c q × Long c (shelf_at s n)
  both_long c e =
      let y = and-true (holds c q && holds c (shelf_at s n)) (leb 8 (length (controls_of cs8))) e in
      let z = and-true (holds c q) (holds c (shelf_at s n)) y.0 in
      (long c q z.0, long c (shelf_at s n) z.1)

  -- A refusal changes nothing.
  pub saving-refused : (c : Control) → c ≡ control_of row → (why : ℕ) → why ≡ save_number c n here there (length cs8) → why ≢ 0
      → ◌≡◌ {A = Saved} (record { code = why; shelves = s; uppers = uppers_of rs8 }) (saving q (uppers_of rs) s (uppers_of rs8) n)
  unfolding saving saved
  saving-refused c e why w ne =
      let same : why ≡ save_refusal q s n = w ∙ ap (λ (d : Control). save_number d n here there (length cs8)) e ∙ save_number_lem in
      rw (ne_eqb (save_refusal q s n) 0 (λ z. ne (same ∙ z))) (λ i. record { code = same i; shelves = s; uppers = uppers_of rs8 })

  pub returning-refused : (c : Control) → c ≡ on → (why : ℕ) → why ≡ return_number c n here there (length cs8) → why ≢ 0
      → ◌≡◌ {A = Returned} (record { code = why; queue = q; uppers = uppers_of rs }) (returning q (uppers_of rs) s (uppers_of rs8) n)
  unfolding returning returned
  returning-refused c e why w ne =
      let same : why ≡ return_refusal q s n = w ∙ ap (λ (d : Control). return_number d n here there (length cs8)) e ∙ return_number_lem in
      rw (ne_eqb (return_refusal q s n) 0 (λ z. ne (same ∙ z))) (λ i. record { code = same i; queue = q; uppers = uppers_of rs })

  -- One table put on the shelf, or back, by its last row.
  module _ (h : n ≤ 7) where
    row_put : (t t8 : List ℕ) (k : ℕ) → k < length t → k < length (part n t8)
        → put_on n (k + 1) t t8 ≡ with_part n t8 (over (suc k) t (part n t8))
    row_put t t8 k f g = ap (λ (j : ℕ). put_on n j t t8) (add-one k) ∙ put_is n (suc k) t t8 h f (let z = part_length n t8 h in omega arith)

    row_back : (t t8 : List ℕ) (k : ℕ) → k < length t → k < length (part n t8) → put_back n (k + 1) t8 t ≡ over (suc k) (part n t8) t
    row_back t t8 k f g = ap (λ (j : ℕ). put_back n j t8 t) (add-one k)
        ∙ back_is n (suc k) t8 t h (let z = part_length n t8 h in omega arith) f

    next-put : (p : Bool) (k : ℕ) → (p ≡ true → k < length x) → (p ≡ true → k < length (part n x8))
        → put_on n (cond p (k + 1) 0) x x8 ≡ with_part n x8 (cond p (over (suc k) x (part n x8)) (part n x8))
    next-put true k f g = row_put x x8 k (f refl) (g refl)
    next-put false k f g = put_is n 0 x x8 h (omega arith) (omega arith)

    next-back : (p : Bool) (k : ℕ) → (p ≡ true → k < length x) → (p ≡ true → k < length (part n x8))
        → put_back n (cond p (k + 1) 0) x8 x ≡ cond p (over (suc k) (part n x8) x) x
    next-back true k f g = row_back x x8 k (f refl) (g refl)
    next-back false k f g = back_is n 0 x8 x h (omega arith) (omega arith)

    -- A shelf's part of the records, by any of their fields.
    module _ (c : Control) (f : Long c q) (g : Long c (shelf_at s n)) where
      few : c.tasks ≤ length rs
      few = omega (arith, f.records, length_records rs)

      few8 : c.tasks ≤ length rs8 / 8
      few8 = let z = part_length n (records_of rs8) h in omega (arith, g.records, length_records rs8)

      records-put : records_of (put_on n c.tasks rs rs8)
          ≡ with_part n (records_of rs8) (over c.tasks (records_of rs) (part n (records_of rs8)))
      records-put = put-records n c.tasks rs rs8
          ∙ put_is n c.tasks (records_of rs) (records_of rs8) h
          (omega (arith, few, length_records rs)) (omega (arith, few8, length_records rs8))

      uppers-put : uppers_of (put_on n c.tasks rs rs8) ≡ with_part n (uppers_of rs8) (over c.tasks (uppers_of rs) (part n (uppers_of rs8)))
      uppers-put = put-uppers n c.tasks rs rs8
          ∙ put_is n c.tasks (uppers_of rs) (uppers_of rs8) h
          (omega (arith, few, length_uppers rs)) (omega (arith, few8, length_uppers rs8))

      records-back : records_of (put_back n c.tasks rs8 rs) ≡ over c.tasks (part n (records_of rs8)) (records_of rs)
      records-back = back-records n c.tasks rs8 rs
          ∙ back_is n c.tasks (records_of rs8) (records_of rs) h
          (omega (arith, few8, length_records rs8)) (omega (arith, few, length_records rs))

      uppers-back : uppers_of (put_back n c.tasks rs8 rs) ≡ over c.tasks (part n (uppers_of rs8)) (uppers_of rs)
      uppers-back = back-uppers n c.tasks rs8 rs
          ∙ back_is n c.tasks (uppers_of rs8) (uppers_of rs) h
          (omega (arith, few8, length_uppers rs8)) (omega (arith, few, length_uppers rs))

  -- What the copies of a saving leave.
  abbrev shelves_after : List (List ℕ) → Control → Shelves
  shelves_after cs c = shelves_in cs (put_on n c.tasks rs rs8)
      (put_on n (c.slots + 1) l l8) (put_on n (c.slots + 1) r r8) (put_on n (c.slots + 1) b b8)
      (put_on n (c.slots / 64 + 1) m m8) (put_on n (cond (is_pooled c) (c.slots + 1) 0) x x8)

  saved_so : (cs : List (List ℕ)) → save_refusal q s n ≡ 0 → controls_of cs ≡ set (controls_of cs8) n (control_of row)
      → ◌≡◌ {A = Saved}
      (record { code = 0; shelves = shelves_after cs (control_of row); uppers = uppers_of (put_on n (control_of row).tasks rs rs8) })
      (saving q (uppers_of rs) s (uppers_of rs8) n)
  unfolding saving saved copied save_refusal
  saved_so cs none k =
      let c = control_of row in
      let z = cleared (save_rules q s n) refl none in
      let h = leb-true n 7 (not-false _ z.1.0) in
      let both = both_long c (not-false _ z.1.1.0) in
      let f = both.0 in
      let g = both.1 in
      rw none (λ i. record {
        code = 0;
        shelves = record {
          controls = k i;
          records = records-put h c f g i;
          lefts = row_put h l l8 c.slots f.lefts g.lefts i;
          rights = row_put h r r8 c.slots f.rights g.rights i;
          labels = row_put h b b8 c.slots f.labels g.labels i;
          marks = row_put h m m8 (c.slots / 64) f.marks g.marks i;
          next = next-put h (is_pooled c) c.slots f.next g.next i;
        };
        uppers = uppers-put h c f g i;
      })

  saving-done : (cs : List (List ℕ)) (c : Control) → c ≡ control_of row → (why : ℕ) → why ≡ save_number c n here there (length cs8) → why ≡ 0
      → controls_of cs ≡ set (controls_of cs8) n (control_of row)
      → ◌≡◌ {A = Saved} (record { code = 0; shelves = shelves_after cs c; uppers = uppers_of (put_on n c.tasks rs rs8) })
      (saving q (uppers_of rs) s (uppers_of rs8) n)
  saving-done cs c e why w z k =
      let none : save_refusal q s n ≡ 0 = sym save_number_lem
      ∙ ap (λ (d : Control). save_number d n here there (length cs8)) (sym e) ∙ sym w ∙ z in
      subst (λ (d : Control). ◌≡◌ {A = Saved}
      (record { code = 0; shelves = shelves_after cs d; uppers = uppers_of (put_on n d.tasks rs rs8) })
      (saving q (uppers_of rs) s (uppers_of rs8) n)) (sym e) (saved_so cs none k)

  pub saving-lent : (cs rs' : List (List ℕ)) (l' r' b' m' x' : List ℕ) (c : Control) → c ≡ control_of row
      → (why : ℕ) → why ≡ save_number c n here there (length cs8) → why ≡ 0
      → controls_of cs ≡ set (controls_of cs8) n (control_of row) → rs' ≡ put_on n c.tasks rs rs8
      → l' ≡ put_on n (c.slots + 1) l l8 → r' ≡ put_on n (c.slots + 1) r r8 → b' ≡ put_on n (c.slots + 1) b b8
      → m' ≡ put_on n (c.slots / 64 + 1) m m8 → x' ≡ put_on n (cond (is_pooled c) (c.slots + 1) 0) x x8
      → ◌≡◌ {A = Saved} (record { code = 0; shelves = shelves_in cs rs' l' r' b' m' x'; uppers = uppers_of rs' })
      (saving q (uppers_of rs) s (uppers_of rs8) n)
  saving-lent cs rs' l' r' b' m' x' c e why w z k er el err eb em ex =
      (λ i. record { code = 0; shelves = shelves_in cs (er i) (el i) (err i) (eb i) (em i) (ex i); uppers = uppers_of (er i) })
      ∙ saving-done cs c e why w z k

  -- What the copies of a return leave, under the shelf's control.
  abbrev queue_after : List ℕ → Control → Queue
  queue_after row' c = queue_in row' (put_back n c.tasks rs8 rs)
      (put_back n (c.slots + 1) l8 l) (put_back n (c.slots + 1) r8 r) (put_back n (c.slots + 1) b8 b)
      (put_back n (c.slots / 64 + 1) m8 m) (put_back n (cond (is_pooled c) (c.slots + 1) 0) x8 x)

  returned_so : (row' : List ℕ) → return_refusal q s n ≡ 0 → control_of row' ≡ on
      → ◌≡◌ {A = Returned} (record { code = 0; queue = queue_after row' on; uppers = uppers_of (put_back n on.tasks rs8 rs) })
      (returning q (uppers_of rs) s (uppers_of rs8) n)
  unfolding returning returned copied return_refusal
  returned_so row' none k =
      let z = cleared (return_rules q s n) refl none in
      let h = leb-true n 7 (not-false _ z.0) in
      let both = both_long on (not-false _ z.1.1.1.0) in
      let f = both.0 in
      let g = both.1 in
      rw none (λ i. record {
        code = 0;
        queue = record {
          tables = tables_of (k i)
              (row_back h l l8 on.slots f.lefts g.lefts i)
              (row_back h r r8 on.slots f.rights g.rights i)
              (row_back h b b8 on.slots f.labels g.labels i)
              (row_back h m m8 (on.slots / 64) f.marks g.marks i)
              (next-back h (is_pooled on) on.slots f.next g.next i);
          records = records-back h on f g i;
        };
        uppers = uppers-back h on f g i;
      })

  returning-done : (row' : List ℕ) (c : Control) → c ≡ control_of row' → control_of row' ≡ on
      → (why : ℕ) → why ≡ return_number c n here there (length cs8) → why ≡ 0
      → ◌≡◌ {A = Returned} (record { code = 0; queue = queue_after row' c; uppers = uppers_of (put_back n c.tasks rs8 rs) })
      (returning q (uppers_of rs) s (uppers_of rs8) n)
  returning-done row' c e k why w z =
      let f = e ∙ k in
      let none : return_refusal q s n ≡ 0 = sym return_number_lem
      ∙ ap (λ (d : Control). return_number d n here there (length cs8)) (sym f) ∙ sym w ∙ z in
      subst (λ (d : Control). ◌≡◌ {A = Returned}
      (record { code = 0; queue = queue_after row' d; uppers = uppers_of (put_back n d.tasks rs8 rs) })
      (returning q (uppers_of rs) s (uppers_of rs8) n)) (sym f) (returned_so row' none k)

  pub returning-lent : (row' : List ℕ) (rs' : List (List ℕ)) (l' r' b' m' x' : List ℕ) (c : Control)
      → c ≡ control_of row' → control_of row' ≡ on
      → (why : ℕ) → why ≡ return_number c n here there (length cs8) → why ≡ 0
      → rs' ≡ put_back n c.tasks rs8 rs
      → l' ≡ put_back n (c.slots + 1) l8 l → r' ≡ put_back n (c.slots + 1) r8 r → b' ≡ put_back n (c.slots + 1) b8 b
      → m' ≡ put_back n (c.slots / 64 + 1) m8 m → x' ≡ put_back n (cond (is_pooled c) (c.slots + 1) 0) x8 x
      → ◌≡◌ {A = Returned} (record { code = 0; queue = queue_in row' rs' l' r' b' m' x'; uppers = uppers_of rs' })
      (returning q (uppers_of rs) s (uppers_of rs8) n)
  returning-lent row' rs' l' r' b' m' x' c e k why w z er el err eb em ex =
      (λ i. record { code = 0; queue = queue_in row' (er i) (el i) (err i) (eb i) (em i) (ex i); uppers = uppers_of (er i) })
      ∙ returning-done row' c e k why w z
