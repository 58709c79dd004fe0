-- What the tests of soundness and of length say, as facts.
use mathlib.Core.{Bool.{Bool, cond, false, not, true}, Logic.◌≢◌, Path.{◌∙◌, ◌≡◌, ap, refl, sym}}
use Prim.Native.Nat.{◌/◌, ◌<◌, ◌^◌, ◌≤◌, ℕ}
use native.Mathlib.Omega.{arith}
use lib.{Dec.{eqb, leb}, ListN.{get_or, length}}
use borrow.Author.Tests.{eq-eqb, eqb-true, le-leb, leb-true, ltb-true, ne_eqb}
use Rattle.word.specs.{Anchor.anchor_of, Link.{link_of, spare_of}, declared.Anchor.Anchor}
use Rattle.model.specs.Sound.{anchor_sound, anchor_tests, control_sound, control_tests, from1, link_sound, record_sound}
use Rattle.model.specs.{Sound.{record_tests, row_tests, rows_fit}, Tables.{Tables, is_pooled}, Kinds.{giving, owning}}
use Rattle.model.specs.declared.{Control.Control, Call.Call}
use Rattle.model.proofs.{Tests.Rules.tests, Bridge.View.link_at}
use Rattle.model.proofs.Tests.Truth.{and_of, and-true, beq_eq, not_both, or_first, or_left, or_right, or_second}

pub record AnchorFine (slots : ℕ) (a : Anchor) : Type 0 where
  pub status : a.status ≤ 2
  pub left : a.left ≤ slots
  pub right : a.right ≤ slots
  pub null : a.left ≡ 0 → a.right ≡ 0
  pub full : a.right ≡ 0 → a.left ≡ 0
  pub single : a.left ≡ a.right → a.status ≡ 0

pub anchor_fine : (slots : ℕ) (a : Anchor) → anchor_sound slots a ≡ true → AnchorFine slots a
unfolding anchor_sound
anchor_fine slots a e =
    let z = tests (anchor_tests slots a) e in
    let b = beq_eq _ _ z.1.1.1.0 in
    record {
      status = leb-true _ _ z.0;
      left = leb-true _ _ z.1.0;
      right = leb-true _ _ z.1.1.0;
      null = λ p. eqb-true _ _ (sym b ∙ eq-eqb _ _ p);
      full = λ p. eqb-true _ _ (b ∙ eq-eqb _ _ p);
      single = λ p. eqb-true _ _ (or_left _ _ z.1.1.1.1.0 (ap not (eq-eqb _ _ p)));
    }

-- A busy record's fields are within their ranges, and its kind suits its place. (What its own slot is, Task and Extra say.)
pub record RecordFine (pooled : Bool) (slots : ℕ) (r : Call) : Type 0 where
  pub place : r.place ≤ 17
  pub named : pooled ≡ false → r.place ≤ 11
  pub kind : r.kind ≤ 1
  pub side : r.side ≤ 1
  pub finishing : r.finishing ≤ 1
  pub last : r.place ≡ 11 → r.kind ≡ 1
  pub gives : 15 ≤ r.place → r.kind ≡ 1
  pub draws : 12 ≤ r.place → r.place ≤ 14 → r.kind ≡ 0
  pub own : r.own ≤ slots
  pub neighbour : r.neighbour ≤ slots
  pub spare : spare_of r.link ≡ 0
  pub link : (link_of r.link).slot ≤ slots
  pub seen : AnchorFine slots (anchor_of r.seen)

pub from1_true : (n x : ℕ) → from1 n x ≡ true → (1 ≤ x) × (x ≤ n)
from1_true n x e = let z = and-true (leb 1 x) (leb x n) e in (leb-true _ _ z.0, leb-true _ _ z.1)

own_fine : (slots x : ℕ) (b : Bool) → cond b (from1 slots x) (eqb x 0) ≡ true → x ≤ slots
own_fine slots x true e = (from1_true slots x e).1
own_fine slots x false e = omega (arith, eqb-true x 0 e)

place_fine : (b : Bool) (p : ℕ) → leb p (cond b 17 11) ≡ true → (p ≤ 17) × (b ≡ false → p ≤ 11)
place_fine true p e = (leb-true _ _ e, λ z. absurd (not_both refl z))
place_fine false p e = let h = leb-true p 11 e in (omega arith, λ z. h)

pub link_fine : (slots w : ℕ) → link_sound slots w ≡ true → (spare_of w ≡ 0) × ((link_of w).slot ≤ slots)
unfolding link_sound
link_fine slots w e = let z = and-true (eqb (spare_of w) 0) (leb (link_of w).slot slots) e in (eqb-true _ _ z.0, leb-true _ _ z.1)

pub record_fine : (pooled : Bool) (slots : ℕ) (r : Call) → record_sound pooled slots r ≡ true → r.place ≢ 0 → RecordFine pooled slots r
unfolding record_sound
record_fine pooled slots r e n =
    let z = tests (record_tests pooled slots r) (or_right _ _ e (ne_eqb _ _ n)) in
    let place = place_fine pooled r.place z.0 in
    let rest = z.1.1.1.1.1.1.1 in
    let read = rest.1.1 in
    let lk = link_fine slots r.link read.1.0 in
    record {
      place = place.0;
      named = place.1;
      kind = leb-true _ _ z.1.0;
      side = leb-true _ _ z.1.1.0;
      finishing = leb-true _ _ z.1.1.1.0;
      last = λ p. eqb-true _ _ (or_right _ _ z.1.1.1.1.0 (ap not (or_first (giving r) (eq-eqb _ _ p))));
      gives = λ p. eqb-true _ _ (or_right _ _ z.1.1.1.1.0 (ap not (or_second (eqb r.place 11) (le-leb _ _ p))));
      draws = λ p l. eqb-true _ _ (or_right _ _ z.1.1.1.1.1.0 (ap not (and_of (le-leb _ _ p) (le-leb _ _ l))));
      own = own_fine slots r.own (owning r) rest.0;
      neighbour = leb-true _ _ read.0;
      spare = lk.0;
      link = lk.1;
      seen = anchor_fine slots _ read.1.1.0;
    }

pub record ControlFine (c : Control) : Type 0 where
  pub tasks : c.tasks ≤ 16
  pub some : 1 ≤ c.slots
  pub slots : c.slots ≤ 1023
  pub anchor : AnchorFine c.slots (anchor_of c.anchor)

pub control_fine : (c : Control) → control_sound c ≡ true → ControlFine c
unfolding control_sound
control_fine c e =
    let z = tests (control_tests c) e in
    let t = from1_true 16 c.tasks z.0 in
    let x = from1_true 1023 c.slots z.1.0 in
    record { tasks = t.1; some = x.0; slots = x.1; anchor = anchor_fine _ _ z.1.1.0 }

pub record RowsFine (q : Tables) : Type 0 where
  pub lefts : q.control.slots < length q.lefts
  pub rights : q.control.slots < length q.rights
  pub labels : q.control.slots < length q.labels
  pub marks : q.control.slots / 64 < length q.marks
  pub next : is_pooled q.control ≡ true → q.control.slots < length q.next

pub rows_fine : (q : Tables) → rows_fit (is_pooled q.control) q.control.slots q ≡ true → RowsFine q
unfolding rows_fit
rows_fine q e =
    let z = tests (row_tests (is_pooled q.control) q.control.slots q) e in
    record {
      lefts = ltb-true _ _ z.0;
      rights = ltb-true _ _ z.1.0;
      labels = ltb-true _ _ z.1.1.0;
      marks = ltb-true _ _ z.1.1.1.0;
      next = λ p. ltb-true _ _ (or_right _ _ z.1.1.1.1.0 (ap not p));
    }

-- Every link word of rows 0 to slots is sound, and so are, in a pooled queue, every next and the head. (16. No test says so of all of them:
-- it is kept from the opening on.)
pub record LinksFine (q : Tables) : Type 0 where
  pub spare : (d : Bool) (x : ℕ) → x ≤ q.control.slots → spare_of (link_at q d x) ≡ 0
  pub tag : (d : Bool) (x : ℕ) → x ≤ q.control.slots → (link_of (link_at q d x)).tag < 2 ^ 32
  pub slot : (d : Bool) (x : ℕ) → x ≤ q.control.slots → (link_of (link_at q d x)).slot ≤ q.control.slots
  pub next : is_pooled q.control ≡ true → (x : ℕ) → x ≤ q.control.slots → get_or q.next x 0 ≤ q.control.slots
  pub head : (spare_of q.control.head ≡ 0) × ((link_of q.control.head).slot ≤ q.control.slots) × ((link_of q.control.head).tag < 2 ^ 32)
