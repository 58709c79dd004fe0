-- A move keeps a record within its meaning, and a new Anchor has one of the three statuses.
use mathlib.Core.{Bool.{Bool, true}, Logic.◌≢◌, Path.{◌≡◌, refl, subst, sym}}
use Prim.Native.Nat.{◌%◌, ◌*◌, ◌+◌, ◌/◌, ◌≤◌, ℕ}
use native.Mathlib.Omega.{arith}
use lib.Dec.{eqb, leb}
use borrow.Author.Tests.{leb-true}
use Rattle.word.specs.{Anchor.{anchor_of, pack_anchor}, Link.{link_of, spare_of}}
use Rattle.model.specs.Places.{Touch, clear_mark, move, new4, nothing, row, set_anchor, set_head, set_link, set_next}
use Rattle.model.specs.{Places.{side_of, take_slot}, Refusals.leaves_sound, Route.goes}
use Rattle.model.specs.declared.{Control.Control, Call.Call}
use Rattle.model.specs.Tables.{with_link, with_neighbour, with_own, with_seen}
use Rattle.model.proofs.{Tests.Truth.by_test, Bridge.{ByMove.by_move, View.kind_of, Touches.row_fine}}
use Rattle.model.proofs.Bridge.Facts.{AnchorFine, RecordFine, anchor_fine}
use Rattle.model.proofs.Unsound.Suits.{Suits, kind_pop, kind_push}

-- What a move leaves of a record.
pub record Keeps (slots : ℕ) (r r' : Call) : Type 0 where
  pub kind : r'.kind ≡ r.kind
  pub side : r'.side ≡ r.side
  pub own : r'.own ≤ slots
  pub neighbour : r'.neighbour ≤ slots
  pub spare : spare_of r'.link ≡ 0
  pub link : (link_of r'.link).slot ≤ slots
  pub seen : AnchorFine slots (anchor_of r'.seen)
  pub finishing : r'.finishing ≤ 1

-- A link word and the head are sound, a next is a slot or 0.
abbrev Fine : ℕ → ℕ → Type 0
Fine slots w = (spare_of w ≡ 0) × ((link_of w).slot ≤ slots)

module _ (pooled : Bool) (c : Control) (r : Call) (w : ℕ) (h : RecordFine pooled c.slots r) (hc : AnchorFine c.slots (anchor_of c.anchor))
    (hw : r.place ≤ 10 → Fine c.slots w) (hn : r.place ≡ 13 → w ≤ c.slots) (hh : Fine c.slots c.head) where
  same : Keeps c.slots r r
  same = record {
    kind = refl;
    side = refl;
    own = h.own;
    neighbour = h.neighbour;
    spare = h.spare;
    link = h.link;
    seen = h.seen;
    finishing = h.finishing;
  }

  finds : (x : ℕ) → x ≤ c.slots → Keeps c.slots r (with_neighbour r x)
  finds x l = record {
    kind = refl;
    side = refl;
    own = h.own;
    neighbour = l;
    spare = h.spare;
    link = h.link;
    seen = h.seen;
    finishing = h.finishing;
  }

  holds : (v : ℕ) → Fine c.slots v → Keeps c.slots r (with_link r v)
  holds v f = record {
    kind = refl;
    side = refl;
    own = h.own;
    neighbour = h.neighbour;
    spare = f.0;
    link = f.1;
    seen = h.seen;
    finishing = h.finishing;
  }

  owns : (x l : ℕ) → x ≤ c.slots → Keeps c.slots r (with_own r x l)
  owns x l e = record {
    kind = refl;
    side = refl;
    own = e;
    neighbour = h.neighbour;
    spare = h.spare;
    link = h.link;
    seen = h.seen;
    finishing = h.finishing;
  }

  remembers : (a f : ℕ) → f ≤ 1 → AnchorFine c.slots (anchor_of a) → Keeps c.slots r (with_seen r a f)
  remembers a f e g = record {
    kind = refl;
    side = refl;
    own = h.own;
    neighbour = h.neighbour;
    spare = h.spare;
    link = h.link;
    seen = g;
    finishing = e;
  }

  pub move-keeps : leaves_sound c.slots (move c r w).touch ≡ true → Keeps c.slots r (move c r w).task
  move-keeps = by_move c w (λ t r'. leaves_sound c.slots t ≡ true → Keeps c.slots r r') r (record {
    same = λ k. same;
    read = λ k. remembers c.anchor r.finishing h.finishing hc;
    found = λ e k. finds (link_of w).slot (hw e).1;
    met = λ e k. holds w (hw e);
    two = λ k. same;
    four_push = λ k. remembers (new4 r) 1 (omega arith) (anchor_fine c.slots (anchor_of (new4 r)) k);
    four_pop = λ k. same;
    ten = λ k. same;
    three = λ k. same;
    nine = λ k. same;
    eleven = λ e k. same;
    keeps = λ e k. owns (row r) w (row_fine pooled c.slots r h);
    head = λ e k. holds c.head hh;
    next = λ e k. finds w (hn e);
    draws = λ e k. owns (row r) r.label (row_fine pooled c.slots r h);
    links = λ e k. same;
    gives = λ e k. same;
  })

-- The record goes to its next place.
pub goes_fine : (pooled : Bool) (slots : ℕ) (r r' : Call) (n : ℕ) → RecordFine pooled slots r → Keeps slots r r'
    → (n ≢ 0 → n ≤ 17 → Suits pooled (kind_of r'.kind) n)
    → (goes r' n).place ≢ 0 → RecordFine pooled slots (goes r' n)
unfolding goes
goes_fine pooled slots r r' n h k suit = by_test (λ (z : Call). z.place ≢ 0 → RecordFine pooled slots z) (leb n 17)
    (λ e b. let low = leb-true n 17 e in
    let w = suit b low in
    let small = subst (λ x. x ≤ 1) (sym k.kind) h.kind in
    record {
      place = low;
      named = w.named;
      kind = small;
      side = subst (λ x. x ≤ 1) (sym k.side) h.side;
      finishing = k.finishing;
      last = λ z. kind_pop r'.kind small (w.last z);
      gives = λ z. kind_pop r'.kind small (w.gives z);
      draws = λ z y. kind_push r'.kind (w.draws z y);
      own = k.own;
      neighbour = k.neighbour;
      spare = k.spare;
      link = k.link;
      seen = k.seen;
    })
    (λ e b. absurd (b refl))

abbrev pub StatusFine : Touch → Type 0
StatusFine nothing = Unit {0}
StatusFine (set_anchor w) = (anchor_of w).status ≤ 2
StatusFine (set_link side x w) = Unit {0}
StatusFine (clear_mark x) = Unit {0}
StatusFine (take_slot w x l) = Unit {0}
StatusFine (set_next x v) = Unit {0}
StatusFine (set_head w) = Unit {0}

status_back : (t c x y : ℕ) → c ≤ 2 → (anchor_of (pack_anchor (record { tag = t; status = c; left = x; right = y }))).status ≤ 2
status_back t c x y h =
    let v = t % 4294967296 * 4294967296 + c % 4 * 1073741824 + x % 32768 * 32768 + y % 32768 in
    let e : v / 1073741824 % 4 ≡ c % 4 = omega arith in
    let p : v / 1073741824 % 4 ≤ 2 = omega arith in p

module _ (pooled : Bool) (c : Control) (r : Call) (w : ℕ) (h : RecordFine pooled c.slots r) where
  new_status : (anchor_of (new4 r)).status ≤ 2
  unfolding new4
  new_status = by_test (λ v. (anchor_of v).status ≤ 2) (eqb r.kind 0)
      (λ e. status_back _ _ _ _ (by_test (λ v. v ≤ 2) (eqb (side_of r) 1) (λ e. omega arith) (λ e. omega arith)))
      (λ e. status_back _ _ _ _ h.seen.status)

  pub move_status : StatusFine (move c r w).touch
  move_status = by_move c w (λ t _. StatusFine t) r (record {
    same = tt;
    read = tt;
    found = λ e. tt;
    met = λ e. tt;
    two = status_back _ _ _ _ h.seen.status;
    four_push = new_status;
    four_pop = new_status;
    ten = status_back _ 0 _ _ (omega arith);
    three = tt;
    nine = tt;
    eleven = λ e. tt;
    keeps = λ e. tt;
    head = λ e. tt;
    next = λ e. tt;
    draws = λ e. tt;
    links = λ e. tt;
    gives = λ e. tt;
  })
