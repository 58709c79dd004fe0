-- The tables, words and records as the decoded machine sees them.
use mathlib.Core.{Bool.{Bool, cond, false, true}, List.{List, [], ◌∷◌}}
use Prim.Native.Nat.{ℕ}
use lib.{Dec.{eqb, ltb}, ListN.get_or}
use Rattle.word.specs.{Anchor.anchor_of, Link.link_of}
use Rattle.model.specs.Places as place
use Rattle.model.specs.{Tables.{Queue, Tables, is_pooled, marked, record_at}, declared.Call.Call}
use Rattle.model.specs.declared.Answer as answer
use Rattle.model.proofs.Machine.Machine.{Anchor, Answer, Kind, Link, Place, Rec, Shared, State, Status, Touch}
use Rattle.model.proofs.Machine.Machine.{at1, at10, at11, at12, at13, at14, at15, at16, at17, at2, at3, at4, at5}
use Rattle.model.proofs.Machine.Machine.{at6, at7, at8, at9, blank, clear, draw, empty, give, idle, no_free_slot}
use Rattle.model.proofs.Machine.Machine.{none, pop, popped, push, pushed, pushing, put_anchor, put_head, put_link}
use Rattle.model.proofs.Machine.Machine.{put_next, running, stable, take}

abbrev pub status_of : ℕ → Status
status_of n = cond (eqb n 1) (pushing true) (cond (eqb n 2) (pushing false) stable)

abbrev pub anchor_seen : ℕ → Anchor
anchor_seen w = record { tag = (anchor_of w).tag; status = status_of (anchor_of w).status; left = (anchor_of w).left; right = (anchor_of w).right }

abbrev pub link_seen : ℕ → Link
link_seen w = record { tag = (link_of w).tag; slot = (link_of w).slot }

abbrev pub kind_of : ℕ → Kind
kind_of n = cond (eqb n 0) push pop

abbrev pub place_list : List Place
place_list = idle ∷ at1 ∷ at2 ∷ at3 ∷ at4 ∷ at5 ∷ at6 ∷ at7 ∷ at8 ∷ at9 ∷ at10 ∷ at11 ∷ draw at12 ∷ draw at13 ∷ draw at14 ∷ give at15 ∷ give at16
    ∷ give at17 ∷ []

abbrev pub place_of : ℕ → Place
place_of n = get_or place_list n idle

unfoldable pub rec_of : Call → Rec
rec_of r = record {
  place = place_of r.place;
  kind = kind_of r.kind;
  side = eqb r.side 1;
  own = r.own;
  label = r.label;
  read = anchor_seen r.seen;
  near = r.neighbour;
  link = link_seen r.link;
  finishing = eqb r.finishing 1;
}

-- The link word of slot x that leads to a side (true: right).
abbrev pub link_at : Tables → Bool → ℕ → ℕ
link_at q d x = get_or (cond d q.rights q.lefts) x 0

unfoldable pub view : Tables → Shared
view q = record {
  slots = q.control.slots;
  pooled = is_pooled q.control;
  anchor = anchor_seen q.control.anchor;
  head = link_seen q.control.head;
  link = λ d x. link_seen (link_at q d x);
  next = λ x. get_or q.next x 0;
  label = λ x. get_or q.labels x 0;
  mark = λ x. marked q.marks x;
}

-- Records beyond the tasks count as idle.
unfoldable pub state_of : Queue → State
state_of q = record { shared = view q.tables; task = λ t. cond (ltb t q.tables.control.tasks) (rec_of (record_at q t)) blank }

abbrev pub answer_seen : answer.Answer → Answer
answer_seen (answer.TheVariants.Running p) = running
answer_seen answer.TheVariants.Pushed = pushed
answer_seen answer.TheVariants.Empty = empty
answer_seen (answer.TheVariants.Popped e) = popped e.slot e.label
answer_seen answer.TheVariants.NoFreeSlot = no_free_slot

abbrev pub touch_seen : place.Touch → Touch
touch_seen place.nothing = none
touch_seen (place.set_anchor w) = put_anchor (anchor_seen w)
touch_seen (place.set_link side x w) = put_link (eqb side 1) x (link_seen w)
touch_seen (place.clear_mark x) = clear x
touch_seen (place.take_slot w x l) = take (link_seen w) x l
touch_seen (place.set_next x v) = put_next x v
touch_seen (place.set_head w) = put_head (link_seen w)
