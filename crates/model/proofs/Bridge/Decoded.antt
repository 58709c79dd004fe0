-- A step of the tables, decoded, and what it takes for it to be the machine's.
use mathlib.Core.{List.[], Path.◌≡◌}
use Prim.Native.Nat.{◌<◌, ℕ}
use lib.{Dec.eqb, ListN.get_or}
use Rattle.word.specs.{Anchor.anchor_of, Link.link_of}
use Rattle.model.specs.{Calls.entry_of, Tables.Tables, Places.{Move, word_found, move}, declared.Call.Call}
use Rattle.model.specs.Route.{answer, goes, onward, pop_route, push_route, route}
use Rattle.model.proofs.{Tests.Truth.split, Bridge.View.{answer_seen, link_at, place_of, rec_of, touch_seen, view}}
use Rattle.model.proofs.Machine.Machine as M

-- Where a record goes with a place's move.
abbrev pub next : Call → Move → ℕ
next r m = onward (route r.place r.kind m.branch) m.task.finishing

abbrev pub seen_move : Tables → Call → M.Move
seen_move q r =
    let m = move q.control r (word_found q r) in
    record {
      touch = touch_seen m.touch;
      rec = rec_of (goes m.task (next r m));
      answer = answer_seen (answer (next r m) (entry_of q r));
    }

-- The step of a record is that of the decoded machine.
abbrev pub Seen : Tables → Call → Type 0
Seen q r = M.act (place_of r.place) (view q) (rec_of r) ≡ seen_move q r

-- The tag that a change would raise has room.
abbrev pub AnchorRoom : Tables → Call → Type 0
AnchorRoom q r = q.control.anchor ≡ r.seen → (anchor_of r.seen).tag < 4294967295

abbrev pub LinkRoom : Tables → Call → Type 0
LinkRoom q r = link_at q (eqb (anchor_of r.seen).status 1) r.neighbour ≡ r.link → (link_of r.link).tag < 4294967295

abbrev pub HeadRoom : Tables → Call → Type 0
HeadRoom q r = q.control.head ≡ r.link → (link_of r.link).tag < 4294967295

abbrev pub RoomAt : Tables → Call → M.Place → Type 0
RoomAt q r M.idle = Unit {0}
RoomAt q r M.at1 = Unit {0}
RoomAt q r M.at2 = AnchorRoom q r
RoomAt q r M.at3 = Unit {0}
RoomAt q r M.at4 = AnchorRoom q r
RoomAt q r M.at5 = Unit {0}
RoomAt q r M.at6 = Unit {0}
RoomAt q r M.at7 = Unit {0}
RoomAt q r M.at8 = Unit {0}
RoomAt q r M.at9 = LinkRoom q r
RoomAt q r M.at10 = AnchorRoom q r
RoomAt q r M.at11 = Unit {0}
RoomAt q r (M.draw M.at12) = Unit {0}
RoomAt q r (M.draw M.at13) = Unit {0}
RoomAt q r (M.draw M.at14) = HeadRoom q r
RoomAt q r (M.give M.at15) = Unit {0}
RoomAt q r (M.give M.at16) = Unit {0}
RoomAt q r (M.give M.at17) = HeadRoom q r

-- The route of a place that push and pop share.
pub route_shared : (p k o : ℕ) → get_or push_route p [] ≡ get_or pop_route p [] → route p k o ≡ get_or (get_or pop_route p []) o 0
unfolding route
route_shared p k o z = split (eqb k 0) (λ e. rw (e, z)) (λ e. rw e)

pub same-touch : {t u : M.Touch} {r : M.Rec} {v : M.Answer} → t ≡ u → ◌≡◌ {A = M.Move} (record { touch = t; rec = r; answer = v })
    (record { touch = u; rec = r; answer = v })
same-touch {r = r} {v = v} p = λ i. record { touch = p i; rec = r; answer = v }
