-- The lent tables as lists of numbers. (Document 01: Tables.)
use mathlib.Core.{Bool.{Bool, cond}, List.List}
use Rattle.std.specs.Prelude.{ℕ, ◌+◌, ◌*◌, ◌/◌, ◌%◌, ◌^◌}
use lib.{Dec.eqb, ListN.{get_or, set}}
use Rattle.word.specs.Anchor.{pack_anchor, empty_anchor}
use Rattle.model.specs.declared.{Control.Control, Call.Call, Record.Record}

-- What all tasks share: control, the slot rows (a Left and a Right link word and a label), the marks; in a pooled queue the next table too.
pub record Tables : Type 0 where
  pub control : Control
  pub lefts : List ℕ
  pub rights : List ℕ
  pub labels : List ℕ
  pub marks : List ℕ
  pub next : List ℕ

-- The tables with the task records, one for each task.
pub record Queue : Type 0 where
  pub tables : Tables
  pub records : List Record

-- Both, as a call is lent them.
abbrev pub tables_of : Control → List ℕ → List ℕ → List ℕ → List ℕ → List ℕ → Tables
tables_of control lefts rights labels marks next =
    record { control = control; lefts = lefts; rights = rights; labels = labels; marks = marks; next = next }

abbrev pub queue_of : Control → List Record → List ℕ → List ℕ → List ℕ → List ℕ → List ℕ → Queue
queue_of control records lefts rights labels marks next =
    record { tables = tables_of control lefts rights labels marks next; records = records }

-- Pooled, not named. (Request #104.)
abbrev pub is_pooled : Control → Bool
is_pooled c = eqb c.pooled 1

-- The fields of control, of a call and of the tables are listed here alone, and in crate `rows`, which says which word is which field:
-- elsewhere they are made by the functions of this file. Control as an opening leaves it: Anchor empty and STABLE with the first tag;
-- in a pooled queue the head is tag 0, slot 1.
abbrev pub opened_control : Bool → ℕ → ℕ → ℕ → Control
opened_control pooled tasks slots tag =
    record { tasks = tasks; slots = slots; anchor = pack_anchor (empty_anchor tag); pooled = cond pooled 1 0; head = cond pooled 1 0 }

-- Control before any opening, all zero.
abbrev pub unopened : Control
unopened = record { tasks = 0; slots = 0; anchor = 0; pooled = 0; head = 0 }

-- Control with another Anchor and head, the words that tasks change.
abbrev pub with_words : Control → ℕ → ℕ → Control
with_words c anchor head = record { tasks = c.tasks; slots = c.slots; anchor = anchor; pooled = c.pooled; head = head }

-- A call at its first place: kind, side, own slot and label, the rest zero.
abbrev pub new_call : ℕ → ℕ → ℕ → ℕ → ℕ → Call
new_call place kind side own label =
    record { place = place; kind = kind; side = side; own = own; label = label; seen = 0; neighbour = 0; link = 0; finishing = 0 }

-- No call: all zero.
abbrev pub idle : Call
idle = new_call 0 0 0 0 0

-- A start writes the whole call: place 1, kind, side, own slot and label; a push start that names no slot place 12, side and label.
abbrev pub started : ℕ → ℕ → ℕ → ℕ → Call
started kind side own label = new_call 1 kind side own label

abbrev pub asking : ℕ → ℕ → Call
asking side label = new_call 12 0 side 0 label

-- A call with another place; kind and side; own slot and label; what it has read: Anchor, with finishing, the neighbour, a link word.
-- A place keeps the fields it doesn't name.
abbrev pub at_place : Call → ℕ → Call
at_place r p =
    record {
      place = p;
      kind = r.kind;
      side = r.side;
      own = r.own;
      label = r.label;
      seen = r.seen;
      neighbour = r.neighbour;
      link = r.link;
      finishing = r.finishing;
    }

abbrev pub of_kind : Call → ℕ → ℕ → Call
of_kind r k d =
    record {
      place = r.place;
      kind = k;
      side = d;
      own = r.own;
      label = r.label;
      seen = r.seen;
      neighbour = r.neighbour;
      link = r.link;
      finishing = r.finishing;
    }

abbrev pub with_own : Call → ℕ → ℕ → Call
with_own r x l =
    record {
      place = r.place;
      kind = r.kind;
      side = r.side;
      own = x;
      label = l;
      seen = r.seen;
      neighbour = r.neighbour;
      link = r.link;
      finishing = r.finishing;
    }

abbrev pub with_seen : Call → ℕ → ℕ → Call
with_seen r a f =
    record {
      place = r.place;
      kind = r.kind;
      side = r.side;
      own = r.own;
      label = r.label;
      seen = a;
      neighbour = r.neighbour;
      link = r.link;
      finishing = f;
    }

abbrev pub with_neighbour : Call → ℕ → Call
with_neighbour r n =
    record {
      place = r.place;
      kind = r.kind;
      side = r.side;
      own = r.own;
      label = r.label;
      seen = r.seen;
      neighbour = n;
      link = r.link;
      finishing = r.finishing;
    }

abbrev pub with_link : Call → ℕ → Call
with_link r w =
    record {
      place = r.place;
      kind = r.kind;
      side = r.side;
      own = r.own;
      label = r.label;
      seen = r.seen;
      neighbour = r.neighbour;
      link = w;
      finishing = r.finishing;
    }

-- A task's record: its call and the count of its failed changes, which is 0 at opening. (Request #101.)
abbrev pub counting : Call → ℕ → Record
counting call retries = record { call = call; retries = retries }

abbrev pub unused : Record
unused = counting idle 0

-- A record with another call; a start and an answer keep the count.
abbrev pub with_call : Record → Call → Record
with_call r c = counting c r.retries

-- The record of task t, and its call.
abbrev pub task_at : Queue → ℕ → Record
task_at q t = get_or q.records t unused

abbrev pub record_at : Queue → ℕ → Call
record_at q t = (task_at q t).call

-- Marks: bit n mod 64 of word n div 64. A set bit means taken.
abbrev pub bit : ℕ → ℕ → ℕ
bit w i = w / 2 ^ i % 2

-- w with b for its bit i: the bits above i, b, and the i bits below.
abbrev pub put_bit : ℕ → ℕ → ℕ → ℕ
put_bit w i b = (w / 2 ^ i / 2 * 2 + b) * 2 ^ i + w % 2 ^ i

abbrev pub marked : List ℕ → ℕ → Bool
marked ws n = eqb (bit (get_or ws (n / 64) 0) (n % 64)) 1

abbrev pub with_mark : List ℕ → ℕ → ℕ → List ℕ
with_mark ws n b = set ws (n / 64) (put_bit (get_or ws (n / 64) 0) (n % 64) b)

-- The tables with another Anchor or head; with another link word of slot x that leads to a side; with other marks, another next table.
abbrev pub with_anchor : Tables → ℕ → Tables
with_anchor q w = tables_of (with_words q.control w q.control.head) q.lefts q.rights q.labels q.marks q.next

abbrev pub with_head : Tables → ℕ → Tables
with_head q w = tables_of (with_words q.control q.control.anchor w) q.lefts q.rights q.labels q.marks q.next

abbrev pub linked : Tables → ℕ → ℕ → ℕ → Tables
linked q side x w =
    tables_of q.control
    (cond (eqb side 1) q.lefts (set q.lefts x w))
    (cond (eqb side 1) (set q.rights x w) q.rights)
    q.labels q.marks q.next

abbrev pub with_marks : Tables → List ℕ → Tables
with_marks q l = tables_of q.control q.lefts q.rights q.labels l q.next

abbrev pub with_next : Tables → List ℕ → Tables
with_next q l = tables_of q.control q.lefts q.rights q.labels q.marks l

-- A label stored in a slot's row, and its mark set.
abbrev pub with_taken : Tables → ℕ → ℕ → Tables
with_taken q slot label = tables_of q.control q.lefts q.rights (set q.labels slot label) (with_mark q.marks slot 1) q.next
