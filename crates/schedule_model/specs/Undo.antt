-- A step tried is undone without a log: of control it writes Anchor and the head, and no row but the one that its place names.
use Rattle.std.specs.Prelude.{◌≡◌, ℕ, ◌/◌, get_or, set}
use Rattle.model.specs.{declared.Call.Call, Tables.{Tables, tables_of, with_words}, Places.{row, word_found, move, apply}}
use Rattle.schedule_model.specs.declared.Saved.{Saved}

-- Anchor, the head, and slot x's words.
abbrev pub saved : ℕ → Tables → Saved
saved x q = record {
  anchor = q.control.anchor;
  head = q.control.head;
  slot = x;
  left = get_or q.lefts x 0;
  right = get_or q.rights x 0;
  label = get_or q.labels x 0;
  mark = get_or q.marks (x / 64) 0;
  next = get_or q.next x 0;
}

abbrev pub put_back : Saved → Tables → Tables
put_back s q = tables_of (with_words q.control s.anchor s.head)
    (set q.lefts s.slot s.left)
    (set q.rights s.slot s.right)
    (set q.labels s.slot s.label)
    (set q.marks (s.slot / 64) s.mark)
    (set q.next s.slot s.next)

-- A call's next step, refused or made, and what it can write put back.
abbrev pub Undoes : Type 0
Undoes =
    (q : Tables) (r : Call)
    → (put_back (saved (row r) q) q ≡ q) × (put_back (saved (row r) q) (apply (move q.control r (word_found q r)).touch q) ≡ q)
