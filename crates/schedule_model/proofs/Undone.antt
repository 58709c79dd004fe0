-- With Anchor, the head and the words of the row that its place names put back, control and tables are as before a step.
use mathlib.Core.{Path.◌≡◌, Bool.{Bool, true, false, cond}, List.List}
use Prim.Native.Nat.{ℕ, ◌/◌}
use lib.{Dec.eqb, ListN.{get_or, set}, Seq.{set-get_or, set-set}}
use Rattle.model.specs.{declared.{Control.Control, Call.Call}, Tables.{Tables, is_pooled, tables_of}, Kinds.is_push}
use Rattle.model.specs.Places.{Touch, nothing, set_anchor, set_link, clear_mark, take_slot, set_next, set_head, Move, row}
use Rattle.model.specs.Places.{word_found, apply, at1, at2, at3, at4, at5, at6, at7, at9, at10, at11, at12, at13, at14}
use Rattle.model.{specs.Places.{at15, at16, at17, move}, proofs.Tests.Truth.either}
use Rattle.schedule_model.specs.Undo.{saved, put_back, Undoes}

-- A touch of slot x's row, or of none.
data At (x : ℕ) : Touch → Type 0 where
  none : At x nothing
  anchor : (w : ℕ) → At x (set_anchor w)
  link : (side w : ℕ) → At x (set_link side x w)
  mark : At x (clear_mark x)
  drawn : (w l : ℕ) → At x (take_slot w x l)
  given : (v : ℕ) → At x (set_next x v)
  head : (w : ℕ) → At x (set_head w)

module _ (c : Control) (r : Call) (w : ℕ) where
  abbrev P : Move → Type 0
  P m = At (row r) m.touch

  there : P (move c r w)
  unfolding move at1 at2 at3 at4 at5 at6 at7 at9 at10 at11 at12 at13 at14 at15 at16 at17
  there =
      either P (eqb r.place 1) none
      (either P (eqb r.place 2) (either P (eqb c.anchor r.seen) (anchor _) none)
      (either P (eqb r.place 3) (either P (is_push r) (link _ _) none)
      (either P (eqb r.place 4) (either P (eqb c.anchor r.seen) (anchor _) none)
      (either P (eqb r.place 5) none
      (either P (eqb r.place 6) none
      (either P (eqb r.place 7) none
      (either P (eqb r.place 8) none
      (either P (eqb r.place 9) (either P (eqb w r.link) (link _ _) none)
      (either P (eqb r.place 10) (either P (eqb c.anchor r.seen) (anchor _) none)
      (either P (eqb r.place 11) (either P (is_pooled c) mark mark)
      (either P (eqb r.place 12) none
      (either P (eqb r.place 13) none
      (either P (eqb r.place 14) (either P (eqb c.head r.link) (drawn _ _) none)
      (either P (eqb r.place 15) none
      (either P (eqb r.place 16) (given _)
      (either P (eqb c.head r.link) (head _) none))))))))))))))))

set_back : (l : List ℕ) (x w : ℕ) → set (set l x w) x (get_or l x 0) ≡ l
set_back l x w = rw (set-set l x w (get_or l x 0)) (set-get_or l x 0)

module _ (q : Tables) (x : ℕ) where
  -- Rows that are those of q again.
  alike : (ls rs bs ms ns : List ℕ) → ls ≡ q.lefts → rs ≡ q.rights → bs ≡ q.labels → ms ≡ q.marks → ns ≡ q.next
      → tables_of q.control ls rs bs ms ns ≡ q
  alike ls rs bs ms ns l r b m n = λ i. tables_of q.control (l i) (r i) (b i) (m i) (n i)

  abbrev back : Tables → Tables
  back q' = put_back (saved x q) q'

  -- Each list where the touch left it alone.
  left : set q.lefts x (get_or q.lefts x 0) ≡ q.lefts
  left = set-get_or q.lefts x 0

  right : set q.rights x (get_or q.rights x 0) ≡ q.rights
  right = set-get_or q.rights x 0

  label : set q.labels x (get_or q.labels x 0) ≡ q.labels
  label = set-get_or q.labels x 0

  marks : set q.marks (x / 64) (get_or q.marks (x / 64) 0) ≡ q.marks
  marks = set-get_or q.marks (x / 64) 0

  next : set q.next x (get_or q.next x 0) ≡ q.next
  next = set-get_or q.next x 0

  applied : (t : Touch) → At x t → back (apply t q) ≡ q
  applied t none = alike _ _ _ _ _ left right label marks next
  applied t (anchor w) = alike _ _ _ _ _ left right label marks next
  applied t (link side w) = go (eqb side 1)
    where
      go : (b : Bool)
          → back (tables_of q.control (cond b q.lefts (set q.lefts x w)) (cond b (set q.rights x w) q.rights)
          q.labels q.marks q.next)
          ≡ q
      go true = alike _ _ _ _ _ left (set_back q.rights x w) label marks next
      go false = alike _ _ _ _ _ (set_back q.lefts x w) right label marks next
  applied t mark = alike _ _ _ _ _ left right label (set_back q.marks (x / 64) _) next
  applied t (drawn w l) = alike _ _ _ _ _ left right (set_back q.labels x l) (set_back q.marks (x / 64) _) next
  applied t (given v) = alike _ _ _ _ _ left right label marks (set_back q.next x v)
  applied t (head w) = alike _ _ _ _ _ left right label marks next

pub undoes : Undoes
undoes q r =
    (applied q (row r) nothing none, applied q (row r) (move q.control r (word_found q r)).touch (there q.control r (word_found q r)))
