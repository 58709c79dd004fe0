-- The machine of document 003, figures 3 to 5, over decoded words (`Records`).
-- A place does one touch of what the tasks share (14 done: the head with its slot's label and mark).
use mathlib.Core.Bool.{Bool, cond, false, not, true}
use Prim.Native.Nat.{suc, ℕ}
use lib.Dec.{eqb}
pub use Rattle.model.proofs.Machine.Records.{Status, code, towards, Anchor, Link, tip, aimed, both, settled, is_stable, Draw, Give, Place, Kind}
pub use Rattle.model.proofs.Machine.Records.{Rec, no_anchor, no_link, started, asking, blank, goes, reads, finds, holds, owns, finishes, Shared}
pub use Rattle.model.proofs.Machine.Records.{with_anchor, with_link, with_mark, with_label, with_head, with_next, stable, pushing, at12, at13, at14}
pub use Rattle.model.proofs.Machine.Records.{at15, at16, at17, idle, at1, at2, at3, at4, at5, at6, at7, at8, at9, at10, at11, draw, give, push}
pub use Rattle.model.proofs.Machine.Records.{pop, Phase, phase, outside, inside, leaving, fetching, returning, beside, reaches}
unfoldable pub use Rattle.model.proofs.Machine.Records.{same, same_link, upd, relink}

pub data Answer : Type 0 where
  running pushed empty no_free_slot : Answer
  popped : ℕ → ℕ → Answer

-- What a step may change: one shared word, but where a slot is drawn. Then the head, the slot's label and its mark are set at once.
pub data Touch : Type 0 where
  none : Touch
  put_anchor : Anchor → Touch
  put_link : Bool → ℕ → Link → Touch
  clear : ℕ → Touch
  take : Link → ℕ → ℕ → Touch
  put_next : ℕ → ℕ → Touch
  put_head : Link → Touch

abbrev pub apply : Shared → Touch → Shared
apply s none = s
apply s (put_anchor a) = with_anchor s a
apply s (put_link d x v) = with_link s d x v
apply s (clear x) = with_mark s x false
apply s (take w x l) = with_label (with_head s w) x l
apply s (put_next x v) = with_next s x v
apply s (put_head w) = with_head s w

-- One step of a task with a record: what it changes, the record then, and the answer.
pub record Move : Type 0 where
  pub touch : Touch
  pub rec : Rec
  pub answer : Answer

abbrev pub runs : Touch → Rec → Move
runs w r = record { touch = w; rec = r; answer = running }

abbrev pub ends : Touch → Answer → Move
ends w a = record { touch = w; rec = blank; answer = a }

abbrev pub leave : Touch → Rec → Move
leave w r = cond r.finishing (ends w pushed) (runs w (goes r at1))

-- The inward neighbour of a slot on a side.
abbrev pub inner : Shared → Bool → ℕ → ℕ
inner s d x = (s.link (not d) x).slot

-- 1: read Anchor; a pop tests l = r before the status.
abbrev pub one : Kind → Shared → Rec → Move
one push s r = cond (eqb s.anchor.left 0) (runs none (reads r s.anchor at2))
    (cond (is_stable s.anchor.status) (runs none (reads r s.anchor at3)) (runs none (reads r s.anchor at5)))
one pop s r = cond (eqb s.anchor.left 0) (ends none empty)
    (cond (eqb s.anchor.left s.anchor.right) (runs none (reads r s.anchor at2))
    (cond (is_stable s.anchor.status) (runs none (reads r s.anchor at3)) (runs none (reads r s.anchor at5))))

-- 2: the first entry put, the only one taken.
abbrev pub two : Kind → Shared → Rec → Move
two push s r = cond (same r.read s.anchor) (ends (put_anchor (both r.read r.own)) pushed) (one push s r)
two pop s r = cond (same r.read s.anchor) (runs (put_anchor (both r.read 0)) (goes r at11)) (one pop s r)

-- The link that a push writes in its own slot, its tag kept.
abbrev pub own_link : Shared → Rec → Link
own_link s r = record { tag = (s.link (not r.side) r.own).tag; slot = tip r.read r.side }

-- 3: a push writes its own link, a pop reads its neighbour.
abbrev pub three : Kind → Shared → Rec → Move
three push s r = runs (put_link (not r.side) r.own (own_link s r)) (goes r at4)
three pop s r = runs none (finds r (inner s r.side (tip r.read r.side)) at4)

-- 4: an end put or taken.
abbrev pub four : Kind → Shared → Rec → Move
four push s r = let a = aimed r.read r.side r.own (pushing r.side) in
    cond (same r.read s.anchor) (runs (put_anchor a) (finishes r a)) (one push s r)
four pop s r =
    cond (same r.read s.anchor) (runs (put_anchor (aimed r.read r.side r.near r.read.status)) (goes r at11)) (one pop s r)

-- 9: the link back, as read, is changed to name the end.
abbrev pub nine : Shared → Rec → Bool → Move
nine s r e = cond (same_link r.link (s.link e r.near))
    (runs (put_link e r.near (record { tag = suc r.link.tag; slot = tip r.read e })) (goes r at10)) (leave none r)

-- 11: the label of the end taken; its mark is cleared. A pooled queue's pop remembers both, and gives the slot back first.
abbrev pub eleven : Shared → Rec → Move
eleven s r = let x = tip r.read r.side in
    cond s.pooled (runs (clear x) (owns r x (s.label x) (give at15))) (ends (clear x) (popped x (s.label x)))

-- The head as read with its tag raised: of the slot that it names from now on.
abbrev pub raised : Rec → ℕ → Link
raised r x = record { tag = suc r.link.tag; slot = x }

-- The empty stack.
abbrev pub exhausted : Link → Bool
exhausted head = eqb head.slot 0

-- 12: read the head; slot 0 is the empty stack. 13: read what comes after the head's slot. 14: the head moves on to it, and its slot is the push's.
abbrev pub draws : Draw → Shared → Rec → Move
draws at12 s r = cond (exhausted s.head) (ends none no_free_slot) (runs none (holds r s.head (draw at13)))
draws at13 s r = runs none (finds r (s.next r.link.slot) (draw at14))
draws at14 s r = let x = r.link.slot in
    cond (same_link r.link s.head) (runs (take (raised r r.near) x r.label) (owns r x r.label at1)) (runs none (goes r (draw at12)))

-- 15: read the head. 16: the own slot's next is the head's slot. 17: the head moves to the own slot.
abbrev pub gives : Give → Shared → Rec → Move
gives at15 s r = runs none (holds r s.head (give at16))
gives at16 s r = runs (put_next r.own r.link.slot) (goes r (give at17))
gives at17 s r = cond (same_link r.link s.head) (ends (put_head (raised r r.own)) (popped r.own r.label))
    (runs none (goes r (give at15)))

-- A step of a record at its place. At 5 to 10 the side is the one that the status as read names.
abbrev pub act : Place → Shared → Rec → Move
act idle s r = runs none r
act at1 s r = one r.kind s r
act at2 s r = two r.kind s r
act at3 s r = three r.kind s r
act at4 s r = four r.kind s r
act at5 s r = runs none (finds r (inner s (towards r.read.status) (tip r.read (towards r.read.status))) at6)
act at6 s r = cond (same r.read s.anchor) (runs none (goes r at7)) (leave none r)
act at7 s r = let e = towards r.read.status in let w = s.link e r.near in
    cond (eqb w.slot (tip r.read e)) (runs none (holds r w at10)) (runs none (holds r w at8))
act at8 s r = cond (same r.read s.anchor) (runs none (goes r at9)) (leave none r)
act at9 s r = nine s r (towards r.read.status)
act at10 s r = cond (same r.read s.anchor) (leave (put_anchor (settled r.read)) r) (leave none r)
act at11 s r = eleven s r
act (draw p) s r = draws p s r
act (give p) s r = gives p s r

-- The whole machine.
pub record State : Type 0 where
  pub shared : Shared
  pub task : ℕ → Rec

abbrev pub rests : Phase → Bool
rests outside = true
rests inside = false
rests leaving = false
rests fetching = false
rests returning = false

abbrev pub is_idle : Place → Bool
is_idle p = rests (phase p)

-- A pop that has taken its slot.
abbrev pub takes : Phase → Bool
takes outside = false
takes inside = false
takes leaving = true
takes fetching = false
takes returning = false

-- A pop that gives its slot back.
abbrev gives_back : Phase → Bool
gives_back outside = false
gives_back inside = false
gives_back leaving = false
gives_back fetching = false
gives_back returning = true

abbrev pub is_giving : Place → Bool
is_giving p = gives_back (phase p)

abbrev pub moved : State → ℕ → Shared → Rec → State
moved s t g r = record { shared = g; task = upd s.task t r }
