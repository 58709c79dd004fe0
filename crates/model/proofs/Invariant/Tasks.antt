-- What holds of a busy task's record, by its place. In the comments A is the Anchor as read, `current` means that it is Anchor,
-- e is its end at the side that matters, and the numbers are the lines of docs/PROOF.md.
-- Each fact names the fields that it speaks of and not the record, so that it stands unchanged where another field changes.
use mathlib.Core.{Bool.{Bool, false, true}, Logic.{◌≢◌, ◌⊎◌}, Path.◌≡◌}
use Prim.Native.Nat.{◌<◌, ◌≤◌, ℕ}
use Rattle.model.proofs.Machine.{Book.BookCall, Machine.{stable, tip, towards}}
use Rattle.model.proofs.Machine.Machine.{Anchor, Answer, Draw, Give, Kind, Link, Place, Rec, Shared, at1, at10}
use Rattle.model.proofs.Machine.Machine.{at11, at12, at13, at14, at15, at16, at17, at2, at3, at4, at5, at6, at7}
use Rattle.model.proofs.Machine.Machine.{at8, at9, draw, give, idle, inner, pop, popped, push, pushed, pushing}
use Rattle.model.proofs.Invariant.{Owners.{Owner, held}, Shape.Made}

-- The call is the one that the record works at: kind, side, slot and label are as its start named them.
pub record Agrees (k : Kind) (d : Bool) (x l : ℕ) (c : BookCall) : Type 0 where
  pub kind : c.kind ≡ k
  pub side : c.side ≡ d
  pub slot : c.slot ≡ x
  pub label : c.label ≡ l

-- (15) Task t has no slot, and none but x.
abbrev pub Bare : (ℕ → Owner) → ℕ → Type 0
Bare h t = (y : ℕ) → h y ≡ held t → ⊥

abbrev pub Sole : (ℕ → Owner) → ℕ → ℕ → Type 0
Sole h t x = (y : ℕ) → h y ≡ held t → y ≡ x

-- (7) A push before its effect owns its slot, whose row has the record's label.
abbrev pub Own : Kind → (ℕ → ℕ) → (ℕ → Owner) → ℕ → ℕ → ℕ → Type 0
Own push g h t x l = (x ≢ 0) × (h x ≡ held t) × (g x ≡ l) × Sole h t x
Own pop g h t x l = Bare h t

-- Before its effect a call has none.
pub record Before (g : ℕ → ℕ) (h : ℕ → Owner) (t : ℕ) (k : Kind) (d : Bool) (x l : ℕ) (c : BookCall) : Type 0 where
  pub agrees : Agrees k d x l c
  pub none : c.effects ≡ 0
  pub own : Own k g h t x l

-- After it, just one, to which the sequential deque replied what the call will answer.
pub record After (c : BookCall) (a : Answer) : Type 0 where
  pub once : c.effects ≡ 1
  pub told : c.told ≡ a

-- At 5 to 10 a finishing push is after its effect, any other task before it.
abbrev pub Stage : Bool → (ℕ → ℕ) → (ℕ → Owner) → ℕ → Kind → Bool → ℕ → ℕ → BookCall → Type 0
Stage false g h t k d x l c = Before g h t k d x l c
Stage true g h t k d x l c = After c pushed × Bare h t

-- (5) A's tag is not above Anchor's, and equal to it only if A is current: once Anchor has changed, A is never current again.
pub record Read (b a : Anchor) : Type 0 where
  pub past : a.tag ≤ b.tag
  pub present : a.tag ≡ b.tag → a ≡ b

-- (6) Place 2: a push read empty, a pop one slot.
abbrev pub Two : Kind → Anchor → Type 0
Two push a = a.left ≡ 0
Two pop a = (a.left ≡ a.right) × (a.left ≢ 0)

-- (6) Places 3 and 4: read STABLE and not empty, a pop two or more.
abbrev pub Three : Kind → Anchor → Type 0
Three push a = (a.status ≡ stable) × (a.left ≢ 0)
Three pop a = (a.status ≡ stable) × (a.left ≢ a.right)

-- (7) Place 4: a push's own link inward names e, current or not. (9) A pop's neighbour, if current, is the slot that e names inward.
abbrev pub Four : Kind → Shared → Bool → ℕ → Anchor → ℕ → Type 0
Four push s d x a n = inner s d x ≡ tip a d
Four pop s d x a n = a ≡ s.anchor → inner s d (tip a d) ≡ n

-- Places 2 to 4.
pub record Tries (g : ℕ → ℕ) (b : Anchor) (h : ℕ → Owner) (t : ℕ) (f : Bool) (k : Kind) (d : Bool) (x l : ℕ) (a : Anchor) (c : BookCall) : Type 0 where
  pub unfinished : f ≡ false
  pub before : Before g h t k d x l c
  pub read : Read b a

-- Places 5 to 10. (6) They read unstable.
pub record Helps (g : ℕ → ℕ) (b : Anchor) (h : ℕ → Owner) (t : ℕ) (f : Bool) (k : Kind) (d : Bool) (x l : ℕ) (a : Anchor) (c : BookCall) : Type 0 where
  pub stage : Stage f g h t k d x l c
  pub read : Read b a
  pub status : a.status ≡ pushing (towards a.status)

-- The side that A's status names.
abbrev pub way : Anchor → Bool
way a = towards a.status

-- (9) n is the slot that e names inward.
abbrev pub Near : Shared → Anchor → ℕ → Type 0
Near s a n = inner s (way a) (tip a (way a)) ≡ n

-- (11) The link as read, w, does not name e.
abbrev pub Other : Anchor → Link → Type 0
Other a w = w.slot ≢ tip a (way a)

-- (12) The tag of the neighbour's link outward has grown beyond w's.
abbrev pub Grown : Shared → Anchor → ℕ → Link → Type 0
Grown s a n w = w.tag < (s.link (way a) n).tag

-- (11) That link is w still, or its tag has grown.
abbrev pub Fresh : Shared → Anchor → ℕ → Link → Type 0
Fresh s a n w = (w ≡ s.link (way a) n) ⊎ Grown s a n w

-- Place 8: all that is known of the link as read holds if A is current.
pub record At8 (s : Shared) (a : Anchor) (n : ℕ) (w : Link) : Type 0 where
  pub other : Other a w
  pub near : a ≡ s.anchor → Near s a n
  pub fresh : a ≡ s.anchor → Fresh s a n w

-- Place 9: A is current, or (12) the link has grown and the change will fail. Place 8 gives this: it found A current.
pub record Live (s : Shared) (a : Anchor) (n : ℕ) (w : Link) : Type 0 where
  pub current : a ≡ s.anchor
  pub near : Near s a n
  pub fresh : Fresh s a n w

pub record At9 (s : Shared) (a : Anchor) (n : ℕ) (w : Link) : Type 0 where
  pub other : Other a w
  pub chance : Live s a n w ⊎ Grown s a n w

-- (8) Place 11: the pop owns the end that it took, and its row has the label that the sequential deque replied.
pub record At11 (g : ℕ → ℕ) (h : ℕ → Owner) (t x : ℕ) (c : BookCall) : Type 0 where
  pub after : After c (popped x (g x))
  pub holds : h x ≡ held t
  pub sole : Sole h t x

-- Places 12 to 14: a push that has no slot yet.
pub record Draws (h : ℕ → Owner) (t : ℕ) (f : Bool) (k : Kind) (d : Bool) (x l : ℕ) (c : BookCall) : Type 0 where
  pub unfinished : f ≡ false
  pub kind : k ≡ push
  pub agrees : Agrees k d x l c
  pub none : c.effects ≡ 0
  pub bare : Bare h t

-- (18) Place 13: the head as read, a, is the head, b, or its tag is past for good.
abbrev pub At13 : Link → Link → Type 0
At13 b a = (a ≡ b) ⊎ (a.tag < b.tag)

-- (19) Place 14: it is the head, and n the next of its slot; or its tag is past for good.
abbrev pub Fourteenth : (ℕ → ℕ) → Link → Link → ℕ → Type 0
Fourteenth f b a n = ((a ≡ b) × (f a.slot ≡ n)) ⊎ (a.tag < b.tag)

abbrev pub Drawing : Draw → Shared → Rec → Type 0
Drawing at12 s r = Unit {0}
Drawing at13 s r = (r.link.slot ≢ 0) × At13 s.head r.link
Drawing at14 s r = (r.link.slot ≢ 0) × Fourteenth s.next s.head r.link r.near

-- (8) Places 15 to 17: the pop owns its slot still, and will answer what its record holds.
pub record Gives (h : ℕ → Owner) (t x l : ℕ) (c : BookCall) : Type 0 where
  pub after : After c (popped x l)
  pub holds : h x ≡ held t
  pub sole : Sole h t x

-- (20) Place 17: the next of the own slot is the slot of the head as read, whether that is the head or not.
abbrev pub Giving : Give → Shared → Rec → Type 0
Giving at15 s r = Unit {0}
Giving at16 s r = Unit {0}
Giving at17 s r = s.next r.own ≡ r.link.slot

abbrev Begins : Shared → (ℕ → Owner) → ℕ → Rec → BookCall → Type 0
Begins s h t r c = Before s.label h t r.kind r.side r.own r.label c

abbrev Trying : Shared → (ℕ → Owner) → ℕ → Rec → BookCall → Type 0
Trying s h t r c = Tries s.label s.anchor h t r.finishing r.kind r.side r.own r.label r.read c

abbrev Helping : Shared → (ℕ → Owner) → ℕ → Rec → BookCall → Type 0
Helping s h t r c = Helps s.label s.anchor h t r.finishing r.kind r.side r.own r.label r.read c

-- The task part of the invariant, place by place. (9) At 6 and 7 the neighbour is e's if current. (13) At 10, if current, the link back is made.
abbrev pub Task : Place → Shared → (ℕ → Owner) → ℕ → Rec → BookCall → Type 0
Task idle s h t r c = (c.effects ≡ 0) × Bare h t
Task at1 s h t r c = (r.finishing ≡ false) × Begins s h t r c
Task at2 s h t r c = Trying s h t r c × Two r.kind r.read
Task at3 s h t r c = Trying s h t r c × Three r.kind r.read
Task at4 s h t r c = Trying s h t r c × Three r.kind r.read × Four r.kind s r.side r.own r.read r.near
Task at5 s h t r c = Helping s h t r c
Task at6 s h t r c = Helping s h t r c × (r.read ≡ s.anchor → Near s r.read r.near)
Task at7 s h t r c = Helping s h t r c × (r.read ≡ s.anchor → Near s r.read r.near)
Task at8 s h t r c = Helping s h t r c × At8 s r.read r.near r.link
Task at9 s h t r c = Helping s h t r c × At9 s r.read r.near r.link
Task at10 s h t r c = Helping s h t r c × (r.read ≡ s.anchor → Made s.link r.read (way r.read))
Task at11 s h t r c = At11 s.label h t (tip r.read r.side) c
Task (draw p) s h t r c = (s.pooled ≡ true) × Draws h t r.finishing r.kind r.side r.own r.label c × Drawing p s r
Task (give p) s h t r c = (s.pooled ≡ true) × Gives h t r.own r.label c × Giving p s r
