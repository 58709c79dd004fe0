-- Words, a task's record and what the tasks share, decoded: places, kinds and statuses are data, tables are functions. Side true is right.
use mathlib.Core.Bool.{Bool, ◌&&◌, cond, false, true}
use Prim.Native.Nat.{suc, ℕ}
use lib.Dec.{eqb}

pub data Status : Type 0 where
  stable : Status
  pushing : Bool → Status

abbrev pub code : Status → ℕ
code stable = 0
code (pushing true) = 1
code (pushing false) = 2

-- The side that a status names.
abbrev pub towards : Status → Bool
towards stable = false
towards (pushing d) = d

pub record Anchor : Type 0 where
  pub tag : ℕ
  pub status : Status
  pub left : ℕ
  pub right : ℕ

pub record Link : Type 0 where
  pub tag : ℕ
  pub slot : ℕ

abbrev pub tip : Anchor → Bool → ℕ
tip a false = a.left
tip a true = a.right

-- The Anchor with its tag raised, a status, and one end set.
abbrev pub aimed : Anchor → Bool → ℕ → Status → Anchor
aimed a false x st = record { tag = suc a.tag; status = st; left = x; right = a.right }
aimed a true x st = record { tag = suc a.tag; status = st; left = a.left; right = x }

abbrev pub both : Anchor → ℕ → Anchor
both a x = record { tag = suc a.tag; status = a.status; left = x; right = x }

abbrev pub settled : Anchor → Anchor
settled a = record { tag = suc a.tag; status = stable; left = a.left; right = a.right }

unfoldable pub same : Anchor → Anchor → Bool
same a b = eqb a.tag b.tag && eqb (code a.status) (code b.status) && eqb a.left b.left && eqb a.right b.right

unfoldable pub same_link : Link → Link → Bool
same_link a b = eqb a.tag b.tag && eqb a.slot b.slot

abbrev pub is_stable : Status → Bool
is_stable stable = true
is_stable (pushing d) = false

-- The places that only a pooled queue has: a push draws its slot from the stack, a pop gives it back.
pub data Draw : Type 0 where
  at12 at13 at14 : Draw

pub data Give : Type 0 where
  at15 at16 at17 : Give

pub data Place : Type 0 where
  idle at1 at2 at3 at4 at5 at6 at7 at8 at9 at10 at11 : Place
  draw : Draw → Place
  give : Give → Place

-- What a task is about: nothing, the ends of the queue (1 to 10), the slot that a pop took (11), drawing a slot (12 to 14), giving it back (15 to 17).
pub data Phase : Type 0 where
  outside inside leaving fetching returning : Phase

abbrev pub phase : Place → Phase
phase idle = outside
phase at1 = inside
phase at2 = inside
phase at3 = inside
phase at4 = inside
phase at5 = inside
phase at6 = inside
phase at7 = inside
phase at8 = inside
phase at9 = inside
phase at10 = inside
phase at11 = leaving
phase (draw p) = fetching
phase (give p) = returning

-- At 7 to 9 a task has a neighbour, found where Anchor was as read.
abbrev pub beside : Place → Bool
beside idle = false
beside at1 = false
beside at2 = false
beside at3 = false
beside at4 = false
beside at5 = false
beside at6 = false
beside at7 = true
beside at8 = true
beside at9 = true
beside at10 = false
beside at11 = false
beside (draw p) = false
beside (give p) = false

pub data Kind : Type 0 where
  push pop : Kind

-- A task's record.
pub record Rec : Type 0 where
  pub place : Place
  pub kind : Kind
  pub side : Bool
  pub own : ℕ
  pub label : ℕ
  pub read : Anchor
  pub near : ℕ
  pub link : Link
  pub finishing : Bool

abbrev pub no_anchor : Anchor
no_anchor = record { tag = 0; status = stable; left = 0; right = 0 }

abbrev pub no_link : Link
no_link = record { tag = 0; slot = 0 }

abbrev pub started : Kind → Bool → ℕ → ℕ → Rec
started k d x l = record { place = at1; kind = k; side = d; own = x; label = l; read = no_anchor; near = 0; link = no_link; finishing = false }

-- A push that names no slot.
abbrev pub asking : Bool → ℕ → Rec
asking d l = record { place = draw at12; kind = push; side = d; own = 0; label = l; read = no_anchor; near = 0; link = no_link; finishing = false }

abbrev pub blank : Rec
blank = record { place = idle; kind = push; side = false; own = 0; label = 0; read = no_anchor; near = 0; link = no_link; finishing = false }

-- A record that has gone on to a place, with what it has read on its way; its call stays.
abbrev pub reaches : Rec → Place → Anchor → ℕ → Link → Rec
reaches r p a n w = record {
  place = p;
  kind = r.kind;
  side = r.side;
  own = r.own;
  label = r.label;
  read = a;
  near = n;
  link = w;
  finishing = r.finishing;
}

abbrev pub goes : Rec → Place → Rec
goes r p = reaches r p r.read r.near r.link

abbrev pub reads : Rec → Anchor → Place → Rec
reads r a p = reaches r p a r.near r.link

abbrev pub finds : Rec → ℕ → Place → Rec
finds r x p = reaches r p r.read x r.link

abbrev pub holds : Rec → Link → Place → Rec
holds r w p = reaches r p r.read r.near w

abbrev pub owns : Rec → ℕ → ℕ → Place → Rec
owns r x l p = record {
  place = p;
  kind = r.kind;
  side = r.side;
  own = x;
  label = l;
  read = r.read;
  near = r.near;
  link = r.link;
  finishing = r.finishing;
}

abbrev pub finishes : Rec → Anchor → Rec
finishes r a = record {
  place = at5;
  kind = r.kind;
  side = r.side;
  own = r.own;
  label = r.label;
  read = a;
  near = r.near;
  link = r.link;
  finishing = true;
}

-- What the tasks share. Head, a word as a link's, and next count in a pooled queue alone.
pub record Shared : Type 0 where
  pub slots : ℕ
  pub pooled : Bool
  pub anchor : Anchor
  pub head : Link
  pub link : Bool → ℕ → Link
  pub next : ℕ → ℕ
  pub label : ℕ → ℕ
  pub mark : ℕ → Bool

unfoldable pub upd : {A : Type 0} → (ℕ → A) → ℕ → A → ℕ → A
upd f x v y = cond (eqb y x) v (f y)

unfoldable pub relink : (Bool → ℕ → Link) → Bool → ℕ → Link → Bool → ℕ → Link
relink k false x v false = upd (k false) x v
relink k false x v true = k true
relink k true x v false = k false
relink k true x v true = upd (k true) x v

abbrev pub with_anchor : Shared → Anchor → Shared
with_anchor s a = record {
  slots = s.slots;
  pooled = s.pooled;
  anchor = a;
  head = s.head;
  link = s.link;
  next = s.next;
  label = s.label;
  mark = s.mark;
}

abbrev pub with_link : Shared → Bool → ℕ → Link → Shared
with_link s d x v = record {
  slots = s.slots;
  pooled = s.pooled;
  anchor = s.anchor;
  head = s.head;
  link = relink s.link d x v;
  next = s.next;
  label = s.label;
  mark = s.mark;
}

abbrev pub with_mark : Shared → ℕ → Bool → Shared
with_mark s x b = record {
  slots = s.slots;
  pooled = s.pooled;
  anchor = s.anchor;
  head = s.head;
  link = s.link;
  next = s.next;
  label = s.label;
  mark = upd s.mark x b;
}

abbrev pub with_label : Shared → ℕ → ℕ → Shared
with_label s x l = record {
  slots = s.slots;
  pooled = s.pooled;
  anchor = s.anchor;
  head = s.head;
  link = s.link;
  next = s.next;
  label = upd s.label x l;
  mark = upd s.mark x true;
}

abbrev pub with_head : Shared → Link → Shared
with_head s w = record {
  slots = s.slots;
  pooled = s.pooled;
  anchor = s.anchor;
  head = w;
  link = s.link;
  next = s.next;
  label = s.label;
  mark = s.mark;
}

abbrev pub with_next : Shared → ℕ → ℕ → Shared
with_next s x v = record {
  slots = s.slots;
  pooled = s.pooled;
  anchor = s.anchor;
  head = s.head;
  link = s.link;
  next = upd s.next x v;
  label = s.label;
  mark = s.mark;
}
