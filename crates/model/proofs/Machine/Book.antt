-- The book beside the decoded machine: the sequential deque, which serves a call at each of its effects, and how many effects each call had.
use mathlib.Core.{Bool.{Bool, ◌&&◌, ◌||◌, cond, false, not, true}, List.{List, [], ◌∷◌}, Path.◌≡◌}
use Prim.Native.Nat.{suc, ℕ}
use lib.Dec.{eqb}
use Rattle.model.specs.declared.Entry.{Entry}
use Rattle.model.proofs.{Lists.Deque.{put, seen, took}, Machine.Machine.{put_next, running, stable, take, upd}}
use Rattle.model.proofs.Machine.Machine.{Anchor, Answer, Kind, State, Status, Touch, clear, empty, no_free_slot}
use Rattle.model.proofs.Machine.Machine.{none, pop, popped, push, pushed, pushing, put_anchor, put_head, put_link}

-- A call: what its start named, the number of its effects so far, and what the sequential deque replied last.
pub record BookCall : Type 0 where
  pub kind : Kind
  pub side : Bool
  pub slot : ℕ
  pub label : ℕ
  pub effects : ℕ
  pub told : Answer

pub record Closed : Type 0 where
  pub call : BookCall
  pub answer : Answer

pub record Book : Type 0 where
  pub queue : List Entry
  pub calls : ℕ → BookCall
  pub closed : List Closed

abbrev pub booked_call : Kind → Bool → ℕ → ℕ → BookCall
booked_call k d x l = record { kind = k; side = d; slot = x; label = l; effects = 0; told = running }

abbrev pub no_call : BookCall
no_call = booked_call push false 0 0

pub record Noted : Type 0 where
  pub call : BookCall
  pub queue : List Entry

abbrev pub told : BookCall → Answer → BookCall
told c a = record { kind = c.kind; side = c.side; slot = c.slot; label = c.label; effects = suc c.effects; told = a }

abbrev pub given : List Entry → Answer
given [] = empty
given (e ∷ q) = popped e.slot e.label

-- The sequential deque serves one call.
abbrev pub served : Kind → BookCall → List Entry → Noted
served push c q = record { call = told c pushed; queue = put c.side (record { slot = c.slot; label = c.label }) q }
served pop c q = record { call = told c (given (seen c.side q)); queue = took c.side q }

-- The answers that are effects though the deque stays as it is.
abbrev pub unmoving : Answer → Bool
unmoving running = false
unmoving pushed = false
unmoving empty = true
unmoving no_free_slot = true
unmoving (popped x l) = false

abbrev pub is_no_free_slot : Answer → Bool
is_no_free_slot running = false
is_no_free_slot pushed = false
is_no_free_slot empty = false
is_no_free_slot no_free_slot = true
is_no_free_slot (popped x l) = false

-- An effect is seen from Anchor's ends and the answer.
abbrev pub effect : Anchor → Anchor → Answer → Bool
effect a b w = not (eqb a.left b.left && eqb a.right b.right) || unmoving w

-- To *no slot* the sequential deque replies the same, and stays as it is.
unfoldable pub noted : BookCall → List Entry → Anchor → Anchor → Answer → Noted
noted c q a b w =
    cond (effect a b w) (cond (is_no_free_slot w) (record { call = told c no_free_slot; queue = q }) (served c.kind c q)) (record { call = c; queue = q })

-- A push that draws its slot has named it from then on.
abbrev pub granted : Touch → BookCall → BookCall
granted none c = c
granted (put_anchor a) c = c
granted (put_link d x v) c = c
granted (clear x) c = c
granted (take w x l) c = record { kind = c.kind; side = c.side; slot = x; label = c.label; effects = c.effects; told = c.told }
granted (put_next x v) c = c
granted (put_head w) c = c

abbrev pub stays : Book → ℕ → Noted → Book
stays b t n = record { queue = n.queue; calls = upd b.calls t n.call; closed = b.closed }

abbrev pub closes : Book → ℕ → Noted → Answer → Book
closes b t n w = record { queue = n.queue; calls = upd b.calls t no_call; closed = record { call = n.call; answer = w } ∷ b.closed }

-- One start or step in the book: the operation, its answer, and Anchor before and after.
abbrev pub stepped : Book → ℕ → Noted → Answer → Book
stepped b t n running = stays b t n
stepped b t n pushed = closes b t n pushed
stepped b t n empty = closes b t n empty
stepped b t n no_free_slot = closes b t n no_free_slot
stepped b t n (popped x l) = closes b t n (popped x l)

abbrev pub begun : Book → ℕ → BookCall → Book
begun b t c = record { queue = b.queue; calls = upd b.calls t c; closed = b.closed }

-- The machine and the book side by side.
pub record Both : Type 0 where
  pub state : State
  pub book : Book

-- The side to walk from: the right one, or the left one under LPUSH.
abbrev pub whence : Status → Bool
whence stable = true
whence (pushing d) = d

-- What is promised of the book.
pub record Honoured (c : Closed) : Type 0 where
  pub once : c.call.effects ≡ 1
  pub agrees : c.answer ≡ c.call.told

abbrev pub no_book : Book
no_book = record { queue = []; calls = λ t. no_call; closed = [] }
