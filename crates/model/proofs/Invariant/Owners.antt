-- Who has a slot. One owner a slot says at once that no two tasks have the same one, and that none of theirs is queued.
use mathlib.Core.{Bool.{Bool, false, not, true}, List.{List, [], ◌∷◌}, Logic.◌≢◌, Path.◌≡◌}
use Prim.Native.Nat.{◌≤◌, ℕ}
use Rattle.model.specs.{declared.Entry.Entry, Lists.All}
use Rattle.model.proofs.{Lists.{Deque.Distinct, In.In, Slots.slots}, Machine.Machine.{Rec, Shared, is_giving}}
use Rattle.model.proofs.Invariant.Shape.{Shape}

-- Nobody, the queue, or a task: a push before its effect, a pop after it.
pub data Owner : Type 0 where
  free queued : Owner
  held : ℕ → Owner

-- From slot x along next: the slots of k, then null.
abbrev pub Stack : (ℕ → ℕ) → ℕ → List ℕ → Type 0
Stack f x [] = x ≡ 0
Stack f x (y ∷ l) = (x ≡ y) × (y ≢ 0) × Stack f (f y) l

-- (14) The stack of a pooled queue: distinct slots of 1 to n that nobody has, from the head's slot along next.
pub record Pool (n : ℕ) (f : ℕ → ℕ) (top : ℕ) (h : ℕ → Owner) : Type 0 where
  pub stack : List ℕ
  pub chain : Stack f top stack
  pub distinct : Distinct stack
  pub unowned : All (λ x. h x ≡ free) stack
  pub within : All (λ x. x ≤ n) stack
  -- (15) Nothing is lost: every free slot is there.
  pub full : (x : ℕ) → x ≢ 0 → x ≤ n → h x ≡ free → In x stack

-- How a push of a pooled queue learns that a slot is nobody's: by the stack. In a named queue the mark tells.
-- (It names the fields that it speaks of, so that it stands where another changes.)
abbrev pub Spare : Bool → ℕ → (ℕ → ℕ) → ℕ → (ℕ → Owner) → Type 0
Spare false n f top h = Unit {0}
Spare true n f top h = Pool n f top h

-- (21) The mark of a slot, by its owner: set while the queue has it, or a task that is not giving it back.
abbrev pub shows : (ℕ → Rec) → Owner → Bool
shows f free = false
shows f queued = true
shows f (held t) = not (is_giving (f t).place)

-- The queue part of the invariant: q is the sequential deque.
pub record Intact (s : Shared) (h : ℕ → Owner) (q : List Entry) : Type 0 where
  pub shape : Shape s.link s.anchor (slots q)
  pub owned : All (λ x. h x ≡ queued) (slots q)
  pub listed : (x : ℕ) → h x ≡ queued → In x (slots q)
  -- Each entry's label is its row's.
  pub labels : All (λ (e : Entry). s.label e.slot ≡ e.label) q
  -- (1, 7, 8) A slot that somebody has is one of 1 to slots.
  pub bounds : (x : ℕ) → h x ≢ free → (x ≢ 0) × (x ≤ s.slots)
  pub spare : Spare s.pooled s.slots s.next s.head.slot h
