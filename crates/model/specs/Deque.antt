-- The sequential deque. (Document 01: The clerk.)
use mathlib.Core.{Bool.{Bool, true, false, cond}, List.{List, [], ◌∷◌, reverse}}
use Rattle.std.specs.Prelude.{ℕ, eqb}
use Rattle.model.specs.declared.Entry.{Entry}
use Rattle.model.specs.declared.Answer.{Answer, TheVariants.{Running, Pushed, Empty, Popped, NoFreeSlot}}

-- A deque is a list from left to right; seen from a side, the end there comes first.
abbrev pub seen_from : {A : Type 0} → ℕ → List A → List A
seen_from side l = cond (eqb side 1) (reverse l) l

-- What it replies to a call, and the deque then.
pub record Served : Type 0 where
  pub reply : Answer
  pub deque : List Entry

-- A push puts its slot and label at its side's end.
unfoldable pub serve_push : ℕ → Entry → List Entry → Served
serve_push side e l = record { reply = Pushed; deque = seen_from side (e ∷ seen_from side l) }

-- A pop takes the entry at its side's end; if there is none it gets empty and the deque stays.
abbrev pub take_first : ℕ → List Entry → Served
take_first side [] = record { reply = Empty; deque = [] }
take_first side (e ∷ l) = record { reply = Popped e; deque = seen_from side l }

unfoldable pub serve_pop : ℕ → List Entry → Served
serve_pop side l = take_first side (seen_from side l)

-- The call's kind and side, and a push's entry.
unfoldable pub serve : ℕ → ℕ → Entry → List Entry → Served
serve kind side e l = cond (eqb kind 0) (serve_push side e l) (serve_pop side l)

-- The answer is *no slot*.
abbrev pub says_no_free_slot : Answer → Bool
says_no_free_slot (Running p) = false
says_no_free_slot Pushed = false
says_no_free_slot Empty = false
says_no_free_slot (Popped e) = false
says_no_free_slot NoFreeSlot = true

-- To a push that lacks a slot it replies *no slot*, and stays. (Request #104.)
unfoldable pub serve_for : Bool → ℕ → ℕ → Entry → List Entry → Served
serve_for lacks kind side e l = cond lacks (record { reply = NoFreeSlot; deque = l }) (serve kind side e l)
