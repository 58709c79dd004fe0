-- What a place's move keeps: kind and side, at places 1 to 10 the own slot and the label, and the head.
use mathlib.Core.{Path.{◌≡◌, refl}, Bool.{Bool, true, false}}
use Prim.Native.Nat.{ℕ, ◌≤◌}
use native.Mathlib.Omega.{arith}
use Rattle.model.specs.{declared.{Control.Control, Call.Call}, Tables.with_own, Places.move}
use Rattle.model.specs.Places.{Touch, nothing, set_anchor, set_link, clear_mark, take_slot, set_next, set_head, Move, row}
use Rattle.model.proofs.Bridge.ByMove.{by_move}

-- What a step leaves of a record; with `in_deque`, at 1 to 10, slot and label too.
pub record Keeps (in_deque : Type 0) (r t : Call) : Type 0 where
  pub kind : t.kind ≡ r.kind
  pub side : t.side ≡ r.side
  pub own : in_deque → t.own ≡ r.own
  pub label : in_deque → t.label ≡ r.label

-- A touch of the head.
unfoldable pub heads : Touch → Bool
heads nothing = false
heads (set_anchor w) = false
heads (set_link side x w) = false
heads (clear_mark x) = false
heads (take_slot w x l) = true
heads (set_next x v) = false
heads (set_head w) = true

module _ (c : Control) (r : Call) where
  abbrev in_deque : Type 0
  in_deque = r.place ≤ 10

  abbrev pub Moves : Move → Type 0
  Moves m = Keeps in_deque r m.task × (in_deque → heads m.touch ≡ false)

  pub itself : Keeps in_deque r r
  itself = record { kind = refl; side = refl; own = λ _. refl; label = λ _. refl }

  reading : (t : Call) → t.kind ≡ r.kind → t.side ≡ r.side → t.own ≡ r.own → t.label ≡ r.label → Keeps in_deque r t
  reading t k s o l = record { kind = k; side = s; own = λ _. o; label = λ _. l }

  -- A slot is drawn, and kept for the answer, beyond place 10 alone.
  owned : (x l : ℕ) → (in_deque → ⊥) → Keeps in_deque r (with_own r x l)
  owned x l never = record { kind = refl; side = refl; own = λ n. absurd (never n); label = λ n. absurd (never n) }

  pub moves : (w : ℕ) → 1 ≤ r.place → Moves (move c r w)
  unfolding heads
  moves w busy = by_move c w (λ t s. Keeps in_deque r s × (in_deque → heads t ≡ false)) r (record {
    same = (itself, λ _. refl);
    read = (reading _ refl refl refl refl, λ _. refl);
    found = λ _. (reading _ refl refl refl refl, λ _. refl);
    met = λ _. (reading _ refl refl refl refl, λ _. refl);
    two = (itself, λ _. refl);
    four_push = (reading _ refl refl refl refl, λ _. refl);
    four_pop = (itself, λ _. refl);
    ten = (itself, λ _. refl);
    three = (itself, λ _. refl);
    nine = (itself, λ _. refl);
    eleven = λ _. (itself, λ _. refl);
    keeps = λ e. (owned (row r) w (λ n. beyond (omega arith) n), λ _. refl);
    head = λ _. (reading _ refl refl refl refl, λ _. refl);
    next = λ _. (reading _ refl refl refl refl, λ _. refl);
    draws = λ e. (owned (row r) r.label (λ n. beyond (omega arith) n), λ n. absurd (beyond (omega arith) n));
    links = λ _. (itself, λ _. refl);
    gives = λ h. (itself, λ n. absurd (let l = h (λ z. omega arith) in omega arith));
  })
    where
      beyond : 11 ≤ r.place → r.place ≤ 10 → ⊥
      beyond h l = omega arith
