-- What holds of the move of each place, done or failed, holds of every move.
use mathlib.Core.{Bool.{Bool, cond}, Logic.◌≢◌, Path.◌≡◌}
use Prim.Native.Nat.{ℕ, suc, ◌+◌, ◌≤◌}
use native.Mathlib.Omega.{arith}
use lib.Dec.{eqb}
use borrow.Author.Tests.{eqb-false, eqb-true}
use Rattle.word.specs.{Anchor.{anchor_of, pack_anchor}, Link.{link_of, pack_link}}
use Rattle.model.specs.Places.{Move, Touch, at1, at10, at11, at12, at13, at14, at15, at16, at17, at2, at3, at4}
use Rattle.model.specs.Places.{at5, at6, at7, at9, clear_mark, end_seen, link_side, move, new4, nothing, raised, row}
use Rattle.model.specs.{Places.{set_anchor, set_head, set_link, set_next, side_of, take_slot}, Kinds.is_push}
use Rattle.model.specs.{Tables.{is_pooled, with_link, with_neighbour, with_own, with_seen}, Sides.facing}
use Rattle.model.specs.declared.{Control.Control, Call.Call}
use Rattle.model.proofs.Tests.Truth.{by_test, either}

-- The touches of a change of Anchor at 2 and 10, and of a link at 3 and 9.
abbrev pub both : Call → ℕ
both r = let a = anchor_of r.seen in
    let end : ℕ = cond (is_push r) r.own 0 in
    pack_anchor (facing (side_of r) (a.tag + 1) a.status end end)

abbrev pub settled : Call → ℕ
settled r = let a = anchor_of r.seen in pack_anchor (record { tag = a.tag + 1; status = 0; left = a.left; right = a.right })

abbrev pub end_link : Call → ℕ → ℕ
end_link r tag = pack_link (record { tag = tag; slot = end_seen r })

module _ (c : Control) (w : ℕ) (P : Touch → Call → Type 0) where
  abbrev Holds : Move → Type 0
  Holds m = P m.touch m.task

  -- One fact for each kind of move; those that only some places make have the place as an equation.
  pub record Moves (r : Call) : Type 0 where
    pub same : P nothing r
    pub read : P nothing (with_seen r c.anchor r.finishing)
    pub found : r.place ≤ 10 → P nothing (with_neighbour r (link_of w).slot)
    pub met : r.place ≤ 10 → P nothing (with_link r w)
    pub two : P (set_anchor (both r)) r
    pub four_push : P (set_anchor (new4 r)) (with_seen r (new4 r) 1)
    pub four_pop : P (set_anchor (new4 r)) r
    pub ten : P (set_anchor (settled r)) r
    pub three : P (set_link (link_side r) (row r) (end_link r (link_of w).tag)) r
    pub nine : P (set_link (link_side r) (row r) (end_link r ((link_of r.link).tag + 1))) r
    pub eleven : r.place ≡ 11 → P (clear_mark (row r)) r
    pub keeps : r.place ≡ 11 → P (clear_mark (row r)) (with_own r (row r) w)
    pub head : 11 ≤ r.place → P nothing (with_link r c.head)
    pub next : r.place ≡ 13 → P nothing (with_neighbour r w)
    pub draws : r.place ≡ 14 → P (take_slot (raised r r.neighbour) (row r) r.label) (with_own r (row r) r.label)
    pub links : r.place ≡ 16 → P (set_next (row r) (link_of r.link).slot) r
    pub gives : (r.place ≢ 0 → 17 ≤ r.place) → P (set_head (raised r r.own)) r

  module _ (r : Call) where
    -- Anchor, or the head, is as read.
    abbrev now : Bool
    now = eqb c.anchor r.seen

    abbrev top : Bool
    top = eqb c.head r.link

    -- The place is i, or above it, if it is one.
    turn : (i : ℕ) (x y : Move) → (r.place ≢ 0 → i ≤ r.place) → (r.place ≡ i → Holds x) → ((r.place ≢ 0 → suc i ≤ r.place) → Holds y)
        → Holds (cond (eqb r.place i) x y)
    turn i x y h here above =
        by_test Holds (eqb r.place i) (λ e. here (eqb-true r.place i e)) (λ e. above (λ b. later (eqb-false r.place i e) (h b)))
      where
        later : r.place ≢ i → i ≤ r.place → suc i ≤ r.place
        later n l = omega arith

    pub by_move : Moves r → Holds (move c r w)
    unfolding move at1 at2 at3 at4 at5 at6 at7 at9 at10 at11 at12 at13 at14 at15 at16 at17
    by_move m =
        turn 1 _ _ (λ b. omega arith) (λ _. m.read)
        (λ h. turn 2 _ _ h (λ _. either Holds now m.two m.read)
        (λ h. turn 3 _ _ h (λ e. either Holds (eqb r.kind 0) m.three (m.found (omega arith)))
        (λ h. turn 4 _ _ h (λ _. either Holds now (either (P (set_anchor (new4 r))) (eqb r.kind 0) m.four_push m.four_pop) m.read)
        (λ h. turn 5 _ _ h (λ e. m.found (omega arith))
        (λ h. turn 6 _ _ h (λ _. m.same)
        (λ h. turn 7 _ _ h (λ e. m.met (omega arith))
        (λ h. turn 8 _ _ h (λ _. m.same)
        (λ h. turn 9 _ _ h (λ _. either Holds (eqb w r.link) m.nine m.same)
        (λ h. turn 10 _ _ h (λ _. either Holds now m.ten m.same)
        (λ h. turn 11 _ _ h (λ e. either Holds (is_pooled c) (m.keeps e) (m.eleven e))
        (λ h. turn 12 _ _ h (λ e. m.head (omega arith))
        (λ h. turn 13 _ _ h (λ e. m.next e)
        (λ h. turn 14 _ _ h (λ e. either Holds top (m.draws e) m.same)
        (λ h. turn 15 _ _ h (λ e. m.head (omega arith))
        (λ h. turn 16 _ _ h (λ e. m.links e) (λ h. either Holds top (m.gives h) m.same))))))))))))))))
