-- The tests of a busy record as they are made, one after the other: at 1 to 10, and beyond. There they are those of the record (`proofs/DequePlaces`,
-- `SlotPlaces`).
use Rattle.std.specs.Prelude.{Bool, ◌&&◌, ◌||◌, not, cond, ℕ, leb, eqb}
use Rattle.word.specs.{declared.Anchor.Anchor, Anchor.anchor_of, Link.link_of}
use Rattle.model.specs.{declared.Call.Call, Sound.{from1, link_sound, anchor_sound}, Kinds.{is_push, is_pop}}

-- The tests of a record at 1 to 10 of its kind, own slot and finishing, and of the Anchor word that it has read.
unfoldable pub deque_call : ℕ → Call → Bool
deque_call slots r =
    cond (is_push r)
    (from1 slots r.own && (eqb r.finishing 0 || (eqb r.finishing 1 && leb 5 r.place)))
    (is_pop r && (eqb r.own 0 && eqb r.finishing 0))

unfoldable pub deque_seen : ℕ → ℕ → Anchor → Bool
deque_seen slots place a =
    cond (eqb a.left a.right)
    (not (leb 5 place) && (eqb a.status 0 && leb a.left slots))
    (from1 slots a.left && (from1 slots a.right && cond (leb 5 place) (from1 2 a.status) (leb a.status 2)))

-- Neighbour and link word.
unfoldable pub read_sound : ℕ → ℕ → ℕ → Bool
read_sound slots neighbour link = leb neighbour slots && link_sound slots link

unfoldable pub deque_sound : ℕ → Call → Bool
deque_sound slots r =
    leb r.side 1
    && (read_sound slots r.neighbour r.link && (deque_call slots r && deque_seen slots r.place (anchor_of r.seen)))

-- The tests of a record beyond 10 of its kind and own slot, and of the head that it has read.
unfoldable pub slot_call : Bool → ℕ → Call → Bool
slot_call pooled slots r =
    cond (eqb r.place 11) (eqb r.kind 1 && eqb r.own 0)
    (pooled
    && cond (leb r.place 14)
    (eqb r.kind 0 && (eqb r.own 0 && (eqb r.place 12 || not (eqb (link_of r.link).slot 0))))
    (eqb r.kind 1 && (leb r.place 17 && from1 slots r.own)))

unfoldable pub slot_sound : Bool → ℕ → Call → Bool
slot_sound pooled slots r =
    leb r.side 1
    && (read_sound slots r.neighbour r.link
    && (eqb r.finishing 0 && (anchor_sound slots (anchor_of r.seen) && slot_call pooled slots r)))
