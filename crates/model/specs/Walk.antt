-- The labels waiting, in order. (Document 01: Places, below the table; document 02, #102.)
use mathlib.Core.{Bool.{Bool, true, false, cond}, List.{List, [], ◌∷◌, map}, Path.◌≡◌}
use Rattle.std.specs.Prelude.{ℕ, zero, suc, ◌<◌}
use lib.{Dec.eqb, ListN.{get_or, length}}
use Rattle.word.specs.{Anchor.anchor_of, Link.link_of}
use Rattle.model.specs.{declared.Entry.Entry, Tables.Tables, Deque.seen_from, Sound.{from1, link_sound}}
use Rattle.model.specs.Sides.{opposite, near, far, links, is_empty}

-- A walk of the queue: its entries, or broken.
pub data Walk : Type 0 where
  entries : List Entry → Walk
  broken : Walk

abbrev pub and_then : Entry → Walk → Walk
and_then e (entries l) = entries (e ∷ l)
and_then e broken = broken

-- A walk that began at a side, turned to run from left to right.
abbrev pub walk_from : ℕ → Walk → Walk
walk_from side (entries l) = entries (seen_from side l)
walk_from side broken = broken

-- From slot x along the links to the slot last, at most n slots. Broken: before last it meets slot 0 or a link word as 34 names it, or takes more.
unfoldable pub along : ℕ → List ℕ → List ℕ → ℕ → ℕ → ℕ → Walk
along slots links labels last zero x = broken
along slots links labels last (suc n) x =
    let e : Entry = record { slot = x; label = get_or labels x 0 } in
    let w = get_or links x 0 in
    let onwards = cond (link_sound slots w) (along slots links labels last n (link_of w).slot) broken in
    cond (from1 slots x) (cond (eqb x last) (entries (e ∷ [])) (and_then e onwards)) broken

-- The side where the walk begins: the right or, under LPUSH, the left.
abbrev pub whence : ℕ → ℕ
whence status = cond (eqb status 2) 0 1

-- The labels waiting, from left to right: from the right end along Left links, or, under LPUSH, from the left end along Right links.
unfoldable pub contents : Tables → Walk
contents q =
    let a = anchor_of q.control.anchor in
    let side = whence a.status in
    let slots = q.control.slots in
    let walk = along slots (links q (opposite side)) q.labels (far side a) slots (near side a) in
    cond (is_empty a) (entries []) (walk_from side walk)

abbrev pub is_broken : Walk → Bool
is_broken (entries l) = false
is_broken broken = true

-- The entries of a walk; none where it is broken.
abbrev pub met : Walk → List Entry
met (entries l) = l
met broken = []

-- A copy of label x waits, i entries from the left.
abbrev pub CopyAt : ℕ → List Entry → ℕ → Type 0
CopyAt x l i = (i < length l) × (get_or (map (λ (e : Entry). e.label) l) i 0 ≡ x)
