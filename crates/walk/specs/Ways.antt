-- The way of a walk, and where a link leads.
use mathlib.Core.{Bool.cond, List.{List, []}}
use Rattle.std.specs.Prelude.{ℕ, Option, None, Some, Result, Ok, Err}
use lib.{Dec.eqb, ListN.get_or}
use Rattle.word.specs.{Anchor.anchor_of, Link.link_of}
use Rattle.model.specs.{declared.Control.Control, Sides.{near, far, is_empty}, Sound.{from1, link_sound}}
use Rattle.model.specs.Walk.{Walk, along, broken, entries, walk_from, whence}
use Rattle.walk.specs.declared.{Unsound.Unsound, Way.Way}

-- From the right end along Left links, or, under LPUSH, from the left end along Right links.
unfoldable pub way_of : Control → Way
way_of c =
    let a = anchor_of c.anchor in
    let side = whence a.status in
    record { slots = c.slots; rightward = eqb a.status 2; first = near side a; last = far side a }

-- The one value of its type.
abbrev pub unsound : Unsound
unsound = record {}

-- Where it begins: nowhere if both ends are null, else at that end if it is a slot.
unfoldable pub beginning_of : Control → Result (Option Way) Unsound
beginning_of c =
    let a = anchor_of c.anchor in
    let w = way_of c in
    cond (is_empty a) (Ok None) (cond (from1 w.slots w.first) (Ok (Some w)) (Err unsound))

abbrev pub links_on : Way → List ℕ → List ℕ → List ℕ
links_on w lefts rights = cond w.rightward rights lefts

-- The slot that the link word of slot x leads to: 0 where the word is such as 34 names, or names none.
unfoldable pub leads_to : Way → List ℕ → List ℕ → ℕ → ℕ
leads_to w lefts rights x = let l = get_or (links_on w lefts rights) x 0 in cond (link_sound w.slots l) (link_of l).slot 0

-- A slot, where one is named.
abbrev pub named : ℕ → Result ℕ Unsound
named y = cond (eqb y 0) (Err unsound) (Ok y)

-- Where the walk goes on from slot x; nowhere from the last.
unfoldable pub led_from : Way → List ℕ → List ℕ → ℕ → Result (Option ℕ) Unsound
led_from w lefts rights x = let y = leads_to w lefts rights x in cond (eqb x w.last) (Ok None) (cond (eqb y 0) (Err unsound) (Ok (Some y)))

-- The walk that is ahead at the first slot.
abbrev pub ahead : Way → List ℕ → List ℕ → List ℕ → Walk
ahead w lefts rights labels = along w.slots (links_on w lefts rights) labels w.last w.slots w.first

-- A walk along a way, turned to run from left to right.
abbrev pub turned_back : Way → Walk → Walk
turned_back w v = walk_from (cond w.rightward 0 1) v

-- What waits, by where the walk begins.
abbrev pub walk_by : Result (Option Way) Unsound → List ℕ → List ℕ → List ℕ → Walk
walk_by (Ok None) lefts rights labels = entries []
walk_by (Err e) lefts rights labels = broken
walk_by (Ok (Some w)) lefts rights labels = turned_back w (ahead w lefts rights labels)
