-- "Only at the end that the status names may the neighbour's link back be unfinished." (Document 01: labels waiting, in order.)
use mathlib.Core.{List.{List, [], ◌∷◌, ◌++◌}, Logic.◌≢◌, Path.◌≡◌}
use Rattle.std.specs.Prelude.{get_or}
use Rattle.word.specs.{Anchor.anchor_of, Link.link_of}
use Rattle.model.specs.{declared.Entry.Entry, Tables.{Tables, Queue}, Walk.{entries, contents}}
use Rattle.model.specs.History.{Request, final, AfterOpening}

-- x stands next to y, on its left, and each names the other; under RPUSH x may not name y yet where y is the last, under LPUSH y not x where x is the first.
pub record Joined (q : Tables) (before : List Entry) (x y : Entry) (after : List Entry) : Type 0 where
  pub rightward : ((anchor_of q.control.anchor).status ≡ 1 → after ≢ []) → (link_of (get_or q.rights x.slot 0)).slot ≡ y.slot
  pub leftward : ((anchor_of q.control.anchor).status ≡ 2 → before ≢ []) → (link_of (get_or q.lefts y.slot 0)).slot ≡ x.slot

-- So it is with any two neighbours among the labels that wait; and after a list among those that wait then.
abbrev pub NeighboursIn : Tables → Type 0
NeighboursIn q = (before after : List Entry) (x y : Entry) → contents q ≡ entries (before ++ (x ∷ y ∷ after)) → Joined q before x y after

abbrev pub NeighboursJoined : Queue → List Request → Type 0
NeighboursJoined q os = NeighboursIn (final q os).tables

abbrev pub LinksBack : Type 0
LinksBack = AfterOpening NeighboursJoined
