-- All slots stacked in the next table of a pooled queue; a shorter table, and a named queue's, keeps its contents.
use mathlib.Core.{Bool.{Bool, ◌&&◌, cond}, List.List}
use Rattle.std.specs.Prelude.{ℕ}
use lib.{Dec.ltb, ListN.length}
use Rattle.model.specs.Calls.{stacked}

unfoldable pub stacking : Bool → ℕ → List ℕ → List ℕ
stacking pooled slots l = cond (pooled && ltb slots (length l)) (stacked slots l) l
