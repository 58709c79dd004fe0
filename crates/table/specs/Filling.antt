-- A table's first n entries overwritten; a shorter table keeps its contents. With 0 they are zeroed.
use mathlib.Core.{Bool.cond, List.List}
use Rattle.std.specs.Prelude.{ℕ}
use lib.{Dec.leb, ListN.length}
use Rattle.model.specs.Lists.{zeroed}

unfoldable pub filling : {A : Type 0} → ℕ → A → List A → List A
filling n v l = cond (leb n (length l)) (zeroed n v l) l
