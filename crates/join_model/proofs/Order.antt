-- The numbers of the refusals in their order, whatever the three queues. (Document 02, #113.)
use mathlib.Core.{Path.{◌≡◌, refl}, Bool.Bool, List.{[], ◌∷◌}}
use Rattle.model.{specs.Tables.Queue, proofs.Laws.Order.numbers}
use Rattle.join_model.specs.Join.{join_rules}

pub order : (a b q : Queue) (late : Bool)
    → numbers (join_rules a b q late) ≡ 34 ∷ 34 ∷ 34 ∷ 12 ∷ 34 ∷ 34 ∷ 47 ∷ 48 ∷ 33 ∷ []
order a b q late = refl
