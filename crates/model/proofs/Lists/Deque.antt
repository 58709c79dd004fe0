-- A deque as a list from left to right, and as it is seen from a side; chains of entries.
use mathlib.Core.{Bool.{Bool, cond}, List.{List, [], ◌∷◌, reverse}, Logic.◌≢◌}
pub use Rattle.model.specs.Lists.{All}

-- Seen from a side (true: right), that side's end comes first.
abbrev pub seen : {A : Type 0} → Bool → List A → List A
seen d l = cond d (reverse l) l

abbrev pub rest : {A : Type 0} → List A → List A
rest [] = []
rest (x ∷ l) = l

-- An entry put at a side's end, and the entry there taken.
unfoldable pub put : {A : Type 0} → Bool → A → List A → List A
put d x l = seen d (x ∷ seen d l)

unfoldable pub took : {A : Type 0} → Bool → List A → List A
took d l = seen d (rest (seen d l))

abbrev pub front : {A : Type 0} → List A → A → A
front [] z = z
front (x ∷ q) z = x

-- P holds of each entry and the one after it.
abbrev pub From : {A : Type 0} → (A → A → Type 0) → A → List A → Type 0
From P x [] = Unit {0}
From P x (y ∷ q) = P x y × From P y q

abbrev pub Chain : {A : Type 0} → (A → A → Type 0) → List A → Type 0
Chain P [] = Unit {0}
Chain P (x ∷ q) = From P x q

abbrev pub Distinct : {A : Type 0} → List A → Type 0
Distinct [] = Unit {0}
Distinct (x ∷ q) = All (λ y. y ≢ x) q × Distinct q
