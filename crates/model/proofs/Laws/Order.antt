-- The numbers of each call's refusals, in their order, whatever the tables and arguments. (Document 01: Refused .., "Order when opening: 10, 11, 12.
-- Otherwise: ..", and the run file's 16; document 02, #102 and #104.)
use mathlib.Core.{Path.{◌≡◌, refl}, Bool.{Bool, false}, List.{List, [], ◌∷◌, map}}
use Prim.Native.Nat.{ℕ}
use Rattle.model.specs.{declared.{Control.Control, Call.Call, Asked.Asked}, Tables.{Tables, Queue}}
use Rattle.model.specs.Refusals.{Rule, Lent, malformed, open_rules, start_rules, pooled_push, nothing_asked}
use Rattle.model.specs.Refusals.{step_rules, report_rules}

abbrev pub numbers : List Rule → List ℕ
numbers l = map (λ (r : Rule). r.number) l

pub record Order : Type 0 where
  pub opening : (pooled : Bool) (q : Queue) (tasks slots : ℕ) → numbers (open_rules pooled q tasks slots) ≡ 10 ∷ 11 ∷ 12 ∷ []
  -- A push that names no slot, and a pop, are asked less: what they are not asked never applies.
  pub start : (c : Control) (fit : Bool) (p : Lent) (r : Call) (side : ℕ) (a : Asked)
      → numbers (start_rules c fit p r side a) ≡ 34 ∷ 12 ∷ 13 ∷ 14 ∷ 41 ∷ 15 ∷ 34 ∷ 30 ∷ 32 ∷ 33 ∷ []
  pub put : (q : Tables) → ((pooled_push q).outside ≡ false) × ((pooled_push q).taken ≡ false)
  pub pop : (nothing_asked.wrong ≡ false) × (nothing_asked.outside ≡ false) × (nothing_asked.taken ≡ false)
  pub step : (q : Tables) (p : Lent) (r : Call) → numbers (step_rules q p r) ≡ 34 ∷ 12 ∷ 13 ∷ 34 ∷ 31 ∷ 34 ∷ []
  pub report : (q : Tables) (enough : Bool) → numbers (report_rules q enough) ≡ 34 ∷ 12 ∷ 34 ∷ []
  pub file : malformed ≡ 16

pub order : Order
order = record {
  opening = λ pooled q tasks slots. refl;
  start = λ c fit p r side a. refl;
  put = λ q. (refl, refl);
  pop = (refl, refl, refl);
  step = λ q p r. refl;
  report = λ q enough. refl;
  file = refl;
}
