-- The tests of a sheet's form, one after the other.
use Rattle.std.proofs.Common.{◌≡◌, refl, sym, ap, ◌∙◌, ℕ, List, [], ◌∷◌, Bool, ◌||◌}
use Rattle.std.specs.List.{list_any}
use Rattle.sheet_model.specs.Sheet.{any, malformed}
use Rattle.sheet.proofs.form.malformed.Goals as goal

any-is : (p : ℕ → Bool) (l : List ℕ) → list_any p l ≡ any p l
any-is p [] = refl
any-is p (x ∷ l) = ap (λ b. p x || b) (any-is p l)

pub returns-then-n-rules : goal.returns-then-n-rules
unfolding malformed
returns-then-n-rules c = rw c.if-n-rules.true

pub returns-then-listed_twice : goal.returns-then-listed_twice
unfolding malformed
returns-then-listed_twice c = rw (c.if-n-rules.false, sym c.listed_twice.ensures, c.if-listed_twice.true)

pub returns-else-listed_twice : goal.returns-else-listed_twice
unfolding malformed
returns-else-listed_twice c =
    rw (c.if-n-rules.false, sym c.listed_twice.ensures, c.if-listed_twice.false) (c.points_outside.ensures ∙ any-is _ c.args.rules.now)
