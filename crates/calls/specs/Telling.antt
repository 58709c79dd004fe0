-- How many records the report looks at.
use Rattle.std.specs.Prelude.{◌&&◌, cond, ℕ, leb}
use Rattle.model.specs.declared.Control.{Control}

unfoldable pub countable : Control → ℕ → ℕ
countable c records = cond (leb c.tasks 16 && leb c.tasks records) c.tasks 0
