-- What a saving and a return leave of every lent word. (Document 02, #109.)
use mathlib.Core.{Bool.cond, List.{List, [], ◌∷◌}}
use Rattle.std.specs.Prelude.{ℕ, eqb}
use Rattle.model.specs.{declared.Control.Control, Tables.Queue}
use Rattle.layout.specs.Rows.{control_of, records_of}
use Rattle.shelf_model.specs.Shelves.{Shelves, over, part, return_refusal, returned, save_refusal, saved, shelf_at}
use Rattle.shelf_model.specs.Shelves.{with_part}

-- Shelves whose controls and records are lent as rows of words.
unfoldable pub controls_of : List (List ℕ) → List Control
controls_of [] = []
controls_of (ws ∷ rows) = control_of ws ∷ controls_of rows

abbrev pub shelves_in : List (List ℕ) → List (List ℕ) → List ℕ → List ℕ → List ℕ → List ℕ → List ℕ → Shelves
shelves_in controls rows lefts rights labels marks next = record {
  controls = controls_of controls;
  records = records_of rows;
  lefts = lefts;
  rights = rights;
  labels = labels;
  marks = marks;
  next = next;
}

-- A saving: its number, the shelves, and of the label words in their records the upper halves, which are in no field and are copied too.
pub record Saved : Type 0 where
  pub code : ℕ
  pub shelves : Shelves
  pub uppers : List ℕ

unfoldable pub saving : Queue → List ℕ → Shelves → List ℕ → ℕ → Saved
saving q queue s shelves n = record {
  code = save_refusal q s n;
  shelves = saved q s n;
  uppers = cond (eqb (save_refusal q s n) 0) (with_part n shelves (over q.tables.control.tasks queue (part n shelves))) shelves;
}

-- A return: its number, the queue, and the same of its records.
pub record Returned : Type 0 where
  pub code : ℕ
  pub queue : Queue
  pub uppers : List ℕ

unfoldable pub returning : Queue → List ℕ → Shelves → List ℕ → ℕ → Returned
returning q queue s shelves n = record {
  code = return_refusal q s n;
  queue = returned q s n;
  uppers = cond (eqb (return_refusal q s n) 0) (over (shelf_at s n).tables.control.tasks (part n shelves) queue) queue;
}
