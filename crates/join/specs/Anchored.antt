-- Control after the pushes, and what the joining by value leaves.
use mathlib.Core.{Path.◌≡◌, Bool.{Bool, true, false, cond}, List.List}
use Rattle.std.specs.Prelude.{ℕ, set, Option, Some, None, Result, Ok, Err}
use Rattle.word.specs.Anchor.{anchor_of, pack_anchor}
use Rattle.model.specs.{declared.{Control.Control, Refusal.Refusal}, Tables.{Queue, queue_of, idle, with_call, task_at, with_words}}
use Rattle.join_model.specs.{Join.{Joined, join, laid}, Closed.tag_after}

-- The Anchor of n labels in slots 1 to n.
unfoldable pub anchored : Control → ℕ → Control
anchored c n = with_words c (pack_anchor (record { tag = tag_after (anchor_of c.anchor).tag n; status = 0; left = 1; right = n })) c.head

-- The number that is answered, whether labels were laid, and control then.
abbrev pub code_of : Result (Option Control) Refusal → ℕ
code_of (Ok c) = 0
code_of (Err refusal) = refusal.number

abbrev pub lays_some : Result (Option Control) Refusal → Bool
lays_some (Ok (Some c)) = true
lays_some (Ok None) = false
lays_some (Err refusal) = false

abbrev pub control_then : Control → Result (Option Control) Refusal → Control
control_then before (Ok (Some c)) = c
control_then before (Ok None) = before
control_then before (Err refusal) = before

-- Its answer and the third then, once record 0 has no call, and its own count, where labels were laid.
pub record Joins (a b q : Queue) (r : Result (Option Control) Refusal) (lefts rights labels marks : List ℕ) : Type 0 where
  pub lays : lays_some r ≡ laid a b q
  pub leaves :
      ◌≡◌ {A = Joined}
      (record {
        code = code_of r;
        third = queue_of (control_then q.tables.control r) (cond (lays_some r) (set q.records 0 (with_call (task_at q 0) idle)) q.records)
            lefts rights labels marks q.tables.next;
      })
      (join a b q)
