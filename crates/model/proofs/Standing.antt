-- After any accepted opening and any list: what every call that walks relies on, and so what the report tells.
use Rattle.std.specs.Prelude.{Ok}
use mathlib.Core.{Path.{◌∙◌, ◌≡◌, refl}, Bool.Bool, List.{List, [], ◌∷◌}}
use Prim.Native.Nat.{ℕ}
use Rattle.model.specs.{declared.Entry.Entry, Tables.Queue, Standing.{Standing, StandsAfterOpening}}
use Rattle.model.specs.{Refusals.{open_refusal, records_fit, report_refusal}, Calls.{act, opened}}
use Rattle.model.specs.Report.{busy, report, tell, told, waiting}
use Rattle.model.specs.History.{Reports, Told, Request, final, ledger, run}
use Rattle.model.proofs.{Laws.Sizes.{act-fits, fits, open_fits}, Ledger.Opened.{nobody, open_good, some_slots}}
use Rattle.model.proofs.{Unsound.Runs.run_safe, Linearizable.linearized, Never34.open_safe}
use Rattle.model.proofs.Openings.{after-opening}

final-fits : (os : List Request) (q : Queue) → fits (final q os) ≡ fits q
unfolding final
final-fits [] q = refl
final-fits (o ∷ os) q = final-fits os (act q o.task o.op).queue ∙ act-fits q o.task o.op

stands : (pooled : Bool) (q : Queue) (tasks slots tag : ℕ) → open_refusal pooled q tasks slots ≡ 0 → (os : List Request)
    → let o = opened pooled q tasks slots tag in Standing (final o os) (ledger (run o os)).deque
stands pooled q tasks slots tag e os =
    let o = opened pooled q tasks slots tag in
    let begun = open_good pooled q tasks slots tag (some_slots pooled q tasks slots e) in
    record {
      control = (run_safe os 1 o nobody begun (open_safe pooled q tasks slots tag e)).1.control;
      long = final-fits os o ∙ open_fits pooled q tasks slots tag;
      walk = (linearized pooled q tasks slots tag e os).waits;
    }

pub standing : StandsAfterOpening
standing pooled = after-opening pooled (λ q os. Standing (final q os) (ledger (run q os)).deque) (stands pooled)

-- No rule of the report applies.
report-none : (q : Queue) (d : List Entry) → Standing q d → report_refusal q.tables (records_fit q.tables.control.tasks q) ≡ 0
unfolding report_refusal
report-none q d s = rw (s.control, s.long, s.walk)

report-told : (q : Queue) (d : List Entry) → Standing q d → report q ≡ Ok (told q.tables (busy q))
unfolding report tell
report-told q d s = rw (report-none q d s)

-- Waiting is the length of the sequential deque's queue, and the report is never refused.
pub reports : Reports
unfolding waiting
reports pooled = after-opening pooled Told (λ q tasks slots tag e os.
    let s = stands pooled q tasks slots tag e os in
    let after = final (opened pooled q tasks slots tag) os in
    record { tells = told after.tables (busy after); is = report-told after _ s; waiting = rw s.walk })
