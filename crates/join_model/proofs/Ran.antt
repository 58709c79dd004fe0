-- A list of requests carried out: the queue after it, and the outcomes.
use mathlib.Core.{Path.{◌≡◌, refl, ap, ap₂, ◌∙◌}, List.{List, [], ◌∷◌, ◌++◌}}
use Prim.Native.Nat.{◌<◌, ◌≤◌}
use lib.ListN.{length}
use Rattle.model.specs.Outcomes.{Outcome}
use Rattle.model.specs.{declared.{Record.Record, Op.TheVariants.Step}, Tables.{Tables, Queue}}
use Rattle.model.specs.{Calls.{Done, back, act, step_lent}, History.{Request, run, final}}
use Rattle.model.proofs.Laws.LentRecord.{with_row, lent_record}
use Rattle.join_model.specs.Join.{outcomes}

pub record Ran (q : Queue) (os : List Request) (after : Queue) (said : List Outcome) : Type 0 where
  pub leaves : final q os ≡ after
  pub says : outcomes (run q os) ≡ said

pub ran-none : (q : Queue) → Ran q [] q []
unfolding run final
ran-none q = record { leaves = refl; says = refl }

pub ran-more : {q mid after : Queue} {o : Request} {said : Outcome} {os : List Request} {l : List Outcome}
    → act q o.task o.op ≡ record { queue = mid; outcome = said } → Ran mid os after l → Ran q (o ∷ os) after (said ∷ l)
unfolding run final
ran-more {said = said} {os = os} e r = record {
  leaves = ap (λ (d : Done). final d.queue os) e ∙ r.leaves;
  says = ap (λ (d : Done). d.outcome ∷ outcomes (run d.queue os)) e ∙ ap (λ (l : List Outcome). said ∷ l) r.says;
}

pub final-on : (os ps : List Request) (q : Queue) → final q (os ++ ps) ≡ final (final q os) ps
unfolding final
final-on [] ps q = refl
final-on (o ∷ os) ps q = final-on os ps (act q o.task o.op).queue

run_on : (os ps : List Request) (q : Queue) → outcomes (run q (os ++ ps)) ≡ outcomes (run q os) ++ outcomes (run (final q os) ps)
unfolding run final
run_on [] ps q = refl
run_on (o ∷ os) ps q = ap (λ (l : List Outcome). (act q o.task o.op).outcome ∷ l) (run_on os ps (act q o.task o.op).queue)

pub ran_on : {q mid after : Queue} (os ps : List Request) {l m : List Outcome} → Ran q os mid l → Ran mid ps after m → Ran q (os ++ ps) after (l ++ m)
ran_on {q} os ps r s = record {
  leaves = final-on os ps q ∙ ap (λ (z : Queue). final z ps) r.leaves ∙ s.leaves;
  says = run_on os ps q ∙ ap₂ (λ (a b : List Outcome). a ++ b) r.says (ap (λ (z : Queue). outcomes (run z ps)) r.leaves ∙ s.says);
}

-- The queue of some tables, with r as the row of task 0.
abbrev pub stands : Tables → List Record → Record → Queue
stands t rs r = with_row (record { tables = t; records = rs }) 0 r

-- A step of task 0, from the step of its record.
pub steps : (t : Tables) (rs : List Record) (r : Record) {after : Tables} {r' : Record} {o : Outcome}
    → 0 < t.control.tasks → t.control.tasks ≤ length rs → step_lent t r ≡ record { tables = after; task = r'; outcome = o }
    → act (stands t rs r) 0 Step ≡ record { queue = stands after rs r'; outcome = o }
steps t rs r h g e =
    lent_record (record { tables = t; records = rs }) 0 r h g ∙ ap (back (record { tables = t; records = rs }) 0) e
