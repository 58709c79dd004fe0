-- After an opening the upper halves of the tasks' labels are zero, and stay so.
use Rattle.std.specs.Prelude.{Err, Ok}
use Prim.Native.Nat.{ℕ, zero, suc, ◌<◌}
use mathlib.Core.{Path.{◌≡◌, refl, ap, ◌∙◌}, Bool.{true, false}, List.{List, [], ◌∷◌, ◌++◌}}
use native.Mathlib.Omega.{arith}
use lib.{Dec.eqb, ListN.{replicate, drop, set}}
use borrow.Author.Tests.{eqb-true}
use Rattle.model.specs.{declared.{Op.{Op, TheVariants.{Push, Pop, PushPooled, Step}}, Record.Record}, Lists.zeroed}
use Rattle.model.specs.Outcomes.{Outcome}
use Rattle.model.specs.Tables.{Tables, Queue, record_at}
use Rattle.model.specs.Refusals.{among, push_refusal, push_pooled_refusal, pop_refusal, step_refusal}
use Rattle.model.specs.Calls.{Acted, decide, push_start, push_pooled_start, pop_start, step, act_on, act}
use Rattle.model.specs.{Ends.{is_moved, ends_call}, History.{Request, run}}
use Rattle.model.proofs.{Tests.Truth.{split, not_both}, Laws.Sizes.act-tasks}
use Rattle.model.proofs.Bridge.Accepted.{push_accepted, push_pooled_accepted, pop_accepted, step-accepted}
use Rattle.layout.specs.Rows.{writes_row}
use Rattle.serve.specs.Serving.{uppers_after}

-- What is carried out is not refused.
unrefused : (why : ℕ) (q : Tables) (r : Record) (done : Acted) → is_moved (decide why q r done).outcome ≡ true → why ≡ 0
unrefused why q r done m = split (eqb why 0) (λ e. eqb-true _ _ e) (λ e. absurd (not_both (let z : false ≡ true = rw e at m in z) refl))

-- So its task is one of the queue's.
moved-known : (q : Queue) (t : ℕ) (o : Op) → is_moved (act q t o).outcome ≡ true → t < q.tables.control.tasks
unfolding act act_on push_start push_pooled_start pop_start step
moved-known q t (Push side slot label) m =
    (push_accepted q t side slot (unrefused (push_refusal q.tables (among q t) (record_at q t) side slot) _ _ _ m)).starting.lies.known
moved-known q t (Pop side) m = (pop_accepted q t side (unrefused (pop_refusal q.tables (among q t) (record_at q t) side) _ _ _ m)).lies.known
moved-known q t (PushPooled side label) m = (push_pooled_accepted q t side
    (unrefused (push_pooled_refusal q.tables (among q t) (record_at q t) side) _ _ _ m)).0.lies.known
moved-known q t Step m = (step-accepted q t (unrefused (step_refusal q.tables (among q t) (record_at q t)) _ _ _ m)).lies.known

-- A row that is written whole is one of an operation that was carried out.
ends_moves : (o : Outcome) → ends_call o ≡ true → is_moved o ≡ true
ends_moves (Err n) e = e
ends_moves (Ok a) e = refl

writes_moves : (op : Op) (o : Outcome) → writes_row op o ≡ true → is_moved o ≡ true
writes_moves (Push side slot label) o e = e
writes_moves (Pop side) o e = e
writes_moves (PushPooled side label) o e = e
writes_moves Step o e = ends_moves o e

-- Zero in the place of a zero.
zero_again : (n t : ℕ) (l : List ℕ) → t < n → set (replicate n 0 ++ l) t 0 ≡ replicate n 0 ++ l
zero_again zero t l h = absurd (omega arith)
zero_again (suc n) zero l h = refl
zero_again (suc n) (suc t) l h = ap (λ (k : List ℕ). 0 ∷ k) (zero_again n t l (omega arith))

pub still_zero : (os : List Request) (n : ℕ) (q : Queue) (us : List ℕ) → q.tables.control.tasks ≡ n
    → uppers_after (zeroed n 0 us) (run q os) ≡ zeroed n 0 us
unfolding uppers_after run
still_zero [] n q us e = refl
still_zero (o ∷ os) n q us e =
    let d = act q o.task o.op in
    ap (λ (l : List ℕ). uppers_after l (run d.queue os))
    (split (writes_row o.op d.outcome)
    (λ w. rw w (zero_again n o.task (drop n us) (let k = moved-known q o.task o.op (writes_moves o.op d.outcome w) in omega (arith, e, k))))
    (λ w. rw w))
    ∙ still_zero os n d.queue us (act-tasks q o.task o.op ∙ e)
