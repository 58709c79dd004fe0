-- From an accepted opening on no call is refused 34, and no schedule is marked refused.
use Rattle.std.specs.Prelude.{Err, Ok}
use mathlib.Core.{Path.{◌≡◌, refl, ap, subst}, Bool.{true, not}, List.{List, [], ◌∷◌, ◌++◌, map}, Logic.◌≢◌}
use Prim.Native.Nat.{ℕ, zero, suc, ◌<◌}
use native.Mathlib.Omega.{arith}
use lib.Dec.{eqb}
use borrow.Author.Tests.{eqb-true}
use Rattle.model.specs.Outcomes.{Outcome, Refused}
use Rattle.model.specs.declared.{Entry.Entry, Op.TheVariants.Step}
use Rattle.model.specs.{Tables.Queue, Walk.is_broken, Standing.Standing, Lists.All, Calls.{act, open_as}}
use Rattle.model.specs.History.{Event, NeverUnsound, Request, final, run}
use Rattle.model.proofs.{Tests.{Rules.{◌and◌, never}, Truth.by_test}, Never34.never_34, Standing.standing}
use Rattle.schedule_model.specs.Schedules.{Schedule, all_schedules, at_work, begun, both_answered, ends, onwards}
use Rattle.schedule_model.specs.{Schedules.{schedules, through}, Allowed.tries}
use Rattle.schedule_model.specs.Next.{Handed, Next, first_after, given, handing, next_schedule, no_more, precedes}
use Rattle.schedule_model.specs.Next.{remembered, schedule_refusal, schedule_rules}
use Rattle.schedule_model.specs.Claims.{NeverRefused, StandingSchedules, StandingUnrefused, Unrefused}
use Rattle.schedule_model.proofs.OnlyUnsound.{only_unsound}

pub standing_schedules : StandingSchedules
unfolding schedule_refusal
standing_schedules q d s ws = never 34 (schedule_rules q ws) (λ e. omega arith)
    (ap not s.control and refl and ap is_broken s.walk and refl and tt)

-- Lists of schedules of which none is marked refused.
abbrev Unmarked : List Schedule → Type 0
Unmarked l = All (λ (s : Schedule). s.ending ≢ 2) l

unmarked_append : (l m : List Schedule) → Unmarked l → Unmarked m → Unmarked (l ++ m)
unmarked_append [] m h k = k
unmarked_append (s ∷ l) m h k = (h.0, unmarked_append l m h.1 k)

unmarked_begun : (t : ℕ) (l : List Schedule) → Unmarked l → Unmarked (map (begun t) l)
unmarked_begun t [] h = tt
unmarked_begun t (s ∷ l) h = (h.0, unmarked_begun t l h.1)

-- However many steps were tried, none of a task still busy is refused.
abbrev Steady : Queue → Type 0
Steady q = (ts : List ℕ) (t n : ℕ) → t < 2 → let now = final q (tries ts) in at_work now t ≡ true → (act now t Step).outcome ≡ Refused n → ⊥

steady_on : (q : Queue) (t : ℕ) → Steady q → Steady (act q t Step).queue
unfolding final
steady_on q t h = λ ts. h (t ∷ ts)

through_unmarked : (q : Queue) (t : ℕ) (l : List Schedule) → Steady q → t < 2 → Unmarked l → Unmarked (through q t l)
unfolding final
through_unmarked q t l h low k = by_test Unmarked (at_work q t) (λ busy. go busy (act q t Step).outcome refl) (λ _. tt)
  where
    go : at_work q t ≡ true → (o : Outcome) → (act q t Step).outcome ≡ o → Unmarked (onwards t o l)
    go busy (Err refusal) e = absurd (h [] t refusal.number low busy e)
    go busy (Ok a) e = unmarked_begun t l k

all_unmarked : (n : ℕ) (q : Queue) → Steady q → Unmarked (schedules q n)
unfolding schedules
all_unmarked zero q h =
    (by_test (λ e. (ends e).ending ≢ 2) (both_answered q) (λ _ e. omega arith) (λ _ e. omega arith), tt)
all_unmarked (suc n) q h = by_test Unmarked (both_answered q) (λ _. (λ e. omega arith, tt))
    (λ _. unmarked_append (through q 0 (schedules (act q 0 Step).queue n)) (through q 1 (schedules (act q 1 Step).queue n))
    (through_unmarked q 0 _ h (omega arith) (all_unmarked n _ (steady_on q 0 h)))
    (through_unmarked q 1 _ h (omega arith) (all_unmarked n _ (steady_on q 1 h))))

-- No event of a list is refused 34, and so not the request after it.
abbrev Fine : List Event → Type 0
Fine es = All (λ (e : Event). e.outcome ≡ Refused 34 → ⊥) es

fine_last : (os : List Request) (q : Queue) (o : Request) → Fine (run q (os ++ (o ∷ []))) → (act (final q os) o.task o.op).outcome ≡ Refused 34 → ⊥
unfolding run final
fine_last [] q o h = h.0
fine_last (p ∷ os) q o h = fine_last os (act q p.task p.op).queue o h.1

fine_on : (os ps : List Request) (q : Queue) → Fine (run q (os ++ ps)) → Fine (run (final q os) ps)
unfolding run final
fine_on [] ps q h = h
fine_on (p ∷ os) ps q h = fine_on os ps (act q p.task p.op).queue h.1

first_unmarked : (ws g : List ℕ) (l : List Schedule) → Unmarked l → (handing ws (first_after g l)).reply.ending ≢ 2
unfolding first_after
first_unmarked ws g [] h = λ e. omega arith
first_unmarked ws g (s ∷ l) h =
    by_test (λ n. (handing ws n).reply.ending ≢ 2) (precedes g s.steps) (λ _. h.0) (λ _. first_unmarked ws g l h.1)

no_code : (ws : List ℕ) (n : Next) → (handing ws n).reply.code ≢ 34
no_code ws (given s) = λ e. omega arith
no_code ws no_more = λ e. omega arith

module _ (q : Queue) (d : List Entry) (s : Standing q d) (sound : (os : List Request) → NeverUnsound q os) where
  steady : (ws : List ℕ) → schedule_refusal q ws ≡ 0 → Steady q
  steady ws ok = λ ts t n low busy r.
      fine_last (tries ts) q (record { task = t; op = Step }) (sound (tries ts ++ (record { task = t; op = Step } ∷ []))).operations
      (subst (λ n. (act (final q (tries ts)) t Step).outcome ≡ Refused n) (only_unsound q ws ts t n ok low busy r) r)

  unrefused : Unrefused q
  unfolding next_schedule
  unrefused = record {
    code = λ ws. by_test (λ (h : Handed). h.reply.code ≢ 34) (eqb (schedule_refusal q ws) 0)
        (λ _. no_code ws (first_after (remembered ws) (all_schedules q))) (λ _. standing_schedules q d s ws);
    ending = λ ws. by_test (λ (h : Handed). h.reply.ending ≢ 2) (eqb (schedule_refusal q ws) 0)
        (λ z. first_unmarked ws _ (all_schedules q) (all_unmarked 48 q (steady ws (eqb-true _ _ z)))) (λ _ e. omega arith);
    schedules = λ ws ok. all_unmarked 48 q (steady ws ok);
  }

pub standing_unrefused : StandingUnrefused
standing_unrefused = unrefused

pub never-refused : NeverRefused
never-refused pooled q tasks slots tag e os =
    let o = (open_as pooled q tasks slots tag).queue in
    unrefused (final o os) _ (standing pooled q tasks slots tag e os)
    (λ ps. record { operations = fine_on os ps o (never_34 pooled q tasks slots tag e (os ++ ps)).operations })
