-- Lists of turns one behind the other: the queue, a thread's outcomes, and that none is 34.
use mathlib.Core.{Path.{◌≡◌, refl, ap, sym, subst, ◌∙◌}, Bool.{Bool, false, cond}, List.{List, [], ◌∷◌, ◌++◌}}
use Prim.Native.Nat.{ℕ}
use lib.Dec.{eqb}
use Rattle.model.specs.Outcomes.{Outcome, Refused}
use Rattle.model.specs.{declared.Op.Op, Tables.Queue, History.Event}
use Rattle.model.{specs.Lists.All, proofs.Tests.Truth.split}
use Rattle.threads_model.specs.{Turns.{Turn, take_early, run_turns, final_turns}, Crew.{as_turns, outcomes_of}}

pub assoc : (a b c : List Outcome) → (a ++ b) ++ c ≡ a ++ (b ++ c)
assoc [] b c = refl
assoc (x ∷ a) b c = ap (λ (l : List Outcome). x ∷ l) (assoc a b c)

pub append_none : (l : List Outcome) → l ++ [] ≡ l
append_none [] = refl
append_none (x ∷ l) = ap (λ (l : List Outcome). x ∷ l) (append_none l)

pub final_append : (xs ys : List Turn) (q : Queue) → final_turns q (xs ++ ys) ≡ final_turns (final_turns q xs) ys
unfolding final_turns
final_append [] ys q = refl
final_append (u ∷ xs) ys q = final_append xs ys (take_early q u).queue

pub outcomes_append : (u : ℕ) (xs ys : List Turn) (q : Queue)
    → outcomes_of u (run_turns q (xs ++ ys)) ≡ outcomes_of u (run_turns q xs) ++ outcomes_of u (run_turns (final_turns q xs) ys)
unfolding run_turns final_turns outcomes_of
outcomes_append u [] ys q = refl
outcomes_append u (x ∷ xs) ys q =
    let d = take_early q x in
    let here : List Outcome = cond (eqb x.task u) (d.outcome ∷ []) [] in
    ap (λ (l : List Outcome). here ++ l) (outcomes_append u xs ys d.queue)
    ∙ sym (assoc here (outcomes_of u (run_turns d.queue xs)) (outcomes_of u (run_turns (final_turns d.queue xs) ys)))

-- What one thread decides is no outcome of another.
pub not_mine : (t u : ℕ) → eqb t u ≡ false → (early : Bool) (l : List Op) (q : Queue) → outcomes_of u (run_turns q (as_turns t early l)) ≡ []
unfolding run_turns outcomes_of
not_mine t u e early [] q = refl
not_mine t u e early (o ∷ l) q =
    let d = take_early q (record { task = t; op = o; early = early }) in
    ap (λ (b : Bool). cond b (d.outcome ∷ []) [] ++ outcomes_of u (run_turns d.queue (as_turns t early l))) e
    ∙ not_mine t u e early l d.queue

-- 34 is no outcome.
abbrev pub Sound : Event → Type 0
Sound e = e.outcome ≡ Refused 34 → ⊥

pub sound_append : (xs ys : List Turn) (q : Queue) → All Sound (run_turns q xs) → All Sound (run_turns (final_turns q xs) ys) → All Sound (run_turns q (xs ++ ys))
unfolding run_turns final_turns
sound_append [] ys q a b = b
sound_append (u ∷ xs) ys q a b = (a.0, sound_append xs ys (take_early q u).queue a.1 b)

abbrev pub Fine : Outcome → Type 0
Fine o = o ≡ Refused 34 → ⊥

pub outcomes-sound : (u : ℕ) (es : List Event) → All Sound es → All Fine (outcomes_of u es)
unfolding outcomes_of
outcomes-sound u [] a = tt
outcomes-sound u (e ∷ es) a = split (eqb e.task u)
    (λ b. subst (λ (b : Bool). All Fine (cond b (e.outcome ∷ []) [] ++ outcomes_of u es)) (sym b) (a.0, outcomes-sound u es a.1))
    (λ b. subst (λ (b : Bool). All Fine (cond b (e.outcome ∷ []) [] ++ outcomes_of u es)) (sym b) (outcomes-sound u es a.1))

pub all_first : (xs ys : List Outcome) → All Fine (xs ++ ys) → All Fine xs
all_first [] ys a = tt
all_first (x ∷ xs) ys a = (a.0, all_first xs ys a.1)
