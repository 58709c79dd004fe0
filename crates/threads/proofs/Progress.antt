-- A thread goes on by its own instructions, whatever the others do: each leaves fewer before it, and nobody else's leaves more.
use mathlib.Core.{Path.{◌≡◌, refl, ap, sym, subst}, Bool.{Bool, true, false, cond, not}, List.{List, [], ◌∷◌, ◌++◌}}
use Prim.Native.Nat.{ℕ, suc, ◌+◌, ◌<◌, ◌≤◌}
use native.Mathlib.Omega.{arith}
use lib.{Dec.eqb, ListN.get_or}
use borrow.Author.Tests.{eqb-true, eqb-false, eq-eqb, ne_eqb}
use Rattle.model.specs.Outcomes.{Outcome}
use Rattle.model.specs.declared.{Record.Record, Op.{Op, TheVariants.{Push, Pop, PushPooled, Step}}}
use Rattle.model.specs.{Tables.{Tables, Queue, task_at, marked}, Sides.links, Refusals.late, Lists.All, History.Request}
use Rattle.model.proofs.Tests.Truth.{either, by_test, not_both, split}
use Rattle.threads_model.specs.{Split.plan, Starts.own_refusal, Turns.final_turns, Crew.told}
use Rattle.threads_model.specs.Instructions.{Hand, free, begun, loaded, knows, claims, looks, labels, marks, ends, tick}
use Rattle.threads_model.specs.Instructions.{Ticked, told_at_end, at_once, is_as_read, is_to_put, loads_own, one_word, puts_own}
use Rattle.threads_model.specs.Instructions.{reads_next, replaces, step_first, clears}
use Rattle.threads_model.specs.Crew.{Act, Crew, Known, calls, next, all_free, takes_up, ticked, go, go_on, turns, tells_to}
use Rattle.threads.specs.Consequences.{GoesAhead, InstructionsGoOn, own_in}
use Rattle.threads.proofs.Follow.Starting.{named_own, first_pop, first_push_pooled, first_push, claims-is}
use Rattle.threads.proofs.Follow.{Starting.looks-is, OwnLink.{AllRead, Reads, next-reads}, Good.Good}
use Rattle.threads.proofs.{Run.runs_on, Since.after-threads, RealTime.{first-known, go-more}}

-- How many of its own instructions a thread has before it at most.
abbrev ahead : Hand → ℕ
ahead free = 0
ahead (begun op) = 4
ahead (loaded w) = 2
ahead (knows label) = 2
ahead (claims side slot label) = 3
ahead (looks side slot label) = 2
ahead (labels both slot label task o) = cond both 3 2
ahead (marks slot task o) = 2
ahead (ends task o) = 1

some : (k : Hand) → (k ≡ free → ⊥) → 1 ≤ ahead k
some free n = absurd (n refl)
some (begun op) n = omega arith
some (loaded w) n = omega arith
some (knows label) n = omega arith
some (claims side slot label) n = omega arith
some (looks side slot label) n = omega arith
some (labels both slot label task o) n = either (λ (x : ℕ). 1 ≤ x) both (omega arith) (omega arith)
some (marks slot task o) n = omega arith
some (ends task o) n = omega arith

four : (k : Hand) → ahead k ≤ 4
four free = omega arith
four (begun op) = omega arith
four (loaded w) = omega arith
four (knows label) = omega arith
four (claims side slot label) = omega arith
four (looks side slot label) = omega arith
four (labels both slot label task o) = either (λ (x : ℕ). x ≤ 4) both (omega arith) (omega arith)
four (marks slot task o) = omega arith
four (ends task o) = omega arith

-- What an instruction of a hand k₀ leaves: fewer before it; and some, unless it was the last, which tells.
record Fewer (k₀ : Hand) (k : Ticked) : Type 0 where
  less : suc (ahead k.hand) ≤ ahead k₀
  more : told_at_end k₀ ≡ [] → 1 ≤ ahead k.hand

module _ (pooled slots : ℕ) (q : Tables) (r : Record) where
  loads_fewer : Fewer (begun Step) (loads_own pooled slots q r)
  unfolding loads_own
  loads_fewer =
      let p = plan pooled slots r.call in
      either (Fewer (begun Step)) (is_to_put slots p (get_or (links q p.side) p.slot 0))
      (record { less = omega arith; more = λ _. omega arith }) (record { less = omega arith; more = λ _. omega arith })

  word_fewer : Fewer (begun Step) (one_word pooled slots q r)
  unfolding one_word reads_next at_once
  word_fewer =
      let p = plan pooled slots r.call in
      let F = Fewer (begun Step) in
      either F (eqb p.act 11)
      (either F (eqb (get_or q.next p.slot 0) p.word) (record { less = omega arith; more = λ _. omega arith })
      (record { less = omega arith; more = λ _. omega arith }))
      (record { less = omega arith; more = λ _. omega arith })

  step_fewer : Fewer (begun Step) (step_first pooled slots q r)
  unfolding step_first
  step_fewer =
      let p = plan pooled slots r.call in
      let F = Fewer (begun Step) in
      either F (eqb p.act 5) loads_fewer
      (either F (eqb p.act 6) (record { less = omega arith; more = λ _. omega arith })
      (either F (eqb p.act 9)
      (either F (eqb q.control.head p.expected) (record { less = omega arith; more = λ _. omega arith })
      (record { less = omega arith; more = λ _. omega arith }))
      word_fewer))

  fewer : (k : Hand) → 1 ≤ ahead k → Reads pooled slots q r k → Fewer k (tick pooled slots q r k)
  unfolding clears replaces at_once puts_own
  fewer free b z = absurd (omega arith)
  fewer (begun (Push side slot label)) b z =
      let F = Fewer (begun (Push side slot label)) in
      subst F (sym (first_push q r pooled slots side slot label))
      (either F (eqb (named_own pooled slots r.call side slot) 0)
      (either F (late q.control) (record { less = omega arith; more = λ _. omega arith }) (record { less = omega arith; more = λ _. omega arith }))
      (record { less = omega arith; more = λ _. omega arith }))
  fewer (begun (Pop side)) b z =
      let F = Fewer (begun (Pop side)) in
      subst F (sym (first_pop q r pooled slots side))
      (either F (eqb (own_refusal pooled slots r.call side false false) 0)
      (either F (late q.control) (record { less = omega arith; more = λ _. omega arith }) (record { less = omega arith; more = λ _. omega arith }))
      (record { less = omega arith; more = λ _. omega arith }))
  fewer (begun (PushPooled side label)) b z =
      let F = Fewer (begun (PushPooled side label)) in
      subst F (sym (first_push_pooled q r pooled slots side label))
      (either F (eqb (own_refusal pooled slots r.call side (not (eqb pooled 1)) false) 0)
      (either F (late q.control) (record { less = omega arith; more = λ _. omega arith }) (record { less = omega arith; more = λ _. omega arith }))
      (record { less = omega arith; more = λ _. omega arith }))
  fewer (begun Step) b z = step_fewer
  fewer (loaded w) b z =
      let p = plan pooled slots r.call in
      by_test (Fewer (loaded w)) (eqb p.act 11) (λ _. record { less = omega arith; more = λ _. omega arith })
      (λ n. by_test (Fewer (loaded w)) (is_as_read q p w) (λ _. record { less = omega arith; more = λ _. omega arith }) (λ e. absurd (not_both (z n) e)))
  fewer (knows label) b z = record { less = omega arith; more = λ _. omega arith }
  fewer (claims side slot label) b z =
      let F = Fewer (claims side slot label) in
      subst F (sym (claims-is q r side slot label))
      (either F (marked q.marks slot) (record { less = omega arith; more = λ _. omega arith }) (record { less = omega arith; more = λ _. omega arith }))
  fewer (looks side slot label) b z =
      subst (Fewer (looks side slot label)) (sym (looks-is q r side slot label)) (record { less = omega arith; more = λ _. omega arith })
  fewer (labels true slot label task o) b z = record { less = omega arith; more = λ _. omega arith }
  fewer (labels false slot label task o) b z = record { less = omega arith; more = λ _. omega arith }
  fewer (marks slot task o) b z = record { less = omega arith; more = λ _. omega arith }
  fewer (ends task o) b z = record { less = omega arith; more = λ e. absurd (told_some o e) }
    where
      told_some : (o : Outcome) → o ∷ [] ≡ [] → ⊥
      told_some o e = let w : ◌≡◌ {A = ℕ} 0 1 = cc in omega arith

-- A call taken up is no instruction, and a thread that is in a call takes up none.
up_reads : (pooled slots : ℕ) (q : Tables) (r : Record) (k : Hand) (op : Op) → Reads pooled slots q r k → Reads pooled slots q r (takes_up k op)
up_reads pooled slots q r free op z = tt
up_reads pooled slots q r (begun o) op z = z
up_reads pooled slots q r (loaded w) op z = z
up_reads pooled slots q r (knows label) op z = z
up_reads pooled slots q r (claims side slot label) op z = z
up_reads pooled slots q r (looks side slot label) op z = z
up_reads pooled slots q r (labels both slot label task o) op z = z
up_reads pooled slots q r (marks slot task o) op z = z
up_reads pooled slots q r (ends task o) op z = z

busy_stays : (k : Hand) (op : Op) → 1 ≤ ahead k → takes_up k op ≡ k
busy_stays free op b = absurd (omega arith)
busy_stays (begun o) op b = refl
busy_stays (loaded w) op b = refl
busy_stays (knows label) op b = refl
busy_stays (claims side slot label) op b = refl
busy_stays (looks side slot label) op b = refl
busy_stays (labels both slot label task o) op b = refl
busy_stays (marks slot task o) op b = refl
busy_stays (ends task o) op b = refl

-- Is an act one of thread t's instructions?
abbrev one : ℕ → Act → ℕ
one t (calls o) = 0
one t (next u) = cond (eqb u t) 1 0

own_first : (t : ℕ) (a : Act) (l : List Act) → own_in t (a ∷ l) ≡ one t a + own_in t l
own_first t (calls o) l = omega arith
own_first t (next u) l = refl

module _ (pooled slots : ℕ) where
  calls-reads : (tasks : ℕ) (m : Crew) (o : Request) → AllRead tasks pooled slots m → AllRead tasks pooled slots (go pooled slots m (calls o))
  unfolding go
  calls-reads tasks m o z u lu =
      let R : Hand → Type 0 = Reads pooled slots m.queue.tables (task_at m.queue u) in
      by_test R (eqb u o.task)
      (λ e. up_reads pooled slots m.queue.tables (task_at m.queue u) (m.hands o.task) o.op
      (subst (λ (v : ℕ). R (m.hands v)) (eqb-true _ _ e) (z u lu)))
      (λ _. z u lu)

  -- One act: thread t is still in its call, unless it was told; its own instruction leaves fewer before it.
  abbrev Stills : Crew → ℕ → Act → Hand → Type 0
  Stills m t a k = (1 ≤ ahead k) × (ahead k + one t a ≤ ahead (m.hands t))

  still : (m : Crew) (t : ℕ) → Reads pooled slots m.queue.tables (task_at m.queue t) (m.hands t) → 1 ≤ ahead (m.hands t)
      → (a : Act) → tells_to m a t ≡ [] → Stills m t a ((go pooled slots m a).hands t)
  unfolding go
  still m t z b (calls o) e =
      by_test (Stills m t (calls o)) (eqb t o.task)
      (λ y. subst (Stills m t (calls o))
      (subst (λ (v : ℕ). m.hands v ≡ takes_up (m.hands o.task) o.op) (sym (eqb-true _ _ y))
      (sym (busy_stays (m.hands o.task) o.op (subst (λ (v : ℕ). 1 ≤ ahead (m.hands v)) (eqb-true _ _ y) b))))
      (b, omega arith))
      (λ _. (b, omega arith))
  still m t z b (next u) e = split (eqb u t)
      (λ y. subst (λ (u : ℕ). tells_to m (next u) t ≡ [] → Stills m t (next u) (cond (eqb t u) (ticked pooled slots m u).hand (m.hands t)))
      (sym (eqb-true u t y)) mine e)
      (λ n. let n' : eqb t u ≡ false = ne_eqb t u (λ w. eqb-false u t n (sym w)) in
      subst (λ (c : Bool). (1 ≤ ahead (cond c (ticked pooled slots m u).hand (m.hands t)))
      × (ahead (cond c (ticked pooled slots m u).hand (m.hands t)) + cond (eqb u t) 1 0 ≤ ahead (m.hands t))) (sym n')
      (b, subst (λ (c : Bool). ahead (m.hands t) + cond c 1 0 ≤ ahead (m.hands t)) (sym n) (omega arith)))
    where
      mine : tells_to m (next t) t ≡ [] → Stills m t (next t) (cond (eqb t t) (ticked pooled slots m t).hand (m.hands t))
      mine = subst (λ (c : Bool). cond c (told_at_end (m.hands t)) [] ≡ []
          → (1 ≤ ahead (cond c (ticked pooled slots m t).hand (m.hands t)))
          × (ahead (cond c (ticked pooled slots m t).hand (m.hands t)) + cond c 1 0 ≤ ahead (m.hands t))) (sym (eq-eqb t t refl))
          (λ e. let f = fewer pooled slots m.queue.tables (task_at m.queue t) (m.hands t) b z in
          let l = f.less in (f.more e, omega (arith, l)))

nothing-first : (a b : List Outcome) → a ++ b ≡ [] → (a ≡ []) × (b ≡ [])
nothing-first [] b e = (refl, e)
nothing-first (x ∷ a) b e = absurd (let w : ◌≡◌ {A = ℕ} 0 1 = cc in omega arith)

second-known : (tasks : ℕ) (a b : List Act) → All (Known tasks) (a ++ b) → All (Known tasks) b
second-known tasks [] b h = h
second-known tasks (x ∷ a) b h = second-known tasks a b h.1

one_more : (a : List Act) (x : Act) (b : List Act) → a ++ (x ∷ b) ≡ (a ++ (x ∷ [])) ++ b
one_more [] x b = refl
one_more (y ∷ a) x b = ap (λ (l : List Act). y ∷ l) (one_more a x b)

module _ (tasks pooled slots : ℕ) (q : Queue) (g : Good tasks pooled slots q) where
  abbrev at : List Act → Crew
  at l = go_on pooled slots (all_free q) l

  at_more : (l : List Act) (a : Act) → at (l ++ (a ∷ [])) ≡ go pooled slots (at l) a
  unfolding go_on
  at_more l a = go-more pooled slots l (a ∷ []) (all_free q)

  act-reads : (l : List Act) (a : Act) (b : List Act) → All (Known tasks) (l ++ (a ∷ b)) → AllRead tasks pooled slots (at l)
      → AllRead tasks pooled slots (at (l ++ (a ∷ [])))
  act-reads l (calls x) b h z = subst (AllRead tasks pooled slots) (sym (at_more l (calls x))) (calls-reads pooled slots tasks (at l) x z)
  act-reads l (next t) b h z =
      let w = runs_on tasks pooled slots q g l (first-known tasks l (next t ∷ b) h) in
      subst (AllRead tasks pooled slots) (sym (at_more l (next t)))
      (next-reads tasks pooled slots (at l) (final_turns q (turns pooled slots (all_free q) l)) w.sim w.good t (second-known tasks l (next t ∷ b) h).0 z)

  abbrev Within : ℕ → List Act → Crew → Type 0
  Within t l m = 1 ≤ ahead (m.hands t) → ahead (m.hands t) ≤ own_in t l → told pooled slots m l t ≡ [] → ⊥

  within : (b l : List Act) → All (Known tasks) (l ++ b) → AllRead tasks pooled slots (at l) → (t : ℕ) → t < tasks → Within t b (at l)
  unfolding told
  within [] l h z t lt = λ some few _. omega (arith, some, few)
  within (a ∷ b) l h z t lt = λ some few none.
      let m = at l in
      let n = nothing-first (tells_to m a t) (told pooled slots (go pooled slots m a) b t) none in
      let s = still pooled slots m t (z t lt) some a n.0 in
      let s1 = s.1 in
      let i = own_first t a b in
      subst (Within t b) (at_more l a)
      (within b (l ++ (a ∷ [])) (subst (All (Known tasks)) (one_more l a b) h) (act-reads l a b h z) t lt)
      s.0 (omega (arith, s1, i, few)) n.1

  reads_from : (b l : List Act) → All (Known tasks) (l ++ b) → AllRead tasks pooled slots (at l) → AllRead tasks pooled slots (go_on pooled slots (at l) b)
  unfolding go_on
  reads_from [] l h z = z
  reads_from (a ∷ b) l h z =
      subst (λ (m : Crew). AllRead tasks pooled slots (go_on pooled slots m b)) (at_more l a)
      (reads_from b (l ++ (a ∷ [])) (subst (All (Known tasks)) (one_more l a b) h) (act-reads l a b h z))

  reads : (l : List Act) → All (Known tasks) l → AllRead tasks pooled slots (at l)
  unfolding go_on
  reads l h = reads_from l [] h (λ u lu. tt)

pub instructions_go_on : InstructionsGoOn
instructions_go_on = after-threads (λ past. GoesAhead) (λ tasks pooled slots past q k l h first second is t lt busy enough.
    let g = k.good in
    let hand = (go_on pooled slots (all_free q) first).hands t in
    let known = subst (All (Known tasks)) is h in
    let most = four hand in
    within tasks pooled slots q g second first known (reads tasks pooled slots q g first (first-known tasks first second known)) t
    (subst (λ (n : ℕ). t < n) g.count lt) (some hand busy) (omega (arith, most, enough)))
