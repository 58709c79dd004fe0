-- A push of which 33 was asked before its turn keeps the invariant and the ledger; so lists with such pushes are linearized.
use mathlib.Core.{Path.{◌≡◌, refl, ap, sym, ◌∙◌}, Bool.{Bool, true, false, ◌&&◌, ◌||◌, not, cond}}
use mathlib.Core.List.{List, [], ◌∷◌, ◌++◌}
use Prim.Native.Nat.{ℕ, suc, ◌≤◌, ◌/◌, ◌%◌}
use native.Mathlib.Omega.{arith}
use lib.{Dec.{eqb, leb, ltb}, ListN.{get_or, length, length-set}}
use borrow.Author.Tests.{eqb-true, eqb-false, leb-true, not-false, not-true}
use Rattle.model.specs.Outcomes.{Moved}
use Rattle.model.specs.{declared.Answer.TheVariants.Running, Refusals.start_rules}
use Rattle.model.specs.{declared.Op.{Op, TheVariants.{Push, Pop, PushPooled, Step}}, Calls.{Acted, Done, act, back}}
use Rattle.model.specs.Tables.{Tables, Queue, is_pooled, marked, put_bit, record_at, task_at, with_taken, with_call, started}
use Rattle.model.specs.{Sound.{from1, control_sound, record_sound, rows_fit}, History.{Event, Ledger, ledger_from, note}}
use Rattle.model.specs.Refusals.{Rule, rule, first, among, fits, is_busy, late, named_push, push_refusal, start_refusal}
use Rattle.model.{specs.Lists.{All, every}, proofs.Tests.{Truth.{and-true, by_test, either}, Rules.{◌and◌, never}}}
use Rattle.model.proofs.Bridge.{Accepted.{Lies, lies}, Facts.from1_true}
use Rattle.model.proofs.Ledger.{EveryOperation.{act_good, push_good}, Matched.Matched}
use Rattle.model.proofs.Laws.Sizes as sizes
use Rattle.threads_model.specs.Turns.{Turn, act_early, take_early, run_turns, final_turns}
use Rattle.threads.specs.Promises.{EarlyAsEver}

-- Rules with other numbers than the answer did not apply.
abbrev others : ℕ → List Rule → Bool
others n [] = true
others n (r ∷ l) = not (eqb r.number n) && others n l

unmet : (n : ℕ) (l m : List Rule) → others n l ≡ true → first (l ++ m) ≡ n → All (λ (r : Rule). r.applies ≡ false) l
unmet n [] m o e = tt
unmet n (r ∷ l) m o e = let z = and-true (not (eqb r.number n)) (others n l) o in go r.applies refl z.0 (λ f. unmet n l m z.1 f)
  where
    go : (b : Bool) → r.applies ≡ b → not (eqb r.number n) ≡ true → (first (l ++ m) ≡ n → All (λ (r : Rule). r.applies ≡ false) l)
        → (r.applies ≡ false) × All (λ (r : Rule). r.applies ≡ false) l
    go true a z f = absurd (eqb-false _ _ (not-true _ z) (ap (λ (b : Bool). cond b r.number (first (l ++ m))) (sym a) ∙ e))
    go false a z f = (a, f (ap (λ (b : Bool). cond b r.number (first (l ++ m))) (sym a) ∙ e))

-- What is known of a push against which 33 alone stands.
pub record Waited (q : Queue) (t side slot : ℕ) : Type 0 where
  pub lies : Lies q t
  pub sided : side ≤ 1
  pub free : (record_at q t).place ≡ 0
  pub real : 1 ≤ slot
  pub within : slot ≤ q.tables.control.slots
  pub named : is_pooled q.tables.control ≡ false
  pub unmarked : marked q.tables.marks slot ≡ false

module _ (q : Queue) (t side slot : ℕ) where
  abbrev G : Tables
  G = q.tables

  -- The rules before 33's.
  abbrev earlier : List Rule
  earlier =
      rule 34 (not (control_sound G.control))
      ∷ rule 12 (not (fits G && (among q t).enough))
      ∷ rule 13 (not (among q t).known)
      ∷ rule 14 (not (leb side 1))
      ∷ rule 41 (is_pooled G.control)
      ∷ rule 15 (not (from1 G.control.slots slot))
      ∷ rule 34 (not (record_sound (is_pooled G.control) G.control.slots (record_at q t)))
      ∷ rule 30 (is_busy (record_at q t))
      ∷ rule 32 (marked G.marks slot)
      ∷ []

  pub waited : push_refusal G (among q t) (record_at q t) side slot ≡ 33 → Waited q t side slot
  unfolding start_refusal
  waited e =
      let z = unmet 33 earlier (rule 33 (late G.control) ∷ []) refl e in
      let y = z.1.1.1 in
      let s = from1_true G.control.slots slot (not-false _ y.1.1.0) in
      record {
        lies = lies q t (not-false _ z.1.0) (not-false _ z.1.1.0);
        sided = leb-true _ _ (not-false _ y.0);
        free = eqb-true _ _ (not-false _ y.1.1.1.1.0);
        real = s.0;
        within = s.1;
        named = y.1.0;
        unmarked = y.1.1.1.1.1.0;
      }

  -- What it leaves.
  abbrev pub pushed : ℕ → Acted
  pushed label = record { tables = with_taken G slot label; task = with_call (task_at q t) (started 0 side slot label); outcome = Moved (Running 1) }

  pub early-fits : (label : ℕ) → sizes.fits (back q t (pushed label)).queue ≡ sizes.fits q
  unfolding rows_fit
  early-fits label = λ i.
      every (ltb G.control.slots (length G.lefts) ∷ ltb G.control.slots (length G.rights)
      ∷ ltb G.control.slots (length-set G.labels slot label i) ∷ ltb (G.control.slots / 64)
      (length-set G.marks (slot / 64) (put_bit (get_or G.marks (slot / 64) 0) (slot % 64) 1) i)
      ∷ (not (is_pooled G.control) || ltb G.control.slots (length G.next)) ∷ [])
      && leb G.control.tasks (length-set q.records t (with_call (task_at q t) (started 0 side slot label)) i)

-- The event of a turn, and the ledger after it.
abbrev pub shown : Queue → ℕ → Op → Done → Event
shown q t o d = record { task = t; op = o; outcome = d.outcome; before = q.tables.control.anchor; after = d.queue.tables.control.anchor }

module _ (n : ℕ) (q : Queue) (l : Ledger) (g : Matched n q l) (t : ℕ) where
  abbrev After : Op → Done → Type 0
  After o d = Matched (suc n) d.queue (note n (shown q t o d) d.outcome l)

  early_good : (o : Op) → After o (act_early q t o)
  unfolding act_early
  early_good (Push side slot label) =
      by_test (After (Push side slot label)) (eqb (push_refusal q.tables (among q t) (record_at q t) side slot) 33)
      (λ e. let w = waited q t side slot (eqb-true _ _ e) in
      push_good n q l g t w.lies w.free side slot label w.real w.within w.named w.unmarked)
      (λ _. act_good n q l g t (Push side slot label))
  early_good (Pop side) = act_good n q l g t (Pop side)
  early_good (PushPooled side label) = act_good n q l g t (PushPooled side label)
  early_good Step = act_good n q l g t Step

  pub take_good : (o : Op) (early : Bool)
      → After o (take_early q (record { task = t; op = o; early = early }))
  unfolding take_early
  take_good o true = early_good o
  take_good o false = act_good n q l g t o

-- The position after events that begin at n.
unfoldable pub after : ℕ → List Event → ℕ
after n [] = n
after n (e ∷ es) = after (suc n) es

pub turns_good : (us : List Turn) (n : ℕ) (q : Queue) (l : Ledger) → Matched n q l
    → Matched (after n (run_turns q us)) (final_turns q us) (ledger_from n l (run_turns q us))
unfolding run_turns final_turns ledger_from after
turns_good [] n q l g = g
turns_good (u ∷ us) n q l g = turns_good us (suc n) (take_early q u).queue _ (take_good n q l g u.task u.op u.early)

-- Where Anchor is not late 33 is no refusal.
module _ (q : Queue) (t : ℕ) (l : late q.tables.control ≡ false) where
  not_33 : (side slot : ℕ) → push_refusal q.tables (among q t) (record_at q t) side slot ≡ 33 → ⊥
  unfolding start_refusal
  not_33 side slot =
      never 33 (start_rules q.tables.control (fits q.tables) (among q t) (record_at q t) side (named_push q.tables slot)) (omega arith)
      (refl and refl and refl and refl and refl and refl and refl and refl and refl and l and tt)

  as_ever : (o : Op) → act_early q t o ≡ act q t o
  unfolding act_early
  as_ever (Push side slot label) =
      by_test (λ (d : Done). d ≡ act q t (Push side slot label)) (eqb (push_refusal q.tables (among q t) (record_at q t) side slot) 33)
      (λ e. absurd (not_33 side slot (eqb-true _ _ e))) (λ _. refl)
  as_ever (Pop side) = refl
  as_ever (PushPooled side label) = refl
  as_ever Step = refl

pub early_as_ever : EarlyAsEver
unfolding take_early
early_as_ever q u l = either (λ (d : Done). d ≡ act q u.task u.op) u.early (as_ever q u.task l u.op) refl
