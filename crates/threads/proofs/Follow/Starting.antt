-- The instructions of a start, by what they look at.
use mathlib.Core.{Path.{◌≡◌, refl}, Bool.{true, false, not, cond}, List.{[], ◌∷◌}}
use Prim.Native.Nat.{ℕ}
use lib.Dec.{eqb}
use Rattle.model.specs.{declared.{Call.Call, Record.Record, Op.{Op, TheVariants.{Push, Pop, PushPooled}}}, Sound.from1}
use Rattle.model.specs.Outcomes.{Moved, Refused}
use Rattle.model.specs.{declared.Answer.TheVariants.Running, Refusals.late}
use Rattle.model.specs.Tables.{Tables, marked, with_mark, with_marks, with_call, started, asking}
use Rattle.model.proofs.Tests.Truth.{split}
use Rattle.threads_model.specs.Starts.{names, pops, puts, own_refusal, plan_start, settle_start}
use Rattle.threads_model.specs.Instructions.{Hand, claims, looks, labels, ends, Ticked, quiet, decided, start_first}
use Rattle.threads_model.specs.Instructions.{claims_mark, looks_mark}

-- A pop, or a push that names no slot: refused by its own numbers and record, refused 33, or carried out.
abbrev pub plain_start : Tables → Record → Op → ℕ → Call → ℕ → Ticked
plain_start q r op why call place =
    cond (eqb why 0)
    (cond (late q.control) (decided op q (ends r (Refused 33))) (decided op q (ends (with_call r call) (Moved (Running place)))))
    (decided op q (ends r (Refused why)))

abbrev pub named_own : ℕ → ℕ → Call → ℕ → ℕ → ℕ
named_own pooled slots r side slot = own_refusal pooled slots r side (eqb pooled 1) (not (from1 slots slot))

-- A push that names a slot: refused by its own numbers and record, or it goes on.
abbrev pub named_start : ℕ → ℕ → Tables → Record → ℕ → ℕ → ℕ → Ticked
named_start pooled slots q r side slot label =
    let why = named_own pooled slots r.call side slot in
    cond (eqb why 0)
    (cond (late q.control) (quiet q (looks side slot label)) (quiet q (claims side slot label)))
    (decided (Push side slot label) q (ends r (Refused why)))

-- The turn of one that has passed 33.
abbrev pub passing : Op → Tables → Hand → Ticked
passing op q k = record { tables = q; hand = k; decides = op ∷ []; early = true }

module _ (q : Tables) (r : Record) where
  module _ (pooled slots : ℕ) where
    pub first_pop : (side : ℕ)
        → start_first pooled slots q r (Pop side) (pops side)
        ≡ plain_start q r (Pop side) (own_refusal pooled slots r.call side false false) (started 1 side 0 0) 1
    unfolding start_first plan_start settle_start
    first_pop side =
        split (eqb (own_refusal pooled slots r.call side false false) 0)
        (λ e. split (late q.control) (λ l. rw (e, l)) (λ l. rw (e, l)))
        (λ e. rw e)

    pub first_push_pooled : (side label : ℕ)
        → start_first pooled slots q r (PushPooled side label) (puts side label)
        ≡ plain_start q r (PushPooled side label) (own_refusal pooled slots r.call side (not (eqb pooled 1)) false) (asking side label) 12
    unfolding start_first plan_start settle_start
    first_push_pooled side label =
        split (eqb (own_refusal pooled slots r.call side (not (eqb pooled 1)) false) 0)
        (λ e. split (late q.control) (λ l. rw (e, l)) (λ l. rw (e, l)))
        (λ e. rw e)

    pub first_push : (side slot label : ℕ)
        → start_first pooled slots q r (Push side slot label) (names side slot label) ≡ named_start pooled slots q r side slot label
    unfolding start_first plan_start settle_start
    first_push side slot label =
        split (eqb (named_own pooled slots r.call side slot) 0)
        (λ e. split (late q.control) (λ l. rw (e, l)) (λ l. rw (e, l)))
        (λ e. rw e)

  module _ (side slot label : ℕ) where
    abbrev op : Op
    op = Push side slot label

    pub claims-is : claims_mark q r side slot label
        ≡ cond (marked q.marks slot)
        (passing op q (ends r (Refused 32)))
        (passing op (with_marks q (with_mark q.marks slot 1)) (labels false slot label (with_call r (started 0 side slot label)) (Moved (Running 1))))
    unfolding claims_mark settle_start
    claims-is = refl

    pub looks-is : looks_mark q r side slot label ≡ decided op q (ends r (Refused (cond (marked q.marks slot) 32 33)))
    unfolding looks_mark settle_start
    looks-is = split (marked q.marks slot) (λ e. rw e) (λ e. rw e)
