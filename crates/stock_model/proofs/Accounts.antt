-- Every label accounted for, after any list from any accepted opening.
use mathlib.Core.{Bool.true, List.{List, [], ◌∷◌, map}, Path.{◌≡◌, ap, subst, sym}}
use Prim.Native.Nat.{ℕ, ◌+◌, ◌<◌}
use native.Mathlib.Omega.{arith}
use Rattle.model.specs.{declared.Entry.Entry, Tables.Queue, Lists.All, Walk.{contents, entries, met}}
use Rattle.model.specs.{Calls.{open_as, opened}, History.{ledger, pending}}
use Rattle.model.specs.History.{AfterOpening, Event, LedgerCall, Ending, Lawful, Request, answered, final, is_open, run}
use Rattle.model.proofs.{Ledger.{EveryOperation.run_good, Opened.{nobody, open_good, some_slots}}, Never34.open_safe}
use Rattle.model.proofs.{Unsound.Runs.run_safe, Linearizable.linearizable, Openings.after-opening}
use Rattle.stock_model.specs.Accounts.{AccountedIn, AddedUp, EveryLabel, Stands, StockTaking, answered_by, each}
use Rattle.stock_model.specs.Accounts.{answered_labels, held_by, held_labels, pushed_labels, popped_by, popped_labels}
use Rattle.stock_model.specs.Accounts.{waiting_labels}
use Rattle.stock_model.proofs.Balance.{all_fit, balanced, only, weigh, weigh_all, weigh_more, weigh_only}
use Rattle.stock_model.proofs.Held.{every-known, every-stands}

abbrev AllLawful : List LedgerCall → Type 0
AllLawful cs = All (λ (c : LedgerCall). Lawful c c.ending) cs

module _ (w : ℕ → ℕ) where
  -- A lawful call: what its effect took is what it answered, or what it holds.
  split_one : (c : LedgerCall) (e : Ending) → Lawful c e → weigh w (popped_by c) ≡ weigh w (answered_by e) + weigh w (held_by c e)
  unfolding each weigh
  split_one c pending h = omega arith
  split_one c (answered n a) h = rw (h.only, h.agrees) (simp weigh_more (omega arith))

  split-all : (cs : List LedgerCall) → AllLawful cs → weigh w (popped_labels cs) ≡ weigh w (answered_labels cs) + weigh w (held_labels cs)
  unfolding each weigh
  split-all [] h = omega arith
  split-all (c ∷ cs) h = simp weigh_more (omega (arith, split_one c c.ending h.0, split-all cs h.1))

  -- However labels are counted: those pushed are those taken and those waiting, and those taken are those answered and those held.
  abbrev AddsUp : List Event → Queue → Type 0
  AddsUp es q =
      let cs = (ledger es).calls in
      (weigh w (pushed_labels cs) ≡ weigh w (popped_labels cs) + weigh w (waiting_labels q.tables))
      × (weigh w (popped_labels cs) ≡ weigh w (answered_labels cs) + weigh w (held_labels cs))

  adds_up : (es : List Event) (q : Queue) → AllLawful (ledger es).calls → contents q.tables ≡ entries (ledger es).deque → AddsUp es q
  unfolding each weigh
  adds_up es q lawful waits =
      let l = ledger es in (
        subst (λ (m : List Entry). weigh w (pushed_labels l.calls) ≡ weigh w (popped_labels l.calls) + weigh w (map (λ (e : Entry). e.label) m))
            (sym (ap met waits)) (balanced w 1 nobody es (omega arith)),
        split-all l.calls lawful,
      )

-- Of any events whose calls are lawful, and a queue whose waiting labels are the deque's; that the open calls stand is shown apart.
module _ (es : List Event) (q : Queue) (lawful : AllLawful (ledger es).calls) (waits : contents q.tables ≡ entries (ledger es).deque) where
  pub accounted : All (λ (c : LedgerCall). Stands q c c.ending) (ledger es).calls → AccountedIn es q
  accounted s = record {
    every_push = λ x. simp weigh_only at (adds_up (only x) es q lawful waits).0;
    every_pop = λ x. simp weigh_only at (adds_up (only x) es q lawful waits).1;
    stands = s;
  }

  pub added_up : AddedUp es q
  added_up =
      let a = adds_up (λ x. 1) es q lawful waits in
      let z = simp weigh_all at a in omega (arith, z.0, z.1)

-- Every call of the ledger that is open stands where its record does.
abbrev AllStand : Queue → List Request → Type 0
AllStand q os = All (λ (c : LedgerCall). Stands (final q os) c c.ending) (ledger (run q os)).calls

all_stand : AfterOpening AllStand
all_stand pooled = after-opening pooled AllStand (λ q tasks slots tag e os.
    let o = opened pooled q tasks slots tag in
    let z = open_good pooled q tasks slots tag (some_slots pooled q tasks slots e) in
    let g = run_good os 1 o nobody z in
    let safe = (run_safe os 1 o nobody z (open_safe pooled q tasks slots tag e)).1 in
    every-stands g.0 (final o os) (ledger (run o os)) g.1 safe (all_fit 1 nobody (run o os) tt))

-- An open call is one of the queue's tasks'.
abbrev pub OpenKnown : Queue → List Request → Type 0
OpenKnown q os = All (λ (c : LedgerCall). is_open c.ending ≡ true → c.task < (final q os).tables.control.tasks) (ledger (run q os)).calls

pub open_known : AfterOpening OpenKnown
open_known pooled = after-opening pooled OpenKnown (λ q tasks slots tag e os.
    let o = opened pooled q tasks slots tag in
    let g = run_good os 1 o nobody (open_good pooled q tasks slots tag (some_slots pooled q tasks slots e)) in
    every-known g.0 (final o os) (ledger (run o os)) g.1)

pub every-label : EveryLabel
every-label pooled q tasks slots tag e os =
    let o = (open_as pooled q tasks slots tag).queue in
    let law = linearizable pooled q tasks slots tag e os in
    accounted (run o os) (final o os) law.calls law.waits (all_stand pooled q tasks slots tag e os)

pub stock_taking : StockTaking
stock_taking pooled q tasks slots tag e os =
    let o = (open_as pooled q tasks slots tag).queue in
    let law = linearizable pooled q tasks slots tag e os in
    added_up (run o os) (final o os) law.calls law.waits
