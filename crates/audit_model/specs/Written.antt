-- A list of demand 3 written as a history: its places as events, its effects as the order. (Document 02: #103.)
use mathlib.Core.{Path.◌≡◌, Bool.cond, List.{List, [], ◌∷◌, map, reverse}}
use Rattle.std.specs.Prelude.{ℕ, ◌≤◌}
use lib.{Dec.ltb, ListN.length}
use Rattle.model.specs.{declared.Answer.{Answer, TheVariants.{Running, Pushed, Empty, Popped, NoFreeSlot}}, Lists.All}
use Rattle.model.specs.Outcomes.{Moved}
use Rattle.model.specs.{declared.Entry.Entry, Calls.reply_of, Tables.Queue}
use Rattle.model.specs.History.{AfterOpening, LedgerCall, Effect, Ending, Request, answered, ledger, pending, run}
use Rattle.audit_model.specs.{declared.{Finished.Finished, Verdict.TheVariants.Passed}, Audit.{nobody, verdict}}

-- A push is told with the label that it pushed, a pop with the one that it popped.
abbrev pub label_told : Entry → Answer → ℕ
label_told e (Running p) = 0
label_told e Pushed = e.label
label_told e Empty = 0
label_told e (Popped x) = x.label
label_told e NoFreeSlot = 0

abbrev pub written : LedgerCall → Ending → Finished
written c pending = nobody
written c (answered n a) = record {
  task = c.task;
  kind = c.kind;
  side = c.side;
  label = label_told c.entry a;
  answer = (reply_of (Moved a)).code;
  start = c.start;
  end = n;
}

-- The ledger has the latest call first; a history has the first call first, as number 1.
abbrev pub finished : List LedgerCall → List Finished
finished cs = reverse (map (λ (c : LedgerCall). written c c.ending) cs)

-- An effect: its place in the list, and its call's number.
pub record Placed : Type 0 where
  pub at : ℕ
  pub number : ℕ

-- Into its place among others that lie in order.
unfoldable pub insert : {A : Type 0} → (A → ℕ) → A → List A → List A
insert place x [] = x ∷ []
insert place x (y ∷ l) = cond (ltb (place x) (place y)) (x ∷ y ∷ l) (y ∷ insert place x l)

-- The effects of call number n among those of others.
abbrev pub insert_all : ℕ → List Effect → List Placed → List Placed
insert_all n [] l = l
insert_all n (e ∷ es) l = insert (λ (p : Placed). p.at) (record { at = e.at; number = n }) (insert_all n es l)

-- All effects, in the order of their places.
abbrev pub effects_of : List LedgerCall → List Placed
effects_of [] = []
effects_of (c ∷ cs) = insert_all (length (c ∷ cs)) c.effects (effects_of cs)

abbrev pub effect_order : List LedgerCall → List ℕ
effect_order cs = map (λ (p : Placed). p.number) (effects_of cs)

-- Pushed, empty or popped: no history can tell *no slot*.
abbrev pub IsTold : Answer → Type 0
IsTold (Running p) = ⊥
IsTold Pushed = Unit {0}
IsTold Empty = Unit {0}
IsTold (Popped e) = Unit {0}
IsTold NoFreeSlot = ⊥

abbrev pub IsAnswered : Ending → Type 0
IsAnswered pending = ⊥
IsAnswered (answered n a) = IsTold a

-- Any list of demand 3 with at most 64 calls, all answered pushed, popped or empty, passes.
abbrev pub Passes : Queue → List Request → Type 0
Passes q os =
    let cs = (ledger (run q os)).calls in
    All (λ (c : LedgerCall). IsAnswered c.ending) cs → length cs ≤ 64 → verdict (finished cs) (effect_order cs) ≡ Passed

abbrev pub HistoriesPass : Type 0
HistoriesPass = AfterOpening Passes
