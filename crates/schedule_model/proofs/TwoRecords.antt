-- With two tasks only the first two records count.
use mathlib.Core.{Path.{◌≡◌, refl, sym, ap, ◌∙◌}, Bool.{Bool, true}, List.{List, [], ◌∷◌}}
use Prim.Native.Nat.{ℕ, zero, suc}
use native.Mathlib.Omega.{arith}
use lib.{Dec.ltb, ListN.length}
use borrow.Author.Tests.{le-leb}
use Rattle.model.specs.{declared.{Record.Record, Op.TheVariants.Step}, Tables.{Tables, Queue}, Refusals.{Lent, among}}
use Rattle.model.{specs.Calls.{Acted, step, act_on, Done, back, act}, proofs.Laws.Sizes.act-tasks}
use Rattle.schedule_model.specs.Schedules.{schedules}

abbrev wide : Tables → Record → Record → List Record → Queue
wide q a b rest = record { tables = q; records = a ∷ b ∷ rest }

module _ (q : Tables) (a b : Record) (two : q.control.tasks ≡ 2) where
  -- The step of a record of theirs.
  abbrev by : ℕ → Record → Acted
  by t r = step q (record { enough = true; known = ltb t q.control.tasks }) r

  lent : (rest : List Record) (t : ℕ) → among (wide q a b rest) t ≡ record { enough = true; known = ltb t q.control.tasks }
  lent rest t =
      ap (λ (e : Bool). record { enough = e; known = ltb t q.control.tasks })
      (le-leb q.control.tasks (suc (suc (length rest))) (omega (arith, two)))

  act0 : (rest : List Record) → act (wide q a b rest) 0 Step ≡ back (wide q a b rest) 0 (by 0 a)
  unfolding act act_on
  act0 rest = ap (λ (p : Lent). back (wide q a b rest) 0 (step q p a)) (lent rest 0)

  act1 : (rest : List Record) → act (wide q a b rest) 1 Step ≡ back (wide q a b rest) 1 (by 1 b)
  unfolding act act_on
  act1 rest = ap (λ (p : Lent). back (wide q a b rest) 1 (step q p b)) (lent rest 1)

  tasks0 : (by 0 a).tables.control.tasks ≡ 2
  tasks0 = ap (λ (d : Done). d.queue.tables.control.tasks) (sym (act0 [])) ∙ act-tasks (wide q a b []) 0 Step ∙ two

  tasks1 : (by 1 b).tables.control.tasks ≡ 2
  tasks1 = ap (λ (d : Done). d.queue.tables.control.tasks) (sym (act1 [])) ∙ act-tasks (wide q a b []) 1 Step ∙ two

pub two_records : (n : ℕ) (q : Tables) (a b : Record) (rest : List Record) → q.control.tasks ≡ 2
    → schedules (wide q a b rest) n ≡ schedules (wide q a b []) n
unfolding schedules
two_records zero q a b rest two = refl
two_records (suc n) q a b rest two =
    let d = by q a b two 0 a in
    let e = by q a b two 1 b in
    rw (act0 q a b two rest, act1 q a b two rest, act0 q a b two [], act1 q a b two [])
    (rw (two_records n d.tables d.task b rest (tasks0 q a b two), two_records n e.tables a e.task rest (tasks1 q a b two)) refl)
