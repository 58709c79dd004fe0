-- Which slots are taken, in use and marked: the same in queues that are alike within their lengths.
use mathlib.Core.{Bool.{Bool, true}, Path.{◌≡◌, ◌∙◌, ap, subst, sym}}
use Prim.Native.Nat.{ℕ, ◌<◌, ◌≤◌}
use Rattle.model.specs.{declared.{Call.Call, Control.Control, Op.{Op, TheVariants.Step}, Record.Record}, Walk.contents}
use Rattle.model.specs.{Tables.{Queue, marked, record_at, task_at}, Calls.{Done, act}}
use Rattle.model.specs.History.{InUse, MarkedIn, NoFreeSlotIn, Taken, Waits, is_taken, a_pop_gives, a_pop_holds, pop_gives}
use Rattle.model.specs.History.{pop_holds, a_push_holds, push_holds, waits}
use Rattle.shelf_model.specs.Cut.{cut}
use Rattle.shelf_model.proofs.{Cut.marked-cut, Stretches.task-cut, CutCalls.{act-cut, contents-cut}}

module _ (p q : Queue) (e : cut p ≡ cut q) where
  control : p.tables.control ≡ q.tables.control
  control = ap (λ (x : Queue). x.tables.control) e

  known : (t : ℕ) → t < p.tables.control.tasks → t < q.tables.control.tasks
  known t h = subst (λ (c : Control). t < c.tasks) control h

  outcome : (t : ℕ) (o : Op) → (act p t o).outcome ≡ (act q t o).outcome
  outcome t o = ap (λ (d : Done). d.outcome) (sym (act-cut p t o) ∙ ap (λ (x : Queue). act x t o) e ∙ act-cut q t o)

  -- What a test finds of a task's record.
  found : (test : Call → ℕ → Bool) (t x : ℕ) → t < p.tables.control.tasks → test (record_at p t) x ≡ true → test (record_at q t) x ≡ true
  found test t x h f =
      let same : task_at p t ≡ task_at q t = sym (task-cut p t h) ∙ ap (λ (y : Queue). task_at y t) e ∙ task-cut q t (known t h) in
      subst (λ (r : Record). test r.call x ≡ true) same f

  taken : (x : ℕ) → Taken p x → Taken q x
  taken x (waits w) =
      waits (subst (Waits x) (sym (contents-cut p.tables) ∙ ap (λ (y : Queue). contents y.tables) e ∙ contents-cut q.tables) w)
  taken x (a_push_holds t h f) = a_push_holds t (known t h) (found push_holds t x h f)
  taken x (a_pop_holds t h f) = a_pop_holds t (known t h) (found pop_holds t x h f)

  in_use : (x : ℕ) → InUse p x → InUse q x
  in_use x (is_taken h) = is_taken (taken x h)
  in_use x (a_pop_gives t h f) = a_pop_gives t (known t h) (found pop_gives t x h f)

  mark : (x : ℕ) → x ≤ p.tables.control.slots → marked p.tables.marks x ≡ marked q.tables.marks x
  mark x h =
      sym (marked-cut p.tables.control.slots p.tables.marks x h)
      ∙ ap (λ (y : Queue). marked y.tables.marks x) e
      ∙ marked-cut q.tables.control.slots q.tables.marks x (subst (λ (c : Control). x ≤ c.slots) control h)

  within : (x : ℕ) → x ≤ q.tables.control.slots → x ≤ p.tables.control.slots
  within x h = subst (λ (c : Control). x ≤ c.slots) (sym control) h

  pub no_free_slot_alike : NoFreeSlotIn p → NoFreeSlotIn q
  no_free_slot_alike h t f x low high = in_use x (h t (outcome t Step ∙ f) x low (within x high))

pub marks_alike : (p q : Queue) → cut p ≡ cut q → MarkedIn Taken p → MarkedIn Taken q
marks_alike p q e h x low high =
    let inside = within p q e x high in
    let z = h x low inside in
    (λ m. taken p q e x (z.0 (mark p q e x inside ∙ m)), λ t. sym (mark p q e x inside) ∙ z.1 (taken q p (sym e) x t))
