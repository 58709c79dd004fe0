-- What is stored: all zero but for the count where the call ended, else the record; nothing where the step was refused.
use mathlib.Core.{Path.{◌≡◌, sym, ap, ◌∙◌}, Bool.{true, false}, List.{List, [], ◌∷◌}}
use Prim.Native.Nat.{ℕ}
use Rattle.model.specs.declared.{Reply.Reply, Transition.Transition}
use Rattle.model.specs.{Tables.{counting, idle}, Route.counted, Calls.reply_of, Ends.{is_moved, ends_call}}
use Rattle.layout.specs.Rows.{call_of, record_of, upper_of}
use Rattle.touch.specs.Heard.{Replied, storing}
use Rattle.touch.proofs.put.Goals as goal
use Rattle.touch.proofs.put.Goals.{then-moves+then-ends, then-moves+else-ends, else-moves}

module _ (was row : List ℕ) (m : Transition) (y : Reply) (told : y ≡ reply_of m.outcome) where
  abbrev Stored : Type 0
  Stored =
      ◌≡◌ {A = Replied} (record { task = record_of row; upper = upper_of row; reply = y }) (storing (upper_of was) (record_of was) m)

  over : (k : ℕ) → is_moved m.outcome ≡ true → ends_call m.outcome ≡ true → k ≡ counted (record_of was).retries m.failed
      → row ≡ 0 ∷ 0 ∷ 0 ∷ 0 ∷ 0 ∷ 0 ∷ 0 ∷ 0 ∷ 0 ∷ k ∷ [] → Stored
  unfolding call_of record_of upper_of
  over k moved ends counts is =
      ap (λ (l : List ℕ). record { task = record_of l; upper = upper_of l; reply = y }) is
      ∙ rw (moved, ends) (λ i. record { task = counting idle (counts i); upper = 0; reply = told i })

  on : (k : ℕ) (l : List ℕ) → is_moved m.outcome ≡ true → ends_call m.outcome ≡ false → k ≡ counted (record_of was).retries m.failed
      → (record_of l ≡ record { call = m.task; retries = k }) × (upper_of l ≡ 0) → row ≡ l → Stored
  unfolding record_of
  on k l moved goes counts stored is =
      ap (λ (x : List ℕ). record { task = record_of x; upper = upper_of x; reply = y }) is
      ∙ rw (moved, goes) (λ i. record { task = (stored.0 ∙ ap (counting m.task) counts) i; upper = stored.1 i; reply = told i })

  none : is_moved m.outcome ≡ false → row ≡ was → Stored
  none stays is =
      ap (λ (l : List ℕ). record { task = record_of l; upper = upper_of l; reply = y }) is
      ∙ rw stays (λ i. record { task = record_of was; upper = upper_of was; reply = told i })

pub returns : goal.returns
unfolding record_of
returns c =
    let was = c.args.task.now in
    let m = c.args.m in
    elim c.if-moves.branch [
      | then-moves+then-ends w ↦ over was _ m _ c.reply.ensures _ (sym c.moves.ensures ∙ w.if-moves.true) (sym w.ends.ensures ∙ w.if-ends.true)
          w.counted-retries.ensures w.task-is
      | then-moves+else-ends w ↦ on was _ m _ c.reply.ensures _ _ (sym c.moves.ensures ∙ w.if-moves.true) (sym w.ends.ensures ∙ w.if-ends.false)
          w.counted-retries.ensures w.record_row.ensures w.task-is
      | else-moves w ↦ none was _ m _ c.reply.ensures (sym c.moves.ensures ∙ w.if-moves.false) w.task-is
    ]
