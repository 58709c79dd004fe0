-- The last label is taken at the right, the first at the left.
use Rattle.std.proofs.Common.{arith, ◌≡◌, sym, ap, ◌∙◌, ◌+◌, ◌-◌, ◌/◌, ℕ, List, Bool, length, get_or}
use mathlib.Core.{List.map}
use lib.{ListN.{length-map, get_or-map}}
use Rattle.audit_model.specs.{declared.Finished.Finished, Audit.{Given, agrees}}
use Rattle.audit.specs.LabelQueue.{Holds, Moved, Serves, held, label_at}
use Rattle.audit.proofs.Buffer.{plain, pop_left, pop_none, pop_right}
use Rattle.audit.proofs.labels.Labels.pop.Goals as goal

module _ (ws : List ℕ) (c : Finished) (low high : ℕ) (due : Given) (low' high' : ℕ) (b : List ℕ) (m : Moved low high low' high')
    (holds : Holds (length ws / 7) b) where
  serves : (same : Bool) (answer label : ℕ) → due ≡ record { answer = answer; label = label; queue = held ws low' high' b }
      → same ≡ agrees c.answer c.label answer label → Serves ws c low high due same low' high' b
  serves same answer label e s =
      record {
        same_is = s ∙ sym (ap (λ (g : Given). agrees c.answer c.label g.answer g.label) e);
        queue_is = sym (ap (λ (g : Given). g.queue) e);
        moved = m;
        holds = holds;
      }

  -- Popped is the label of the call whose index the buffer holds at place i.
  popped : (same : Bool) (i : ℕ) → same ≡ agrees c.answer c.label 4 (label_at ws (get_or b i 0))
      → due ≡ record { answer = 4; label = get_or (map (label_at ws) b) i (label_at ws 0); queue = held ws low' high' b }
      → Serves ws c low high due same low' high' b
  popped same i s e = serves same 4 _ e (s ∙ ap (agrees c.answer c.label 4) (sym (get_or-map (label_at ws) b i 0)))

pub returns-then-self : goal.returns-then-self
returns-then-self c =
    let q = c.args.self.now in
    serves c.args.words.now c.args.c q.low q.high _ q.low q.high q.places.now
    (record { ends = omega arith; left = omega arith; right = omega arith }) c.requires.3 _ 3 0
    (pop_none _ q.low q.high c.args.c.side c.if-self.true) (plain c.args.c.answer c.args.c.label 3 (λ e. omega arith))

pub popped-requires : goal.popped-requires
popped-requires c = let q = c.args.self.now in omega (arith, c.requires.3.calls (q.high - 1))

pub returns-then-c-eq1 : goal.returns-then-c-eq1
returns-then-c-eq1 c =
    let ws = c.args.words.now in
    let one = c.args.c in
    let q = c.args.self.now in
    let len = c.requires.3.size in
    let more = length-map q.places.now (label_at ws) in
    let some = c.if-self.false in
    popped ws one q.low q.high _ q.low (q.high - 1) q.places.now
    (record { ends = omega arith; left = omega arith; right = omega arith }) c.requires.3 _ (q.high - 1) c.popped.ensures
    (pop_right _ q.low q.high one.side (q.high - 1) _ c.if-c-eq1.true (omega arith) (omega arith) (omega arith))

pub popped-requires-2 : goal.popped-requires-2
popped-requires-2 c = let q = c.args.self.now in omega (arith, c.requires.3.calls q.low)

pub returns : goal.returns
returns c =
    let ws = c.args.words.now in
    let one = c.args.c in
    let q = c.args.self.now in
    let len = c.requires.3.size in
    let more = length-map q.places.now (label_at ws) in
    let some = c.if-self.false in
    let first : q.low + 1 - 1 ≡ q.low = omega arith in
    popped ws one q.low q.high _ (q.low + 1) q.high q.places.now
    (record { ends = omega arith; left = omega arith; right = omega arith }) c.requires.3 _ q.low
    (c.popped-2.ensures ∙ ap (λ (i : ℕ). agrees one.answer one.label 4 (label_at ws (get_or q.places.now i 0))) first)
    (pop_left _ q.low q.high one.side _ c.if-c-eq1.false (omega arith) (omega arith))
