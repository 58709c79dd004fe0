use Rattle.std.proofs.Common.{arith, ◌≡◌, ◌∙◌, sym, ap, refl, true, ◌+◌, ◌-◌, ◌/◌, ◌≤◌, ◌<◌, ℕ, List, ◌∷◌, length, get_or, drop}
use mathlib.Core.List.{map}
use lib.{ListN.{drop_of_length-le, replicate}, Seq.slice_empty}
use Rattle.audit_model.specs.{declared.{Finished.Finished, Verdict.Verdict, Verdict.TheVariants.Failed}, LentHistory.calls_in}
use Rattle.model.specs.Sound.{from1}
use Rattle.audit_model.specs.Audit.{all_of, in_order, nobody, replay}
use Rattle.audit.specs.{FirstMisplaced.first_misplaced, LabelQueue.{held, label_at}}
use Rattle.audit.proofs.{Buffer.zeros_hold, Misplaced.misplaced_within, WordsRead.{next-call, number-known}}
use Rattle.audit.proofs.Turn.{fails, goes_on, next_misplaced, stops}
use Rattle.audit.proofs.served.Goals as goal

pub loop-i-init : goal.loop-i-init
loop-i-init c =
    let ws = c.args.words.now in
    let cs = calls_in ws in
    record {
      order = omega arith;
      low = omega arith;
      high = omega arith;
      holds = record { size = refl; calls = zeros_hold (length ws / 7 - 1) 128 };
      first = omega (arith, c.requires.3);
      left = ap (replay 1 (in_order cs c.args.order.now)) (slice_empty 64 (map (label_at ws) (replicate 128 0)));
    }

pub offset_bounds-order-i : goal.offset_bounds-order-i
offset_bounds-order-i c = omega (arith, misplaced_within (calls_in c.args.words.now) c.args.order.now)

pub bounds-order-i : goal.bounds-order-i
bounds-order-i c = omega (arith, misplaced_within (calls_in c.args.words.now) c.args.order.now)

-- The number at an index before the first that stands too early is a call's.
known : (ws ks : List ℕ) (first i : ℕ) → all_of (from1 (length ws / 7)) ks ≡ true → first ≡ first_misplaced (in_order (calls_in ws) ks) → i < first
    → (i < length ks) × ((1 ≤ get_or ks i 0) × (get_or ks i 0 ≤ length ws / 7))
known ws ks first i all is less =
    let within : i < length ks = omega (arith, misplaced_within (calls_in ws) ks) in
    (within, number-known ws ks all i within)

pub overflow_sub-order : goal.overflow_sub-order
overflow_sub-order c =
    (known c.args.words.now c.args.order.now c.args.misplaced c.loop-i.i c.requires.2 c.requires.3 c.loop-i-test.true).1.0

pub serve-requires : goal.serve-requires
serve-requires c =
    let inv = c.loop-i.invariant in
    let number = known c.args.words.now c.args.order.now c.args.misplaced c.loop-i.i c.requires.2 c.requires.3 c.loop-i-test.true in
    (omega arith, omega arith, omega arith, inv.order, omega arith, inv.holds)

pub overflow_cast-result : goal.overflow_cast-result
overflow_cast-result c = omega (arith, misplaced_within (calls_in c.args.words.now) c.args.order.now)

pub overflow_add-result : goal.overflow_add-result
overflow_add-result c = omega (arith, misplaced_within (calls_in c.args.words.now) c.args.order.now)

-- A turn at index i: the call served, and the replay from there.
module _ (ws ks : List ℕ) (all : all_of (from1 (length ws / 7)) ks ≡ true) (i : ℕ) (less : i < length ks) where
  abbrev call : Finished
  call = get_or (calls_in ws) (get_or ks i 0 - 1) nobody

  abbrev rest : List Finished
  rest = in_order (calls_in ws) (drop (i + 1) ks)

  is : (first : ℕ) → i + first_misplaced (in_order (calls_in ws) (drop i ks)) ≡ first → i + first_misplaced (call ∷ rest) ≡ first
  is first e = sym (ap (λ (l : List Finished). i + first_misplaced l) (next-call ws ks all i less)) ∙ e

  onward : (q : List ℕ) (v : Verdict) → replay (i + 1) (in_order (calls_in ws) (drop i ks)) q ≡ v → replay (i + 1) (call ∷ rest) q ≡ v
  onward q v e = sym (ap (λ (l : List Finished). replay (i + 1) l q) (next-call ws ks all i less)) ∙ e

pub returns-then-not-serve : goal.returns-then-not-serve
returns-then-not-serve c =
    let ws = c.args.words.now in
    let ks = c.args.order.now in
    let i = c.loop-i.i in
    let at = c.loop-i.labels in
    let inv = c.loop-i.invariant in
    let less = (known ws ks c.args.misplaced i c.requires.2 c.requires.3 c.loop-i-test.true).0 in
    let q = held ws at.low at.high at.places.now in
    fails (call ws ks c.requires.2 i less) (rest ws ks c.requires.2 i less) i c.args.misplaced (is ws ks c.requires.2 i less _ inv.first) q c.loop-i-test.true
    (sym c.serve.ensures.same_is ∙ c.if-not-serve.true) ∙ onward ws ks c.requires.2 i less q _ inv.left

pub loop-i-preserved : goal.loop-i-preserved
loop-i-preserved c =
    let ws = c.args.words.now in
    let ks = c.args.order.now in
    let i = c.loop-i.i in
    let at = c.loop-i.labels in
    let inv = c.loop-i.invariant in
    let less = (known ws ks c.args.misplaced i c.requires.2 c.requires.3 c.loop-i-test.true).0 in
    let q = held ws at.low at.high at.places.now in
    let one = call ws ks c.requires.2 i less in
    let others = rest ws ks c.requires.2 i less in
    let first = is ws ks c.requires.2 i less _ inv.first in
    record {
      order = c.serve.ensures.moved.ends;
      low = omega (arith, c.serve.ensures.moved.left);
      high = omega (arith, c.serve.ensures.moved.right);
      holds = c.serve.ensures.holds;
      first = next_misplaced one others i c.args.misplaced first c.loop-i-test.true;
      left = goes_on one others i c.args.misplaced first q c.loop-i-test.true
          (sym c.serve.ensures.same_is ∙ c.if-not-serve.false) _ c.serve.ensures.queue_is ∙ onward ws ks c.requires.2 i less q _ inv.left;
    }

pub returns-then-misplaced-order : goal.returns-then-misplaced-order
returns-then-misplaced-order c =
    let ws = c.args.words.now in
    let ks = c.args.order.now in
    let i = c.loop-i.i in
    let at = c.loop-i.labels in
    let inv = c.loop-i.invariant in
    let here : c.args.misplaced ≡ i = omega arith in
    let less : i < length ks = omega arith in
    let q = held ws at.low at.high at.places.now in
    ap (λ (m : ℕ). Failed (m + 1)) here
    ∙ stops _ _ i c.args.misplaced (is ws ks c.requires.2 i less _ inv.first) q (λ z. omega arith) ∙ onward ws ks c.requires.2 i less q _ inv.left

pub returns : goal.returns
unfolding replay
returns c =
    let ks = c.args.order.now in
    let at = c.loop-i.labels in
    let end : length ks ≤ c.loop-i.i = omega arith in
    sym (ap (λ (l : List ℕ). replay (c.loop-i.i + 1) (in_order (calls_in c.args.words.now) l) (held c.args.words.now at.low at.high at.places.now))
    (drop_of_length-le ks end)) ∙ c.loop-i.invariant.left
