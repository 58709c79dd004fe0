-- The slot at hand keeps to the slots, and what is still to be stored is one slot less.
use Rattle.std.proofs.Common.{◌≡◌, refl, sym, ap, subst, ℕ, ◌≤◌, ◌+◌, ◌-◌, get_or, set, arith}
use Rattle.word.specs.Link.{link_of}
use Rattle.waiting.specs.Laid.{Inside, trail}
use Rattle.waiting.proofs.Laid.{begins, more, ends, inside-next}
use Rattle.waiting.proofs.lay.Goals as goal
use Rattle.waiting.proofs.lay.Goals.{In-loop-i}

slot_in : (c : In-loop-i) → (c.loop-i.x ≤ c.args.w.slots)
    × Inside c.args.w.slots (trail c.args.links.now c.args.labels.now (c.args.n - (c.loop-i.i + 1)) (link_of (get_or c.args.links.now c.loop-i.x 0)).slot)
slot_in c = inside-next c.args.links.now c.args.labels.now c.args.w.slots c.args.n c.loop-i.i c.loop-i.x c.loop-i-test.true c.loop-i.invariant.inside

pub loop-i-init : goal.loop-i-init
loop-i-init c =
    let a = c.args in
    record {
      inside = let z : a.n ≡ a.n - 0 = omega arith in
          subst (λ (m : ℕ). Inside a.w.slots (trail a.links.now a.labels.now m a.w.first)) z c.requires.inside;
      owed = begins (λ e. e.slot) a.links.now a.labels.now a.w.rightward a.n a.w.first a.slots.now;
      due = begins (λ e. e.label) a.links.now a.labels.now a.w.rightward a.n a.w.first a.copies.now;
    }

pub offset_bounds-labels-x : goal.offset_bounds-labels-x
offset_bounds-labels-x c = omega (arith, (slot_in (goal.at.offset_bounds-labels-x c).In-loop-i).0, c.requires.label_rows)

pub bounds-labels-x : goal.bounds-labels-x
bounds-labels-x c = omega (arith, (slot_in (goal.at.bounds-labels-x c).In-loop-i).0, c.requires.label_rows)

pub follow-x-requires : goal.follow-x-requires
follow-x-requires c = omega (arith, (slot_in (goal.at.follow-x-requires c).In-loop-i).0, c.requires.link_rows)

pub loop-i-preserved : goal.loop-i-preserved
loop-i-preserved c =
    let l = c.loop-i in
    let a = c.args in
    let links = a.links.now in
    let lt = c.loop-i-test.true in
    let label = get_or a.labels.now l.x 0 in
    record {
      inside =
          subst (λ (y : ℕ). Inside a.w.slots (trail links a.labels.now (a.n - (l.i + 1)) y)) (sym c.follow-x.ensures)
          (slot_in (goal.at.loop-i-preserved c).In-loop-i).1;
      owed =
          more (λ e. e.slot) links a.labels.now a.w.rightward a.n l.i l.x l.x c.follow-x.result
          l.slots _ _ lt refl c.follow-x.ensures (ap (λ (k : ℕ). set l.slots k l.x) c.place-k.ensures) l.invariant.owed;
      due =
          more (λ e. e.label) links a.labels.now a.w.rightward a.n l.i l.x label c.follow-x.result
          l.copies _ _ lt refl c.follow-x.ensures (ap (λ (k : ℕ). set l.copies k label) c.place-k.ensures) l.invariant.due;
    }

pub returns : goal.returns
returns c =
    let l = c.loop-i in
    let a = c.args in
    record {
      slots_after = ends (λ e. e.slot) a.links.now a.labels.now a.w.rightward a.n l.i l.x _ _ c.loop-i-test.false l.invariant.owed;
      copies_after = ends (λ e. e.label) a.links.now a.labels.now a.w.rightward a.n l.i l.x _ _ c.loop-i-test.false l.invariant.due;
    }
