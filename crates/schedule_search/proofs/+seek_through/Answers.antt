-- It ends here, or goes on with one task after the other; a task is passed over, or stepped. One induction on the steps to go.
use Rattle.std.proofs.Common.{arith, rules, refl, ◌<◌}
use Rattle.model.specs.Tables.{tables_of}
use Rattle.layout.specs.Rows.{control_of, queue_in}
use Rattle.schedule_search.proofs.Seeking.{goes_on_lem, ends-here, all, turn_found, turn_on, turns-over}
use Rattle.schedule_search.proofs.Stepping.{passed_over, there_and_back}
use Rattle.schedule_search.proofs.+seek_through.Goals as goal

pub seek-returns-in-Some : goal.seek-returns-in-Some
seek-returns-in-Some t c =
    let a = c.args in
    let q = queue_in a.rows.now.control a.rows.now.pair a.lefts.now a.rights.now a.labels.now a.marks.now a.next.now in
    ends-here _ a.len a.free q _ a.stopped a.left _ (c.in-Some.ensures q.tables) c.ended.ensures

pub seek-loop-t-init : goal.seek-loop-t-init
seek-loop-t-init t c =
    let a = c.args in
    let q = queue_in a.rows.now.control a.rows.now.pair a.lefts.now a.rights.now a.labels.now a.marks.now a.next.now in
    let on = goes_on_lem a.stopped _ a.left (c.in_default.ensures q.tables) in
    record { low = omega arith; memory = refl; queue = refl; found = all a.given.now a.len a.free q a.stopped a.left on }

pub seek-through-f-requires : goal.seek-through-f-requires
seek-through-f-requires t c =
    let a = c.args in
    let tables = tables_of (control_of a.rows.now.control) a.lefts.now a.rights.now a.labels.now a.marks.now a.next.now in
    let some : 0 < a.left = (goes_on_lem a.stopped _ a.left (c.in_default.ensures tables)).some in
    (omega (arith, c.decreases, some), (c.loop-t-test.true, (some, c.requires)))

pub seek-returns-then-is_some : goal.seek-returns-then-is_some
seek-returns-then-is_some t c =
    let a = c.args in
    turn_found _ a.len a.free _ a.left _ _ _ _ c.loop-t.invariant _ _ _ c.loop-t-test.true c.through-f.ensures (search rules)

pub seek-loop-t-preserved : goal.seek-loop-t-preserved
seek-loop-t-preserved t c =
    let a = c.args in
    turn_on _ a.len a.free _ a.left _ _ _ _ c.loop-t.invariant _ _ _ c.loop-t-test.true c.through-f.ensures (search rules)

pub seek-returns : goal.seek-returns
seek-returns t c = let a = c.args in turns-over _ a.len a.free _ a.left _ _ _ _ c.loop-t.invariant c.loop-t-test.false

pub through-returns-in_default : goal.through-returns-in_default
through-returns-in_default t c =
    let a = c.args in
    let q = queue_in a.rows.now.control a.rows.now.pair a.lefts.now a.rights.now a.labels.now a.marks.now a.next.now in
    passed_over _ a.len a.left a.free q a.t (c.in_default.ensures q.tables)

pub through-returns : goal.through-returns
through-returns t c =
    let a = c.args in
    let q = queue_in a.rows.now.control a.rows.now.pair a.lefts.now a.rights.now a.labels.now a.marks.now a.next.now in
    there_and_back _ a.len a.left a.free q a.t c.requires.1.0 c.requires.1.1 _ _ _ _ _ _ _ _ (c.in-Some.ensures q.tables)
    c.step-k.ensures c.seek-f.ensures c.back.ensures c.note.ensures
