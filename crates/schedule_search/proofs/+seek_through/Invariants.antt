-- What falls from call to call is twice the steps to go, by where the search stands. At each turn those before it found nothing.
use Rattle.std.proofs.Common.{◌-◌, ◌*◌}
use Rattle.layout.specs.Rows.{queue_in}
use Rattle.schedule_search.specs.Sought.{seeking, under}
use Rattle.schedule_search.proofs.Seeking.{Turn}
use Rattle.schedule_search.proofs.+seek_through.Given as goal

abbrev pub decreases-seek : goal.decreases-seek
decreases-seek l = 2 * l.left

abbrev pub decreases-through : goal.decreases-through
decreases-through l = 2 * l.left - 1

abbrev pub invariant-seek-loop-t : goal.invariant-seek-loop-t
invariant-seek-loop-t l =
    let q = queue_in l.fn.rows.control l.fn.rows.pair l.fn.lefts l.fn.rights l.fn.labels l.fn.marks l.fn.next in
    Turn l.fn.given l.given l.len l.free q (queue_in l.rows.control l.rows.pair l.lefts l.rights l.labels l.marks l.next) l.left l.t
    (under l.stopped l.free (seeking l.fn.given l.len l.left l.free q))
