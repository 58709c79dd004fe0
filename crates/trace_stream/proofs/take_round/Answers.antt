-- What was left stands before what was read, and all of it is taken, or the end of the input.
use Rattle.std.proofs.Common.{◌-◌, ◌<◌, ◌≤◌, length, sym, ◌∙◌, arith}
use lib.Seq.{length-slice}
use Rattle.trace_stream.proofs.Reading.{end_round, piece_ends, piece_goes, on_ok}
use Rattle.trace_stream.proofs.take_round.Goals as goal

pub returns-then-full-left-clause-run_after : goal.returns-then-full-left-clause-run_after
returns-then-full-left-clause-run_after g c =
    let as_many = length-slice c.args.s.now.at c.args.have c.args.input.now c.requires.0 in
    let full = c.in_ok-full.ensures.full in
    let within : c.in_ok-full.full ≤ length c.refill.new.input = omega (arith, full) in
    end_round _ _ _ _ _ _ (c.saturating_sub-left.ensures ∙ sym as_many) c.if-full-left.true within (c.end.ensures _ _ _ _ _ _)

pub returns-then-s-clause-run_after : goal.returns-then-s-clause-run_after
returns-then-s-clause-run_after g c =
    let full = c.in_ok-full.ensures.full in
    let order : c.args.have - c.args.s.now.at < c.in_ok-full.full = omega (arith, full) in
    let within : c.in_ok-full.full ≤ length c.refill.new.input = omega (arith, full) in
    let taken = on_ok _ c.in_ok-map_err-2.ensures.variant c.take_piece.ensures.next_after in
    piece_ends _ _ _ _ _ c.requires.0 c.refill.ensures.input_after order within _ _ taken c.if-s.true

pub returns-clause-run_after : goal.returns-clause-run_after
returns-clause-run_after g c =
    let full = c.in_ok-full.ensures.full in
    let order : c.args.have - c.args.s.now.at < c.in_ok-full.full = omega (arith, full) in
    let within : c.in_ok-full.full ≤ length c.refill.new.input = omega (arith, full) in
    let taken = on_ok _ c.in_ok-map_err-2.ensures.variant c.take_piece.ensures.next_after in
    piece_goes _ _ _ _ _ c.requires.0 c.refill.ensures.input_after order within _ _ taken c.if-s.false
