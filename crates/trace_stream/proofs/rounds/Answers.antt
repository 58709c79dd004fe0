-- A round taken: the run goes on, or has gone to its end.
use Rattle.std.proofs.Common.{◌≡◌, ◌-◌, length, take, arith}
use lib.Seq.{drop-nil, slice, length-slice}
use Rattle.trace_stream.proofs.Reading.{first-stands, round_on, round_leaves, round_ends}
use Rattle.trace_stream.proofs.rounds.Goals as goal

pub loop-init : goal.loop-init
loop-init g c = record {
  stands = first-stands _ _ _ _ _ _ _ _ _ _ c.requires.zeros c.begin-written.ensures.begins (drop-nil _);
  within = omega arith;
  little = omega arith;
}

pub loop-preserved : goal.loop-preserved
loop-preserved g c =
    let here = c.loop in
    let b = slice here.s.at here.have here.input in
    let as_many : length b ≡ here.have - here.s.at = length-slice here.s.at here.have here.input here.invariant.within in
    let front : take (length b) c.take_round.new.input ≡ b = rw as_many c.take_round.ensures.input_after in
    let goes = rw c.in-Continue.is at c.in_ok-turn.ensures.run_after in
    record {
      stands = round_on _ _ _ b here.invariant.stands c.take_round.new.input front _ goes;
      within = goes.within;
      little = round_leaves _ _ _ b here.invariant.stands c.take_round.new.input front _ goes c.requires.field_room_in_bounds;
    }

pub returns-in-Break : goal.returns-in-Break
returns-in-Break g c = round_ends _ _ _ _ c.loop.invariant.stands _ _ (rw c.in-Break.is at c.in_ok-turn.ensures.run_after)
