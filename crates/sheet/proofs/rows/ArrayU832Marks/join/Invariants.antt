-- The first j marks are those of both rows.
use Rattle.std.proofs.Common.{◌≡◌, ◌-◌}
use Rattle.sheet.specs.Squares.{sweep, ored}
use Rattle.sheet.proofs.rows.ArrayU832Marks.join.Given as goal

abbrev pub invariant-loop-j : goal.invariant-loop-j
invariant-loop-j l = sweep 0 (ored l.via) l.j (32 - l.j) l.self ≡ sweep 0 (ored l.via) 0 32 l.fn.self
