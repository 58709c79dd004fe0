-- The halves, then their bytes, then their digits.
use Rattle.std.proofs.Common.{◌∙◌}
use Rattle.lines.proofs.Glyphs.{glyphs_are}
use Rattle.lines.proofs.number.glyphs.Goals as goal

pub returns : goal.returns
returns c = c.to_le_bytes.ensures ∙ glyphs_are c.args.w
