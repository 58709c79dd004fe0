-- Eight digits, twice.
use Rattle.lines.proofs.Puts.{put-more}
use Rattle.lines.proofs.Glyphs.{hex_halves}
use Rattle.lines.proofs.number.put_hex.Goals as goal

pub returns-clause-put : goal.returns-clause-put
returns-clause-put c = rw (hex_halves _, ← c.glyphs.ensures, ← c.glyphs-2.ensures) (put-more c.put_text-a.ensures c.put_text.ensures)
