-- A mask of k ones is a remainder by 2 ^ k.
use mathlib.Core.Path.{refl}
use lib.Bits.{and_mask}
use Rattle.word.proofs.{Laws.same-link, Link.unpack.Statement.statement}
use Rattle.word.proofs.Link.unpack.Tie as tie

returns : tie.Need-returns
returns c = same-link (refl, and_mask c.args.w 15)

pub unpack_spec : {M : Type 1} → statement M
unpack_spec = tie.close (tie.spec returns)
