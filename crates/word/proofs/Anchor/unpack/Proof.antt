-- A mask of k ones is a remainder by 2 ^ k.
use mathlib.Core.Path.{refl}
use Prim.Native.Nat.{◌/◌, ◌^◌}
use lib.Bits.{and_mask}
use Rattle.word.proofs.{Laws.same-anchor, Anchor.unpack.Statement.statement}
use Rattle.word.proofs.Anchor.unpack.Tie as tie

returns : tie.Need-returns
returns c = let w = c.args.w in same-anchor (refl, and_mask (w / 2 ^ 30) 2, and_mask (w / 2 ^ 15) 15, and_mask w 15)

pub unpack_spec : {M : Type 1} → statement M
unpack_spec = tie.close (tie.spec returns)
