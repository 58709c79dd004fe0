-- The tag is joined to the slot.
use Rattle.word.proofs.{Fields.{field, low}, Link.pack.Statement.statement}
use Rattle.word.proofs.Link.pack.Tie as tie

returns : tie.Need-returns
returns c = let l = c.before.before.args.self in (field 32 32 l.tag tt (low 15 32 l.slot tt)).0

pub pack_spec : {M : Type 1} → statement M
pack_spec = tie.close (tie.spec returns)
