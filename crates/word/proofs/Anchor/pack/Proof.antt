-- Each field is joined to those below it.
use mathlib.Core.Path.{◌∙◌}
use native.Mathlib.Omega.{arith}
use Rattle.word.proofs.{Fields.{field, low}, Anchor.pack.Statement.statement}
use Rattle.word.proofs.Anchor.pack.Tie as tie

returns : tie.Need-returns
returns c =
    let a = c.before.before.before.before.args.self in
    (field 32 32 a.tag tt (field 2 30 a.status tt (field 15 15 a.left tt (low 15 15 a.right tt)))).0 ∙ omega arith

pub pack_spec : {M : Type 1} → statement M
pack_spec = tie.close (tie.spec returns)
