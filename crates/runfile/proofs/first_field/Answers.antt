-- The content is as long as the head says.
use Rattle.std.proofs.Common.{arith, ◌∙◌}
use Rattle.runfile.proofs.Bytes.{whole_found}
use Rattle.runfile.specs.Field.{two_at}
use Rattle.runfile.proofs.first_field.Goals as goal

pub returns-in_ok-bytes-in-len3-up-clause-value : goal.returns-in_ok-bytes-in-len3-up-clause-value
unfolding two_at
returns-in_ok-bytes-in-len3-up-clause-value c =
    let got = rw c.in_ok-bytes-in-len3-up.ensures.ok_part at c.get.ensures.lookup in
    whole_found _ _ _ c.from.result _ (omega arith) (c.from.ensures ∙ c.from_be_bytes-len.ensures) (cc) (got.0.1, got.0.2) c.content.ensures
