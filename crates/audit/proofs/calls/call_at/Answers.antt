use Rattle.audit.proofs.WordsRead.{read_is}
use Rattle.audit.proofs.calls.call_at.Goals as goal

pub returns : goal.returns
returns c = read_is c.args.words.now c.args.i c.requires
