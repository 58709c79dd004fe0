-- `step1`, with what the calls answer put in.
use borrow.Author.Rules.{rules}
use Rattle.places.proofs.{Anchors.step1, at1.Statement.statement}
use Rattle.places.proofs.at1.Tie as tie

returns : tie.Need-returns
returns c =
    let seen = c.before in
    let way = seen.before in
    let word = way.before in
    let a = word.before.args in
    rw (c.settles.ensures, seen.sees-t.ensures, way.after_reading-n.ensures, word.unpack-a.ensures) (step1 a.c a.r)

pub at1_spec : {M : Type 1} → statement M
at1_spec =
    tie.close
    (tie.spec
    (λ _ _. tt)
    (λ c κs. search rules)
    (λ _ _. tt)
    (λ _ _. tt)
    returns)
