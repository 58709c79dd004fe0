-- Anchor is as read, and the change is `change4`; or it is not, and the change has failed.
use borrow.Author.Rules.{rules}
use Rattle.places.proofs.{Anchors.failed4, at4.Statement.statement}
use Rattle.places.proofs.at4.Tie as tie

returns : tie.Need-returns-then-c-r
returns c = c.change4.ensures c.before.if-c-r.true

returns-2 : tie.Need-returns
returns-2 c =
    let gone = c.before in
    let seen = gone.before in
    let way = seen.before in
    let word = way.before in
    let other = word.before in
    let a = other.before.before.before.args in
    rw (c.fails.ensures, gone.settles-m.ensures, seen.sees-t.ensures, way.after_reading-n.ensures, word.unpack-a.ensures)
    (failed4 a.c a.r other.if-c-r.false)

pub at4_spec : {M : Type 1} → statement M
at4_spec =
    tie.close
    (tie.spec (λ _ _. tt) returns
    (λ _ _. tt)
    (λ c κs. search rules)
    (λ _ _. tt)
    (λ _ _. tt)
    (λ _ _. tt)
    returns-2)
