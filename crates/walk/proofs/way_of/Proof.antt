-- With the Anchor as unpacked, and so as it is.
use mathlib.Core.{Path.{◌≡◌, sym, ap, ◌∙◌}, Bool.{true, false}}
use borrow.Author.Tests.{eq-eqb, ne_eqb}
use lib.Dec.{eqb}
use Rattle.word.specs.{declared.Anchor.Anchor, Anchor.anchor_of}
use Rattle.walk.specs.Ways.{way_of}
use Rattle.walk.proofs.way_of.Statement.{statement}
use Rattle.walk.proofs.way_of.Tie as tie

status : (u : tie.After-unpack-a) → eqb (anchor_of u.before.args.c.anchor).status 2 ≡ eqb u.unpack-a.result.status 2
status u = ap (λ (a : Anchor). eqb a.status 2) (sym u.unpack-a.ensures)

returns : tie.Need-returns-then-a-eq2
unfolding way_of
returns c =
    let u = c.before.before in
    rw (status u ∙ eq-eqb _ _ c.if-a-eq2.true)
    (λ i. record { slots = u.before.args.c.slots; rightward = true; first = (u.unpack-a.ensures i).left; last = (u.unpack-a.ensures i).right })

returns-2 : tie.Need-returns
unfolding way_of
returns-2 c =
    let u = c.before.before in
    rw (status u ∙ ne_eqb _ _ c.if-a-eq2.false)
    (λ i. record { slots = u.before.args.c.slots; rightward = false; first = (u.unpack-a.ensures i).right; last = (u.unpack-a.ensures i).left })

pub way_of_spec : {M : Type 1} → statement M
way_of_spec = tie.close (tie.spec (λ _ _. tt) returns returns-2)
