-- `step17`, with what the calls answer put in; each return is one of its cases.
use mathlib.Core.Path.{sym, ◌∙◌}
use borrow.Author.{Rules.rules, Tests.{eq-eqb, ne_eqb}}
use Rattle.places.proofs.{OnStack.step17, pool.at17.Statement.statement}
use Rattle.places.proofs.pool.at17.Tie as tie

returns : tie.Need-returns-then-c-r
returns c =
    let i = c.before.before.before in
    let a = i.before.before.before.args in
    λ ls rs ns ms xs k.
    rw (c.fails.ensures, c.before.settles-m.ensures, c.before.before.next.ensures)
    (rw (ne_eqb _ _ i.if-c-r.true) at (step17 a.c a.r ls rs ns ms xs k))

returns-2 : tie.Need-returns-then-has_room
returns-2 c =
    let h = c.before.before in
    let t = h.before.before in
    let i = t.before.before in
    let a = i.before.before.before.args in
    let same = eq-eqb _ _ i.if-c-r.false in
    let room = sym t.before.has_room.ensures ∙ t.if-has_room.true in
    λ ls rs ns ms xs k.
    rw (c.settles.ensures, c.before.next-then-has_room.ensures, h.with_head-d.ensures, h.before.new17.ensures)
    (rw (same, room) at (step17 a.c a.r ls rs ns ms xs k))

returns-3 : tie.Need-returns
returns-3 c =
    let full = c.before in
    let i = full.before.before in
    let a = i.before.before.before.args in
    let same = eq-eqb _ _ i.if-c-r.false in
    let highest = sym full.before.has_room.ensures ∙ full.if-has_room.false in
    λ ls rs ns ms xs k. rw c.refused.ensures (rw (same, highest) at (step17 a.c a.r ls rs ns ms xs k))

pub at17_spec : {M : Type 1} → statement M
at17_spec =
    tie.close
    (tie.spec
    (λ c κs. search rules)
    (λ _ _. tt)
    (λ _ _. tt)
    returns
    (λ _ _. tt)
    (λ _ _. tt)
    (λ _ _. tt)
    (λ c κs. search rules)
    (λ _ _. tt)
    returns-2
    (λ _ _. tt)
    returns-3)
