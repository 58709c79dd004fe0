-- One position more.
use Rattle.std.proofs.Common.{◌≡◌, sym, ap, subst, ◌∙◌, ℕ, List, ◌≤◌, add-one, get_or, set, arith}
use Rattle.find_model.specs.Noting.{turned}
use Rattle.find.specs.Looked.{turning}
use Rattle.find.proofs.Turning.{turn_more, turn_at}
use Rattle.find.proofs.turn.Goals as goal

pub turned-requires : goal.turned-requires
turned-requires c =
    let here = ap (λ (ps : List ℕ). get_or ps c.loop-i.i 0) c.loop-i.invariant ∙ turn_at (turned c.args.rows) c.loop-i.i c.args.positions.now in
    subst (λ (p : ℕ). p ≤ c.args.rows) (sym here) (c.requires.1 c.loop-i.i)

pub loop-i-preserved : goal.loop-i-preserved
loop-i-preserved c =
    let a = c.args in
    let i = c.loop-i.i in
    ap (set c.loop-i.positions i) c.turned.ensures
    ∙ ap (λ (ps : List ℕ). set ps i (turned a.rows (get_or ps i 0))) c.loop-i.invariant
    ∙ turn_more (turned a.rows) i a.positions.now (omega arith)
    ∙ ap (λ (m : ℕ). turning (turned a.rows) m a.positions.now) (sym (add-one i))

pub returns : goal.returns
returns c =
    let e : c.loop-i.i ≡ c.args.n = omega arith in
    c.loop-i.invariant ∙ ap (λ (m : ℕ). turning (turned c.args.rows) m c.args.positions.now) e
