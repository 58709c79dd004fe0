-- One label more.
use Rattle.std.proofs.Common.{◌≡◌, sym, ap, ◌∙◌, ℕ, List, add-one, get_or, set, take, length, arith}
use lib.Seq.{take-length}
use Rattle.find_model.specs.Noting.{note, pick}
use Rattle.find.proofs.Noted.{note-more}
use Rattle.find.proofs.note.Goals as goal

pub loop-i-preserved : goal.loop-i-preserved
loop-i-preserved c =
    let a = c.args in
    let i = c.loop-i.i in
    ap (set c.loop-i.positions i) c.put.ensures
    ∙ ap (λ (ps : List ℕ). set ps i (pick a.foremost (get_or a.wanted.now i 0) a.y a.k (get_or ps i 0))) c.loop-i.invariant
    ∙ sym (note-more a.foremost a.y a.k i a.wanted.now a.positions.now (omega arith) (omega arith))
    ∙ ap (λ (m : ℕ). note a.foremost a.y a.k (take m a.wanted.now) a.positions.now) (sym (add-one i))

pub returns : goal.returns
returns c =
    let a = c.args in
    let e : c.loop-i.i ≡ length a.wanted.now = omega arith in
    c.loop-i.invariant
    ∙ ap (λ (done : List ℕ). note a.foremost a.y a.k done a.positions.now)
    (ap (λ (m : ℕ). take m a.wanted.now) e ∙ take-length a.wanted.now)
