use Rattle.std.proofs.Common.{◌≡◌, ◌≤◌, ◌<◌, ◌∙◌, sym, ap, ◌/◌, ◌+◌, ℕ, List, Bool, true, false, arith, length, get_or, drop}
use mathlib.Core.Bool.{◌&&◌}
use lib.ListN.{drop_of_length-le}
use Rattle.audit_model.specs.{declared.Finished.Finished, Audit.{all_of, apart, nobody}, LentHistory.calls_in}
use Rattle.audit.proofs.{Loops.all_turn, WordsRead.count-is}
use Rattle.audit.proofs.calls.apart_from.Goals as goal

-- A turn: the call d at index i, and whether it is apart.
turn : (ws : List ℕ) (c d : Finished) (i : ℕ) (b : Bool) → i < length ws / 7 → d ≡ get_or (calls_in ws) i nobody → b ≡ apart c d
    → all_of (apart c) (drop i (calls_in ws)) ≡ b && all_of (apart c) (drop (i + 1) (calls_in ws))
turn ws c d i b less is e = all_turn (apart c) (calls_in ws) i nobody b (omega (arith, count-is ws)) (ap (apart c) (sym is) ∙ sym e)

pub returns-then-not-apart : goal.returns-then-not-apart
returns-then-not-apart c =
    sym (turn c.args.words.now c.args.c _ c.loop-i.i false c.loop-i-test.true c.call_at-d.ensures (sym c.if-not-apart.true ∙ c.apart.ensures))
    ∙ c.loop-i.invariant

pub loop-i-preserved : goal.loop-i-preserved
loop-i-preserved c =
    sym (turn c.args.words.now c.args.c _ c.loop-i.i true c.loop-i-test.true c.call_at-d.ensures (sym c.if-not-apart.false ∙ c.apart.ensures))
    ∙ c.loop-i.invariant

pub returns : goal.returns
returns c =
    let cs = calls_in c.args.words.now in
    let len = count-is c.args.words.now in
    let end : length cs ≤ c.loop-i.i = omega arith in
    ap (all_of (apart c.args.c)) (sym (drop_of_length-le cs end)) ∙ c.loop-i.invariant
