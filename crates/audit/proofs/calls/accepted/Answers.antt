use Rattle.std.proofs.Common.{◌≡◌, ◌<◌, ◌≤◌, ◌∙◌, refl, sym, ap, ◌/◌, ◌+◌, ℕ, List, Bool, true, false, arith, length, get_or, drop}
use mathlib.Core.Bool.{◌&&◌}
use lib.ListN.{drop_of_length-le}
use Rattle.audit_model.specs.{declared.Finished.Finished, Audit.{all_of, apart, nobody, well_formed}, LentHistory.calls_in}
use Rattle.audit.proofs.{Loops.{passes, passes_turn}, Verdicts.{few_enough, too_many}, WordsRead.count-is}
use Rattle.audit.proofs.calls.accepted.Goals as goal
use Rattle.audit.proofs.calls.accepted.Goals.{then-not-well_formed-via-then-not-well_formed, then-not-well_formed-via-else-not-well_formed+then-not-apart_from}

-- A turn: the call d at index i, whether it is well formed, and whether it is apart from every later one.
turn : (ws : List ℕ) (i : ℕ) (d : Finished) (a b : Bool) → i < length ws / 7 → d ≡ get_or (calls_in ws) i nobody → a ≡ well_formed d
    → b ≡ all_of (apart d) (drop (i + 1) (calls_in ws))
    → passes well_formed apart (drop i (calls_in ws)) ≡ a && (b && passes well_formed apart (drop (i + 1) (calls_in ws)))
turn ws i d a b less is e f =
    passes_turn well_formed apart (calls_in ws) i nobody a b (omega (arith, count-is ws)) (ap well_formed (sym is) ∙ sym e)
    (ap (λ (x : Finished). all_of (apart x) (drop (i + 1) (calls_in ws))) (sym is) ∙ sym f)

pub returns-then-n-gt64 : goal.returns-then-n-gt64
returns-then-n-gt64 c = let ws = c.args.words.now in too_many (calls_in ws) (length ws / 7) (count-is ws) c.if-n-gt64.true

pub loop-i-init : goal.loop-i-init
loop-i-init c = let ws = c.args.words.now in sym (few_enough (calls_in ws) (length ws / 7) (count-is ws) c.if-n-gt64.false)

pub returns-then-not-well_formed : goal.returns-then-not-well_formed
returns-then-not-well_formed c =
    let ws = c.args.words.now in
    sym (elim c.then-not-well_formed.branch [
      | then-not-well_formed-via-then-not-well_formed w ↦
          turn ws c.loop-i.i _ false _ c.loop-i-test.true c.call_at-c.ensures (sym w.if-not-well_formed.true ∙ c.well_formed-in-loop-i.ensures) refl
      | then-not-well_formed-via-else-not-well_formed+then-not-apart_from w ↦
          turn ws c.loop-i.i _ true false c.loop-i-test.true c.call_at-c.ensures
          (sym w.if-not-well_formed.false ∙ c.well_formed-in-loop-i.ensures) (sym w.if-not-apart_from.true ∙ w.apart_from.ensures)
    ]) ∙ c.loop-i.invariant

pub loop-i-preserved : goal.loop-i-preserved
loop-i-preserved c =
    sym (turn c.args.words.now c.loop-i.i _ true true c.loop-i-test.true c.call_at-c.ensures
    (sym c.if-not-well_formed.false ∙ c.well_formed-in-loop-i.ensures) (sym c.if-not-apart_from.false ∙ c.apart_from.ensures)) ∙ c.loop-i.invariant

pub returns : goal.returns
returns c =
    let cs = calls_in c.args.words.now in
    let len = count-is c.args.words.now in
    let end : length cs ≤ c.loop-i.i = omega arith in
    ap (passes well_formed apart) (sym (drop_of_length-le cs end)) ∙ c.loop-i.invariant
