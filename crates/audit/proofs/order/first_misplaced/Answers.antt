use Rattle.std.proofs.Common.{rules, arith, ◌≡◌, ◌∙◌, sym, ap, refl, ◌+◌, ◌-◌, ◌/◌, ◌≤◌, ℕ, List, [], ◌∷◌, ◌++◌, true, length, get_or, min}
use Rattle.std.proofs.lemmas.List.{append-nil}
use Rattle.std.specs.List.{push}
use Rattle.std.specs.Slice.Iter.{iter_rest}
use Rattle.std.specs.Iterator.Adapters.{enumerate_count, enumerate_source, rev_source}
use lib.ListN.{length-append}
use Rattle.model.specs.Sound.{from1}
use Rattle.audit_model.specs.{declared.Finished.Finished, Audit.{all_of, in_order, nobody}, LentHistory.calls_in}
use Rattle.audit.specs.FirstMisplaced.{first_misplaced}
use Rattle.audit.proofs.{Loops.{all_seam, one_behind}, Misplaced.{misplaced_behind, misplaced_here, least_end}, WordsRead.{number_is, within}}
use Rattle.audit.proofs.order.first_misplaced.Invariants.{Behind}
use Rattle.audit.proofs.order.first_misplaced.Goals as goal
use Rattle.audit.proofs.order.first_misplaced.Goals.{then-least-c, else-least-c}

-- A turn: the last number x of those that are not behind, which is a call's.
module _ (ws order rest rest' : List ℕ) (x count least first : ℕ) (all : all_of (from1 (length ws / 7)) order ≡ true) (last : rest ≡ push rest' x)
    (at : Behind ws order rest count least first) where
  parts : rest' ++ (x ∷ at.behind) ≡ order
  parts = one_behind rest rest' at.behind order x last at.parts

  known : (1 ≤ x) × (x ≤ length ws / 7)
  known = within (length ws / 7) x (all_seam (from1 (length ws / 7)) rest' x at.behind (ap (all_of (from1 (length ws / 7))) parts ∙ all))

  next : in_order (calls_in ws) (x ∷ at.behind) ≡ get_or (calls_in ws) (x - 1) nobody ∷ in_order (calls_in ws) at.behind
  next = ap (λ (c : Finished). c ∷ in_order (calls_in ws) at.behind) (sym (number_is ws x (x - 1) (let z = known.0 in omega arith)))

  size : length rest ≡ length rest' + 1
  size = ap length last ∙ length-append rest' (x ∷ [])

pub loop-i-init : goal.loop-i-init
unfolding first_misplaced
loop-i-init c =
    let it = rev_source c.into_iter-i-iterator.result in
    let all : iter_rest (enumerate_source it) ≡ c.args.order.now = search rules in
    let none : enumerate_count it ≡ 0 = search rules in
    record { behind = []; parts = append-nil _ ∙ all; from_zero = none; least_is = refl; first_is = omega (arith, ap length all) }

pub loop-i-preserved : goal.loop-i-preserved
loop-i-preserved c =
    let x = c.in-Some.field-0-1.now in
    let steps = c.in-Some.ensures.steps in
    let at = c.loop-i.invariant in
    let one = c.call_at-c.result in
    let fits : one.start ≤ 18446744073709551615 = omega (arith, c.call_at-c.type_inv) in
    let behind = in_order (calls_in c.args.words.now) at.behind in
    let len = size _ _ _ _ x _ _ _ c.requires steps.1.0 at in
    let next' : in_order (calls_in c.args.words.now) (x ∷ at.behind) ≡ one ∷ behind =
    next _ _ _ _ x _ _ _ c.requires steps.1.0 at ∙ ap (λ (d : Finished). d ∷ behind) (sym c.call_at-c.ensures) in
    let turn : first_misplaced (in_order (calls_in c.args.words.now) (x ∷ at.behind)) ≡ first_misplaced (one ∷ behind) = ap first_misplaced next' in
    let least = at.least_is in
    let first = at.first_is in
    let index = steps.1.1 in
    let count = at.from_zero in
    record {
      behind = x ∷ at.behind;
      parts = parts _ _ _ _ x _ _ _ c.requires steps.1.0 at;
      from_zero = steps.0 ∙ count;
      least_is = c.min-least.ensures ∙ ap (λ (y : ℕ). min y one.end) least ∙ sym (ap least_end next');
      first_is = elim c.if-least-c.branch [
        | then-least-c w ↦ omega (arith, misplaced_here one behind fits (omega arith))
        | else-least-c w ↦ omega (arith, misplaced_behind one behind fits (omega arith))
      ];
    }
