-- After any accepted opening, on any tables, no start or step is ever refused as unsound (34).
use mathlib.Core.{Bool.{Bool, cond, true}, Path.{◌∙◌, ◌≡◌, ap, refl, subst, sym}}
use Prim.Native.Nat.{◌≤◌, ℕ}
use native.Mathlib.Omega.{arith}
use lib.Dec.{leb}
use borrow.Author.Tests.{not-false}
use Rattle.word.specs.{Anchor.{anchor_of, empty_anchor, pack_anchor}, Link.link_of}
use Rattle.model.specs.{Calls.opened, Tables.Queue, History.{Never34, NeverUnsound}, declared.Call.Call}
use Rattle.model.specs.{Refusals.{open_refusal, open_rules}, Sound.{control_sound, control_tests}}
use Rattle.model.proofs.{Tests.{Rules.{◌and◌, cleared, passes}, Truth.{by_test, not_both}}, Tags.Sum.total_le}
use Rattle.model.proofs.{Machine.Laws.stable_pushing, Bridge.View.{state_of, view}, Openings.after-opening}
use Rattle.model.proofs.Invariant.{Fields.Extra, Tags.{cost, owes, share, shares, spent, unsettled}}
use Rattle.model.proofs.Ledger.Opened.{all-idle, empty_left, empty_right, empty_status, no_record, nobody}
use Rattle.model.proofs.Ledger.Opened.{open_good, some_slots, zero_links}
use Rattle.model.proofs.Unsound.{Runs.run_safe, Safe.Safe, Tests.anchor-sound}
use Rattle.model.proofs.Machine.Machine as M

module _ (pooled : Bool) (q : Queue) (tasks slots tag : ℕ) where
  abbrev o : Queue
  o = opened pooled q tasks slots tag

  module _ (e : open_refusal pooled q tasks slots ≡ 0) where
    open_control : control_sound o.tables.control ≡ true
    unfolding open_refusal opened control_sound
    open_control =
        let z = cleared (open_rules pooled q tasks slots) refl e in
        let a = anchor-sound slots (anchor_of (pack_anchor (empty_anchor tag)))
        (record {
          status = omega arith;
          left = omega arith;
          right = omega arith;
          null = λ z. empty_right pooled q tasks slots tag;
          full = λ z. empty_left pooled q tasks slots tag;
          single = λ z. omega arith;
        }) in
        passes (control_tests o.tables.control)
        (not-false _ z.0 and not-false _ z.1.0 and a and by_test (λ n. leb n 1 ≡ true) pooled (λ e. refl) (λ e. refl) and tt)

    -- Nobody owes a change.
    open_cost : (t : ℕ) → cost ((state_of o).task t) ≤ 0
    open_cost t = let z = ap (λ (p : M.Place). cond (spent (M.phase p) ((state_of o).task t).finishing) 0 (owes ((state_of o).task t).kind))
        (all-idle pooled q tasks slots tag t) in omega arith

    open_share : (t : ℕ) → share ((state_of o).task t) ≤ 1
    open_share t = let z = ap (λ (p : M.Place). shares (M.phase p) ((state_of o).task t).finishing ((state_of o).task t).kind)
        (all-idle pooled q tasks slots tag t) in omega arith

    pub open_safe : Safe o
    unfolding view opened
    open_safe = record {
      control = open_control;
      fine = λ t lt b. absurd (b (ap (λ (r : Call). r.place) (no_record pooled q tasks slots tag t lt)));
      extra = λ t. subst (λ p. Extra p ((state_of o).task t)) (sym (all-idle pooled q tasks slots tag t))
          (record { kept = tt; near = λ b. absurd (not_both b refl) });
      tags = record {
        upper = zero_links pooled q tasks slots tag (λ w. (link_of w).tag ≤ (anchor_of (pack_anchor (empty_anchor tag))).tag) (omega arith);
        room = λ d st. absurd (stable_pushing (sym (empty_status pooled q tasks slots tag) ∙ st));
      };
      bound =
          let z = total_le (λ u. cost ((state_of o).task u)) 0 tasks open_cost in
          let w = ap unsettled (empty_status pooled q tasks slots tag) in
          let v : (anchor_of (pack_anchor (empty_anchor tag))).tag ≤ 4294967295 = omega arith in
          omega arith;
      head =
          let z = total_le (λ u. share ((state_of o).task u)) 1 tasks open_share in
          let w : (link_of (cond pooled 1 0)).tag ≡ 0 = by_test (λ n. (link_of n).tag ≡ 0) pooled (λ e. refl) (λ e. refl) in
          omega arith;
    }

pub never_34 : Never34
never_34 pooled = after-opening pooled NeverUnsound (λ q tasks slots tag e os.
    (run_safe os 1 (opened pooled q tasks slots tag) nobody (open_good pooled q tasks slots tag (some_slots pooled q tasks slots e))
    (open_safe pooled q tasks slots tag e)).0)
