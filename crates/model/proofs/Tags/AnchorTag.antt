-- Anchor's tag and the changes of it that are still to come never grow together; a start at a tag up to 4,294,967,262 has room for all.
use mathlib.Core.{Bool.{Bool, cond, false, true}, Path.{◌∙◌, ◌≡◌, ap, refl}}
use Prim.Native.Nat.{◌*◌, ◌+◌, ◌<◌, ◌≤◌, suc, ℕ}
use native.Mathlib.Omega.{arith}
use Rattle.model.proofs.{Tests.Truth.by_test, Invariant.Tasks.{Task, Three}}
use Rattle.model.proofs.Machine.{Book.BookCall, Laws.same_true, ByStep.by_step, Machine.{pushing, stable, upd}}
use Rattle.model.proofs.Machine.Machine.{Anchor, Kind, Move, Phase, Place, Rec, Shared, Status, act, aimed, at10}
use Rattle.model.proofs.Machine.Machine.{apply, at14, at2, at3, at4, at9, draw, inside, phase, pop, push, same}
use Rattle.model.proofs.Invariant.{Owners.Owner, Tags.{cost, owes, spent, unsettled, weight}}
use Rattle.model.proofs.Tags.Sum.{total, total_at, total_le}

pub record WeightKept (s : Shared) (r : Rec) (m : Move) : Type 0 where
  pub less : weight (apply s m.touch) + cost m.rec ≤ weight s + cost r

pub unsettled_small : (st : Status) → unsettled st ≤ 1
unsettled_small stable = omega arith
unsettled_small (pushing d) = omega arith

pub cost_small : (r : Rec) → cost r ≤ 2
cost_small r = by_test (λ n. n ≤ 2) (spent (phase r.place) r.finishing) (λ e. omega arith) (λ e. go r.kind)
  where
    go : (k : Kind) → owes k ≤ 2
    go push = omega arith
    go pop = omega arith

module _ (s : Shared) (h : ℕ → Owner) (t : ℕ) (r : Rec) (c : BookCall) where
  costs : Phase → ℕ
  costs f = cond (spent f r.finishing) 0 (owes r.kind)

  cost_at : (p : Place) → r.place ≡ p → cost r ≡ costs (phase p)
  unfolding costs
  cost_at p e = ap (λ (z : Place). costs (phase z)) e

  -- Before its effect a call owes all.
  owed : (p : Place) (k : Kind) → r.place ≡ p → phase p ≡ inside → r.finishing ≡ false → r.kind ≡ k → cost r ≡ owes k
  unfolding costs
  owed p k e i f g = cost_at p e ∙ ap costs i ∙ ap (λ (f : Bool). cond f 0 (owes r.kind)) f ∙ ap owes g

  weight_of : same r.read s.anchor ≡ true
      → (r.read.tag ≡ s.anchor.tag) × (unsettled r.read.status ≡ unsettled s.anchor.status)
  weight_of y = let p = same_true r.read s.anchor y in (ap (λ (a : Anchor). a.tag) p, ap (λ (a : Anchor). unsettled a.status) p)

  aimed_weight : (a : Anchor) (d : Bool) (x : ℕ) (st : Status)
      → (aimed a d x st).tag + unsettled (aimed a d x st).status ≡ suc a.tag + unsettled st
  aimed_weight a false x st = refl
  aimed_weight a true x st = refl

  stable_of : (k : Kind) → Three k r.read → r.read.status ≡ stable
  stable_of push w = w.0
  stable_of pop w = w.0

  abbrev Stands : Place → Type 0
  Stands p = (r.place ≡ p) × Task p s h t r c

  pub step_keeps_weight : (p : Place) → r.place ≡ p → Task p s h t r c → WeightKept s r (act p s r)
  unfolding costs
  step_keeps_weight p e w = record {
    less = by_step s r Stands (λ m. weight (apply s m.touch) + cost m.rec ≤ weight s + cost r) (record {
      still = λ _. omega arith;
      quiet = λ p q a n w z e _ _. omega (arith, cost_at p z.0, ap costs e);
      empty = λ _ _ _ _. omega arith;
      helped = λ _ _ _ _. omega arith;
      two_push = λ z k y. omega (arith, weight_of y, owed at2 push z.0 refl z.1.0.unfinished k);
      two_pop = λ z k y. omega (arith, weight_of y, owed at2 pop z.0 refl z.1.0.unfinished k);
      three = λ z _. omega (arith, cost_at at3 z.0);
      four_push = λ z k y. omega (
        arith,
        weight_of y,
        owed at4 push z.0 refl z.1.0.unfinished k,
        aimed_weight r.read r.side r.own (pushing r.side),
        ap unsettled (stable_of r.kind z.1.1),
      );
      four_pop = λ z k y. omega (
        arith,
        weight_of y,
        owed at4 pop z.0 refl z.1.0.unfinished k,
        aimed_weight r.read r.side r.near r.read.status,
      );
      nine = λ z _. omega (arith, cost_at at9 z.0);
      ten = λ z y _. omega (arith, weight_of y, ap unsettled z.1.0.status, cost_at at10 z.0);
      ten_last = λ z y _. omega (arith, weight_of y, ap unsettled z.1.0.status);
      eleven = λ _. omega arith;
      keeps = λ _. omega arith;
      lacks = λ _ _. omega arith;
      draws = λ z _. let g = cost_at (draw at14) z.0 in
          by_test (λ n. weight s + n ≤ weight s + cost r) r.finishing (λ f. omega arith) (λ f. omega arith);
      links = λ _. omega arith;
      gives = λ _ _. omega arith;
    }) p (e, w);
  }

-- Over all tasks.
module _ (s : Shared) (f : ℕ → Rec) (n t : ℕ) (lt : t < n) where
  -- A step.
  pub step-bound : (m : Move) (b : ℕ) → WeightKept s (f t) m → weight s + total (λ u. cost (f u)) n ≤ b
      → weight (apply s m.touch) + total (λ u. cost (upd f t m.rec u)) n ≤ b
  step-bound m b l h = omega (arith, l.less, total_at cost f t m.rec n lt)

  -- A start, below the limit of refusal 33: Anchor's tag, one change to settle, and two for each task.
  pub start-bound : (s' : Shared) (r : Rec) (b : ℕ) → s'.anchor ≡ s.anchor → s.anchor.tag + 1 + 2 * n ≤ b
      → weight s' + total (λ u. cost (upd f t r u)) n ≤ b
  start-bound s' r b e h =
      let le = total_le (λ u. cost (upd f t r u)) 2 n (λ u. cost_small (upd f t r u)) in
      let g = ap (λ (a : Anchor). a.tag) e in
      omega (arith, unsettled_small s'.anchor.status)
