-- The head's tag never passes Anchor's by more than the tasks' shares, so it has room whenever Anchor's has. (Line 17.)
-- Line 17 stands at every change of the head: at 14 a push has its slot now, at 17 a pop has none any more.
use mathlib.Core.{Bool.{Bool, cond, false, true}, Logic.{◌≢◌, ◌⊎◌, inl, inr}, Path.{◌∙◌, ◌≡◌, ap, refl}}
use Prim.Native.Nat.{◌+◌, ◌<◌, ◌≤◌, suc, zero, ℕ}
use native.Mathlib.Omega.{arith}
use Rattle.model.proofs.{Tests.Truth.{decide_eq, either}, Machine.Machine.{same, same_link, upd}}
use Rattle.model.proofs.Machine.{Book.BookCall, ByStep.by_step, Laws.{aimed_tag, same_true, same_link_true}}
use Rattle.model.proofs.Machine.Machine.{Anchor, Kind, Link, Move, Phase, Place, Rec, Shared, act, apply, at10}
use Rattle.model.proofs.Machine.Machine.{at11, at12, at14, at16, at17, at2, at3, at4, at9, draw, fetching, give}
use Rattle.model.proofs.Machine.Machine.{idle, inside, leaving, outside, phase, pop, push, pushing, returning}
use Rattle.model.proofs.Invariant.{Owners.Owner, Tasks.Task, Tags.{claims, cost, owes, share, shares, spent}}
use Rattle.model.proofs.Tags.Sum.{total, total_at}

-- A step raises the head's tag and the task's share by no more than Anchor's tag.
pub record HeadBalanced (s : Shared) (r : Rec) (m : Move) : Type 0 where
  pub balanced : (apply s m.touch).head.tag + share m.rec + s.anchor.tag ≤ s.head.tag + share r + (apply s m.touch).anchor.tag

module _ (s : Shared) (h : ℕ → Owner) (t : ℕ) (r : Rec) (c : BookCall) where
  part : Phase → ℕ
  part f = shares f r.finishing r.kind

  share-at : (p : Place) → r.place ≡ p → share r ≡ part (phase p)
  unfolding part
  share-at p e = ap (λ (z : Place). part (phase z)) e

  claimed : (p : Place) (k : Kind) → r.place ≡ p → phase p ≡ inside → r.finishing ≡ false → r.kind ≡ k → share r ≡ claims k
  unfolding part
  claimed p k e i f g = share-at p e ∙ ap part i ∙ ap (λ (f : Bool). cond f 1 (claims r.kind)) f ∙ ap claims g

  -- A pop that finds nothing has its share still, and a finishing push again.
  pops : (p : Place) → r.place ≡ p → phase p ≡ inside → r.kind ≡ pop → share r ≡ 1
  unfolding part
  pops p e i k = share-at p e ∙ ap part i ∙ ap (λ (k : Kind). cond r.finishing 1 (claims k)) k ∙ either (λ n. n ≡ 1) r.finishing refl refl

  ends : (p : Place) → r.place ≡ p → phase p ≡ inside → r.finishing ≡ true → share r ≡ 1
  unfolding part
  ends p e i f = share-at p e ∙ ap part i ∙ ap (λ (b : Bool). cond b 1 (claims r.kind)) f

  tag_of : same r.read s.anchor ≡ true → r.read.tag ≡ s.anchor.tag
  tag_of z = ap (λ (a : Anchor). a.tag) (same_true r.read s.anchor z)

  head_of : same_link r.link s.head ≡ true → r.link.tag ≡ s.head.tag
  head_of z = ap (λ (w : Link). w.tag) (same_link_true r.link s.head z)

  abbrev Stands : Place → Type 0
  Stands p = (r.place ≡ p) × Task p s h t r c

  abbrev TagsBalanced : Move → Type 0
  TagsBalanced m = (apply s m.touch).head.tag + share m.rec + s.anchor.tag ≤ s.head.tag + share r + (apply s m.touch).anchor.tag

  pub fair : (p : Place) → r.place ≡ p → Task p s h t r c → HeadBalanced s r (act p s r)
  unfolding part
  fair p e w = record {
    balanced = by_step s r Stands TagsBalanced (record {
      still = λ _. omega arith;
      quiet = λ p q a n w z e _ _. omega (arith, share-at p z.0, ap part e);
      empty = λ p z i k. omega (arith, pops p z.0 i k);
      helped = λ p z i f. omega (arith, ends p z.0 i f);
      two_push = λ z k y. omega (arith, tag_of y, claimed at2 push z.0 refl z.1.0.unfinished k);
      two_pop = λ z k y. omega (arith, tag_of y, claimed at2 pop z.0 refl z.1.0.unfinished k);
      three = λ z _. omega (arith, share-at at3 z.0);
      four_push = λ z k y. omega (
        arith,
        tag_of y,
        claimed at4 push z.0 refl z.1.0.unfinished k,
        aimed_tag r.read r.side r.own (pushing r.side),
      );
      four_pop = λ z k y. omega (
        arith,
        tag_of y,
        claimed at4 pop z.0 refl z.1.0.unfinished k,
        aimed_tag r.read r.side r.near r.read.status,
      );
      nine = λ z _. omega (arith, share-at at9 z.0);
      ten = λ z y _. omega (arith, tag_of y, share-at at10 z.0);
      ten_last = λ z y f. omega (arith, tag_of y, ends at10 z.0 refl f);
      eleven = λ z. omega (arith, share-at at11 z.0);
      keeps = λ z. omega (arith, share-at at11 z.0);
      lacks = λ z _. omega (arith, share-at (draw at12) z.0);
      -- At 14 a push has its slot now, at 17 a pop has none any more.
      draws = λ z y. let own : cond r.finishing 1 (claims r.kind) ≡ 0 =
          ap (λ (f : Bool). cond f 1 (claims r.kind)) z.1.1.unfinished ∙ ap claims z.1.1.kind in
          omega (arith, head_of y, share-at (draw at14) z.0);
      links = λ z. omega (arith, share-at (give at16) z.0);
      gives = λ z y. omega (arith, head_of y, share-at (give at17) z.0);
    }) p (e, w);
  }

-- Over all tasks.
pub head_step : (s : Shared) (f : ℕ → Rec) (n t : ℕ) → t < n → (m : Move) → HeadBalanced s (f t) m
    → s.head.tag + total (λ u. share (f u)) n ≤ s.anchor.tag + n
    → (apply s m.touch).head.tag + total (λ u. share (upd f t m.rec u)) n ≤ (apply s m.touch).anchor.tag + n
head_step s f n t lt m e b = omega (arith, e.balanced, total_at share f t m.rec n lt)

-- A start: an idle task's share is 1, a new call's no more.
pub head-start : (f : ℕ → Rec) (n t : ℕ) → t < n → (r : Rec) → (f t).place ≡ idle → share r ≤ 1 → (head tag : ℕ)
    → head + total (λ u. share (f u)) n ≤ tag + n
    → head + total (λ u. share (upd f t r u)) n ≤ tag + n
head-start f n t lt r e le head tag b = let z : share (f t) ≡ 1 = ap (λ (p : Place). shares (phase p) (f t).finishing (f t).kind) e in
    omega (arith, total_at share f t r n lt)

-- Every task has a share or owes a change of Anchor: with both bounds the head's tag has room.
by_finishing : (f : Bool) (k : Kind) → 1 ≤ cond f 1 (claims k) + cond f 0 (owes k)
by_finishing true k = omega arith
by_finishing false push = omega arith
by_finishing false pop = omega arith

owed_or_shared : (p : Phase) (f : Bool) (k : Kind) → 1 ≤ shares p f k + cond (spent p f) 0 (owes k)
owed_or_shared outside f k = omega arith
owed_or_shared inside f k = by_finishing f k
owed_or_shared leaving f k = omega arith
owed_or_shared fetching f k = omega arith
owed_or_shared returning f k = omega arith

module _ (f : ℕ → Rec) where
  each : (u : ℕ) → 1 ≤ share (f u) + cost (f u)
  each u = owed_or_shared (phase (f u).place) (f u).finishing (f u).kind

  low : (n : ℕ) → n ≤ total (λ u. share (f u)) n + total (λ u. cost (f u)) n
  unfolding total
  low zero = omega arith
  low (suc n) = omega (arith, low n, each n)

  more : (t n : ℕ) → t < n → 2 ≤ share (f t) + cost (f t) → suc n ≤ total (λ u. share (f u)) n + total (λ u. cost (f u)) n
  unfolding total
  more t zero l e = absurd (omega arith)
  more t (suc n) l e = go (λ m. more t n m e) (decide_eq n t)
    where
      go : (t < n → suc n ≤ total (λ u. share (f u)) n + total (λ u. cost (f u)) n) → (n ≡ t) ⊎ (n ≢ t)
          → suc (suc n) ≤ share (f n) + total (λ u. share (f u)) n + (cost (f n) + total (λ u. cost (f u)) n)
      go ih (inl z) = let p = ap (λ (u : ℕ). share (f u)) z in let q = ap (λ (u : ℕ). cost (f u)) z in omega (arith, low n)
      go ih (inr z) = omega (arith, ih (omega arith), each n)

  -- A task at 14 (share 1, owing 2) or at 17 (share 2) finds room.
  pub head-room : (head tag top t n : ℕ) → t < n → 2 ≤ share (f t) + cost (f t) → head + total (λ u. share (f u)) n ≤ tag + n
      → tag + total (λ u. cost (f u)) n ≤ top → suc head ≤ top
  head-room head tag top t n l e p q = omega (arith, more t n l e)
