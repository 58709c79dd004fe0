-- What holds of each kind of move that a record makes at a place holds of its step.
use mathlib.Core.{Bool.{Bool, false, not, true}, Logic.{◌⊎◌, inl, inr}, Path.{◌≡◌, ap, refl, sym}}
use Prim.Native.Nat.{suc, ℕ}
use lib.Dec.{eqb}
use Rattle.model.proofs.Tests.Truth.{by_test, not_both}
use Rattle.model.proofs.Machine.Machine as M

-- Q is what is known of the record at its place.
module _ (s : M.Shared) (r : M.Rec) (Q : M.Place → Type 0) (P : M.Move → Type 0) where
  -- Anchor is as read, and the head is; the side that the status as read names.
  abbrev now : Bool
  now = M.same r.read s.anchor

  abbrev top : Bool
  top = M.same_link r.link s.head

  abbrev way : Bool
  way = M.towards r.read.status

  -- Who goes on to 7, 8 or 9 keeps its neighbour: it had one, or it has compared Anchor at 6.
  abbrev Nears : M.Place → M.Place → ℕ → Type 0
  Nears p q n = M.beside q ≡ true → (n ≡ r.near) × ((M.beside p ≡ true) ⊎ ((p ≡ M.at6) × (now ≡ true)))

  pub record Steps : Type 0 where
    pub still : Q M.idle → P (M.runs M.none r)
    -- A read, a comparison or a failed change: nothing is touched, and the task goes on with the same.
    pub quiet : (p q : M.Place) (a : M.Anchor) (n : ℕ) (w : M.Link) → Q p → M.phase q ≡ M.phase p → M.takes (M.phase p) ≡ false → Nears p q n
        → P (M.runs M.none (M.reaches r q a n w))
    pub empty : (p : M.Place) → Q p → M.phase p ≡ M.inside → r.kind ≡ M.pop → P (M.ends M.none M.empty)
    pub helped : (p : M.Place) → Q p → M.phase p ≡ M.inside → r.finishing ≡ true → P (M.ends M.none M.pushed)
    pub two_push : Q M.at2 → r.kind ≡ M.push → now ≡ true → P (M.ends (M.put_anchor (M.both r.read r.own)) M.pushed)
    pub two_pop : Q M.at2 → r.kind ≡ M.pop → now ≡ true → P (M.runs (M.put_anchor (M.both r.read 0)) (M.goes r M.at11))
    pub three : Q M.at3 → r.kind ≡ M.push → P (M.runs (M.put_link (not r.side) r.own (M.own_link s r)) (M.goes r M.at4))
    pub four_push : Q M.at4 → r.kind ≡ M.push → now ≡ true → let a = M.aimed r.read r.side r.own (M.pushing r.side) in
        P (M.runs (M.put_anchor a) (M.finishes r a))
    pub four_pop : Q M.at4 → r.kind ≡ M.pop → now ≡ true
        → P (M.runs (M.put_anchor (M.aimed r.read r.side r.near r.read.status)) (M.goes r M.at11))
    pub nine : Q M.at9 → M.same_link r.link (s.link way r.near) ≡ true
        → P (M.runs (M.put_link way r.near (record { tag = suc r.link.tag; slot = M.tip r.read way })) (M.goes r M.at10))
    pub ten : Q M.at10 → now ≡ true → r.finishing ≡ false → P (M.runs (M.put_anchor (M.settled r.read)) (M.goes r M.at1))
    pub ten_last : Q M.at10 → now ≡ true → r.finishing ≡ true → P (M.ends (M.put_anchor (M.settled r.read)) M.pushed)
    pub eleven : Q M.at11 → let x = M.tip r.read r.side in P (M.ends (M.clear x) (M.popped x (s.label x)))
    pub keeps : Q M.at11 → let x = M.tip r.read r.side in P (M.runs (M.clear x) (M.owns r x (s.label x) (M.give M.at15)))
    pub lacks : Q (M.draw M.at12) → M.exhausted s.head ≡ true → P (M.ends M.none M.no_free_slot)
    pub draws : Q (M.draw M.at14) → top ≡ true → let x = r.link.slot in
        P (M.runs (M.take (M.raised r r.near) x r.label) (M.owns r x r.label M.at1))
    pub links : Q (M.give M.at16) → P (M.runs (M.put_next r.own r.link.slot) (M.goes r (M.give M.at17)))
    pub gives : Q (M.give M.at17) → top ≡ true → P (M.ends (M.put_head (M.raised r r.own)) (M.popped r.own r.label))

  module _ (m : Steps) where
    -- To a place other than 7, 8 and 9.
    far : {A : Type 0} → false ≡ true → A
    far z = absurd (not_both z refl)

    -- Place 1, and a change at 2 or 4 that fails.
    one : (p : M.Place) → Q p → M.phase p ≡ M.inside → (k : M.Kind) → r.kind ≡ k → P (M.one k s r)
    one p z e M.push k = by_test P (eqb s.anchor.left 0) (λ _. m.quiet p _ _ _ _ z (sym e) (ap M.takes e) far)
        (λ _. by_test P (M.is_stable s.anchor.status) (λ _. m.quiet p _ _ _ _ z (sym e) (ap M.takes e) far)
        (λ _. m.quiet p _ _ _ _ z (sym e) (ap M.takes e) far))
    one p z e M.pop k = by_test P (eqb s.anchor.left 0) (λ _. m.empty p z e k)
        (λ _. by_test P (eqb s.anchor.left s.anchor.right) (λ _. m.quiet p _ _ _ _ z (sym e) (ap M.takes e) far)
        (λ _. by_test P (M.is_stable s.anchor.status) (λ _. m.quiet p _ _ _ _ z (sym e) (ap M.takes e) far)
        (λ _. m.quiet p _ _ _ _ z (sym e) (ap M.takes e) far)))

    two : Q M.at2 → (k : M.Kind) → r.kind ≡ k → P (M.two k s r)
    two z M.push k = by_test P now (m.two_push z k) (λ _. one M.at2 z refl M.push k)
    two z M.pop k = by_test P now (m.two_pop z k) (λ _. one M.at2 z refl M.pop k)

    three_by : Q M.at3 → (k : M.Kind) → r.kind ≡ k → P (M.three k s r)
    three_by z M.push k = m.three z k
    three_by z M.pop k = m.quiet M.at3 _ _ _ _ z refl refl far

    four : Q M.at4 → (k : M.Kind) → r.kind ≡ k → P (M.four k s r)
    four z M.push k = by_test P now (m.four_push z k) (λ _. one M.at4 z refl M.push k)
    four z M.pop k = by_test P now (m.four_pop z k) (λ _. one M.at4 z refl M.pop k)

    -- A comparison at 6 or 8, or a change at 9 or 10, that fails.
    back : (p : M.Place) → Q p → M.phase p ≡ M.inside → P (M.leave M.none r)
    back p z e = by_test P r.finishing (m.helped p z e) (λ _. m.quiet p _ _ _ _ z (sym e) (ap M.takes e) far)

    pub by_step : (p : M.Place) → Q p → P (M.act p s r)
    by_step M.idle z = m.still z
    by_step M.at1 z = one M.at1 z refl r.kind refl
    by_step M.at2 z = two z r.kind refl
    by_step M.at3 z = three_by z r.kind refl
    by_step M.at4 z = four z r.kind refl
    by_step M.at5 z = m.quiet M.at5 _ _ _ _ z refl refl far
    by_step M.at6 z = by_test P now (λ e. m.quiet M.at6 _ _ _ _ z refl refl (λ _. (refl, inr (refl, e)))) (λ _. back M.at6 z refl)
    by_step M.at7 z = by_test P (eqb (s.link way r.near).slot (M.tip r.read way)) (λ _. m.quiet M.at7 _ _ _ _ z refl refl far)
        (λ _. m.quiet M.at7 _ _ _ _ z refl refl (λ _. (refl, inl refl)))
    by_step M.at8 z = by_test P now (λ _. m.quiet M.at8 _ _ _ _ z refl refl (λ _. (refl, inl refl))) (λ _. back M.at8 z refl)
    by_step M.at9 z = by_test P (M.same_link r.link (s.link way r.near)) (m.nine z) (λ _. back M.at9 z refl)
    by_step M.at10 z = by_test P now (λ e. by_test P r.finishing (m.ten_last z e) (m.ten z e)) (λ _. back M.at10 z refl)
    by_step M.at11 z = by_test P s.pooled (λ _. m.keeps z) (λ _. m.eleven z)
    by_step (M.draw M.at12) z = by_test P (M.exhausted s.head) (m.lacks z) (λ _. m.quiet (M.draw M.at12) _ _ _ _ z refl refl far)
    by_step (M.draw M.at13) z = m.quiet (M.draw M.at13) _ _ _ _ z refl refl far
    by_step (M.draw M.at14) z = by_test P top (m.draws z) (λ _. m.quiet (M.draw M.at14) _ _ _ _ z refl refl far)
    by_step (M.give M.at15) z = m.quiet (M.give M.at15) _ _ _ _ z refl refl far
    by_step (M.give M.at16) z = m.links z
    by_step (M.give M.at17) z = by_test P top (m.gives z) (λ _. m.quiet (M.give M.at17) _ _ _ _ z refl refl far)
