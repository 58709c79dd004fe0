-- The step of a sound record is the machine's, whatever its place and kind.
use mathlib.Core.{Logic.{◌≢◌, ◌⊎◌, inl, inr}, Path.{◌≡◌, refl, subst, sym}}
use Prim.Native.Nat.{◌<◌, ◌^◌, ◌≤◌, ℕ}
use native.Mathlib.Omega.{arith}
use Rattle.model.specs.{Tables.{Tables, at_place, is_pooled, of_kind}, declared.Call.Call}
use Rattle.model.proofs.Tests.{ByPlace.by_place, Truth.decide_eq}
use Rattle.model.proofs.Bridge.{Decoded.{RoomAt, Seen}, Facts.{ControlFine, LinksFine, RecordFine}, View.place_of}
use Rattle.model.proofs.Bridge.Helping.{place10, place5, place6, place7, place8, place9}
use Rattle.model.proofs.Bridge.Pooling.{place11_pop, place12_push, place13_push, place14_push, place15_pop}
use Rattle.model.proofs.Bridge.{Pooling.{place16_pop, place17_pop}, Trying.{place4_pop, place4_push}}
use Rattle.model.proofs.Bridge.Trying.{place1_pop, place1_push, place2_pop, place2_push, place3_pop, place3_push}

by_kind : (P : ℕ → Type 0) (k : ℕ) → k ≤ 1 → (k ≡ 0 → P 0) → (k ≡ 1 → P 1) → P k
by_kind P k h f g = go (decide_eq k 0)
  where
    go : (k ≡ 0) ⊎ (k ≢ 0) → P k
    go (inl z) = subst P (sym z) (f z)
    go (inr z) = let e : k ≡ 1 = omega arith in subst P (sym e) (g e)

module _ (q : Tables) (c : ControlFine q.control) (k : LinksFine q) (r : Call)
    (h : RecordFine (is_pooled q.control) q.control.slots r) where
  abbrev at : ℕ → ℕ → Call
  at p j = at_place (of_kind r j r.side) p

  abbrev Here : ℕ → Type 0
  Here p = (p ≡ 11 → r.kind ≡ 1) → (12 ≤ p → p ≤ 14 → r.kind ≡ 0) → (15 ≤ p → r.kind ≡ 1) → RoomAt q (at p r.kind) (place_of p)
      → Seen q (at p r.kind)

  kinds : (p : ℕ) → (r.kind ≡ 0 → Seen q (at p 0)) → (r.kind ≡ 1 → Seen q (at p 1)) → Seen q (at p r.kind)
  kinds p f g = by_kind (λ j. Seen q (at p j)) r.kind h.kind f g

  own_small : r.own < 2 ^ 15
  own_small = omega (arith, h.own, c.slots)

  near_small : r.neighbour < 2 ^ 15
  near_small = omega (arith, h.neighbour, c.slots)

  pushes : (p : ℕ) → r.kind ≡ 0 → Seen q (at p 0) → Seen q (at p r.kind)
  pushes p e s = kinds p (λ _. s) (λ z. absurd (omega arith))

  pops : (p : ℕ) → r.kind ≡ 1 → Seen q (at p 1) → Seen q (at p r.kind)
  pops p e s = kinds p (λ z. absurd (omega arith)) (λ _. s)

  pub step_seen : r.place ≢ 0 → RoomAt q r (place_of r.place) → Seen q r
  step_seen busy room =
      let now = c.anchor.status in
      let read = h.seen.status in
      let null = c.anchor.null in
      by_place Here
      (λ _ _ _ m. kinds 1 (λ e. place1_push q r now null) (λ e. place1_pop q r now null))
      (λ _ _ _ m. kinds 2 (λ e. place2_push q r now null read m (own_small)) (λ e. place2_pop q r now null read m))
      (λ _ _ _ m. kinds 3 (λ e. place3_push q r (λ b. k.tag b r.own h.own)) (λ e. place3_pop q r))
      (λ _ _ _ m. kinds 4
      (λ e. place4_push q r now null read m (own_small))
      (λ e. place4_pop q r now null read m near_small))
      (λ _ _ _ m. place5 q r)
      (λ _ _ _ m. place6 q r now read)
      (λ _ _ _ m. place7 q r)
      (λ _ _ _ m. place8 q r now read)
      (λ _ _ _ m. place9 q r h.spare (λ b. k.spare b r.neighbour h.neighbour) m)
      (λ _ _ _ m. place10 q r now read m)
      (λ pop _ _ m. pops 11 (pop refl) (place11_pop q r))
      (λ _ push _ m. pushes 12 (push (omega arith) (omega arith)) (place12_push q r))
      (λ _ push _ m. pushes 13 (push (omega arith) (omega arith)) (place13_push q r))
      (λ _ push _ m. pushes 14 (push (omega arith) (omega arith)) (place14_push q r h.spare k.head.0 m near_small))
      (λ _ _ pop m. pops 15 (pop (omega arith)) (place15_pop q r))
      (λ _ _ pop m. pops 16 (pop (omega arith)) (place16_pop q r))
      (λ _ _ pop m. pops 17 (pop (omega arith)) (place17_pop q r h.spare k.head.0 m own_small))
      r.place busy h.place h.last h.draws h.gives room
