-- What a sound record says field by field, and what a record at its next place must show.
use mathlib.Core.{Path.{◌≡◌, refl}, Bool.{Bool, true, false, ◌&&◌, ◌||◌, not, cond}}
use Prim.Native.Nat.{ℕ, ◌≤◌}
use native.Mathlib.Omega.{arith}
use lib.Dec.{eqb, leb}
use borrow.Author.Tests.{eqb-true, eqb-false, ne_eqb, leb-true, le-leb, not-true}
use Rattle.word.specs.{Anchor.{anchor_of, pack_anchor}, Link.{link_of, spare_of}}
use Rattle.model.specs.{declared.Call.Call, Tables.at_place, Kinds.{is_push, is_pop, helping, drawing, giving}}
use Rattle.model.specs.Sound.{from1, anchor_sound, link_sound, record_sound, record_tests}
use Rattle.model.proofs.Tests.Truth.{split, either, and_of, and-true, or_second, not_both}
use Rattle.model.proofs.Tests.Rules.{tests, passes, ◌and◌}

module _ (pooled slots : ℕ) where
  abbrev pub P : Bool
  P = eqb pooled 1

  pub record Base (s : Call) : Type 0 where
    pub kind : leb s.kind 1 ≡ true
    pub side : leb s.side 1 ≡ true
    pub fin : leb s.finishing 1 ≡ true
    pub near : leb s.neighbour slots ≡ true
    pub link : link_sound slots s.link ≡ true
    pub seen : anchor_sound slots (anchor_of s.seen) ≡ true

  pub put : (n : ℕ) (s : Call)
      → leb n (cond P 17 11) ≡ true
      → not (eqb n 11 || leb 15 n) || is_pop s ≡ true
      → not (leb 12 n && leb n 14) || is_push s ≡ true
      → eqb s.finishing 0 || (is_push s && (leb 5 n && leb n 10)) ≡ true
      → cond (cond (is_push s) (not (leb 12 n && leb n 14)) (leb 15 n)) (from1 slots s.own) (eqb s.own 0) ≡ true
      → not (eqb n 13 || eqb n 14) || not (eqb (link_of s.link).slot 0) ≡ true
      → not (leb 5 n && leb n 10) || not (eqb (anchor_of s.seen).status 0) ≡ true
      → Base s → record_sound P slots (at_place s n) ≡ true
  unfolding record_sound
  put n s t1 t5 t6 t7 t8 t9 t13 b =
      or_second (eqb n 0)
      (passes (record_tests P slots (at_place s n))
      (t1 and b.kind and b.side and b.fin and t5 and t6 and t7 and t8 and t9 and b.near and b.link and b.seen and t13 and tt))

  pub low : (n : ℕ) → leb n 17 ≡ true → leb n 11 ≡ true → leb n (cond P 17 11) ≡ true
  low n a b = either (λ (m : ℕ). leb n m ≡ true) P a b

  pub high : (n : ℕ) → leb n 17 ≡ true → P ≡ true → leb n (cond P 17 11) ≡ true
  high n a e = rw e a

  pub slot_fits : (v : ℕ) → link_sound slots v ≡ true → leb (link_of v).slot slots ≡ true
  unfolding link_sound
  slot_fits v e = (and-true (eqb (spare_of v) 0) (leb (link_of v).slot slots) e).1

  pub link_slot : (v : ℕ) → not (eqb (link_of v).slot 0) ≡ true → link_sound slots v ≡ true → from1 slots (link_of v).slot ≡ true
  link_slot v n l = and_of (le-leb 1 (link_of v).slot (above (eqb-false (link_of v).slot 0 (not-true _ n)))) (slot_fits v l)
    where
      above : ((link_of v).slot ≡ 0 → ⊥) → 1 ≤ (link_of v).slot
      above h = omega arith

  pub pool_of : (n : ℕ) → leb n 11 ≡ false → (b : Bool) → leb n (cond b 17 11) ≡ true → b ≡ true
  pool_of n h true e = refl
  pool_of n h false e = absurd (not_both e h)

  -- An unstable Anchor, packed.
  pub unstable_packed : (tag status left right : ℕ) → 1 ≤ status → status ≤ 2
      → eqb (anchor_of (pack_anchor (record { tag = tag; status = status; left = left; right = right }))).status 0 ≡ false
  unstable_packed tag status left right a b = ne_eqb
      (anchor_of (pack_anchor (record { tag = tag; status = status; left = left; right = right }))).status 0 differs
    where
      differs : (anchor_of (pack_anchor (record { tag = tag; status = status; left = left; right = right }))).status ≡ 0 → ⊥
      differs e = omega arith

  pub kinds : {X : Type 0} (k : ℕ) → leb k 1 ≡ true → (k ≡ 0 → X) → (k ≡ 1 → X) → X
  kinds k l f g = split (eqb k 0) (λ e. f (eqb-true _ _ e)) (λ e. g (one (eqb-false _ _ e) (leb-true k 1 l)))
    where
      one : (k ≡ 0 → ⊥) → k ≤ 1 → k ≡ 1
      one a b = omega arith

  pub zero_fin : (n : ℕ) → leb n 1 ≡ true → eqb n 1 ≡ false → eqb n 0 ≡ true
  zero_fin n l e = split (eqb n 0) (λ z. z) (λ z. absurd (clash (leb-true n 1 l) (eqb-false _ _ e) (eqb-false _ _ z)))
    where
      clash : n ≤ 1 → (n ≡ 1 → ⊥) → (n ≡ 0 → ⊥) → ⊥
      clash a b c = omega arith

  pub record Fit (s : Call) : Type 0 where
    pub base : Base s
    pub pops : not (eqb s.place 11 || giving s) || is_pop s ≡ true
    pub pushes : not (drawing s) || is_push s ≡ true
    pub final : eqb s.finishing 0 || (is_push s && helping s) ≡ true
    pub owns : cond (cond (is_push s) (not (drawing s)) (giving s)) (from1 slots s.own) (eqb s.own 0) ≡ true
    pub top : not (eqb s.place 13 || eqb s.place 14) || not (eqb (link_of s.link).slot 0) ≡ true
    pub unstable : not (helping s) || not (eqb (anchor_of s.seen).status 0) ≡ true
    pub place : leb s.place (cond P 17 11) ≡ true

  pub otherwise : (a b : Bool) → a || b ≡ true → a ≡ false → b ≡ true
  otherwise true b e h = absurd (not_both e h)
  otherwise false b e h = e

  pub fit : (s : Call) → eqb s.place 0 ≡ false → record_sound P slots s ≡ true → Fit s
  unfolding record_sound
  fit s busy e =
      let z = tests (record_tests P slots s) (otherwise (eqb s.place 0) _ e busy) in
      let y = z.1.1.1.1 in
      record {
        base = record {
          kind = z.1.0;
          side = z.1.1.0;
          fin = z.1.1.1.0;
          near = y.1.1.1.1.1.0;
          link = y.1.1.1.1.1.1.0;
          seen = y.1.1.1.1.1.1.1.0;
        };
        pops = y.0;
        pushes = y.1.0;
        final = y.1.1.0;
        owns = y.1.1.1.0;
        top = y.1.1.1.1.0;
        unstable = y.1.1.1.1.1.1.1.1.0;
        place = z.0;
      }

  pub first_of : (a b : Bool) → a || (b && false) ≡ true → a ≡ true
  first_of true b e = refl
  first_of false true e = e
  first_of false false e = e
