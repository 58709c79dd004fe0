-- Places 1 to 10 leave a sound record.
use mathlib.Core.{Path.{◌≡◌, refl, ap, sym, subst}, Bool.{Bool, true, false, ◌&&◌, ◌||◌, not, cond}}
use Prim.Native.Nat.{ℕ, ◌+◌, ◌≤◌}
use native.Mathlib.Omega.{arith}
use lib.Dec.{eqb, leb}
use borrow.Author.Tests.{eq-eqb, ne_eqb}
use Rattle.word.specs.{Anchor.{anchor_of, pack_anchor}, Link.link_of}
use Rattle.model.specs.{declared.{Control.Control, Call.Call}, Tables.{at_place, with_seen, with_neighbour, with_link}}
use Rattle.model.specs.{Kinds.{is_push, is_pop}, Sides.{pushing, is_empty, facing, far}, Refusals.leaves_sound}
use Rattle.model.specs.Sound.{from1, anchor_sound, link_sound, record_sound}
use Rattle.model.specs.Places.{Move, reading, side_of, end_seen, new4, at1, at2, at3, at4, at5, at6, at7, at9, at10}
use Rattle.model.specs.Route.{route, onward, goes, push_route, pop_route}
use Rattle.model.proofs.{Tests.Truth.{either, by_test, and_of, or_first}, Laws.Onward.reads_on}
use Rattle.threads_model.specs.Split.{knowing}
use Rattle.threads.proofs.Split.SoundFields as F

module _ (pooled slots w : ℕ) where
  abbrev pub P : Bool
  P = eqb pooled 1

  abbrev pub c : Control
  c = knowing pooled slots w w

  -- After a reading of Anchor, as at 1.
  module _ (x : Call) (b : F.Base pooled slots (with_seen x w x.finishing)) (f : eqb x.finishing 0 ≡ true)
      (o : cond (cond (is_push x) true false) (from1 slots x.own) (eqb x.own 0) ≡ true) where
    abbrev s : Call
    s = with_seen x w x.finishing

    abbrev To : ℕ → ℕ → Type 0
    To k branch = record_sound P slots (goes s (onward (route 1 k branch) x.finishing)) ≡ true

    to2 : record_sound P slots (at_place s 2) ≡ true
    to2 = F.put pooled slots 2 s (F.low pooled slots 2 refl refl) refl refl (or_first _ f) o refl refl b

    to3 : record_sound P slots (at_place s 3) ≡ true
    to3 = F.put pooled slots 3 s (F.low pooled slots 3 refl refl) refl refl (or_first _ f) o refl refl b

    to5 : eqb (anchor_of w).status 0 ≡ false → record_sound P slots (at_place s 5) ≡ true
    to5 e = F.put pooled slots 5 s (F.low pooled slots 5 refl refl) refl refl (or_first _ f) o refl (ap not e) b

    reads0 : To 0 (reading false (anchor_of w))
    unfolding reading route push_route onward goes
    reads0 =
        by_test (To 0) (is_empty (anchor_of w)) (λ _. to2)
        (λ _. by_test (To 0) (eqb (anchor_of w).status 0) (λ _. to3) to5)

    reads1 : To 1 (reading true (anchor_of w))
    unfolding reading route pop_route onward goes record_sound
    reads1 =
        by_test (To 1) (is_empty (anchor_of w)) (λ _. refl)
        (λ _. by_test (To 1) (eqb (anchor_of w).left (anchor_of w).right) (λ _. to2)
        (λ _. by_test (To 1) (eqb (anchor_of w).status 0) (λ _. to3) to5))

    read_on : To x.kind (reading (is_pop x) (anchor_of w))
    read_on = F.kinds pooled slots x.kind b.kind
        (λ k. subst (λ (k : ℕ). To k (reading (eqb k 1) (anchor_of w))) (sym k) reads0)
        (λ k. subst (λ (k : ℕ). To k (reading (eqb k 1) (anchor_of w))) (sym k) reads1)

  module _ (r : Call) where
    abbrev pub After : ℕ → Call → ℕ → Type 0
    After n s branch = record_sound P slots (goes s (onward (route n r.kind branch) s.finishing)) ≡ true

    abbrev pub Goes : ℕ → Move → Type 0
    Goes n m = After n m.task m.branch

    abbrev pub at : ℕ → Call
    at n = at_place r n

    abbrev pub Sounds : ℕ → Type 0
    Sounds n = record_sound P slots (at n) ≡ true

    -- By kind, at a branch that is known.
    pub by_kind : (n branch : ℕ) (s : Call) → leb r.kind 1 ≡ true
        → (r.kind ≡ 0 → record_sound P slots (goes s (onward (route n 0 branch) s.finishing)) ≡ true)
        → (r.kind ≡ 1 → record_sound P slots (goes s (onward (route n 1 branch) s.finishing)) ≡ true)
        → After n s branch
    by_kind n branch s l f g = F.kinds pooled slots r.kind l
        (λ k. subst (λ (k : ℕ). record_sound P slots (goes s (onward (route n k branch) s.finishing)) ≡ true) (sym k) (f k))
        (λ k. subst (λ (k : ℕ). record_sound P slots (goes s (onward (route n k branch) s.finishing)) ≡ true) (sym k) (g k))

    pub seen_now : (n : ℕ) → anchor_sound slots (anchor_of w) ≡ true → F.Base pooled slots (at n) → F.Base pooled slots (with_seen (at n) w r.finishing)
    seen_now n a b = record { kind = b.kind; side = b.side; fin = b.fin; near = b.near; link = b.link; seen = a }

    pub unfinished : eqb r.finishing 0 || (is_push r && false) ≡ true → eqb r.finishing 0 ≡ true
    unfinished e = F.first_of pooled slots (eqb r.finishing 0) (is_push r) e

    pub p1 : anchor_sound slots (anchor_of w) ≡ true → Sounds 1 → Goes 1 (at1 c (at 1))
    unfolding at1
    p1 a e = let z = F.fit pooled slots (at 1) refl e in read_on (at 1) (seen_now 1 a z.base) (unfinished z.final) z.owns

    pub to11 : (n : ℕ) (s : Call) → r.kind ≡ 1 → eqb r.finishing 0 ≡ true
        → cond (cond (is_push r) true false) (from1 slots r.own) (eqb r.own 0) ≡ true → F.Base pooled slots (at n) → record_sound P slots
        (at_place (at n) 11) ≡ true
    to11 n s k f o b = F.put pooled slots 11 (at n) (F.low pooled slots 11 refl refl) (eq-eqb _ _ k) refl (or_first _ f) o refl refl b

    pub again : (n : ℕ) → ((o : ℕ) → route n r.kind (o + 1) ≡ route 1 r.kind o) → anchor_sound slots (anchor_of w) ≡ true → F.Base pooled slots (at n)
        → eqb r.finishing 0 ≡ true → cond (cond (is_push r) true false) (from1 slots r.own) (eqb r.own 0) ≡ true
        → After n (with_seen (at n) w r.finishing) (reading (is_pop r) (anchor_of w) + 1)
    again n on a b f o =
        subst (λ (k : ℕ). record_sound P slots (goes (with_seen (at n) w r.finishing) (onward k r.finishing)) ≡ true)
        (sym (on (reading (is_pop r) (anchor_of w))))
        (read_on (at n) (seen_now n a b) f o)

    pub p2 : anchor_sound slots (anchor_of w) ≡ true → Sounds 2 → Goes 2 (at2 c (at 2))
    unfolding at2 route push_route pop_route onward goes record_sound
    p2 a e =
        let z = F.fit pooled slots (at 2) refl e in
        let f = unfinished z.final in
        by_test (Goes 2) (eqb w r.seen)
        (λ _. by_kind 2 0 (at 2) z.base.kind (λ k. refl) (λ k. to11 2 (at 2) k f z.owns z.base))
        (λ _. again 2 (λ o. (reads_on r.kind o).0) a z.base f z.owns)

    -- Places 3 and 4.
    pub to4 : (s : Call) → eqb s.finishing 0 ≡ true → cond (cond (is_push s) true false) (from1 slots s.own) (eqb s.own 0) ≡ true
        → F.Base pooled slots s
        → record_sound P slots (at_place s 4) ≡ true
    to4 s f o b = F.put pooled slots 4 s (F.low pooled slots 4 refl refl) refl refl (or_first _ f) o refl refl b

    pub near-now : (n v : ℕ) → leb v slots ≡ true → F.Base pooled slots (at n) → F.Base pooled slots (with_neighbour (at n) v)
    near-now n v a b = record { kind = b.kind; side = b.side; fin = b.fin; near = a; link = b.link; seen = b.seen }

    pub link-now : (n v : ℕ) → link_sound slots v ≡ true → F.Base pooled slots (at n) → F.Base pooled slots (with_link (at n) v)
    link-now n v a b = record { kind = b.kind; side = b.side; fin = b.fin; near = b.near; link = a; seen = b.seen }

    pub p3 : link_sound slots w ≡ true → Sounds 3 → Goes 3 (at3 (at 3) w)
    unfolding at3 route push_route pop_route onward goes
    p3 l e =
        let z = F.fit pooled slots (at 3) refl e in
        let f = unfinished z.final in
        let x = with_neighbour (at 3) (link_of w).slot in
        let b = near-now 3 (link_of w).slot (F.slot_fits pooled slots w l) z.base in
        by_test (Goes 3) (is_push r)
        (λ _. by_kind 3 0 (at 3) z.base.kind (λ k. to4 (at 3) f z.owns z.base) (λ k. to4 (at 3) f z.owns z.base))
        (λ _. by_kind 3 0 x z.base.kind (λ k. to4 x f z.owns b) (λ k. to4 x f z.owns b))

    pub unstable_4 : is_push r ≡ true → eqb (anchor_of (new4 (at 4))).status 0 ≡ false
    unfolding new4
    unstable_4 e =
        let d = side_of (at 4) in
        let a = anchor_of r.seen in
        let t = a.tag + 1 in
        subst (λ (b : Bool). eqb
        (anchor_of (cond b (pack_anchor (facing d t (pushing d) r.own (far d a)))
        (pack_anchor (facing d t a.status r.neighbour (far d a))))).status 0 ≡ false)
        (sym e)
        (F.unstable_packed pooled slots t (pushing d) (cond (eqb d 1) (far d a) r.own) (cond (eqb d 1) r.own (far d a))
        (either (λ (n : ℕ). 1 ≤ n) (eqb d 1) (omega arith) (omega arith)) (either (λ (n : ℕ). n ≤ 2) (eqb d 1) (omega arith) (omega arith)))

    pub p4 : anchor_sound slots (anchor_of w) ≡ true → Sounds 4 → leaves_sound slots (at4 c (at 4)).touch ≡ true → Goes 4 (at4 c (at 4))
    unfolding at4 route push_route pop_route onward goes
    p4 a e =
        let z = F.fit pooled slots (at 4) refl e in
        let f = unfinished z.final in
        let A = with_seen (at 4) (new4 (at 4)) 1 in
        by_test (λ (m : Move). leaves_sound slots m.touch ≡ true → Goes 4 m) (eqb w r.seen)
        (λ _ l. by_kind 4 0 (cond (is_push r) A (at 4)) z.base.kind
        (λ k. let p = eq-eqb r.kind 0 k in
        subst (λ (b : Bool). record_sound P slots (at_place (cond b A (at 4)) 5) ≡ true) (sym p)
        (F.put pooled slots 5 A (F.low pooled slots 5 refl refl) refl refl (and_of p refl) z.owns refl (ap not (unstable_4 p))
        (record { kind = z.base.kind; side = z.base.side; fin = refl; near = z.base.near; link = z.base.link; seen = l })))
        (λ k. let p : is_push r ≡ false = ne_eqb r.kind 0 (λ q. clash q k) in
        subst (λ (b : Bool). record_sound P slots (at_place (cond b A (at 4)) 11) ≡ true) (sym p) (to11 4 (at 4) k f z.owns z.base)))
        (λ _ l. again 4 (λ o. (reads_on r.kind o).1) a z.base f z.owns)
      where
        clash : r.kind ≡ 0 → r.kind ≡ 1 → ⊥
        clash a b = omega arith

    -- Places 5 to 10.
    module _ (s : Call) (b : F.Base pooled slots s) (t7 : eqb s.finishing 0 || (is_push s && true) ≡ true)
        (t8 : cond (cond (is_push s) true false) (from1 slots s.own) (eqb s.own 0) ≡ true)
        (t13 : not (eqb (anchor_of s.seen).status 0) ≡ true) where
      to6 : record_sound P slots (at_place s 6) ≡ true
      to6 = F.put pooled slots 6 s (F.low pooled slots 6 refl refl) refl refl t7 t8 refl t13 b

      to7 : record_sound P slots (at_place s 7) ≡ true
      to7 = F.put pooled slots 7 s (F.low pooled slots 7 refl refl) refl refl t7 t8 refl t13 b

      to8 : record_sound P slots (at_place s 8) ≡ true
      to8 = F.put pooled slots 8 s (F.low pooled slots 8 refl refl) refl refl t7 t8 refl t13 b

      to9 : record_sound P slots (at_place s 9) ≡ true
      to9 = F.put pooled slots 9 s (F.low pooled slots 9 refl refl) refl refl t7 t8 refl t13 b

      to10 : record_sound P slots (at_place s 10) ≡ true
      to10 = F.put pooled slots 10 s (F.low pooled slots 10 refl refl) refl refl t7 t8 refl t13 b

      leaves : record_sound P slots (goes s (onward 20 s.finishing)) ≡ true
      unfolding onward goes record_sound
      leaves =
          by_test (λ (n : ℕ). record_sound P slots (goes s n) ≡ true) (eqb s.finishing 1) (λ _. refl)
          (λ e. F.put pooled slots 1 s (F.low pooled slots 1 refl refl) refl refl
          (or_first _ (F.zero_fin pooled slots s.finishing b.fin e)) t8 refl refl b)

    pub p5 : link_sound slots w ≡ true → Sounds 5 → Goes 5 (at5 (at 5) w)
    unfolding at5 route push_route pop_route onward goes
    p5 l e =
        let z = F.fit pooled slots (at 5) refl e in
        let x = with_neighbour (at 5) (link_of w).slot in
        let b = near-now 5 (link_of w).slot (F.slot_fits pooled slots w l) z.base in
        by_kind 5 0 x z.base.kind (λ k. to6 x b z.final z.owns z.unstable) (λ k. to6 x b z.final z.owns z.unstable)

    pub p6 : Sounds 6 → Goes 6 (at6 c (at 6))
    unfolding at6 route push_route pop_route onward goes
    p6 e =
        let z = F.fit pooled slots (at 6) refl e in
        by_test (After 6 (at 6)) (eqb w r.seen)
        (λ _. by_kind 6 0 (at 6) z.base.kind (λ k. seven z) (λ k. seven z))
        (λ _. by_kind 6 1 (at 6) z.base.kind (λ k. leaves (at 6) z.base z.final z.owns z.unstable)
        (λ k. leaves (at 6) z.base z.final z.owns z.unstable))
      where
        seven : F.Fit pooled slots (at 6) → record_sound P slots (goes (at 6) (onward 7 r.finishing)) ≡ true
        seven z = to7 (at 6) z.base z.final z.owns z.unstable

    pub p7 : link_sound slots w ≡ true → Sounds 7 → Goes 7 (at7 (at 7) w)
    unfolding at7 route push_route pop_route onward goes
    p7 l e =
        let z = F.fit pooled slots (at 7) refl e in
        let x = with_link (at 7) w in
        let b = link-now 7 w l z.base in
        by_test (After 7 x) (eqb (link_of w).slot (end_seen (at 7)))
        (λ _. by_kind 7 0 x z.base.kind (λ k. to10 x b z.final z.owns z.unstable) (λ k. to10 x b z.final z.owns z.unstable))
        (λ _. by_kind 7 1 x z.base.kind (λ k. to8 x b z.final z.owns z.unstable) (λ k. to8 x b z.final z.owns z.unstable))

    pub p8 : Sounds 8 → Goes 8 (at6 c (at 8))
    unfolding at6 route push_route pop_route onward goes
    p8 e =
        let z = F.fit pooled slots (at 8) refl e in
        by_test (After 8 (at 8)) (eqb w r.seen)
        (λ _. by_kind 8 0 (at 8) z.base.kind (λ k. nine z) (λ k. nine z))
        (λ _. by_kind 8 1 (at 8) z.base.kind (λ k. leaves (at 8) z.base z.final z.owns z.unstable)
        (λ k. leaves (at 8) z.base z.final z.owns z.unstable))
      where
        nine : F.Fit pooled slots (at 8) → record_sound P slots (goes (at 8) (onward 9 r.finishing)) ≡ true
        nine z = to9 (at 8) z.base z.final z.owns z.unstable

    pub p9 : Sounds 9 → Goes 9 (at9 (at 9) w)
    unfolding at9 route push_route pop_route onward goes
    p9 e =
        let z = F.fit pooled slots (at 9) refl e in
        by_test (Goes 9) (eqb w r.link)
        (λ _. by_kind 9 0 (at 9) z.base.kind (λ k. ten z) (λ k. ten z))
        (λ _. by_kind 9 1 (at 9) z.base.kind (λ k. leaves (at 9) z.base z.final z.owns z.unstable)
        (λ k. leaves (at 9) z.base z.final z.owns z.unstable))
      where
        ten : F.Fit pooled slots (at 9) → record_sound P slots (goes (at 9) (onward 10 r.finishing)) ≡ true
        ten z = to10 (at 9) z.base z.final z.owns z.unstable

    pub p10 : Sounds 10 → Goes 10 (at10 c (at 10))
    unfolding at10 route push_route pop_route
    p10 e =
        let z = F.fit pooled slots (at 10) refl e in
        let l = leaves (at 10) z.base z.final z.owns z.unstable in
        by_test (Goes 10) (eqb w r.seen)
        (λ _. by_kind 10 0 (at 10) z.base.kind (λ k. l) (λ k. l))
        (λ _. by_kind 10 1 (at 10) z.base.kind (λ k. l) (λ k. l))
