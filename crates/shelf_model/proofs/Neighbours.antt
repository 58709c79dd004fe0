-- The links between neighbours among the labels waiting: the same in queues that are alike within their lengths.
use mathlib.Core.{Bool.cond, List.{List, [], ◌∷◌, ◌++◌, reverse}, Path.{◌≡◌, ◌∙◌, ap, refl, subst, sym}}
use Prim.Native.Nat.{ℕ, zero, suc, ◌≤◌}
use native.Mathlib.Omega.{arith}
use lib.{Dec.eqb, ListN.{get_or, take}}
use Rattle.word.specs.{Anchor.anchor_of, Link.link_of}
use Rattle.model.specs.{declared.{Control.Control, Entry.Entry}, Tables.{Queue, Tables}, Lists.All}
use Rattle.model.specs.{Sides.{far, is_empty, links, near, opposite}, Sound.{from1, link_sound}, Neighbours.NeighboursIn}
use Rattle.model.specs.Walk.{Walk, along, and_then, broken, contents, entries, walk_from, whence}
use Rattle.model.proofs.{Bridge.Facts.from1_true, Lists.All.all_reverse, Tests.Truth.{by_test, either}}
use Rattle.shelf_model.specs.Cut.{cut}
use Rattle.shelf_model.proofs.{Lists.get_take, CutCalls.contents-cut}

-- The walk meets slots of the queue alone.
abbrev Inside : ℕ → Entry → Type 0
Inside slots e = e.slot ≤ slots

abbrev Met : ℕ → Walk → Type 0
Met slots (entries l) = All (Inside slots) l
Met slots broken = Unit {0}

met_then : (slots : ℕ) (e : Entry) (w : Walk) → Inside slots e → Met slots w → Met slots (and_then e w)
met_then slots e (entries l) h m = (h, m)
met_then slots e broken h m = tt

along-met : (slots : ℕ) (ls labels : List ℕ) (last n x : ℕ) → Met slots (along slots ls labels last n x)
unfolding along
along-met slots ls labels last zero x = tt
along-met slots ls labels last (suc n) x =
    let e : Entry = record { slot = x; label = get_or labels x 0 } in
    let w = get_or ls x 0 in
    let next = along slots ls labels last n (link_of w).slot in
    let onwards = cond (link_sound slots w) next broken in
    by_test (Met slots) (from1 slots x) {x = cond (eqb x last) (entries (e ∷ [])) (and_then e onwards)} {y = broken}
    (λ inside.
    let low = (from1_true slots x inside).1 in
    either (Met slots) (eqb x last) {x = entries (e ∷ [])} {y = and_then e onwards} (low, tt)
    (met_then slots e onwards low
    (either (Met slots) (link_sound slots w) {x = next} {y = broken} (along-met slots ls labels last n (link_of w).slot) tt)))
    (λ _. tt)

turned-met : (slots side : ℕ) (w : Walk) → Met slots w → Met slots (walk_from side w)
turned-met slots side (entries l) m = either (All (Inside slots)) (eqb side 1) {x = reverse l} {y = l} (all_reverse (Inside slots) l m) m
turned-met slots side broken m = tt

contents-met : (q : Tables) → Met q.control.slots (contents q)
unfolding contents
contents-met q =
    let a = anchor_of q.control.anchor in
    let side = whence a.status in
    let slots = q.control.slots in
    let walk = along slots (links q (opposite side)) q.labels (far side a) slots (near side a) in
    either (Met slots) (is_empty a) {x = entries []} {y = walk_from side walk} tt
    (turned-met slots side walk (along-met slots (links q (opposite side)) q.labels (far side a) slots (near side a)))

two_of : (P : Entry → Type 0) (before after : List Entry) (x y : Entry) → All P (before ++ (x ∷ y ∷ after)) → P x × P y
two_of P [] after x y h = (h.0, h.1.0)
two_of P (e ∷ before) after x y h = two_of P before after x y h.1

-- A row within the lengths.
same_row : (rows : Tables → List ℕ) (p q : Queue) → cut p ≡ cut q
    → ((t : Queue) → rows (cut t).tables ≡ take (suc t.tables.control.slots) (rows t.tables))
    → (x : ℕ) → x ≤ p.tables.control.slots → x ≤ q.tables.control.slots → get_or (rows p.tables) x 0 ≡ get_or (rows q.tables) x 0
same_row rows p q e is x h g =
    sym (ap (λ (l : List ℕ). get_or l x 0) (is p) ∙ get_take (suc p.tables.control.slots) (rows p.tables) x 0 (omega (arith, h)))
    ∙ ap (λ (t : Queue). get_or (rows t.tables) x 0) e
    ∙ ap (λ (l : List ℕ). get_or l x 0) (is q) ∙ get_take (suc q.tables.control.slots) (rows q.tables) x 0 (omega (arith, g))

pub neighbours_alike : (p q : Queue) → cut p ≡ cut q → NeighboursIn p.tables → NeighboursIn q.tables
neighbours_alike p q e h before after x y w =
    let control : p.tables.control ≡ q.tables.control = ap (λ (t : Queue). t.tables.control) e in
    let walk = sym (contents-cut p.tables) ∙ ap (λ (t : Queue). contents t.tables) e ∙ contents-cut q.tables ∙ w in
    let old = h before after x y walk in
    let met = two_of (Inside q.tables.control.slots) before after x y (subst (Met q.tables.control.slots) w (contents-met q.tables)) in
    let within = two_of (Inside p.tables.control.slots) before after x y (subst (Met p.tables.control.slots) walk (contents-met p.tables)) in
    record {
      rightward = λ end.
          ap (λ (v : ℕ). (link_of v).slot) (sym (same_row (λ (t : Tables). t.rights) p q e (λ t. refl) x.slot within.0 met.0))
          ∙ old.rightward (λ s. end (ap (λ (c : Control). (anchor_of c.anchor).status) (sym control) ∙ s));
      leftward = λ end.
          ap (λ (v : ℕ). (link_of v).slot) (sym (same_row (λ (t : Tables). t.lefts) p q e (λ t. refl) y.slot within.1 met.1))
          ∙ old.leftward (λ s. end (ap (λ (c : Control). (anchor_of c.anchor).status) (sym control) ∙ s));
    }
