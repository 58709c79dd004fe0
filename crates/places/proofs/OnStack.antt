-- The model's step at the places that draw a slot from the stack and give it back, in the terms of this crate: 12 to 17.
use mathlib.Core.{Path.{◌≡◌, refl, ap, ◌∙◌}, Bool.cond, List.List}
use Prim.Native.Nat.{ℕ, ◌+◌, ◌/◌, ◌^◌}
use lib.{Dec.{eqb, leb, ltb}, ListN.{get_or, set}}
use Rattle.word.specs.Link.{link_of, pack_link}
use Rattle.model.specs.{declared.{Control.Control, Call.Call, Transition.Transition}, Sound.link_sound}
use Rattle.model.specs.Tables.{Tables, at_place, with_mark, tables_of, with_neighbour, with_link, with_own}
use Rattle.model.specs.{Refusals.step_sound, Places.{row, at12, at13, at14, at15, at16, at17, move}}
use Rattle.model.specs.{Route.{route, push_route, pop_route, goes, counted}, Calls.{Acted, entry_of, finish}}
use Rattle.model.proofs.Tests.Truth.{split}
use Rattle.table.specs.Lent.{with_tables}
use Rattle.places.specs.Arm.{step_at}
use Rattle.decide.specs.Ending.{refused, settled, no_entry, failing, headed, head_read}
use Rattle.decide.{specs.Decided.{made_of, top, new17, found13, found14}, proofs.Routes.{kinds, Quiet, quietly}}

module _ (c : Control) (r : Call) (ls rs ns ms xs : List ℕ) (k : ℕ) where
  abbrev lent : Transition → Acted
  lent m = with_tables m ls rs ns ms xs k

  abbrev q : Tables
  q = tables_of c ls rs ns ms xs

  -- The head with its tag raised that names slot x.
  abbrev raised : ℕ → ℕ
  raised x = pack_link (record { tag = r.link / 2 ^ 32 + 1; slot = x })

  pub step12 : lent (head_read c r (route 12 r.kind 0) (route 12 r.kind 1)) ≡ step_at 12 q r k
  unfolding step_at step_sound move at12 finish head_read settled goes counted route push_route pop_route
  step12 =
      let t = with_link r c.head in
      let e = entry_of q (at_place r 12) in
      split (link_sound c.slots c.head)
      (λ l. split (eqb (link_of c.head).slot 0)
      (λ z. simp (l, z) (ap lent (quietly c t (route 12 r.kind 0) e (kinds Quiet 12 r.kind 0 refl refl))))
      (λ z. simp (l, z) (ap lent (quietly c t (route 12 r.kind 1) e (kinds Quiet 12 r.kind 1 refl refl)))))
      (λ l. simp l)

  pub step13 : lent (found13 c r (get_or xs (top r) 0)) ≡ step_at 13 q r k
  unfolding step_at step_sound move row at13 finish found13 settled goes counted route push_route pop_route
  step13 =
      let n = get_or xs (top r) 0 in
      split (leb n c.slots)
      (λ l. simp l (ap lent (quietly c (with_neighbour r n) (route 13 r.kind 0) (entry_of q (at_place r 13)) (kinds Quiet 13 r.kind 0 refl refl))))
      (λ l. simp l)

  -- The tables once slot `top` is drawn.
  abbrev pub drawn : Transition → Acted
  drawn m = with_tables m ls rs (set ns (top r) r.label) (with_mark ms (top r) 1) xs k

  tests14 :
      cond (eqb c.head r.link)
      (cond (ltb (link_of r.link).tag 4294967295)
      (drawn (settled (headed c (raised r.neighbour)) (with_own r (top r) r.label) (route 14 r.kind 0) no_entry))
      (lent (refused c r)))
      (lent (failing (settled c r (route 14 r.kind 1) no_entry)))
      ≡ step_at 14 q r k
  unfolding step_at step_sound move row at14 finish settled goes counted route push_route pop_route
  tests14 =
      let e = entry_of q (at_place r 14) in
      split (eqb c.head r.link)
      (λ s. split (ltb (link_of r.link).tag 4294967295)
      (λ t. simp (s, t)
      (ap drawn (quietly (headed c (raised r.neighbour)) (with_own r (top r) r.label) (route 14 r.kind 0) e (kinds Quiet 14 r.kind 0 refl refl))))
      (λ t. simp (s, t)))
      (λ s. simp s (ap (λ m. lent (failing m)) (quietly c r (route 14 r.kind 1) e (kinds Quiet 14 r.kind 1 refl refl))))

  abbrev draws : Transition → Acted
  draws m = cond (made_of m) (drawn m) (lent m)

  pub step14 : (m : Transition) → m ≡ found14 c r → draws m ≡ step_at 14 q r k
  unfolding found14 settled
  step14 m e =
      ap draws e
      ∙ split (eqb c.head r.link)
      (λ s. split (ltb (link_of r.link).tag 4294967295)
      (λ t. rw (s, t) (rw (s, t) at tests14))
      (λ t. rw (s, t) (rw (s, t) at tests14)))
      (λ s. rw s (rw s at tests14))

  pub step15 : lent (head_read c r (route 15 r.kind 0) (route 15 r.kind 0)) ≡ step_at 15 q r k
  unfolding step_at step_sound move at15 finish head_read settled goes counted route push_route pop_route
  step15 =
      let t = with_link r c.head in
      let e = entry_of q (at_place r 15) in
      let same = ap lent (quietly c t (route 15 r.kind 0) e (kinds Quiet 15 r.kind 0 refl refl)) in
      split (link_sound c.slots c.head)
      (λ l. split (eqb (link_of c.head).slot 0) (λ z. simp (l, z) same) (λ z. simp (l, z) same))
      (λ l. simp l)

  pub step16 : with_tables (settled c r (route 16 r.kind 0) no_entry) ls rs ns ms (set xs r.own (top r)) k ≡ step_at 16 q r k
  unfolding step_at step_sound move row at16 finish settled goes counted route push_route pop_route
  step16 =
      ap (λ m. with_tables m ls rs ns ms (set xs r.own (top r)) k)
      (quietly c r (route 16 r.kind 0) (entry_of q (at_place r 16)) (kinds Quiet 16 r.kind 0 refl refl))

  pub step17 :
      cond (eqb c.head r.link)
      (cond (ltb (link_of r.link).tag 4294967295)
      (lent (settled (headed c (new17 r)) r (route 17 r.kind 0) (record { slot = r.own; label = r.label })))
      (lent (refused c r)))
      (lent (failing (settled c r (route 17 r.kind 1) no_entry)))
      ≡ step_at 17 q r k
  unfolding step_at step_sound move row at17 finish settled goes counted route push_route pop_route
  step17 =
      split (eqb c.head r.link)
      (λ s. split (ltb (link_of r.link).tag 4294967295) (λ t. simp (s, t)) (λ t. simp (s, t)))
      (λ s. simp s (ap (λ m. lent (failing m)) (quietly c r (route 17 r.kind 1) (entry_of q (at_place r 17)) (kinds Quiet 17 r.kind 1 refl refl))))
