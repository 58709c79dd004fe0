-- Places 11 to 17: a step of the tables is a step of the decoded machine.
use mathlib.Core.Path.{◌∙◌, ◌≡◌, ap, refl, sym}
use Prim.Native.Nat.{◌+◌, ◌<◌, ◌^◌, suc, ℕ}
use native.Mathlib.Omega.{arith}
use lib.Dec.{eqb}
use borrow.Author.Tests.{eqb-true}
use Rattle.word.specs.Link.{link_of, pack_link, spare_of}
use Rattle.model.specs.Places.{at11, at12, at13, at14, at15, at16, at17, link_side, move, row, side_of, stack_empty}
use Rattle.model.specs.{Route.{answer, goes, onward, pop_route, push_route, route}, declared.Call.Call}
use Rattle.model.specs.Tables.{Tables, at_place, is_pooled, of_kind}
use Rattle.model.proofs.{Tests.Truth.split, Bridge.Words.{link-back, same-link_word}}
use Rattle.model.proofs.Bridge.{Decoded.{HeadRoom, Seen, same-touch}, View.{link_seen, rec_of, view}}
use Rattle.model.proofs.Machine.Machine as M

module _ (q : Tables) (r : Call) where
  -- At a place and of a kind: 0 push, 1 pop.
  abbrev at : ℕ → ℕ → Call
  at p k = at_place (of_kind r k r.side) p

  abbrev head : ℕ
  head = q.control.head

  pub place11_pop : Seen q (at 11 1)
  unfolding rec_of view move at11 row link_side side_of onward route push_route pop_route goes answer
  place11_pop = split (is_pooled q.control)
      (λ p. split (eqb r.side 1) (λ e. rw (p, e)) (λ e. rw (p, e)))
      (λ p. split (eqb r.side 1) (λ e. rw (p, e)) (λ e. rw (p, e)))

  pub place12_push : Seen q (at 12 0)
  unfolding rec_of view move at12 row link_side side_of onward route push_route pop_route goes answer
  place12_push = split (stack_empty head) (λ e. rw e) (λ e. rw e)

  pub place13_push : Seen q (at 13 0)
  unfolding rec_of view move at13 row link_side side_of onward route push_route pop_route goes answer
  place13_push = refl

  pub place15_pop : Seen q (at 15 1)
  unfolding rec_of view move at15 row link_side side_of onward route push_route pop_route goes answer
  place15_pop = refl

  pub place16_pop : Seen q (at 16 1)
  unfolding rec_of view move at16 row link_side side_of onward route push_route pop_route goes answer
  place16_pop = refl

  -- The head as read is compared with the head as it is; a change raises its tag, which has room.
  module _ (read-spare : spare_of r.link ≡ 0) (now-spare : spare_of head ≡ 0) where
    equal : M.same_link (link_seen r.link) (link_seen head) ≡ eqb head r.link
    equal = same-link_word r.link head read-spare now-spare

    raised : (s : ℕ) → (link_of r.link).tag < 4294967295 → s < 2 ^ 15
        → ◌≡◌ {A = M.Link} (record { tag = suc (link_of r.link).tag; slot = s }) (link_seen (pack_link (record { tag = (link_of r.link).tag + 1; slot = s })))
    raised s h g = sym (link-back ((link_of r.link).tag + 1) s (omega arith) g
        ∙ (let e : (link_of r.link).tag + 1 ≡ suc (link_of r.link).tag = omega arith in λ i. record { tag = e i; slot = s }))

    pub place14_push : HeadRoom q (at 14 0) → r.neighbour < 2 ^ 15 → Seen q (at 14 0)
    unfolding rec_of view move at14 row link_side side_of onward route push_route pop_route goes answer
    place14_push room h = split (eqb head r.link)
        (λ e. rw (equal, e) (same-touch (ap (λ (v : M.Link). M.take v (link_of r.link).slot r.label) (raised r.neighbour (room (eqb-true _ _ e)) h))))
        (λ e. rw (equal, e))

    pub place17_pop : HeadRoom q (at 17 1) → r.own < 2 ^ 15 → Seen q (at 17 1)
    unfolding rec_of view move at17 row link_side side_of onward route push_route pop_route goes answer
    place17_pop room h = split (eqb head r.link)
        (λ e. rw (equal, e) (same-touch (ap M.put_head (raised r.own (room (eqb-true _ _ e)) h))))
        (λ e. rw (equal, e))
