-- The model's step at the places that touch a slot row or a mark, in the terms of this crate: 3, 5, 7, 9 and 11.
use mathlib.Core.{Path.{◌≡◌, refl, ap, ◌∙◌}, Bool.{Bool, true, false, not, cond}, List.List}
use Prim.Native.Nat.{ℕ, ◌+◌, ◌/◌, ◌^◌}
use lib.{Dec.{eqb, ltb}, ListN.{get_or, set}}
use Rattle.word.specs.{Anchor.anchor_of, Link.{link_of, pack_link}}
use Rattle.model.specs.{declared.{Control.Control, Call.Call, Transition.Transition}, Sound.{from1, link_sound}}
use Rattle.model.specs.Tables.{Tables, is_pooled, with_mark, tables_of, with_neighbour, with_link, with_own}
use Rattle.model.specs.{Places.{row, side_of, link_side, at3, at5, at7, at9, at11, move}, Refusals.step_sound}
use Rattle.model.specs.{Route.{route, push_route, pop_route, goes, counted}, Calls.{Acted, finish}}
use Rattle.model.proofs.Tests.Truth.{split}
use Rattle.table.specs.Lent.{with_tables}
use Rattle.places.specs.Arm.{step_at}
use Rattle.decide.specs.Ending.{refused, settled, no_entry, failing, row_sound, neighbour_read, link_read}
use Rattle.decide.{specs.declared.touched.LinkWord.LinkWord, proofs.Routes.{kinds, Quiet, entry, quietly}}
use Rattle.decide.specs.Decided.{made_of, link3, link7, new3, new9, found3, found5, found7, found9, found11}

-- The side that a status names, and the opposite of a side.
mirror : (b : Bool) → eqb (cond b 1 0) 1 ≡ b
mirror true = refl
mirror false = refl

turn : (b : Bool) → eqb (cond b 0 1) 1 ≡ not b
turn true = refl
turn false = refl

module _ (c : Control) (r : Call) where
  -- The end as read at a side, and the side: the task's, and at places 5 to 10 the one that the status names.
  abbrev pub end : Bool → ℕ
  end right = cond right (anchor_of r.seen).right (anchor_of r.seen).left

  abbrev pub own : Bool
  own = eqb r.side 1

  abbrev pub status_right : Bool
  status_right = eqb (anchor_of r.seen).status 1

  module _ (ls rs ns ms xs : List ℕ) (k : ℕ) where
    abbrev lent : Transition → Acted
    lent m = with_tables m ls rs ns ms xs k

    abbrev q : Tables
    q = tables_of c ls rs ns ms xs

    -- Slot x's link word stored at a side.
    abbrev pub linked : Transition → Bool → ℕ → ℕ → Acted
    linked m right x w = with_tables m (cond right ls (set ls x w)) (cond right (set rs x w) rs) ns ms xs k

    push3 :
        eqb r.kind 0 ≡ true
        → (let w = get_or (cond (not own) rs ls) r.own 0 in
        cond (row_sound c.slots r.own w)
        (linked (settled c r (route 3 r.kind 0) no_entry) (not own) r.own (pack_link (record { tag = (link_of w).tag; slot = end own })))
        (lent (refused c r))
        ≡ step_at 3 q r k)
    unfolding step_at step_sound move row side_of link_side at3 finish row_sound settled goes counted route push_route pop_route
    push3 k =
        let w = get_or (cond (not own) rs ls) r.own 0 in
        split (from1 c.slots r.own)
        (λ f. split (link_sound c.slots w)
        (λ l. simp (k, turn, f, l) (ap (λ m. linked m (not own) r.own (pack_link (record { tag = (link_of w).tag; slot = end own })))
        (quietly c r (route 3 0 0) (entry r.own ns) refl)))
        (λ l. simp (k, turn, f, l)))
        (λ f. simp (k, turn, f))

    pop3 :
        eqb r.kind 0 ≡ false
        → lent (neighbour_read c r (end own) (get_or (cond (not own) rs ls) (end own) 0) (route 3 r.kind 0)) ≡ step_at 3 q r k
    unfolding step_at step_sound move row side_of link_side at3 finish neighbour_read row_sound settled goes counted route push_route pop_route
    pop3 k =
        let w = get_or (cond (not own) rs ls) (end own) 0 in
        split (from1 c.slots (end own))
        (λ f. split (link_sound c.slots w)
        (λ l. simp (k, turn, f, l) (ap lent (quietly c (with_neighbour r (link_of w).slot) (route 3 1 0) (entry (end own) ns) refl)))
        (λ l. simp (k, turn, f, l)))
        (λ f. simp (k, turn, f))

    read5 : lent (neighbour_read c r (end status_right) (get_or (cond (not status_right) rs ls) (end status_right) 0) (route 5 r.kind 0)) ≡ step_at 5 q r k
    unfolding step_at step_sound move row side_of link_side at5 finish neighbour_read row_sound settled goes counted route push_route pop_route
    read5 =
        let w = get_or (cond (not status_right) rs ls) (end status_right) 0 in
        split (from1 c.slots (end status_right))
        (λ f. split (link_sound c.slots w)
        (λ l. simp (mirror, turn, f, l)
        (ap lent (quietly c (with_neighbour r (link_of w).slot) (route 5 r.kind 0) (entry (end status_right) ns) (kinds Quiet 5 r.kind 0 refl refl))))
        (λ l. simp (mirror, turn, f, l)))
        (λ f. simp (mirror, turn, f))

    read7 : lent (link_read c r (end status_right) (get_or (cond status_right rs ls) r.neighbour 0) (route 7 r.kind 0) (route 7 r.kind 1))
        ≡ step_at 7 q r k
    unfolding step_at step_sound move row side_of link_side at7 finish link_read row_sound settled goes counted route push_route pop_route
    read7 =
        let w = get_or (cond status_right rs ls) r.neighbour 0 in
        split (from1 c.slots r.neighbour)
        (λ f. split (link_sound c.slots w)
        (λ l. split (eqb (link_of w).slot (end status_right))
        (λ s. simp (mirror, f, l, s) (ap lent
        (quietly c (with_link r w) (route 7 r.kind 0) (entry r.neighbour ns) (kinds Quiet 7 r.kind 0 refl refl))))
        (λ s. simp (mirror, f, l, s) (ap lent
        (quietly c (with_link r w) (route 7 r.kind 1) (entry r.neighbour ns) (kinds Quiet 7 r.kind 1 refl refl)))))
        (λ l. simp (mirror, f, l)))
        (λ f. simp (mirror, f))

    tests9 :
        cond (from1 c.slots r.neighbour)
        (cond (eqb (get_or (cond status_right rs ls) r.neighbour 0) r.link)
        (cond (ltb (link_of r.link).tag 4294967295)
        (linked (settled c r (route 9 r.kind 0) no_entry) status_right r.neighbour
        (pack_link (record { tag = r.link / 2 ^ 32 + 1; slot = end status_right })))
        (lent (refused c r)))
        (lent (failing (settled c r (route 9 r.kind 1) no_entry))))
        (lent (refused c r))
        ≡ step_at 9 q r k
    unfolding step_at step_sound move row side_of link_side at9 finish settled goes counted route push_route pop_route
    tests9 =
        split (from1 c.slots r.neighbour)
        (λ f. split (eqb (get_or (cond status_right rs ls) r.neighbour 0) r.link)
        (λ s. split (ltb (link_of r.link).tag 4294967295)
        (λ t. simp (mirror, f, s, t) (ap (λ m. linked m status_right r.neighbour (pack_link (record { tag = r.link / 2 ^ 32 + 1; slot = end status_right })))
        (quietly c r (route 9 r.kind 0) (entry r.neighbour ns) (kinds Quiet 9 r.kind 0 refl refl))))
        (λ t. simp (mirror, f, s, t)))
        (λ s. simp (mirror, f, s) (ap (λ m. lent (failing m))
        (quietly c r (route 9 r.kind 1) (entry r.neighbour ns) (kinds Quiet 9 r.kind 1 refl refl)))))
        (λ f. simp (mirror, f))

    -- The label of the end taken is the answer's, or in a pooled queue the record's.
    named11 : is_pooled c ≡ false →
        cond (from1 c.slots (end own))
        (with_tables (settled c r (route 11 r.kind 0) (entry (end own) ns)) ls rs ns (with_mark ms (end own) 0) xs k)
        (lent (refused c r))
        ≡ step_at 11 q r k
    unfolding step_at step_sound move row side_of at11 finish settled goes counted
    named11 p = split (from1 c.slots (end own)) (λ f. simp (p, f)) (λ f. simp (p, f))

    pooled11 : is_pooled c ≡ true →
        cond (from1 c.slots (end own))
        (with_tables (settled c (with_own r (end own) (get_or ns (end own) 0)) (route 11 r.kind 1) no_entry) ls rs ns (with_mark ms (end own) 0) xs k)
        (lent (refused c r))
        ≡ step_at 11 q r k
    unfolding step_at step_sound move row side_of at11 finish settled goes counted route push_route pop_route
    pooled11 p = split (from1 c.slots (end own))
        (λ f. simp (p, f)
        (ap (λ m. with_tables m ls rs ns (with_mark ms (end own) 0) xs k)
        (quietly c (with_own r (end own) (get_or ns (end own) 0)) (route 11 r.kind 1) (entry (end own) ns) (kinds Quiet 11 r.kind 1 refl refl))))
        (λ f. simp (p, f))

    refused11 : from1 c.slots (end own) ≡ false → lent (refused c r) ≡ step_at 11 q r k
    unfolding step_at step_sound move row side_of at11 finish counted
    refused11 f = split (is_pooled c) (λ p. simp (p, f)) (λ p. simp (p, f))

    -- By the decision over the word found: what is written is written where the step is made.
    abbrev links3 : Transition → Acted
    links3 m =
        let w = get_or (cond (not own) rs ls) r.own 0 in
        cond (made_of m) (linked m (not own) r.own (pack_link (record { tag = (link_of w).tag; slot = end own }))) (lent m)

    pub put3 : eqb r.kind 0 ≡ true → (m : Transition) → m ≡ found3 c r (get_or (cond (not own) rs ls) r.own 0) → links3 m ≡ step_at 3 q r k
    unfolding found3 settled
    put3 push m e =
        ap links3 e
        ∙ split (row_sound c.slots r.own (get_or (cond (not own) rs ls) r.own 0))
        (λ f. rw (push, f) (rw f at (push3 push)))
        (λ f. rw (push, f) (rw f at (push3 push)))

    pub read3 : eqb r.kind 0 ≡ false → lent (found3 c r (get_or (cond (not own) rs ls) (end own) 0)) ≡ step_at 3 q r k
    unfolding found3
    read3 pop = rw pop (pop3 pop)

    pub step5 : lent (found5 c r (get_or (cond (not status_right) rs ls) (end status_right) 0)) ≡ step_at 5 q r k
    unfolding found5
    step5 = read5

    pub step7 : lent (found7 c r (get_or (cond status_right rs ls) r.neighbour 0)) ≡ step_at 7 q r k
    unfolding found7
    step7 = read7

    abbrev links9 : Transition → Acted
    links9 m = cond (made_of m) (linked m status_right r.neighbour (new9 r)) (lent m)

    pub step9 : (m : Transition) → m ≡ found9 c r (get_or (cond status_right rs ls) r.neighbour 0) → links9 m ≡ step_at 9 q r k
    unfolding found9 settled
    step9 m e =
        ap links9 e
        ∙ split (from1 c.slots r.neighbour)
        (λ f. split (eqb (get_or (cond status_right rs ls) r.neighbour 0) r.link)
        (λ s. split (ltb (link_of r.link).tag 4294967295)
        (λ t. rw (f, s, t) (rw (f, s, t) at tests9))
        (λ t. rw (f, s, t) (rw (f, s, t) at tests9)))
        (λ s. rw (f, s) (rw (f, s) at tests9)))
        (λ f. rw f (rw f at tests9))

    -- The same of the link word l that is touched and the word w found there.
    module _ (l : LinkWord) (w : ℕ) (found : w ≡ get_or (cond l.right rs ls) l.slot 0) (m : Transition) where
      abbrev puts : ℕ → Acted
      puts new = cond (made_of m) (linked m l.right l.slot new) (lent m)

      pub push_made : l ≡ link3 r → eqb r.kind 0 ≡ true → m ≡ found3 c r w → puts (new3 r w) ≡ step_at 3 q r k
      push_made e push d = rw (found, e, push) (put3 push m (rw (found, e, push) at d))

      pub pop_made : l ≡ link3 r → eqb r.kind 0 ≡ false → m ≡ found3 c r w → lent m ≡ step_at 3 q r k
      pop_made e pop d = rw (d, found, e, pop) (read3 pop)

      pub help_made : l ≡ link7 r → m ≡ found9 c r w → puts (new9 r) ≡ step_at 9 q r k
      help_made e d = rw e (step9 m (rw (found, e) at d))

    pub cleared11 : from1 c.slots (end own) ≡ true
        → with_tables (found11 c r (get_or ns (end own) 0)) ls rs ns (with_mark ms (end own) 0) xs k ≡ step_at 11 q r k
    unfolding found11
    cleared11 f = split (is_pooled c) (λ p. rw (f, p) (rw f at (pooled11 p))) (λ p. rw (f, p) (rw f at (named11 p)))

    pub unsound11 : from1 c.slots (end own) ≡ false → (l : ℕ) → lent (found11 c r l) ≡ step_at 11 q r k
    unfolding found11
    unsound11 f l = rw f (refused11 f)
