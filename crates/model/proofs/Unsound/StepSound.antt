-- A step of a busy task passes every test of soundness.
use mathlib.Core.{Bool.{Bool, ◌||◌, cond, false, not, true}, Logic.◌≢◌, Path.{◌∙◌, ◌≡◌, ap, refl, subst, sym}}
use Prim.Native.Nat.{◌+◌, ◌<◌, ◌≤◌, suc, ℕ}
use native.Mathlib.Omega.{arith}
use lib.Dec.{eqb, leb}
use borrow.Author.Tests.{eq-eqb, eqb-true, le-leb, ne_eqb}
use Rattle.word.specs.{Anchor.anchor_of, Link.{link_of, spare_of}}
use Rattle.word.specs.declared.Anchor as word
use Rattle.model.specs.{History.Ledger, Places.{Move, word_found, link_side, move, row, side_of}, declared.Call.Call}
use Rattle.model.specs.Refusals.{leaves_sound, meets_head, meets_link, needs_row, step_sound, step_tests}
use Rattle.model.specs.{Sound.{from1, link_sound, record_sound}, Sides.{status_side, near}}
use Rattle.model.specs.Tables.{at_place, Queue, Tables, is_pooled, record_at}
use Rattle.model.proofs.{Tests.{ByPlace.by_place, Rules.{◌and◌, passes}}, Ledger.Matched.Matched}
use Rattle.model.proofs.Tests.Truth.{by_test, not_both, or_cases, or_first, or_second, split}
use Rattle.model.proofs.Invariant.{Fields.Extra, Tags.{cost, share}, Tasks.{Task, Three}}
use Rattle.model.proofs.Bridge.{Accepted.{Lies, Stepping}, Decoded.{RoomAt, seen_move}, EveryPlace.step_seen}
use Rattle.model.proofs.Bridge.{Room.room_testing, Facts.{AnchorFine, ControlFine, RecordFine, control_fine}}
use Rattle.model.proofs.Bridge.{Operations.{step_seen_keeps, task_of}, Touches.{beyond, row_fine}}
use Rattle.model.proofs.Bridge.View.{anchor_seen, link_at, place_of, rec_of, state_of, view}
use Rattle.model.proofs.Tags.{AnchorTag.{WeightKept, step_keeps_weight}, Bounds.room_bounded, Sum.total_one}
use Rattle.model.proofs.Tags.{HeadTag.{HeadBalanced, fair, head-room}, LinkTag.{Tagged, tags}}
use Rattle.model.proofs.Unsound.{AnchorFields.touch-sound, Moves.move_status, Safe.Safe}
use Rattle.model.proofs.Unsound.Tests.{link-sound, record_sound_lem, unstable}
use Rattle.model.proofs.Machine.Book as B
use Rattle.model.proofs.Machine.Machine as M

near_real : (n : ℕ) (a : word.Anchor) → AnchorFine n a → a.left ≢ a.right → (b : Bool) → cond b a.right a.left ≢ 0
near_real n a h ne true z = ne (h.full z ∙ sym z)
near_real n a h ne false z = ne (z ∙ sym (h.null z))

module _ (n : ℕ) (q : Queue) (l : Ledger) (g : Matched n q l) (f : Safe q) (t : ℕ) where
  abbrev r : Call
  r = record_at q t

  abbrev G : Tables
  G = q.tables

  abbrev b : B.Book
  b = g.book

  pub control-is : ControlFine G.control
  control-is = control_fine G.control f.control

  module _ (z : Lies q t) (busy : r.place ≢ 0) where
    pub h : RecordFine (is_pooled G.control) G.control.slots r
    h = f.fine t z.known busy

    pub own_task : Task (place_of r.place) (view G) g.inv.owner t (rec_of r) (b.calls t)
    unfolding state_of rec_of
    own_task = subst (λ (x : M.Rec). Task x.place (view G) g.inv.owner t x (b.calls t)) (task_of q t z.known) (g.inv.tasks t)

    pub own_extra : Extra (place_of r.place) (rec_of r)
    unfolding rec_of
    own_extra = subst (λ (x : M.Rec). Extra x.place x) (task_of q t z.known) (f.extra t)

    pub own_sound : record_sound (is_pooled G.control) G.control.slots r ≡ true
    own_sound = record_sound_lem (is_pooled G.control) G.control.slots r h (view G) g.inv.owner t (b.calls t) busy own_task own_extra

    pub weight_kept : WeightKept (view G) (rec_of r) (M.act (place_of r.place) (view G) (rec_of r))
    unfolding rec_of
    weight_kept = step_keeps_weight (view G) g.inv.owner t (rec_of r) (b.calls t) (place_of r.place) refl own_task

    pub tagged : Tagged (view G) (M.act (place_of r.place) (view G) (rec_of r))
    unfolding state_of
    tagged = tags (view G) f.tags g.inv.owner t (rec_of r) (b.calls t) b.queue g.inv.whole (place_of r.place) own_task

    pub head_balanced : HeadBalanced (view G) (rec_of r) (M.act (place_of r.place) (view G) (rec_of r))
    unfolding rec_of
    head_balanced = fair (view G) g.inv.owner t (rec_of r) (b.calls t) (place_of r.place) refl own_task

    -- The tags have room.
    head-fits : 2 ≤ share (rec_of r) + cost (rec_of r) → suc (link_of G.control.head).tag ≤ 4294967295
    unfolding view
    head-fits e = head-room (state_of q).task (view G).head.tag (view G).anchor.tag 4294967295 t G.control.tasks z.known
        (subst (λ (x : M.Rec). 2 ≤ share x + cost x) (sym (task_of q t z.known)) e) f.head (omega (arith, f.bound))

    room : RoomAt G r (place_of r.place)
    unfolding view
    room = room_bounded G control-is g.links r h (omega (arith, f.bound)) busy h.draws head-fits
        (let y = total_one (λ u. cost ((state_of q).task u)) t G.control.tasks z.known in let v = ap cost (task_of q t z.known) in
        omega (arith, f.bound)) weight_kept tagged

    pub stepping : Stepping q t
    stepping = record { lies = z; control = control-is; fine = h; busy = busy; room = room }

    pub seen : M.act (place_of r.place) (view G) (rec_of r) ≡ seen_move G r
    seen = step_seen G control-is g.links r h busy room

    -- The row that a place needs.
    abbrev at : ℕ → Call
    at p = at_place r p

    abbrev Rowed : ℕ → Type 0
    Rowed p = not (needs_row (at p)) || from1 G.control.slots (row (at p)) ≡ true

    real : (x : ℕ) → x ≢ 0 → x ≤ G.control.slots → from1 G.control.slots x ≡ true
    real x n e = rw (le-leb 1 x (omega arith), le-leb x G.control.slots e)

    near_fine : (side : ℕ) → near side (anchor_of r.seen) ≢ 0 → from1 G.control.slots (near side (anchor_of r.seen)) ≡ true
    near_fine side n = real _ n (by_test (λ v. v ≤ G.control.slots) (eqb side 1) (λ e. h.seen.right) (λ e. h.seen.left))

    neighbour_fine : r.neighbour ≢ 0 → from1 G.control.slots r.neighbour ≡ true
    neighbour_fine n = real r.neighbour n h.neighbour

    abbrev Says : ℕ → Type 0
    Says p = Task (place_of p) (view G) g.inv.owner t (rec_of r) (b.calls t) → Extra (place_of p) (rec_of r) → Rowed p

    row3 : Says 3
    unfolding rec_of row side_of
    row3 y x = by_test (λ v. from1 G.control.slots v ≡ true) (eqb r.kind 0)
        (λ e. real r.own (x.kept.1 (rw e)) h.own)
        (λ e. let th : Three M.pop (anchor_seen r.seen) = subst (λ (b : Bool). Three (cond b M.push M.pop) (anchor_seen r.seen)) e y.1 in
        near_fine r.side (near_real G.control.slots (anchor_of r.seen) h.seen th.1 (eqb r.side 1)))

    row5 : Says 5
    unfolding rec_of row side_of
    row5 y x = near_fine (status_side (anchor_of r.seen).status) (near_real G.control.slots (anchor_of r.seen) h.seen
        (λ z. not_both (eq-eqb _ _ (h.seen.single z)) (unstable (anchor_of r.seen).status _ y.status))
        (eqb (status_side (anchor_of r.seen).status) 1))

    row11 : Says 11
    unfolding rec_of row side_of
    row11 y x = near_fine r.side (subst (λ v. v ≢ 0) (tip_cond (eqb r.side 1)) x.kept.2)
      where
        tip_cond : (d : Bool) → M.tip (anchor_seen r.seen) d ≡ cond d (anchor_of r.seen).right (anchor_of r.seen).left
        tip_cond false = refl
        tip_cond true = refl

    row-sound : Rowed r.place
    unfolding rec_of row side_of
    row-sound = by_place Says
        (λ y x. refl)
        (λ y x. refl)
        row3
        (λ y x. refl)
        row5
        (λ y x. refl)
        (λ y x. neighbour_fine (x.near refl))
        (λ y x. refl)
        (λ y x. neighbour_fine (x.near refl))
        (λ y x. refl)
        row11
        (λ y x. refl)
        (λ y x. refl)
        (λ y x. refl)
        (λ y x. refl)
        (λ y x. refl)
        (λ y x. refl)
        r.place busy h.place own_task own_extra

    -- What it finds there: up to 10 a link word, or 0 for none; at 13 a next.
    abbrev LinkWord : ℕ → Type 0
    LinkWord w = (spare_of w ≡ 0) × ((link_of w).slot ≤ G.control.slots)

    pub met-link : r.place ≤ 10 → LinkWord (word_found G r)
    met-link le =
        let e = row_fine (is_pooled G.control) G.control.slots r h in
        let d = eqb (link_side r) 1 in
        let link : LinkWord (link_at G d (row r)) = (g.links.spare d (row r) e, g.links.slot d (row r) e) in
        by_test LinkWord (eqb r.place 3) (λ z. link)
        (λ z. by_test LinkWord (eqb r.place 5) (λ z. link)
        (λ z. by_test LinkWord (eqb r.place 7) (λ z. link)
        (λ z. by_test LinkWord (eqb r.place 9) (λ z. link)
        (λ z. by_test LinkWord (eqb r.place 11) (λ z. absurd (omega (arith, eqb-true r.place 11 z)))
        (λ z. by_test LinkWord (eqb r.place 13) (λ z. absurd (omega (arith, eqb-true r.place 13 z))) (λ z. (refl, omega arith)))))))

    pub met_next : r.place ≡ 13 → word_found G r ≤ G.control.slots
    met_next e =
        let p : is_pooled G.control ≡ true = beyond (is_pooled G.control) G.control.slots r h (omega arith) in
        let other : (n : ℕ) → n < 13 → eqb r.place n ≡ false = λ n l. ne_eqb r.place n (λ z. omega arith) in
        rw (other 3 (omega arith), other 5 (omega arith), other 7 (omega arith), other 9 (omega arith), other 11 (omega arith), eq-eqb r.place 13 e)
        (g.links.next p (row r) (row_fine (is_pooled G.control) G.control.slots r h))

    link_test : not (meets_link r) || link_sound G.control.slots (word_found G r) ≡ true
    link_test = split (meets_link r)
        (λ e. let m = met-link (met-low e) in or_second (not (meets_link r)) (link-sound G.control.slots (word_found G r) m.0 m.1))
        (λ e. or_first _ (ap not e))
      where
        met-low : meets_link r ≡ true → r.place ≤ 10
        met-low e = or_cases (eqb r.place 3 || eqb r.place 5) (eqb r.place 7) e
            (λ y. or_cases (eqb r.place 3) (eqb r.place 5) y (λ x. omega (arith, eqb-true r.place 3 x))
            (λ x. omega (arith, eqb-true r.place 5 x)))
            (λ y. omega (arith, eqb-true r.place 7 y))

    next_test : not (eqb r.place 13) || leb (word_found G r) G.control.slots ≡ true
    next_test = split (eqb r.place 13)
        (λ e. or_second (not (eqb r.place 13)) (le-leb _ _ (met_next (eqb-true _ _ e)))) (λ e. or_first _ (ap not e))

    abbrev m : Move
    m = move G.control r (word_found G r)

    pub new_sound : leaves_sound G.control.slots m.touch ≡ true
    new_sound = let a = step_seen_keeps q b g.inv g.links t stepping in
        touch-sound G m.touch a.owner _ a.whole (move_status (is_pooled G.control) G.control r (word_found G r) h)

    pub step-sound : step_sound G.control r (word_found G r) ≡ true
    unfolding step_sound
    step-sound = passes (step_tests G.control r (word_found G r))
        (row-sound and link_test and new_sound and room_testing G r busy h.place room
        and or_second (not (meets_head r))
        (link-sound G.control.slots G.control.head g.links.head.0 g.links.head.1) and next_test and tt)
