-- A place does on the mirrored record the mirror of what it does, where the side of the step is the opposite one.
use mathlib.Core.{Path.{◌≡◌, refl, ap, ap₂, ◌∙◌}, Bool.{Bool, true, false, cond, and_comm}}
use Prim.Native.Nat.{ℕ, ◌+◌, ◌<◌}
use native.Mathlib.Omega.{arith}
use lib.{Dec.eqb, ListN.set}
use Rattle.word.specs.{declared.Anchor.Anchor, Anchor.{anchor_of, pack_anchor}, Link.{link_of, pack_link}}
use Rattle.model.specs.{declared.{Control.Control, Call.Call}, Sides.{opposite, far, facing, pushing}}
use Rattle.model.specs.{Tables.{tables_of, Tables, is_pooled, with_seen, with_link, with_own}, Kinds.{is_push, is_pop}}
use Rattle.model.specs.Places.{side_of, Touch, nothing, set_anchor, set_link, clear_mark, take_slot, set_next, set_head}
use Rattle.model.specs.Places.{Move, reads, changes, reading, replaces, at1, at2, at3, new4, at4, at5, at6, at7}
use Rattle.model.specs.Places.{at9, at10, at11, at12, at13, at14, at15, at16, at17, move, apply}
use Rattle.model.specs.Mirror.{mirror_status, mirror_anchor, mirror_word, mirror_control, mirror_tables, mirror_busy}
use Rattle.model.specs.Places as placed
use Rattle.model.proofs.Laws.Mirror.Packed.{status_stable, mirror_fields, mirror_pack, mirror_equal}
use Rattle.model.proofs.Laws.Mirror.Sides.{far_mirror, facing_mirror, pushing_mirror, pushing_small, end_mirror}
use Rattle.model.proofs.Laws.Mirror.{Sides.{row_mirror, link_side_mirror}, Sound.eqb_sym}

abbrev pub mirror_touch : Touch → Touch
mirror_touch nothing = nothing
mirror_touch (set_anchor w) = set_anchor (mirror_word w)
mirror_touch (set_link side x w) = set_link (opposite side) x w
mirror_touch (clear_mark x) = clear_mark x
mirror_touch (take_slot w x l) = take_slot w x l
mirror_touch (set_next x v) = set_next x v
mirror_touch (set_head w) = set_head w

abbrev pub mirror_move : Move → Move
mirror_move m = record { touch = mirror_touch m.touch; task = mirror_busy m.task; branch = m.branch; failed = m.failed }

pub apply_mirror : (t : Touch) (q : Tables) → apply (mirror_touch t) (mirror_tables q) ≡ mirror_tables (apply t q)
apply_mirror nothing q = refl
apply_mirror (set_anchor w) q = refl
apply_mirror (set_link side x w) q = go (eqb side 1)
  where
    go : (b : Bool) → apply (set_link (cond b 0 1) x w) (mirror_tables q)
        ≡ tables_of (mirror_control q.control) (cond b (set q.rights x w) q.rights) (cond b q.lefts (set q.lefts x w))
        q.labels q.marks q.next
    go true = refl
    go false = refl
apply_mirror (clear_mark x) q = refl
apply_mirror (take_slot w x l) q = refl
apply_mirror (set_next x v) q = refl
apply_mirror (set_head w) q = refl

-- A function of what a test picks.
through : {A B : Type 0} (f : A → B) (b : Bool) {x y : A} {x' y' : B} → x' ≡ f x → y' ≡ f y → cond b x' y' ≡ f (cond b x y)
through f true h k = h
through f false h k = k

-- One move is the mirror of another, kept shut so that a chain of tests is compared test by test.
data Mirrors (m m' : Move) : Type 0 where
  mirrors : m' ≡ mirror_move m → Mirrors m m'

mirrored : {m m' : Move} → Mirrors m m' → m' ≡ mirror_move m
mirrored (mirrors e) = e

both : (b : Bool) {x y x' y' : Move} → Mirrors x x' → Mirrors y y' → Mirrors (cond b x y) (cond b x' y')
both true h k = h
both false h k = k

reading_mirror : (pop : Bool) (a : Anchor) → reading pop (mirror_anchor a) ≡ reading pop a
unfolding reading
reading_mirror pop a = rw (and_comm (eqb a.right 0) (eqb a.left 0), eqb_sym a.right a.left, status_stable a.status) refl

module _ (c : Control) (r : Call) (w : ℕ) (turned : side_of (mirror_busy r) ≡ opposite (side_of r)) where
  -- The parts of the words that are written.
  status_read : (anchor_of (mirror_word r.seen)).status ≡ mirror_status (anchor_of r.seen).status
  status_read = ap (λ (a : Anchor). a.status) (mirror_fields r.seen)

  far_read : far (side_of (mirror_busy r)) (anchor_of (mirror_word r.seen)) ≡ far (side_of r) (anchor_of r.seen)
  far_read = ap₂ (λ (d : ℕ) (a : Anchor). far d a) turned (mirror_fields r.seen) ∙ far_mirror (side_of r) (anchor_of r.seen)

  raised : (s s' n f f' : ℕ) → s < 4 → s' ≡ mirror_status s → f' ≡ f
      → pack_anchor (facing (side_of (mirror_busy r)) ((anchor_of (mirror_word r.seen)).tag + 1) s' n f')
      ≡ mirror_word (pack_anchor (facing (side_of r) ((anchor_of r.seen).tag + 1) s n f))
  raised s s' n f f' small e h =
      ap₂ (λ (d : ℕ) (a : Anchor). pack_anchor (facing d (a.tag + 1) s' n f')) turned (mirror_fields r.seen)
      ∙ ap₂ (λ (x y : ℕ). pack_anchor (facing (opposite (side_of r)) ((anchor_of r.seen).tag + 1) x n y)) e h
      ∙ ap pack_anchor (facing_mirror (side_of r) ((anchor_of r.seen).tag + 1) s n f)
      ∙ mirror_pack (facing (side_of r) ((anchor_of r.seen).tag + 1) s n f) small

  -- A change of Anchor.
  anchor_change : (v v' : ℕ) (s s' : Call) → v' ≡ mirror_word v → s' ≡ mirror_busy s
      → changes (mirror_word c.anchor) (mirror_word r.seen) (set_anchor v') s' (mirror_busy r)
      ≡ mirror_move (changes c.anchor r.seen (set_anchor v) s r)
  anchor_change v v' s s' e h =
      ap₂ (λ (t : Touch) (x : Call). changes (mirror_word c.anchor) (mirror_word r.seen) t x (mirror_busy r)) (ap set_anchor e) h
      ∙ rw (mirror_equal c.anchor r.seen) (through mirror_move (eqb c.anchor r.seen) refl refl)

  -- A change at 2 or 4, which reads on where it fails.
  anchor_replace :
      (v v' : ℕ) (s s' : Call)
      → v' ≡ mirror_word v
      → s' ≡ mirror_busy s
      → replaces (mirror_control c) v' s' (mirror_busy r) ≡ mirror_move (replaces c v s r)
  anchor_replace v v' s s' e h =
      ap₂ (λ (t : ℕ) (x : Call). replaces (mirror_control c) t x (mirror_busy r)) e h
      ∙ rw (mirror_equal c.anchor r.seen) (through mirror_move (eqb c.anchor r.seen) refl
      (ap (λ (o : ℕ). record {
        touch = nothing;
        task = with_seen (mirror_busy r) (mirror_word c.anchor) r.finishing;
        branch = o + 1;
        failed = true;
      })
      (ap (reading (is_pop r)) (mirror_fields c.anchor) ∙ reading_mirror (is_pop r) (anchor_of c.anchor))))

  mirror1 : at1 (mirror_control c) (mirror_busy r) ≡ mirror_move (at1 c r)
  unfolding at1
  mirror1 =
      ap (λ (o : ℕ). reads (with_seen (mirror_busy r) (mirror_word c.anchor) r.finishing) o)
      (ap (reading (is_pop r)) (mirror_fields c.anchor) ∙ reading_mirror (is_pop r) (anchor_of c.anchor))

  mirror2 : at2 (mirror_control c) (mirror_busy r) ≡ mirror_move (at2 c r)
  unfolding at2
  mirror2 =
      let end : ℕ = cond (is_push r) r.own 0 in
      anchor_replace _ _ r _ (raised (anchor_of r.seen).status _ end end _ (omega arith) status_read refl) refl

  mirror3 : at3 (mirror_busy r) w ≡ mirror_move (at3 r w)
  unfolding at3
  mirror3 =
      through mirror_move (is_push r)
      (λ i. record {
        touch = set_link (link_side_mirror r turned i) (row_mirror r turned i)
            (pack_link (record { tag = (link_of w).tag; slot = end_mirror r turned i }));
        task = mirror_busy r;
        branch = 0;
        failed = false;
      })
      refl

  new4_mirror : new4 (mirror_busy r) ≡ mirror_word (new4 r)
  unfolding new4
  new4_mirror =
      through mirror_word (is_push r)
      (raised (pushing (side_of r)) _ r.own _ _ (pushing_small (side_of r)) (ap pushing turned ∙ pushing_mirror (side_of r)) far_read)
      (raised (anchor_of r.seen).status _ r.neighbour _ _ (omega arith) status_read far_read)

  mirror4 : at4 (mirror_control c) (mirror_busy r) ≡ mirror_move (at4 c r)
  unfolding at4
  mirror4 =
      anchor_replace (new4 r) _ _ _ new4_mirror
      (through mirror_busy (is_push r) (ap (λ (v : ℕ). with_seen (mirror_busy r) v 1) new4_mirror) refl)

  mirror5 : at5 (mirror_busy r) w ≡ mirror_move (at5 r w)
  unfolding at5
  mirror5 = refl

  mirror6 : at6 (mirror_control c) (mirror_busy r) ≡ mirror_move (at6 c r)
  unfolding at6
  mirror6 = ap (λ (b : Bool). reads (mirror_busy r) (cond b 0 1)) (mirror_equal c.anchor r.seen)

  mirror7 : at7 (mirror_busy r) w ≡ mirror_move (at7 r w)
  unfolding at7
  mirror7 = ap (λ (x : ℕ). reads (with_link (mirror_busy r) w) (cond (eqb (link_of w).slot x) 0 1)) (end_mirror r turned)

  mirror9 : at9 (mirror_busy r) w ≡ mirror_move (at9 r w)
  unfolding at9
  mirror9 =
      through mirror_move (eqb w r.link)
      (λ i. record {
        touch = set_link (link_side_mirror r turned i) (row_mirror r turned i)
            (pack_link (record { tag = (link_of r.link).tag + 1; slot = end_mirror r turned i }));
        task = mirror_busy r;
        branch = 0;
        failed = false;
      })
      refl

  mirror10 : at10 (mirror_control c) (mirror_busy r) ≡ mirror_move (at10 c r)
  unfolding at10 mirror_status
  mirror10 =
      let a = anchor_of r.seen in
      let stable : Anchor = record { tag = a.tag + 1; status = 0; left = a.left; right = a.right } in
      anchor_change (pack_anchor stable) _ r _
      (ap (λ (b : Anchor). pack_anchor (record { tag = b.tag + 1; status = 0; left = b.left; right = b.right })) (mirror_fields r.seen)
      ∙ mirror_pack stable (omega arith)) refl

  mirror11 : at11 (mirror_control c) (mirror_busy r) w ≡ mirror_move (at11 c r w)
  unfolding at11
  mirror11 = through mirror_move (is_pooled c)
      (λ i. record {
        touch = clear_mark (row_mirror r turned i);
        task = with_own (mirror_busy r) (row_mirror r turned i) w;
        branch = 1;
        failed = false;
      })
      (λ i. record { touch = clear_mark (row_mirror r turned i); task = mirror_busy r; branch = 0; failed = false })

  mirror12 : at12 (mirror_control c) (mirror_busy r) ≡ mirror_move (at12 c r)
  unfolding at12
  mirror12 = refl

  mirror13 : at13 (mirror_busy r) w ≡ mirror_move (at13 r w)
  unfolding at13
  mirror13 = refl

  mirror14 : at14 (mirror_control c) (mirror_busy r) ≡ mirror_move (at14 c r)
  unfolding at14
  mirror14 = through mirror_move (eqb c.head r.link)
      (λ i. record {
        touch = take_slot (placed.raised r r.neighbour) (row_mirror r turned i) r.label;
        task = with_own (mirror_busy r) (row_mirror r turned i) r.label;
        branch = 0;
        failed = false;
      })
      refl

  mirror15 : at15 (mirror_control c) (mirror_busy r) ≡ mirror_move (at15 c r)
  unfolding at15
  mirror15 = refl

  mirror16 : at16 (mirror_busy r) ≡ mirror_move (at16 r)
  unfolding at16
  mirror16 = λ i. record { touch = set_next (row_mirror r turned i) (link_of r.link).slot; task = mirror_busy r; branch = 0; failed = false }

  mirror17 : at17 (mirror_control c) (mirror_busy r) ≡ mirror_move (at17 c r)
  unfolding at17
  mirror17 = through mirror_move (eqb c.head r.link) refl refl

  pub move_mirror : move (mirror_control c) (mirror_busy r) w ≡ mirror_move (move c r w)
  unfolding move
  move_mirror = mirrored
      (both (eqb r.place 1) (mirrors mirror1)
      (both (eqb r.place 2) (mirrors mirror2)
      (both (eqb r.place 3) (mirrors mirror3)
      (both (eqb r.place 4) (mirrors mirror4)
      (both (eqb r.place 5) (mirrors mirror5)
      (both (eqb r.place 6) (mirrors mirror6)
      (both (eqb r.place 7) (mirrors mirror7)
      (both (eqb r.place 8) (mirrors mirror6)
      (both (eqb r.place 9) (mirrors mirror9)
      (both (eqb r.place 10) (mirrors mirror10)
      (both (eqb r.place 11) (mirrors mirror11)
      (both (eqb r.place 12) (mirrors mirror12)
      (both (eqb r.place 13) (mirrors mirror13)
      (both (eqb r.place 14) (mirrors mirror14)
      (both (eqb r.place 15) (mirrors mirror15)
      (both (eqb r.place 16) (mirrors mirror16)
      (mirrors mirror17)))))))))))))))))
