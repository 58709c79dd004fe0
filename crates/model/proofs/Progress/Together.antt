-- All tasks together: at a step with no effect and no answer what its task owes falls, and what any other owes does not rise; or the task
-- draws its slot, and nobody whom that sends back owes more than 3 more.
use mathlib.Core.{Bool.{Bool, false, not, true}, List.List, Logic.{◌⊎◌, inl, inr}}
use mathlib.Core.Path.{◌∙◌, ◌≡◌, ap, refl, subst, sym}
use Prim.Native.Nat.{◌*◌, ◌+◌, ◌<◌, ◌≤◌, suc, ℕ}
use native.Mathlib.Omega.{arith}
use lib.Dec.{eqb}
use Rattle.model.specs.declared.Entry.{Entry}
use Rattle.model.proofs.{Tests.Truth.{by_test, not_both, either}, Invariant.Shape.Made, Places.Place9.place9}
use Rattle.model.proofs.Invariant.{Tasks.{Grown, Live, Task, way}, Owners.{Owner, Intact}, Rely.{Quiet, Turned}}
use Rattle.model.proofs.Machine.{Book.{BookCall, Noted, effect, noted}, Laws.{same_true, same_link_true}}
use Rattle.model.proofs.Machine.Machine.{Anchor, Kind, Link, Move, Place, Rec, Shared, Touch, act, aimed, apply}
use Rattle.model.proofs.Machine.Machine.{at1, at10, at11, at12, at13, at14, at15, at16, at17, at2, at3, at4, at5}
use Rattle.model.proofs.Machine.Machine.{at6, at7, at8, at9, both, draw, exhausted, finishes, four, give, goes}
use Rattle.model.proofs.Machine.Machine.{idle, is_idle, is_stable, leave, none, one, own_link, pop, push, pushing}
use Rattle.model.proofs.Machine.Machine.{put_anchor, put_link, raised, running, runs, same, same_link, settled, tip}
use Rattle.model.proofs.Machine.Machine.{three, towards, two, with_link}
use Rattle.model.proofs.Places.{Shown.Shown, Effects.noted_false, Place2.place2, Place3.place3, Place4.place4}
use Rattle.model.proofs.Progress.Falls.{Falls, empty_running, fall1, fall10_done, fall10_failed, fall11, fall12}
use Rattle.model.proofs.Progress.Falls.{fall13, fall14_done, fall14_failed, fall15, fall16, fall17_failed, fall3}
use Rattle.model.proofs.Progress.Falls.{fall2_failed, fall4_failed, fall5, fall6, fall7, fall8, fall9_done}
use Rattle.model.proofs.Progress.Falls.{fall9_failed, none_running, popped_running, pushed_running}
use Rattle.model.proofs.Progress.{Measure.{owed, owed_at}, Others.heads}
use Rattle.model.proofs.Progress.Scale.{back-le, drawn_le, link_le, owed_scale, scale, scale_made, scale_some}
use Rattle.model.proofs.Progress.Scale.{scale_unmade, settled_le, together}

-- Neither an effect nor an answer.
abbrev pub Silent : Shared → Move → Type 0
Silent s m = (m.answer ≡ running) × (effect s.anchor (apply s m.touch).anchor m.answer ≡ false)

-- x is what the task owed at its place p.
pub record SilentFalls (x : ℕ) (p : Place) (s : Shared) (m : Move) : Type 0 where
  pub own : Silent s m → together (apply s m.touch) m.rec < x
  pub fewer : Silent s m → heads m.rec.place ≤ heads p
  pub others : Silent s m → (u : Rec) → together (apply s m.touch) u ≤ together s u

-- The task draws its slot.
pub record Drawn (x : ℕ) (p : Place) (s : Shared) (m : Move) : Type 0 where
  pub own : together (apply s m.touch) m.rec < x
  pub pooled : s.pooled ≡ true
  pub before : heads p ≡ 1
  pub after : heads m.rec.place ≡ 0
  pub others : (u : Rec) → together (apply s m.touch) u ≤ together s u + 3 * heads u.place

-- A step that touches nothing, and brings nobody to the head who was not there.
abbrev Plain : Place → Move → Type 0
Plain p m = (m.touch ≡ none) × (m.answer ≡ running → heads m.rec.place ≤ heads p)

module _ (x : ℕ) (p : Place) (s : Shared) where
  still : (m : Move) → Plain p m → Falls 1 (scale s) s.pooled x s m → SilentFalls x p s m
  still m e f = record {
    own = λ z. subst (λ (w : Touch). owed 1 (scale (apply s w)) (apply s w).pooled (apply s m.touch) m.rec < x) (sym e.0) (f.less z.0);
    fewer = λ z. e.1 z.0;
    others = λ z u. subst (λ (w : Touch). together (apply s w) u ≤ together s u) (sym e.0) (omega arith);
  }

  -- An effect or an answer.
  not_silent_falls : (m : Move) → (Silent s m → ⊥) → SilentFalls x p s m
  not_silent_falls m n = record { own = λ z. absurd (n z); fewer = λ z. absurd (n z); others = λ z u. absurd (n z) }

module _ (s : Shared) (r : Rec) where
  abbrev now : Bool
  now = same r.read s.anchor

  -- The head as read is the head.
  abbrev top : Bool
  top = same_link r.link s.head

  abbrev At : Place → Move → Type 0
  At p m = SilentFalls (owed_at 1 (scale s) s.pooled p s r) p s m

  -- To 1 to 10, or to an answer.
  abbrev Inside : Move → Type 0
  Inside m = Plain at1 m

  leave_none : Inside (leave none r)
  leave_none = either Inside r.finishing (refl, λ e. absurd (pushed_running e)) (refl, λ _. omega arith)

  one_none : (k : Kind) → Inside (one k s r)
  one_none push = either Inside (eqb s.anchor.left 0) (refl, λ _. omega arith)
      (either Inside (is_stable s.anchor.status) (refl, λ _. omega arith) (refl, λ _. omega arith))
  one_none pop = either Inside (eqb s.anchor.left 0) (refl, λ e. absurd (empty_running e))
      (either Inside (eqb s.anchor.left s.anchor.right) (refl, λ _. omega arith)
      (either Inside (is_stable s.anchor.status) (refl, λ _. omega arith) (refl, λ _. omega arith)))

  module _ (t : ℕ) (h : ℕ → Owner) (q : List Entry) (b : BookCall) (all : Intact s h q) where
    abbrev after : Move → Noted
    after m = noted b q s.anchor (apply s m.touch).anchor m.answer

    -- A done change at 2 or 4 is an effect: the book had noted none and has noted one.
    not_silent : (m : Move) → b.effects ≡ 0 → (after m).call.effects ≡ 1 → Silent s m → ⊥
    not_silent m n o z = let e = ap (λ (w : Noted). w.call.effects)
        (noted_false b q s.anchor (apply s m.touch).anchor m.answer z.1) in omega arith

    silent2 : (k : Kind) → r.kind ≡ k → Task at2 s h t r b → At at2 (two k s r)
    silent2 push e w = by_test (At at2) now (λ _. not_silent_falls _ _ s _ (λ z. pushed_running z.0))
        (λ n. still _ _ s (one push s r) (one_none push) (fall2_failed 1 (scale s) s.pooled (scale_some s) s r h q all w.0.unfinished n push))
    silent2 pop e w = by_test (At at2) now
        (λ y. let m = runs (put_anchor (both r.read 0)) (goes r at11) in
        let v : Shown t s h q b m = rw y at (place2 t s h q b all r pop e w) in
        not_silent_falls _ _ s m (not_silent m w.0.before.none v.finish.after.once))
        (λ n. still _ _ s (one pop s r) (one_none pop) (fall2_failed 1 (scale s) s.pooled (scale_some s) s r h q all w.0.unfinished n pop))

    silent4 : (k : Kind) → r.kind ≡ k → Task at4 s h t r b → At at4 (four k s r)
    silent4 push e w = by_test (At at4) now
        (λ y. let a = aimed r.read r.side r.own (pushing r.side) in
        let m = runs (put_anchor a) (finishes r a) in
        let v : Shown t s h q b m = rw y at (place4 t s h q b all r push e w) in
        not_silent_falls _ _ s m (not_silent m w.0.before.none v.finish.stage.0.once))
        (λ n. still _ _ s (one push s r) (one_none push) (fall4_failed 1 (scale s) s.pooled (scale_some s) s r h q all w.0.unfinished n push))
    silent4 pop e w = by_test (At at4) now
        (λ y. let m = runs (put_anchor (aimed r.read r.side r.near r.read.status)) (goes r at11) in
        let v : Shown t s h q b m = rw y at (place4 t s h q b all r pop e w) in
        not_silent_falls _ _ s m (not_silent m w.0.before.none v.finish.after.once))
        (λ n. still _ _ s (one pop s r) (one_none pop) (fall4_failed 1 (scale s) s.pooled (scale_some s) s r h q all w.0.unfinished n pop))

    silent3 : (k : Kind) → r.kind ≡ k → Task at3 s h t r b → At at3 (three k s r)
    silent3 pop e w = still _ _ s _ (refl, λ _. omega arith) (fall3 1 (scale s) s.pooled (scale_some s) s r pop)
    silent3 push e w = record {
      own = λ z. omega (
        arith,
        owed_scale s (not r.side) r.own (own_link s r) refl made (goes r at4),
        (fall3 1 (scale s) s.pooled (scale_some s) s r push).less
            z.0,
      );
      fewer = λ z. omega arith;
      others = λ z u. link_le s (not r.side) r.own (own_link s r) refl made u;
    }
      where
        s' : Shared
        s' = with_link s (not r.side) r.own (own_link s r)

        turn : Quiet s s' ⊎ Turned s s' → (e : Bool) → s.anchor.status ≡ pushing e → Made s.link s.anchor e → Made s'.link s.anchor e
        turn (inl z) = z.made
        turn (inr z) = absurd (omega (arith, z.later))

        made : (e : Bool) → s.anchor.status ≡ pushing e → Made s.link s.anchor e → Made s'.link s.anchor e
        made = turn ((place3 t s h q b all r push e w).rely (suc t) (λ z. omega arith)).anchor

    -- 9: who finds the link as read makes the link back, which was not made.
    silent9 : Task at9 s h t r b → At at9 (act at9 s r)
    silent9 w = by_test (At at9) (same_link r.link (s.link (way r.read) r.near))
        (λ y. done (same_link_true _ _ y) w.1.chance (rw y at (place9 t s h q b all r w)))
        (λ y. still _ _ s (leave none r) leave_none (fall9_failed 1 (scale s) s.pooled (scale_some s) s r w.1 y))
      where
        e : Bool
        e = way r.read

        v : Link
        v = record { tag = suc r.link.tag; slot = tip r.read e }

        m : Move
        m = runs (put_link e r.near v) (goes r at10)

        s' : Shared
        s' = with_link s e r.near v

        done : r.link ≡ s.link e r.near → Live s r.read r.near r.link ⊎ Grown s r.read r.near r.link → Shown t s h q b m → At at9 m
        done f (inr y) z = absurd (let g = ap (λ (w : Link). w.tag) f in omega (arith, y))
        done f (inl l) z = record {
          own = λ y. (fall9_done 1 (scale s) s.pooled (scale_some s) s r (scale s') v (omega (arith, before)) l.current f).less y.0;
          fewer = λ y. omega arith;
          others = λ y u. back-le s e r.near v before after' u;
        }
          where
            st : s.anchor.status ≡ pushing e
            st = ap (λ (a : Anchor). a.status) (sym l.current) ∙ w.0.status

            -- The link as read does not name the end.
            before : scale s ≡ 9
            before = scale_unmade s e st (λ y.
                let made : Made s.link r.read e = subst (λ (a : Anchor). Made s.link a e) (sym l.current) y in
                let named : (s.link e r.near).slot ≡ tip r.read e = rw l.near at made in
                w.1.other (ap (λ (w : Link). w.slot) f ∙ named))

            after' : scale s' ≡ 3
            after' = scale_made s' e st (subst (λ (a : Anchor). Made s'.link a e) l.current (z.finish.1 l.current))

    -- 10: who finds Anchor as read makes it STABLE.
    silent10 : Task at10 s h t r b → At at10 (act at10 s r)
    silent10 w = by_test (At at10) now
        (λ y. by_test (At at10) r.finishing (λ _. not_silent_falls _ _ s _ (λ z. pushed_running z.0)) (λ f. done y f))
        (λ y. still _ _ s (leave none r) leave_none (fall10_failed 1 (scale s) s.pooled (scale_some s) s r y))
      where
        m : Move
        m = runs (put_anchor (settled r.read)) (goes r at1)

        unsteady : now ≡ true → is_stable s.anchor.status ≡ false
        unsteady y = ap (λ (a : Anchor). is_stable a.status) (sym (same_true r.read s.anchor y)) ∙ ap is_stable w.0.status

        done : now ≡ true → r.finishing ≡ false → At at10 m
        done y f = record {
          own = λ z. (fall10_done 1 (scale s) s.pooled (scale_some s) s r 3 y f).less z.0;
          fewer = λ z. omega arith;
          others = λ z u. settled_le s r.read (unsteady y) u;
        }

    -- A step of the task.
    pub silent_falls : (p : Place) → is_idle p ≡ false → Task p s h t r b → At p (act p s r) ⊎ Drawn (owed_at 1 (scale s) s.pooled p s r) p s (act p s r)
    silent_falls idle i w = absurd (not_both refl i)
    silent_falls at1 i w = inl (still _ _ s (one r.kind s r) (one_none r.kind) (fall1 1 (scale s) s.pooled (scale_some s) s r h q all w.0
        r.kind))
    silent_falls at2 i w = inl (silent2 r.kind refl w)
    silent_falls at3 i w = inl (silent3 r.kind refl w)
    silent_falls at4 i w = inl (silent4 r.kind refl w)
    silent_falls at5 i w = inl (still _ _ s (act at5 s r) (refl, λ _. omega arith) (fall5 1 (scale s) s.pooled (scale_some s) s r))
    silent_falls at6 i w = inl (still _ _ s (act at6 s r) (either Inside now (refl, λ _. omega arith) leave_none)
        (fall6 1 (scale s) s.pooled (scale_some s) s r))
    silent_falls at7 i w = inl (still _ _ s (act at7 s r)
        (either Inside (eqb (s.link (towards r.read.status) r.near).slot (tip r.read (towards r.read.status)))
        (refl, λ _. omega arith) (refl, λ _. omega arith))
        (fall7 1 (scale s) s.pooled (scale_some s) s r))
    silent_falls at8 i w = inl (still _ _ s (act at8 s r) (either Inside now (refl, λ _. omega arith) leave_none)
        (fall8 1 (scale s) s.pooled (scale_some s) s r))
    silent_falls at9 i w = inl (silent9 w)
    silent_falls at10 i w = inl (silent10 w)
    silent_falls at11 i w = inl (by_test (At at11) s.pooled
        (λ e. record {
          own = λ z. (fall11 1 (scale s) s.pooled (scale_some s) s r e).less z.0;
          fewer = λ z. omega arith;
          others = λ z u. omega arith;
        })
        (λ _. not_silent_falls _ _ s _ (λ z. popped_running z.0)))
    silent_falls (draw at12) i w = inl (still _ _ s (act (draw at12) s r)
        (either (Plain (draw at12)) (exhausted s.head) (refl, λ e. absurd (none_running e)) (refl, λ _. omega arith))
        (fall12 1 (scale s) s.pooled (scale_some s) s r w.0))
    silent_falls (draw at13) i w = inl (still _ _ s (act (draw at13) s r) (refl, λ _. omega arith)
        (fall13 1 (scale s) s.pooled (scale_some s) s r w.0))
    silent_falls (draw at14) i w =
        by_test (λ m. At (draw at14) m ⊎ Drawn (owed_at 1 (scale s) s.pooled (draw at14) s r) (draw at14) s m) top
        (λ _. inr (record {
          own = (fall14_done 1 (scale s) s.pooled (scale_some s) s r w.0).less refl;
          pooled = w.0;
          before = refl;
          after = refl;
          others = λ u. drawn_le s (raised r r.near) r.link.slot r.label u;
        }))
        (λ n. inl (still _ _ s _ (refl, λ _. omega arith) (fall14_failed 1 (scale s) s.pooled (scale_some s) s r w.0 n)))
    silent_falls (give at15) i w = inl (still _ _ s (act (give at15) s r) (refl, λ _. omega arith)
        (fall15 1 (scale s) s.pooled (scale_some s) s r))
    silent_falls (give at16) i w = inl (record {
      own = λ z. (fall16 1 (scale s) s.pooled (scale_some s) s r).less z.0;
      fewer = λ z. omega arith;
      others = λ z u. omega arith;
    })
    silent_falls (give at17) i w = inl (by_test (At (give at17)) top (λ _. not_silent_falls _ _ s _ (λ z. popped_running z.0))
        (λ n. still _ _ s _ (refl, λ _. omega arith) (fall17_failed 1 (scale s) s.pooled (scale_some s) s r n)))
