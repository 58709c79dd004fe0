-- A start keeps the invariant. In a named queue a push start takes a slot that is unmarked, so nobody's; in a pooled queue it takes none.
use mathlib.Core.{Bool.{Bool, false, not, true}, Logic.◌≢◌, Path.{◌∙◌, ◌≡◌, ap, refl, subst, sym}}
use Prim.Native.Nat.{◌≤◌, ℕ}
use Rattle.model.proofs.{Tests.Truth.not_both, Machine.{Book.{Both, begun, booked_call}, Laws.upd_same}}
use Rattle.model.proofs.Machine.Machine.{Rec, Shared, asking, idle, moved, pop, push, started, upd, with_label}
use Rattle.model.proofs.Invariant.{Invariant.Inv, Owners.{Owner, Spare, free, held, queued, shows}}
use Rattle.model.proofs.Invariant.Tasks.{Bare, Task}
use Rattle.model.proofs.Places.{Marking.{none-giving, shows_same}, Shown.stack_same, Step.{others, tasks_upd}}
use Rattle.model.proofs.Places.Owning.{gets_marks, gets_rely, gets_sole, gets_whole}

module _ (p : Both) (i : Inv p) where
  abbrev s : Shared
  s = p.state.shared

  abbrev h : ℕ → Owner
  h = i.owner

  abbrev f : ℕ → Rec
  f = p.state.task

  -- A task that is idle has no slot.
  bare : (t : ℕ) → (p.state.task t).place ≡ idle → Bare h t
  bare t e = (subst (λ z. Task z s h t (p.state.task t) (p.book.calls t)) e (i.tasks t)).1

  -- An accepted start of a pop.
  pub pop_inv : (t : ℕ) (d : Bool) → (p.state.task t).place ≡ idle → Inv (record {
    state = moved p.state t s (started pop d 0 0);
    book = begun p.book t (booked_call pop d 0 0);
  })
  pop_inv t d ready =
      record {
        owner = h;
        whole = i.whole;
        marks = λ y l. i.marks y l ∙ sym (shows_same f t (started pop d 0 0) (h y) (λ e. absurd (bare t ready y e)));
        kept = i.kept;
        tasks = tasks_upd s h p.state.task p.book.calls t (started pop d 0 0) (booked_call pop d 0 0) (λ u n. i.tasks u)
            (refl, record { agrees = record { kind = refl; side = refl; slot = refl; label = refl }; none = refl; own = bare t ready });
      }

  -- An accepted start of a push that names no slot.
  pub ask_inv : (t : ℕ) (d : Bool) (l : ℕ) → (p.state.task t).place ≡ idle → s.pooled ≡ true → Inv (record {
    state = moved p.state t s
        (asking d l);
    book = begun p.book t (booked_call push d 0 l);
  })
  ask_inv t d l ready e =
      record {
        owner = h;
        whole = i.whole;
        marks = λ y z. i.marks y z ∙ sym (shows_same f t (asking d l) (h y) (λ e. absurd (bare t ready y e)));
        kept = i.kept;
        tasks = tasks_upd s h p.state.task p.book.calls t (asking d l) (booked_call push d 0 l) (λ u n. i.tasks u) (
          e,
          record {
            unfinished = refl;
            kind = refl;
            agrees = record { kind = refl; side = refl; slot = refl; label = refl };
            none = refl;
            bare = bare t ready;
          },
          tt,
        );
      }

  -- An accepted start of a push that names a slot.
  module _ (t : ℕ) (d : Bool) (x l : ℕ) (ready : (p.state.task t).place ≡ idle) (nz : x ≢ 0) (low : x ≤ s.slots) (named : s.pooled ≡ false)
      (clear : s.mark x ≡ false) where
    unowned : h x ≡ free
    unowned = go (h x) refl
      where
        go : (o : Owner) → h x ≡ o → h x ≡ free
        go free e = e
        go queued e = absurd (not_both (i.marks x low ∙ ap (shows f) e) clear)
        go (held u) e =
            let none = none-giving s h u (f u) (p.book.calls u) named (f u).place (i.tasks u) in
            absurd (not_both (i.marks x low ∙ ap (shows f) e ∙ ap not none) clear)

    pub push_inv : Inv (record { state = moved p.state t (with_label s x l) (started push d x l); book = begun p.book t (booked_call push d x l) })
    push_inv =
        record {
          owner = upd h x (held t);
          whole = gets_whole i.whole t x l unowned s.head nz low
              (subst (λ b. Spare b s.slots s.next s.head.slot (upd h x (held t))) (sym named) tt);
          marks = λ y z. (gets_marks i.whole t x l unowned s.head (started push d x l) refl (bare t ready)).goes_on f refl y (i.marks y z);
          kept = i.kept;
          tasks = tasks_upd (with_label s x l) (upd h x (held t)) p.state.task p.book.calls t (started push d x l) (booked_call push d x l)
              (others p i t (with_label s x l) (upd h x (held t)) (gets_rely i.whole t x l unowned s.head (stack_same refl refl refl))) (
                refl,
                record {
                  agrees = record { kind = refl; side = refl; slot = refl; label = refl };
                  none = refl;
                  own = (nz, upd_same h x (held t), upd_same s.label x l, gets_sole i.whole t x l unowned s.head (bare t ready));
                },
              );
        }
