-- What is to be shown of one step, and how it is put together.
use mathlib.Core.{Bool.{Bool, false, true}, List.List, Logic.{◌≢◌, inl, inr}, Path.{◌≡◌, ap, refl, subst, sym}}
use Prim.Native.Nat.{◌<◌, ℕ}
use native.Mathlib.Omega.{arith}
use Rattle.model.specs.declared.Entry.{Entry}
use Rattle.model.proofs.{Tests.Truth.{by_test, not_both}, Machine.Machine.{pushing, running, runs, with_anchor}}
use Rattle.model.proofs.Machine.Book.{BookCall, Honoured, effect, granted, is_no_free_slot, noted}
use Rattle.model.proofs.Machine.Machine.{Anchor, Answer, Move, Rec, Shared, Touch, apply, at1, blank, empty, tip}
use Rattle.model.proofs.Machine.Machine.{ends, goes, is_giving, leave, no_free_slot, none, popped, push, pushed}
use Rattle.model.proofs.Invariant.{Owners.{Owner, Intact, held}, Rely.{Rely, Stacked}, Shape.Made}
use Rattle.model.proofs.Invariant.Tasks.{Bare, Read, Stage, Task}
use Rattle.model.proofs.Places.{Effects.{no-effect, noted_false}, Marking.{Marked, marked-kept}}

-- The record and the call after an answer.
abbrev pub Finish : Answer → Shared → (ℕ → Owner) → ℕ → Rec → BookCall → Type 0
Finish running s h t r c = Task r.place s h t r c
Finish pushed s h t r c = (r ≡ blank) × Honoured (record { call = c; answer = pushed }) × Bare h t
Finish empty s h t r c = (r ≡ blank) × Honoured (record { call = c; answer = empty }) × Bare h t
Finish no_free_slot s h t r c = (r ≡ blank) × Honoured (record { call = c; answer = no_free_slot }) × Bare h t
Finish (popped x l) s h t r c = (r ≡ blank) × Honoured (record { call = c; answer = popped x l }) × Bare h t

-- A push that has its effect stands at the end of its side.
abbrev pub Stands : Shared → BookCall → Move → Type 0
Stands s c m = effect s.anchor (apply s m.touch).anchor m.answer ≡ true → is_no_free_slot m.answer ≡ false → c.kind ≡ push
    → tip (apply s m.touch).anchor c.side ≡ (granted m.touch c).slot

-- b tells whether the task stands at 15 to 17.
pub record ShownAs (b : Bool) (t : ℕ) (s : Shared) (h : ℕ → Owner) (q : List Entry) (c : BookCall) (m : Move) : Type 0 where
  pub owner : ℕ → Owner
  pub whole : Intact (apply s m.touch) owner (noted (granted m.touch c) q s.anchor (apply s m.touch).anchor m.answer).queue
  pub rely : (u : ℕ) → u ≢ t → Rely u s h (apply s m.touch) owner
  pub finish : Finish m.answer (apply s m.touch) owner t m.rec
      (noted (granted m.touch c) q s.anchor (apply s m.touch).anchor m.answer).call
  pub stands : Stands s c m
  pub marks : Marked b t s h m owner

-- At any other place.
abbrev pub Shown : ℕ → Shared → (ℕ → Owner) → List Entry → BookCall → Move → Type 0
Shown t s h q c m = ShownAs false t s h q c m

-- The stack is left alone.
pub stack_same : {s s' : Shared} → s'.pooled ≡ s.pooled → s'.head ≡ s.head → s'.next ≡ s.next → Stacked s s'
stack_same {s} p e n = record { pooled = p; head = inl (e, ap (λ (f : ℕ → ℕ). f s.head.slot) n) }

-- What is left to the others where nothing changes but marks,
abbrev pub marking : Shared → (ℕ → Bool) → Shared
marking s m = record {
  slots = s.slots;
  pooled = s.pooled;
  anchor = s.anchor;
  head = s.head;
  link = s.link;
  next = s.next;
  label = s.label;
  mark = m;
}

pub rely_marks : {s : Shared} {h : ℕ → Owner} (m : ℕ → Bool) (u : ℕ) → Rely u s h (marking s m) h
rely_marks m u =
    record {
      spared = λ x e. record { owner = e; label = refl; links = λ b. refl; next = refl };
      back = λ x e. e;
      tags = λ e y. omega arith;
      words = λ e y p. inl refl;
      anchor = inl (record { kept = refl; inward = λ e f. refl; made = λ e st m. m });
      stack = stack_same refl refl refl;
    }

pub rely_refl : {s : Shared} {h : ℕ → Owner} (u : ℕ) → Rely u s h s h
rely_refl {s} u = rely_marks s.mark u

-- And where Anchor alone is changed.
pub rely_turn : {t : ℕ} {s : Shared} {h : ℕ → Owner} (a : Anchor) (h' : ℕ → Owner) → s.anchor.tag < a.tag
    → ((e : Bool) → s.anchor.status ≡ pushing e → Made s.link s.anchor e)
    → ((u x : ℕ) → u ≢ t → h x ≡ held u → h' x ≡ held u) → ((u x : ℕ) → u ≢ t → h' x ≡ held u → h x ≡ held u) → (u : ℕ) → u ≢ t
    → Rely u s h (with_anchor s a) h'
rely_turn a h' later closed kept back u n =
    record {
      spared = λ x e. record { owner = kept u x n e; label = refl; links = λ b. refl; next = refl };
      back = λ x e. back u x n e;
      tags = λ e y. omega arith;
      words = λ e y p. inl refl;
      anchor = inr (record { later = later; closed = closed });
      stack = stack_same refl refl refl;
    }

module _ {b : Bool} {t : ℕ} {s : Shared} {h : ℕ → Owner} {q : List Entry} {c : BookCall} where
  -- A step with no effect.
  pub plain : (m : Move) (h' : ℕ → Owner) → effect s.anchor (apply s m.touch).anchor m.answer ≡ false → Intact (apply s m.touch) h' q
      → ((u : ℕ) → u ≢ t → Rely u s h (apply s m.touch) h') → Finish m.answer (apply s m.touch) h' t m.rec (granted m.touch c)
      → Marked b t s h m h' → ShownAs b t s h q c m
  plain m h' e w y f k =
      let n = noted_false (granted m.touch c) q s.anchor (apply s m.touch).anchor m.answer e in
      record { owner = h'; whole = rw n w; rely = y; finish = rw n f; stands = λ z. absurd (not_both z e); marks = k }

  -- A step with its effect.
  pub effective : (m : Move) (h' : ℕ → Owner) (c' : BookCall) (q' : List Entry)
      → noted (granted m.touch c) q s.anchor (apply s m.touch).anchor m.answer ≡ record {
        call =
            c';
        queue = q';
      }
      → Intact (apply s m.touch) h' q' → ((u : ℕ) → u ≢ t → Rely u s h (apply s m.touch) h')
      → Finish m.answer (apply s m.touch) h' t m.rec c' → Stands s c m → Marked b t s h m h' → ShownAs b t s h q c m
  effective m h' c' q' n w y f z k = record { owner = h'; whole = rw n w; rely = y; finish = rw n f; stands = z; marks = k }

  -- The tables stay as they are.
  pub still : {r : Rec} → is_giving r.place ≡ b → Intact s h q → Task r.place s h t r c → ShownAs b t s h q c (runs none r)
  still {r} e w f = plain (runs none r) h (no-effect s.anchor s.anchor running refl refl refl) w (λ u n. rely_refl u) f
      (marked-kept (runs none r) e (λ x. refl))

module _ {t : ℕ} {s : Shared} {h : ℕ → Owner} {q : List Entry} {c : BookCall} where
  pub leaves : (g : Touch) (r : Rec) → s.anchor.left ≡ (apply s g).anchor.left → s.anchor.right ≡ (apply s g).anchor.right
      → ((x : ℕ) → (apply s g).mark x ≡ s.mark x) → Intact (apply s g) h q → ((u : ℕ) → u ≢ t → Rely u s h (apply s g) h)
      → Stage r.finishing (apply s g).label h t r.kind r.side r.own r.label (granted g c) → Shown t s h q c (leave g r)
  leaves g r el er k w y f = by_test (Shown t s h q c) r.finishing
      (λ e. let z = subst (λ b. Stage b (apply s g).label h t r.kind r.side r.own r.label (granted g c)) e f in
      plain (ends g pushed) h (no-effect s.anchor (apply s g).anchor pushed refl el er) w y (
        refl,
        record {
          once = z.0.once;
          agrees = sym z.0.told;
        },
        z.1,
      ) (marked-kept (ends g pushed) refl k))
      (λ e. plain (runs g (goes r at1)) h (no-effect s.anchor (apply s g).anchor running refl el er) w y
      (e, subst (λ b. Stage b (apply s g).label h t r.kind r.side r.own r.label (granted g c)) e f)
      (marked-kept (runs g (goes r at1)) refl k))

pub read_now : (a : Anchor) → Read a a
read_now a = record { past = omega arith; present = λ e. refl }
