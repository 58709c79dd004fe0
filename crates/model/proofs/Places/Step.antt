-- A step of any task keeps the invariant.
use mathlib.Core.{Bool.false, List.List, Logic.{◌≢◌, ◌⊎◌, inl, inr}, Path.{◌≡◌, refl, subst, subst₂, sym}}
use Prim.Native.Nat.{◌≤◌, ℕ}
use Rattle.model.specs.declared.Entry.{Entry}
use Rattle.model.proofs.{Tests.Truth.{decide_eq, not_both}, Machine.Laws.{upd_other, upd_same}}
use Rattle.model.proofs.Machine.Book.{Both, BookCall, Honoured, Noted, closes, granted, no_call, noted, stepped}
use Rattle.model.proofs.Machine.Machine.{Answer, Place, Rec, Shared, Touch, act, apply, at1, at10, at11, at2}
use Rattle.model.proofs.Machine.Machine.{at3, at4, at5, at6, at7, at8, at9, blank, clear, draw, empty, give, upd}
use Rattle.model.proofs.Machine.Machine.{idle, is_giving, is_idle, moved, no_free_slot, none, popped, pushed, take}
use Rattle.model.proofs.Machine.Machine.{put_anchor, put_head, put_link, put_next, running}
use Rattle.model.proofs.Invariant.{Invariant.Inv, Rely.Rely, Owners.{Owner, Intact, shows}, Tasks.{Bare, Task}}
use Rattle.model.proofs.Places.{Others.keep, Place1.place1, Place10.place10, Place11.place11, Place2.place2}
use Rattle.model.proofs.Places.{Place3.place3, Place4.place4, Place9.place9, Places12to14.place12to14}
use Rattle.model.proofs.Places.{Places15to17.place15to17, Places5to8.{place5, place6, place7, place8}}
use Rattle.model.proofs.Places.Shown.{Finish, ShownAs, Stands}

-- One step, by places.
places : (t : ℕ) (s : Shared) (h : ℕ → Owner) (q : List Entry) (c : BookCall) → Intact s h q → (r : Rec) (p : Place) → is_idle p ≡ false → Task p s h t r c
    → ShownAs (is_giving p) t s h q c (act p s r)
places t s h q c all r idle i w = absurd (not_both refl i)
places t s h q c all r at1 i w = place1 t s h q c all r r.kind refl w
places t s h q c all r at2 i w = place2 t s h q c all r r.kind refl w
places t s h q c all r at3 i w = place3 t s h q c all r r.kind refl w
places t s h q c all r at4 i w = place4 t s h q c all r r.kind refl w
places t s h q c all r at5 i w = place5 t s h q c all r w
places t s h q c all r at6 i w = place6 t s h q c all r w
places t s h q c all r at7 i w = place7 t s h q c all r w
places t s h q c all r at8 i w = place8 t s h q c all r w
places t s h q c all r at9 i w = place9 t s h q c all r w
places t s h q c all r at10 i w = place10 t s h q c all r w
places t s h q c all r at11 i w = place11 t s h q c all r w
places t s h q c all r (draw p) i w = place12to14 t s h q c all r p w
places t s h q c all r (give p) i w = place15to17 t s h q c all r p w

slots_kept : (s : Shared) (w : Touch) → (apply s w).slots ≡ s.slots
slots_kept s none = refl
slots_kept s (put_anchor a) = refl
slots_kept s (put_link d x v) = refl
slots_kept s (clear x) = refl
slots_kept s (take w x l) = refl
slots_kept s (put_next x v) = refl
slots_kept s (put_head w) = refl

-- One record and one call are replaced, and the others keep what they have.
pub tasks_upd : (s : Shared) (h : ℕ → Owner) (f : ℕ → Rec) (g : ℕ → BookCall) (t : ℕ) (r : Rec) (c : BookCall)
    → ((u : ℕ) → u ≢ t → Task (f u).place s h u (f u) (g u)) → Task r.place s h t r c
    → (u : ℕ) → Task (upd f t r u).place s h u (upd f t r u) (upd g t c u)
tasks_upd s h f g t r c others own u = go (decide_eq u t)
  where
    go : (u ≡ t) ⊎ (u ≢ t) → Task (upd f t r u).place s h u (upd f t r u) (upd g t c u)
    go (inl z) = subst (λ v. Task (upd f t r v).place s h v (upd f t r v) (upd g t c v)) (sym z)
        (subst₂ (λ (x : Rec) (y : BookCall). Task x.place s h t x y) (sym (upd_same f t r)) (sym (upd_same g t c)) own)
    go (inr z) = subst₂ (λ (x : Rec) (y : BookCall). Task x.place s h u x y) (sym (upd_other f t r u z)) (sym (upd_other g t c u z)) (others u z)

module _ (p : Both) (i : Inv p) where
  pub others : (t : ℕ) (s : Shared) (h : ℕ → Owner) → ((u : ℕ) → u ≢ t → Rely u p.state.shared i.owner s h)
      → (u : ℕ) → u ≢ t → Task (p.state.task u).place s h u (p.state.task u) (p.book.calls u)
  others t s h y u n = keep u p.state.shared i.owner s h (y u n) p.book.queue i.whole (p.state.task u).place (p.state.task u)
      (p.book.calls u) (i.tasks u)

  -- Every slot is marked as its owner says, with the task's next record.
  abbrev Marks : ℕ → Shared → Rec → (ℕ → Owner) → Type 0
  Marks t s r h = (x : ℕ) → x ≤ s.slots → s.mark x ≡ shows (upd p.state.task t r) (h x)

  -- An accepted step that answers, and one that may.
  answer : (t : ℕ) (s : Shared) (r : Rec) (h : ℕ → Owner) (n : Noted) (w : Answer) → Intact s h n.queue
      → ((u : ℕ) → u ≢ t → Rely u p.state.shared i.owner s h)
      → (r ≡ blank) × Honoured (record { call = n.call; answer = w }) × Bare h t → Marks t s r h
      → Inv (record { state = record { shared = s; task = upd p.state.task t r }; book = closes p.book t n w })
  answer t s r h n w a y f k =
      record {
        owner = h;
        whole = a;
        marks = k;
        kept = (f.1, i.kept);
        tasks = tasks_upd s h p.state.task p.book.calls t r no_call (others t s h y)
            (subst (λ (x : Rec). Task x.place s h t x no_call) (sym f.0) (refl, f.2));
      }

  absorb : (t : ℕ) (s : Shared) (r : Rec) (h : ℕ → Owner) (n : Noted) (w : Answer) → Intact s h n.queue
      → ((u : ℕ) → u ≢ t → Rely u p.state.shared i.owner s h)
      → Finish w s h t r n.call → Marks t s r h
      → Inv (record { state = record { shared = s; task = upd p.state.task t r }; book = stepped p.book t n w })
  absorb t s r h n running a y f k = record {
    owner = h;
    whole = a;
    marks = k;
    kept = i.kept;
    tasks = tasks_upd s h p.state.task p.book.calls t r n.call (others t s h y) f;
  }
  absorb t s r h n pushed a y f k = answer t s r h n pushed a y f k
  absorb t s r h n empty a y f k = answer t s r h n empty a y f k
  absorb t s r h n no_free_slot a y f k = answer t s r h n no_free_slot a y f k
  absorb t s r h n (popped x l) a y f k = answer t s r h n (popped x l) a y f k

  pub step_inv : (t : ℕ) → is_idle (p.state.task t).place ≡ false
      → let m = act (p.state.task t).place p.state.shared (p.state.task t) in
      let g = apply p.state.shared m.touch in
      Inv (record {
        state = moved p.state t g m.rec;
        book = stepped p.book t (noted (granted m.touch (p.book.calls t)) p.book.queue p.state.shared.anchor g.anchor
            m.answer) m.answer;
      })
  step_inv t e =
      let r = p.state.task t in
      let m = act r.place p.state.shared r in
      let g = places t p.state.shared i.owner p.book.queue (p.book.calls t) i.whole r r.place e (i.tasks t) in
      absorb t (apply p.state.shared m.touch) m.rec g.owner _ m.answer g.whole g.rely g.finish
      (λ x low. g.marks.goes_on p.state.task refl x (i.marks x (subst (λ n. x ≤ n) (slots_kept p.state.shared m.touch) low)))

  -- A push that has its effect stands at the end of its side.
  pub step-stands : (t : ℕ) → is_idle (p.state.task t).place ≡ false
      → Stands p.state.shared (p.book.calls t) (act (p.state.task t).place p.state.shared (p.state.task t))
  step-stands t e =
      let r = p.state.task t in
      (places t p.state.shared i.owner p.book.queue (p.book.calls t) i.whole r r.place e (i.tasks t)).stands
