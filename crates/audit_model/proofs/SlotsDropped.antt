-- A queue of labels replies as the sequential deque does, the slots left out.
use mathlib.Core.{Bool.{Bool, true, false, cond}, List.{List, [], ◌∷◌, ◌++◌, map, reverse, reverse-cons}}
use mathlib.Core.Path.{◌≡◌, refl, sym, ap, ◌∙◌, subst}
use Prim.Native.Nat.{ℕ}
use lib.Dec.{eqb}
use borrow.Author.Tests.{eq-eqb}
use Rattle.model.specs.declared.Answer.{Answer, TheVariants.{Running, Pushed, Empty, Popped, NoFreeSlot}}
use Rattle.model.specs.declared.Entry.{Entry}
use Rattle.model.specs.Deque.{Served, says_no_free_slot, seen_from, serve, serve_for, serve_pop, serve_push, take_first}
use Rattle.audit_model.specs.{declared.Finished.Finished, Audit.{Given, agrees, gives, serve_label, take_label}}
use Rattle.audit_model.proofs.{OrderedEffects.OrderedEffect, Replayed.served_in, Settled.{Suits, SuitsReply}}

abbrev pub labels_of : List Entry → List ℕ
labels_of l = map (λ (e : Entry). e.label) l

labels_snoc : (l : List Entry) (e : Entry) → labels_of (l ++ (e ∷ [])) ≡ labels_of l ++ (e.label ∷ [])
labels_snoc [] e = refl
labels_snoc (x ∷ l) e = ap (λ (k : List ℕ). x.label ∷ k) (labels_snoc l e)

labels_reverse : (l : List Entry) → labels_of (reverse l) ≡ reverse (labels_of l)
labels_reverse [] = refl
labels_reverse (x ∷ l) =
    ap labels_of (reverse-cons x l)
    ∙ labels_snoc (reverse l) x
    ∙ ap (λ (k : List ℕ). k ++ (x.label ∷ [])) (labels_reverse l)
    ∙ sym (reverse-cons x.label (labels_of l))

seen_labels : (side : ℕ) (l : List Entry) → seen_from side (labels_of l) ≡ labels_of (seen_from side l)
seen_labels side l = go (eqb side 1)
  where
    go : (b : Bool) → cond b (reverse (labels_of l)) (labels_of l) ≡ labels_of (cond b (reverse l) l)
    go true = sym (labels_reverse l)
    go false = refl

-- What was written is what the queue of labels gives.
pub record Gives (f : Finished) (s : Served) (g : Given) : Type 0 where
  pub queue : g.queue ≡ labels_of s.deque
  pub agrees : agrees f.answer f.label g.answer g.label ≡ true

push_gives : (f : Finished) (side : ℕ) (e : Entry) (d : List Entry) → SuitsReply f e.label Pushed
    → Gives f (serve_push side e d) (record { answer = 2; label = 0; queue = seen_from side (f.label ∷ seen_from side (labels_of d)) })
unfolding serve_push agrees
push_gives f side e d s = record {
  queue = (λ i. seen_from side (s.1 i ∷ seen_labels side d i)) ∙ seen_labels side (e ∷ seen_from side d);
  agrees = rw s.0;
}

a_pop_gives : (f : Finished) (side x : ℕ) (m : List Entry) → SuitsReply f x (take_first side m).reply
    → Gives f (take_first side m) (take_label side (labels_of m))
unfolding agrees
a_pop_gives f side x [] s = record { queue = refl; agrees = rw s }
a_pop_gives f side x (e ∷ m) s = record { queue = seen_labels side m; agrees = rw (s.0, eq-eqb f.label e.label s.1) }

-- What is written of a reply is not *no slot*: the deque served the call.
is-served : (f : Finished) (x : ℕ) (a : Answer) → SuitsReply f x a → says_no_free_slot a ≡ false
is-served f x (Running p) s = absurd s
is-served f x Pushed s = refl
is-served f x Empty s = refl
is-served f x (Popped e) s = refl
is-served f x NoFreeSlot s = absurd s

pub label-gives : (f : Finished) (slot : ℕ) (t : OrderedEffect) (d : List Entry) → Suits f t → (served_in slot t d).reply ≡ t.reply
    → Gives f (served_in slot t d) (gives f (labels_of d))
unfolding serve_for serve serve_label serve_pop serve_push
label-gives f slot t d s e =
    subst (λ (g : Given). Gives f (served_in slot t d) g)
    (λ i. serve_label (sym s.kind i) (sym s.side i) f.label (labels_of d))
    (rw served (go (eqb t.kind 0) (rw served at fits)))
  where
    entry : Entry
    entry = record { slot = slot; label = t.entry.label }

    served : says_no_free_slot t.reply ≡ false
    served = is-served f t.entry.label t.reply s.reply

    fits : SuitsReply f t.entry.label (served_in slot t d).reply
    fits = subst (SuitsReply f t.entry.label) (sym e) s.reply

    go : (b : Bool) → SuitsReply f t.entry.label (cond b (serve_push t.side entry d) (serve_pop t.side d)).reply
        → Gives f (cond b (serve_push t.side entry d) (serve_pop t.side d))
        (cond b
        (record { answer = 2; label = 0; queue = seen_from t.side (f.label ∷ seen_from t.side (labels_of d)) })
        (take_label t.side (seen_from t.side (labels_of d))))
    go true h = push_gives f t.side entry d h
    go false h =
        subst (λ (l : List ℕ). Gives f (take_first t.side (seen_from t.side d)) (take_label t.side l))
        (sym (seen_labels t.side d))
        (a_pop_gives f t.side t.entry.label (seen_from t.side d) h)
