-- The pool's stack: what a task that draws a slot, gives one back or links one does to it.
use mathlib.Core.{List.{List, [], ◌∷◌}, Logic.{◌≢◌, ◌⊎◌, inl, inr}, Path.{◌∙◌, ◌≡◌, ap, refl, subst, sym}}
use Prim.Native.Nat.{◌≤◌, ℕ}
use Rattle.model.proofs.{Tests.Truth.decide_eq, Machine.{Laws.{upd_other, upd_same}, Machine.upd}}
use Rattle.model.proofs.Lists.{All.{all_both, all_map}, Deque.Distinct, In.{In, in_rest}}
use Rattle.model.proofs.{Invariant.Owners.{Owner, Pool, Stack, free, held}, Places.Owned.{held-free, owner_back}}
use Rattle.model.specs.Lists.{All}

-- The next of a slot outside the stack does not matter.
frame : (f g : ℕ → ℕ) (x : ℕ) (k : List ℕ) → All (λ y. g y ≡ f y) k → Stack f x k → Stack g x k
frame f g x [] w c = c
frame f g x (y ∷ l) w c = (c.0, c.1, frame f g (g y) l w.1 (subst (λ z. Stack f z l) (sym w.0) c.2))

module _ {n : ℕ} {f : ℕ → ℕ} {top : ℕ} {h : ℕ → Owner} (p : Pool n f top h) where
  -- The head's slot is free, unless the stack is empty.
  pub top-free : top ≢ 0 → (h top ≡ free) × (top ≤ n)
  top-free ne = go p.stack p.chain p.unowned p.within
    where
      go : (k : List ℕ) → Stack f top k → All (λ x. h x ≡ free) k → All (λ x. x ≤ n) k → (h top ≡ free) × (top ≤ n)
      go [] c u w = absurd (ne c)
      go (y ∷ l) c u w = (ap h c.0 ∙ u.0, subst (λ x. x ≤ n) (sym c.0) w.0)

  -- A slot that a task has is not on the stack.
  apart : {t x : ℕ} → h x ≡ held t → All (λ y. y ≢ x) p.stack
  apart e = all_map (λ y. h y ≡ free) _ (λ y g z. held-free (sym e ∙ sym (ap h z) ∙ g)) p.stack p.unowned

  pub top_apart : {t x : ℕ} → x ≢ 0 → h x ≡ held t → top ≢ x
  top_apart {t} {x} ne e z = go (decide_eq top 0)
    where
      go : (top ≡ 0) ⊎ (top ≢ 0) → ⊥
      go (inl g) = ne (sym z ∙ g)
      go (inr g) = held-free (sym e ∙ ap h (sym z) ∙ (top-free g).0)

  -- 14: a task draws the top.
  pub drawn : (t : ℕ) → top ≢ 0 → Pool n f (f top) (upd h top (held t))
  drawn t ne = go p.stack p.chain p.distinct p.unowned p.within p.full
    where
      go : (k : List ℕ) → Stack f top k → Distinct k → All (λ x. h x ≡ free) k → All (λ x. x ≤ n) k → ((x : ℕ) → x ≢ 0 → x ≤ n → h x ≡ free → In x k)
          → Pool n f (f top) (upd h top (held t))
      go [] c d u w a = absurd (ne c)
      go (y ∷ l) c d u w a = record {
        stack = l;
        chain = subst (λ z. Stack f (f z) l) (sym c.0) c.2;
        distinct = d.1;
        unowned = all_both (λ z. z ≢ y) (λ z. h z ≡ free) _ (λ z m g. upd_other h top (held t) z (λ e. m (e ∙ c.0)) ∙ g) l d.0 u.1;
        within = w.1;
        full = λ x nz le e. let b = owner_back h top (held t) free held-free x e in in_rest x (y ∷ l) (λ z. b.0 (z ∙ sym c.0)) (a x nz le b.1);
      }

  -- 16: a task writes the next of a slot that it has.
  pub linked : {t x : ℕ} (v : ℕ) → h x ≡ held t → Pool n (upd f x v) top h
  linked {t} {x} v e = record {
    stack = p.stack;
    chain = frame f (upd f x v) top p.stack (all_map (λ y. y ≢ x) _ (λ y m. upd_other f x v y m) p.stack (apart e)) p.chain;
    distinct = p.distinct;
    unowned = p.unowned;
    within = p.within;
    full = p.full;
  }

  -- 17: a task gives back a slot whose next is the top.
  pub given : {t x : ℕ} → x ≢ 0 → x ≤ n → h x ≡ held t → f x ≡ top → Pool n f x (upd h x free)
  given {t} {x} ne le e g = record {
    stack = x ∷ p.stack;
    chain = (refl, ne, subst (λ z. Stack f z p.stack) (sym g) p.chain);
    distinct = (apart e, p.distinct);
    unowned = (upd_same h x free, all_both (λ y. y ≢ x) (λ y. h y ≡ free) _ (λ y m w. upd_other h x free y m ∙ w) p.stack (apart e) p.unowned);
    within = (le, p.within);
    full = λ y nz low u. go y nz low u (decide_eq y x);
  }
    where
      go : (y : ℕ) → y ≢ 0 → y ≤ n → upd h x free y ≡ free → (y ≡ x) ⊎ (y ≢ x) → In y (x ∷ p.stack)
      go y nz low u (inl z) = inl z
      go y nz low u (inr z) = inr (p.full y nz low (sym (upd_other h x free y z) ∙ u))

  -- (15) An empty head: no slot is free.
  pub none_free : top ≡ 0 → (x : ℕ) → x ≢ 0 → x ≤ n → h x ≢ free
  none_free e x nz le u = go p.stack p.chain (p.full x nz le u)
    where
      go : (k : List ℕ) → Stack f top k → In x k → ⊥
      go [] c i = i
      go (y ∷ l) c i = c.1 (sym c.0 ∙ e)
