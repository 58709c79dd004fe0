-- Owners differ, and a new owner of a slot takes it from no other task, nor from the free ones.
use mathlib.Core.{Bool.{Bool, false, true}, Logic.{◌≢◌, ◌⊎◌, inl, inr}, Path.{◌∙◌, ◌≡◌, ap, sym}}
use Prim.Native.Nat.{ℕ}
use native.Mathlib.Omega.{arith}
use Rattle.model.proofs.{Tests.Truth.decide_eq, Lists.All.all_map}
use Rattle.model.proofs.Machine.{Laws.{upd_other, upd_same}, Machine.{pop, push, upd}}
use Rattle.model.proofs.Invariant.Owners.{Owner, Spare, free, held, queued}

pub held_inj : {t u : ℕ} → held t ≡ held u → t ≡ u
held_inj e = cc

pub queued_held : {u : ℕ} → queued ≡ held u → ⊥
queued_held e = let z : ◌≡◌ {A = ℕ} 0 1 = cc in omega arith

pub held-free : {u : ℕ} → held u ≡ free → ⊥
held-free e = let z : ◌≡◌ {A = ℕ} 0 1 = cc in omega arith

pub queued_free : queued ≡ free → ⊥
queued_free e = let z : ◌≡◌ {A = ℕ} 0 1 = cc in omega arith

pub push_pop : push ≡ pop → ⊥
push_pop e = let z : ◌≡◌ {A = ℕ} 0 1 = cc in omega arith

module _ (h : ℕ → Owner) (x : ℕ) (o : Owner) where
  -- A new owner of a slot that no other task has.
  pub owner_kept : (t : ℕ) → (h x ≡ held t) ⊎ (h x ≡ queued) → (u y : ℕ) → u ≢ t → h y ≡ held u → upd h x o y ≡ held u
  owner_kept t (inl e) u y n p = upd_other h x o y (λ z. n (held_inj (sym p ∙ ap h z ∙ e))) ∙ p
  owner_kept t (inr e) u y n p = upd_other h x o y (λ z. queued_held (sym e ∙ sym (ap h z) ∙ p)) ∙ p

  -- Any other owner of a slot had it before.
  pub owner_back : (p : Owner) → o ≢ p → (y : ℕ) → upd h x o y ≡ p → (y ≢ x) × (h y ≡ p)
  owner_back p e y g = go (decide_eq y x)
    where
      go : (y ≡ x) ⊎ (y ≢ x) → (y ≢ x) × (h y ≡ p)
      go (inl z) = absurd (e (sym (upd_same h x o) ∙ ap (λ (v : ℕ). upd h x o v) (sym z) ∙ g))
      go (inr z) = (z, sym (upd_other h x o y z) ∙ g)

  pub owner_bounds : (P : ℕ → Type 0) → h x ≢ free → ((y : ℕ) → h y ≢ free → P y) → (y : ℕ) → upd h x o y ≢ free → P y
  owner_bounds P e f y n = go (decide_eq y x)
    where
      go : (y ≡ x) ⊎ (y ≢ x) → P y
      go (inl z) = f y (λ w. e (sym (ap h z) ∙ w))
      go (inr z) = f y (λ w. n (upd_other h x o y z ∙ w))

  -- As many slots are free as before: what tells of free slots goes on to.
  pub owner_spare : (p : Bool) (n : ℕ) (f : ℕ → ℕ) (top : ℕ) → h x ≢ free → o ≢ free → Spare p n f top h → Spare p n f top (upd h x o)
  owner_spare false n f top e g w = tt
  owner_spare true n f top e g w = record {
    stack = w.stack;
    chain = w.chain;
    distinct = w.distinct;
    unowned = all_map (λ y. h y ≡ free) _ (λ y g. upd_other h x o y (λ z. e (sym (ap h z) ∙ g)) ∙ g) w.stack w.unowned;
    within = w.within;
    full = λ y nz le u. w.full y nz le (owner_back free g y u).1;
  }
