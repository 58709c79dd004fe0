-- A call of the ledger and the call in the book.
use mathlib.Core.{Bool.{Bool, ◌&&◌, cond, false, true}, List.{List, [], ◌∷◌}, Logic.◌≢◌}
use mathlib.Core.Path.{◌∙◌, ◌≡◌, ap, refl, subst, sym}
use Prim.Native.Nat.{◌<◌, suc, ℕ}
use native.Mathlib.Omega.{arith}
use lib.{Dec.eqb, ListN.length}
use borrow.Author.Tests.{eq-eqb}
use Rattle.model.specs.{History.{LedgerCall, Effect, Ending, Once, answered, is_open, pending}, Lists.All}
use Rattle.model.specs.declared.Answer.{TheVariants.{Empty, NoFreeSlot, Popped, Pushed, Running}, Answer}
use Rattle.model.proofs.{Tests.Truth.not_both, Bridge.View.{answer_seen, kind_of}}
use Rattle.model.proofs.Machine.Machine.{Touch, clear, none, put_anchor, put_head, put_link, put_next, take}
use Rattle.model.proofs.Machine.Book as B

-- An answer that ends a call.
abbrev pub Final : Answer → Type 0
Final (Running p) = ⊥
Final Pushed = Unit {0}
Final Empty = Unit {0}
Final (Popped e) = Unit {0}
Final NoFreeSlot = Unit {0}

pub same_answer : (a b : Answer) → Final a → answer_seen b ≡ answer_seen a → a ≡ b
same_answer (Running p) b f e = absurd f
same_answer Pushed (Running p) f e = absurd (let z : ◌≡◌ {A = ℕ} 0 1 = cc in omega arith)
same_answer Pushed Pushed f e = refl
same_answer Pushed Empty f e = absurd (let z : ◌≡◌ {A = ℕ} 0 1 = cc in omega arith)
same_answer Pushed (Popped d) f e = absurd (let z : ◌≡◌ {A = ℕ} 0 1 = cc in omega arith)
same_answer Pushed NoFreeSlot f e = absurd (let z : ◌≡◌ {A = ℕ} 0 1 = cc in omega arith)
same_answer Empty (Running p) f e = absurd (let z : ◌≡◌ {A = ℕ} 0 1 = cc in omega arith)
same_answer Empty Pushed f e = absurd (let z : ◌≡◌ {A = ℕ} 0 1 = cc in omega arith)
same_answer Empty Empty f e = refl
same_answer Empty (Popped d) f e = absurd (let z : ◌≡◌ {A = ℕ} 0 1 = cc in omega arith)
same_answer Empty NoFreeSlot f e = absurd (let z : ◌≡◌ {A = ℕ} 0 1 = cc in omega arith)
same_answer (Popped c) (Running p) f e = absurd (let z : ◌≡◌ {A = ℕ} 0 1 = cc in omega arith)
same_answer (Popped c) Pushed f e = absurd (let z : ◌≡◌ {A = ℕ} 0 1 = cc in omega arith)
same_answer (Popped c) Empty f e = absurd (let z : ◌≡◌ {A = ℕ} 0 1 = cc in omega arith)
same_answer (Popped c) (Popped d) f e =
    let p : c.slot ≡ d.slot = cc in let r : c.label ≡ d.label = cc in λ i. Popped (record { slot = p i; label = r i })
same_answer (Popped c) NoFreeSlot f e = absurd (let z : ◌≡◌ {A = ℕ} 0 1 = cc in omega arith)
same_answer NoFreeSlot (Running p) f e = absurd (let z : ◌≡◌ {A = ℕ} 0 1 = cc in omega arith)
same_answer NoFreeSlot Pushed f e = absurd (let z : ◌≡◌ {A = ℕ} 0 1 = cc in omega arith)
same_answer NoFreeSlot Empty f e = absurd (let z : ◌≡◌ {A = ℕ} 0 1 = cc in omega arith)
same_answer NoFreeSlot (Popped d) f e = absurd (let z : ◌≡◌ {A = ℕ} 0 1 = cc in omega arith)
same_answer NoFreeSlot NoFreeSlot f e = refl

-- The latest effect.
pub record Latest (n : ℕ) (c : LedgerCall) (k : B.BookCall) (e : Effect) : Type 0 where
  pub told : k.told ≡ answer_seen e.reply
  pub final : Final e.reply
  pub begun : c.start < e.at
  pub past : e.at < n

abbrev pub Last : ℕ → LedgerCall → B.BookCall → List Effect → Type 0
Last n c k [] = Unit {0}
Last n c k (e ∷ l) = Latest n c k e

-- In a named queue a call's slot is the one that its start named, in the book as in the ledger. In a pooled queue a start names none; the book
-- has the slot once it is drawn.
abbrev pub Names : Bool → Bool → ℕ → ℕ → Type 0
Names false named x y = x ≡ y
Names true named x y = named ≡ false

-- An open call, before position n, and the one in the book.
pub record Matches (p : Bool) (n : ℕ) (c : LedgerCall) (k : B.BookCall) : Type 0 where
  pub kind : k.kind ≡ kind_of c.kind
  pub side : k.side ≡ eqb c.side 1
  pub slot : Names p c.named k.slot c.entry.slot
  pub label : k.label ≡ c.entry.label
  pub begun : c.start < n
  pub count : k.effects ≡ length c.effects
  pub last : Last n c k c.effects

abbrev pub Tracked : Bool → ℕ → (ℕ → B.BookCall) → LedgerCall → Ending → Type 0
Tracked p n f c pending = Matches p n c (f c.task)
Tracked p n f c (answered m a) = Once c m a

abbrev pub Tracks : Bool → ℕ → (ℕ → B.BookCall) → List LedgerCall → Type 0
Tracks p n f cs = All (λ (c : LedgerCall). Tracked p n f c c.ending) cs

abbrev pub opens : ℕ → List LedgerCall → ℕ
opens t [] = 0
opens t (c ∷ cs) = cond (eqb c.task t && is_open c.ending) (suc (opens t cs)) (opens t cs)

last_mono : (n : ℕ) (c : LedgerCall) (k : B.BookCall) (l : List Effect) → Last n c k l → Last (suc n) c k l
last_mono n c k [] h = tt
last_mono n c k (e ∷ l) h = record { told = h.told; final = h.final; begun = h.begun; past = omega (arith, h.past) }

pub matches_mono : (p : Bool) (n : ℕ) (c : LedgerCall) (k : B.BookCall) → Matches p n c k → Matches p (suc n) c k
matches_mono p n c k h = record {
  kind = h.kind;
  side = h.side;
  slot = h.slot;
  label = h.label;
  begun = omega (arith, h.begun);
  count = h.count;
  last = last_mono n c k c.effects h.last;
}

pub tracks_mono : (p : Bool) (n : ℕ) (f : ℕ → B.BookCall) (cs : List LedgerCall) → Tracks p n f cs → Tracks p (suc n) f cs
tracks_mono p n f [] h = tt
tracks_mono p n f (c ∷ cs) h = (go c.ending h.0, tracks_mono p n f cs h.1)
  where
    go : (e : Ending) → Tracked p n f c e → Tracked p (suc n) f c e
    go pending m = matches_mono p n c (f c.task) m
    go (answered m a) o = o

module _ (p : Bool) (n : ℕ) (f g : ℕ → B.BookCall) (t : ℕ) (same : (u : ℕ) → u ≢ t → g u ≡ f u) where
  -- A call that is not the open one of the task.
  pub apart : (c : LedgerCall) (e : Ending) → eqb c.task t && is_open e ≡ false → Tracked p n f c e → Tracked p (suc n) g c e
  apart c pending z h = subst (Matches p (suc n) c) (sym (same c.task (λ y. not_both (ap (λ (b : Bool). b && true) (eq-eqb _ _ y)) z)))
      (matches_mono p n c (f c.task) h)
  apart c (answered m a) z h = h

  pub rest-keeps : (cs : List LedgerCall) → opens t cs ≡ 0 → Tracks p n f cs → Tracks p (suc n) g cs
  rest-keeps [] z h = tt
  rest-keeps (c ∷ cs) z h = go (eqb c.task t && is_open c.ending) refl (λ w. rest-keeps cs w h.1)
    where
      go : (b : Bool) → eqb c.task t && is_open c.ending ≡ b → (opens t cs ≡ 0 → Tracks p (suc n) g cs) → Tracks p (suc n) g (c ∷ cs)
      go true e r = absurd (let w = ap (λ (b : Bool). cond b (suc (opens t cs)) (opens t cs)) (sym e) ∙ z in omega arith)
      go false e r = (apart c c.ending e h.0, r (ap (λ (b : Bool). cond b (suc (opens t cs)) (opens t cs)) (sym e) ∙ z))

-- A slot drawn from the pool.
pub matches_granted : (p : Bool) (n : ℕ) (c : LedgerCall) (k : B.BookCall) (g : Touch) → (p ≡ false → B.granted g k ≡ k) → Matches p n c k
    → Matches p n c (B.granted g k)
matches_granted false n c k g e h = subst (Matches false n c) (sym (e refl)) h
matches_granted true n c k g e h = go g
  where
    go : (g : Touch) → Matches true n c (B.granted g k)
    go none = h
    go (put_anchor a) = h
    go (put_link d x v) = h
    go (clear x) = h
    go (take w x l) = record {
      kind = h.kind;
      side = h.side;
      slot = h.slot;
      label = h.label;
      begun = h.begun;
      count = h.count;
      last = last_granted c.effects h.last;
    }
      where
        last_granted : (l : List Effect) → Last n c k l → Last n c (B.granted (take w x 0) k) l
        last_granted [] m = tt
        last_granted (e ∷ l) m = record { told = m.told; final = m.final; begun = m.begun; past = m.past }
    go (put_next x v) = h
    go (put_head w) = h
