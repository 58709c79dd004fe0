-- A call that hasn't answered yet took effect exactly where its record says so: a pop at 11 or, in a pooled queue, at 15 to 17, a push that is finishing.
use mathlib.Core.{Bool.{Bool, true, false, cond, not, ◌&&◌, ◌||◌}, List.{List, [], ◌∷◌}, Logic.{◌≢◌, ◌⊎◌, inl, inr}}
use mathlib.Core.Path.{◌≡◌, ◌∙◌, ap, refl, sym}
use Prim.Native.Nat.{ℕ, ◌≤◌, ◌<◌, suc, zero}
use native.Mathlib.{Decide.dec_lt, Omega.arith}
use lib.{Dec.{eqb, ltb}, ListN.{length, get_or-eq_default}}
use borrow.Author.Tests.{eq-eqb, eqb-false, eqb-true, ltb-true}
use Rattle.model.specs.{declared.{Answer.{TheVariants.{Popped, Pushed}, Answer}, Call.Call}, Lists.All}
use Rattle.model.specs.Tables.{Queue, at_place, is_pooled, record_at}
use Rattle.model.specs.History.{LedgerCall, Effect, Ending, Ledger, answered, is_open, pending}
use Rattle.model.proofs.{Lists.All.all_map, Tests.{ByPlace.by_place, Truth.{by_test, decide_eq, not_both, split}}}
use Rattle.model.proofs.{Invariant.{Owners.Owner, Tasks.{Stage, Task}}, Unsound.Safe.Safe}
use Rattle.model.proofs.Bridge.View.{place_list, place_of, rec_of, state_of}
use Rattle.model.proofs.Ledger.{Matched.Matched, Matches.{Last, Matches, Tracked, Tracks, opens, same_answer}}
use Rattle.model.proofs.Machine.Book as B
use Rattle.model.proofs.Machine.Machine as M
use Rattle.stock_model.specs.Accounts.{Stands, has_pushed, has_popped, label_popped, label_pushed}
use Rattle.stock_model.proofs.Balance.{AllFit, Fits}

-- The places of a pop between its effect and its answer.
abbrev taking : M.Place → Bool
taking p = M.takes (M.phase p) || M.is_giving p

-- A call that was not told *pushed* has had its effect just there, and one that was not told *popped* where it is finishing.
helped : (f : Bool) (g : ℕ → ℕ) (h : ℕ → Owner) (t : ℕ) (k : M.Kind) (d : Bool) (x l : ℕ) (c : B.BookCall)
    → Stage f g h t k d x l c → (c.told ≡ M.pushed → c.effects ≡ 0) → c.effects ≡ 0
helped false g h t k d x l c s n = s.none
helped true g h t k d x l c s n = n s.0.told

effects-at : (p : M.Place) (s : M.Shared) (h : ℕ → Owner) (t : ℕ) (r : M.Rec) (c : B.BookCall)
    → Task p s h t r c → (c.told ≡ M.pushed → c.effects ≡ 0)
    → c.effects ≡ cond (taking p) 1 0
effects-at M.idle s h t r c w n = w.0
effects-at M.at1 s h t r c w n = w.1.none
effects-at M.at2 s h t r c w n = w.0.before.none
effects-at M.at3 s h t r c w n = w.0.before.none
effects-at M.at4 s h t r c w n = w.0.before.none
effects-at M.at5 s h t r c w n = helped r.finishing _ _ _ _ _ _ _ c w.stage n
effects-at M.at6 s h t r c w n = helped r.finishing _ _ _ _ _ _ _ c w.0.stage n
effects-at M.at7 s h t r c w n = helped r.finishing _ _ _ _ _ _ _ c w.0.stage n
effects-at M.at8 s h t r c w n = helped r.finishing _ _ _ _ _ _ _ c w.0.stage n
effects-at M.at9 s h t r c w n = helped r.finishing _ _ _ _ _ _ _ c w.0.stage n
effects-at M.at10 s h t r c w n = helped r.finishing _ _ _ _ _ _ _ c w.0.stage n
effects-at M.at11 s h t r c w n = w.after.once
effects-at (M.draw p) s h t r c w n = w.1.none
effects-at (M.give p) s h t r c w n = w.1.after.once

unfinished : (f : Bool) (n : ℕ) → f ≡ false → n ≡ 0 → n ≡ cond f 1 0
unfinished true n e z = absurd (not_both refl e)
unfinished false n e z = z

staged : (f : Bool) (g : ℕ → ℕ) (h : ℕ → Owner) (t : ℕ) (k : M.Kind) (d : Bool) (x l : ℕ) (c : B.BookCall)
    → Stage f g h t k d x l c → c.effects ≡ cond f 1 0
staged false g h t k d x l c s = s.none
staged true g h t k d x l c s = s.0.once

finished-at : (p : M.Place) (s : M.Shared) (h : ℕ → Owner) (t : ℕ) (r : M.Rec) (c : B.BookCall) → M.is_idle p ≡ false
    → Task p s h t r c → ((x l : ℕ) → c.told ≡ M.popped x l → c.effects ≡ 0)
    → c.effects ≡ cond r.finishing 1 0
finished-at M.idle s h t r c b w n = absurd (not_both refl b)
finished-at M.at1 s h t r c b w n = unfinished r.finishing c.effects w.0 w.1.none
finished-at M.at2 s h t r c b w n = unfinished r.finishing c.effects w.0.unfinished w.0.before.none
finished-at M.at3 s h t r c b w n = unfinished r.finishing c.effects w.0.unfinished w.0.before.none
finished-at M.at4 s h t r c b w n = unfinished r.finishing c.effects w.0.unfinished w.0.before.none
finished-at M.at5 s h t r c b w n = staged r.finishing _ _ _ _ _ _ _ c w.stage
finished-at M.at6 s h t r c b w n = staged r.finishing _ _ _ _ _ _ _ c w.0.stage
finished-at M.at7 s h t r c b w n = staged r.finishing _ _ _ _ _ _ _ c w.0.stage
finished-at M.at8 s h t r c b w n = staged r.finishing _ _ _ _ _ _ _ c w.0.stage
finished-at M.at9 s h t r c b w n = staged r.finishing _ _ _ _ _ _ _ c w.0.stage
finished-at M.at10 s h t r c b w n = staged r.finishing _ _ _ _ _ _ _ c w.0.stage
finished-at M.at11 s h t r c b w n = absurd (omega (arith, w.after.once, n _ _ w.after.told))
finished-at (M.draw p) s h t r c b w n = unfinished r.finishing c.effects w.1.unfinished w.1.none
finished-at (M.give p) s h t r c b w n = absurd (omega (arith, w.1.after.once, n _ _ w.1.after.told))

-- A field that is 0 or 1.
flag : (n : ℕ) → n ≤ 1 → eqb n 1 ≡ not (eqb n 0)
flag zero h = refl
flag (suc zero) h = refl
flag (suc (suc n)) h = absurd (omega (arith, h))

taking_is : (r : Call) → M.is_idle (place_of r.place) ≡ false → taking (place_of r.place) ≡ has_popped r
taking_is r b = go (decide_eq r.place 0) (dec_lt 17 r.place)
  where
    go : (r.place ≡ 0) ⊎ (r.place ≢ 0) → Dec (17 < r.place) → taking (place_of r.place) ≡ has_popped r
    go (inl z) d = absurd (not_both (ap (λ (p : ℕ). M.is_idle (place_of p)) z) b)
    go (inr z) (yes l) = absurd (not_both (ap (λ (p : M.Place). M.is_idle p) (get_or-eq_default place_list M.idle {n = r.place} (omega arith))) b)
    go (inr z) (no l) = by_place (λ p. taking (place_of p) ≡ has_popped (at_place r p))
        refl refl refl refl refl refl refl refl refl refl refl refl refl refl refl refl refl r.place z (omega arith)

module _ (n : ℕ) (q : Queue) (l : Ledger) (g : Matched n q l) where
  abbrev pooled : Bool
  pooled = is_pooled q.tables.control

  -- A pop is never told *pushed*, nor a push *popped*.
  not_pushed : (c : LedgerCall) (k : B.BookCall) (es : List Effect) → c.kind ≢ 0 → All (Fits c) es
      → k.effects ≡ length es → Last n c k es → k.told ≡ M.pushed → k.effects ≡ 0
  not_pushed c k [] kind f e h p = e
  not_pushed c k (x ∷ es) kind f e h p =
      absurd (kind (f.0.0 (ap (λ (a : Answer). length (label_pushed 0 a)) (sym (same_answer Pushed x.reply tt (sym h.told ∙ p))))))

  not_popped : (c : LedgerCall) (k : B.BookCall) (es : List Effect) → c.kind ≡ 0 → All (Fits c) es
      → k.effects ≡ length es → Last n c k es → (y l : ℕ) → k.told ≡ M.popped y l → k.effects ≡ 0
  not_popped c k [] kind f e h y l p = e
  not_popped c k (x ∷ es) kind f e h y l p =
      let a = Popped (record { slot = y; label = l }) in
      absurd (f.0.1 (ap (λ (a : Answer). length (label_popped a)) (sym (same_answer a x.reply tt (sym h.told ∙ p)))) kind)

  module _ (safe : Safe q) (c : LedgerCall) (b : M.is_idle ((state_of q).task c.task).place ≡ false) (f : All (Fits c) c.effects)
      (h : Matches pooled n c (g.book.calls c.task)) where
    abbrev t : ℕ
    t = c.task

    abbrev k : B.BookCall
    k = g.book.calls t

    abbrev known : Bool
    known = ltb t q.tables.control.tasks

    pop_stands : c.kind ≢ 0 → length c.effects ≡ cond (has_popped (record_at q t)) 1 0
    unfolding state_of rec_of
    pop_stands kind =
        sym h.count
        ∙ effects-at ((state_of q).task t).place (state_of q).shared g.inv.owner t ((state_of q).task t) k (g.inv.tasks t)
        (not_pushed c k c.effects kind f h.count h.last)
        ∙ ap (λ (b : Bool). cond b 1 0) (taken known b)
      where
        taken : (known : Bool) → M.is_idle (cond known (rec_of (record_at q t)) M.blank).place ≡ false
            → taking (cond known (rec_of (record_at q t)) M.blank).place ≡ has_popped (record_at q t)
        taken true b = taking_is (record_at q t) b
        taken false b = absurd (not_both refl b)

    push_stands : c.kind ≡ 0 → length c.effects ≡ cond (has_pushed (record_at q t)) 1 0
    unfolding state_of rec_of
    push_stands kind =
        sym h.count
        ∙ finished-at ((state_of q).task t).place (state_of q).shared g.inv.owner t ((state_of q).task t) k b (g.inv.tasks t)
        (not_popped c k c.effects kind f h.count h.last)
        ∙ ap (λ (b : Bool). cond b 1 0) (finishing known refl b)
      where
        finishing : (some : Bool) → known ≡ some → M.is_idle (cond some (rec_of (record_at q t)) M.blank).place ≡ false
            → (cond some (rec_of (record_at q t)) M.blank).finishing ≡ has_pushed (record_at q t)
        finishing true e b = flag (record_at q t).finishing
            (safe.fine t (ltb-true _ _ e) (λ z. not_both (ap (λ (p : ℕ). M.is_idle (place_of p)) z) b)).finishing
        finishing false e b = absurd (not_both refl b)

    stands : Stands q c pending
    stands = by_test (λ (b : Bool). length c.effects ≡ cond b 1 0) (eqb c.kind 0)
        (λ z. push_stands (eqb-true _ _ z)) (λ z. pop_stands (eqb-false _ _ z))

  -- An open call's task is busy.
  abbrev Busies : LedgerCall → Type 0
  Busies c = is_open c.ending ≡ true → M.is_idle ((state_of q).task c.task).place ≡ false

  all_stand : Safe q → (cs : List LedgerCall) → All Busies cs → AllFit cs → Tracks pooled n g.book.calls cs
      → All (λ (c : LedgerCall). Stands q c c.ending) cs
  all_stand safe [] b f h = tt
  all_stand safe (c ∷ cs) b f h = (go c.ending b.0 h.0, all_stand safe cs b.1 f.1 h.1)
    where
      go : (e : Ending) → (is_open e ≡ true → M.is_idle ((state_of q).task c.task).place ≡ false)
          → Tracked pooled n g.book.calls c e → Stands q c e
      go pending b h = stands safe c (b refl) f.0 h
      go (answered m a) b h = tt

  opens_some : (t : ℕ) → 1 ≤ opens t l.calls → M.is_idle ((state_of q).task t).place ≡ false
  opens_some t h = split (M.is_idle ((state_of q).task t).place)
      (λ z. absurd (let w : opens t l.calls ≡ 0 = g.busy t ∙ ap (λ (b : Bool). cond b 0 1) z in omega arith)) (λ z. z)

  all-busy : (cs : List LedgerCall) → ((t : ℕ) → opens t cs ≤ opens t l.calls) → All Busies cs
  all-busy [] h = tt
  all-busy (c ∷ cs) h = (λ o. opens_some c.task (first o), all-busy cs (λ t. rest t))
    where
      first : is_open c.ending ≡ true → 1 ≤ opens c.task l.calls
      first o = let w : opens c.task (c ∷ cs) ≡ suc (opens c.task cs) = rw (eq-eqb c.task c.task refl, o) in omega (arith, h c.task, w)

      rest : (t : ℕ) → opens t cs ≤ opens t l.calls
      rest t = by_test (λ k. k ≤ opens t l.calls → opens t cs ≤ opens t l.calls) (eqb c.task t && is_open c.ending)
          (λ z k. omega arith) (λ z k. k) (h t)

  -- An open call is one of the queue's tasks'.
  pub every-known : All (λ (c : LedgerCall). is_open c.ending ≡ true → c.task < q.tables.control.tasks) l.calls
  unfolding state_of
  every-known = all_map Busies (λ (c : LedgerCall). is_open c.ending ≡ true → c.task < q.tables.control.tasks)
      (λ c b o. known c.task (ltb c.task q.tables.control.tasks) refl (b o))
      l.calls (all-busy l.calls (λ t. omega arith))
    where
      known : (t : ℕ) (k : Bool) → ltb t q.tables.control.tasks ≡ k → M.is_idle (cond k (rec_of (record_at q t)) M.blank).place ≡ false
          → t < q.tables.control.tasks
      known t true e b = ltb-true _ _ e
      known t false e b = absurd (not_both refl b)

  pub every-stands : Safe q → AllFit l.calls → All (λ (c : LedgerCall). Stands q c c.ending) l.calls
  every-stands safe f = all_stand safe l.calls (all-busy l.calls (λ t. omega arith)) f g.tracks
