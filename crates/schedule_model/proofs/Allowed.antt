-- The schedules of a queue are those that are allowed: one step is taken off a schedule after the other.
use Rattle.std.specs.Prelude.{Err, Ok}
use mathlib.Core.{Path.{◌≡◌, refl, sym, ap, subst, ◌∙◌}, Bool.{Bool, true, false, ◌||◌, cond}, Logic.⊎_elim}
use mathlib.Core.List.Memᴰ
use mathlib.Core.List.{List, [], ◌∷◌, ◌++◌, Memᴰ}
use Prim.Native.Nat.{ℕ, zero, suc, ◌<◌}
use native.Mathlib.Omega.{arith}
use lib.{Dec.{eqb-suc-suc, eqb-zero-suc}, ListN.length}
use Rattle.model.specs.Outcomes.{Outcome}
use Rattle.model.specs.{declared.Op.TheVariants.Step, Tables.Queue}
use Rattle.model.specs.{Calls.act, History.final}
use Rattle.schedule_model.specs.Schedules.{Schedule, ends, begun, at_work, both_answered, onwards, through}
use Rattle.schedule_model.specs.{Schedules.schedules, Allowed.last_refused}
use Rattle.schedule_model.specs.Allowed.{has_ended, ending_of, Allowed, OnlyAllowed, EveryAllowed, after, is_refused}

abbrev clash : {A : Type 0} → ◌≡◌ {A = ℕ} 0 1 → A
clash e = absurd (omega arith)

-- A list that begins with t is split at t, or later.
module _ (P : List ℕ → ℕ → Type 0) (t : ℕ) (ts : List ℕ) where
  split : P [] t → ((before : List ℕ) (u : ℕ) (rest : List ℕ) → ts ≡ before ++ (u ∷ rest) → P (t ∷ before) u)
      → (before : List ℕ) (u : ℕ) (rest : List ℕ) → t ∷ ts ≡ before ++ (u ∷ rest) → P before u
  split h k [] u rest e = let z : t ≡ u = cc in subst (P []) z h
  split h k (b ∷ before) u rest e =
      let z : t ≡ b = cc in
      let w : ts ≡ before ++ (u ∷ rest) = cc in
      subst (λ (x : ℕ). P (x ∷ before) u) z (k before u rest w)

none : (P : List ℕ → ℕ → Type 0) (before : List ℕ) (u : ℕ) (rest : List ℕ) → [] ≡ before ++ (u ∷ rest) → P before u
none P [] u rest e = clash (cc)
none P (b ∷ before) u rest e = clash (cc)

abbrev Busy : Queue → List ℕ → ℕ → Type 0
Busy q before t = (t < 2) × (at_work (after q before) t ≡ true)

abbrev Going : ℕ → Queue → List ℕ → ℕ → Type 0
Going n q before t = has_ended n q before ≡ false

-- Behind a step that is carried out.
module _ (q : Queue) (t : ℕ) (accepted : is_refused (act q t Step).outcome ≡ false) where
  abbrev then : Queue
  then = (act q t Step).queue

  last_more : (ts : List ℕ) → last_refused q (t ∷ ts) ≡ last_refused then ts
  unfolding last_refused
  last_more [] = accepted
  last_more (u ∷ ts) = refl

  ended-more : (n : ℕ) (ts : List ℕ) → has_ended (suc n) q (t ∷ ts) ≡ has_ended n then ts
  unfolding has_ended final
  ended-more n ts = rw (last_more ts, eqb-suc-suc (length ts) n)

  ending-more : (ts : List ℕ) → ending_of q (t ∷ ts) ≡ ending_of then ts
  unfolding ending_of final
  ending-more ts = ap (λ (b : Bool). cond b 2 (cond (both_answered (after then ts)) 0 1)) (last_more ts)

  on : (n : ℕ) (s : Schedule) → t < 2 → at_work q t ≡ true → has_ended (suc n) q [] ≡ false → Allowed n then s → Allowed (suc n) q (begun t s)
  unfolding final
  on n s low work going h = record {
    busy = split (Busy q) t s.steps (low, work) h.busy;
    goes_on = split (Going (suc n) q) t s.steps going (λ b u r e. ended-more n b ∙ h.goes_on b u r e);
    ended = ended-more n s.steps ∙ h.ended;
    ending = h.ending ∙ sym (ending-more s.steps);
  }

  off : (n : ℕ) (s : Schedule) → Allowed (suc n) q (begun t s) → Allowed n then s
  unfolding final
  off n s h = record {
    busy = λ b u r e. h.busy (t ∷ b) u r (ap (λ (l : List ℕ). t ∷ l) e);
    goes_on = λ b u r e. sym (ended-more n b) ∙ h.goes_on (t ∷ b) u r (ap (λ (l : List ℕ). t ∷ l) e);
    ended = sym (ended-more n s.steps) ∙ h.ended;
    ending = h.ending ∙ ending-more s.steps;
  }

-- A refused step is the last.
module _ (n : ℕ) (q : Queue) (t : ℕ) (refused : is_refused (act q t Step).outcome ≡ true) where
  stop : t < 2 → at_work q t ≡ true → has_ended (suc n) q [] ≡ false → Allowed (suc n) q (begun t (ends 2))
  unfolding has_ended last_refused ending_of final
  stop low work going = record {
    busy = split (Busy q) t [] (low, work) (none (λ b. Busy q (t ∷ b)));
    goes_on = split (Going (suc n) q) t [] going (none (λ b. Going (suc n) q (t ∷ b)));
    ended = rw refused;
    ending = rw refused;
  }

  stopped : (ts : List ℕ) (e : ℕ) → Allowed (suc n) q (record { steps = t ∷ ts; ending = e })
      → ◌≡◌ {A = Schedule} (record { steps = t ∷ ts; ending = e }) (begun t (ends 2))
  unfolding has_ended last_refused ending_of final
  stopped [] e h = let z : e ≡ 2 = h.ending ∙ rw refused in ap (λ (x : ℕ). record { steps = t ∷ []; ending = x }) z
  stopped (u ∷ ts) e h =
      let z : true ≡ false = (rw refused at (h.goes_on (t ∷ []) u ts refl)) in
      clash (cc)

-- No step was made: a schedule ends there where both calls are answered, or no step may be made.
start : (n : ℕ) (q : Queue) → has_ended n q [] ≡ true → Allowed n q (record { steps = []; ending = ending_of q [] })
start n q e = record { busy = none (Busy q); goes_on = none (Going n q); ended = e; ending = refl }

module _ (n : ℕ) (q : Queue) (going : has_ended (suc n) q [] ≡ false) where
  through_allowed : (t : ℕ) (l : List Schedule) → t < 2 → ((s : Schedule) → Memᴰ s l → Allowed n (act q t Step).queue s)
      → (s : Schedule) → Memᴰ s (through q t l) → Allowed (suc n) q s
  through_allowed t l low ih s m = go (at_work q t) refl (act q t Step).outcome refl m
    where
      go : (b : Bool) → at_work q t ≡ b → (o : Outcome) → (act q t Step).outcome ≡ o → Memᴰ s (cond b (onwards t o l) []) → Allowed (suc n) q s
      go false w o e m = absurd (Memᴰ.not-nil m)
      go true w (Err why) e m =
          subst (Allowed (suc n) q) (sym (Memᴰ.eq_of_singleton m)) (stop n q t (ap is_refused e) low w going)
      go true w (Ok a) e m =
          let r = Memᴰ.of_map (begun t) l m in
          subst (Allowed (suc n) q) r.2 (on q t (ap is_refused e) n r.0 low w going (ih r.0 r.1))

  through-every : (t : ℕ) (l : List Schedule) (ts : List ℕ) (x : ℕ)
      → ((s : Schedule) → Allowed n (act q t Step).queue s → Memᴰ s l)
      → at_work q t ≡ true → Allowed (suc n) q (record { steps = t ∷ ts; ending = x })
      → Memᴰ (record { steps = t ∷ ts; ending = x }) (through q t l)
  through-every t l ts x ih w h = rw w (go (act q t Step).outcome refl)
    where
      go : (o : Outcome) → (act q t Step).outcome ≡ o → Memᴰ (record { steps = t ∷ ts; ending = x }) (onwards t o l)
      go (Err why) e = Memᴰ.head (stopped n q t (ap is_refused e) ts x h)
      go (Ok a) e =
          let s : Schedule = record { steps = ts; ending = x } in
          Memᴰ.map (begun t) (ih s (off q t (ap is_refused e) n s h))

module _ (n : ℕ) (q : Queue) where
  abbrev first : List Schedule
  first = schedules (act q 0 Step).queue n

  abbrev second : List Schedule
  second = schedules (act q 1 Step).queue n

  only-more : ((t : ℕ) (s : Schedule) → Memᴰ s (schedules (act q t Step).queue n) → Allowed n (act q t Step).queue s)
      → (s : Schedule) → Memᴰ s (schedules q (suc n)) → Allowed (suc n) q s
  unfolding schedules has_ended last_refused ending_of final
  only-more ih s m = go (both_answered q) refl m
    where
      go : (b : Bool) → both_answered q ≡ b → Memᴰ s (cond b (ends 0 ∷ []) (through q 0 first ++ through q 1 second)) → Allowed (suc n) q s
      go true e m =
          let z : s ≡ record { steps = []; ending = ending_of q [] } = Memᴰ.eq_of_singleton m ∙ rw e in
          subst (Allowed (suc n) q) (sym z) (start (suc n) q (rw e))
      go false e m =
          let going : has_ended (suc n) q [] ≡ false = rw (e, eqb-zero-suc n) in
          ⊎_elim
          (λ l. through_allowed n q going 0 first (omega arith) (ih 0) s l)
          (λ r. through_allowed n q going 1 second (omega arith) (ih 1) s r)
          (Memᴰ.append_cases (through q 0 first) m)

  every_more : ((t : ℕ) (s : Schedule) → Allowed n (act q t Step).queue s → Memᴰ s (schedules (act q t Step).queue n))
      → (ts : List ℕ) (x : ℕ) → Allowed (suc n) q (record { steps = ts; ending = x })
      → Memᴰ (record { steps = ts; ending = x }) (schedules q (suc n))
  unfolding schedules has_ended last_refused ending_of final
  every_more ih [] x h = go (both_answered q) (rw (eqb-zero-suc n) at h.ended) h.ending
    where
      go : (b : Bool) → b || false ≡ true → x ≡ cond b 0 1
          → Memᴰ (record { steps = []; ending = x }) (cond b (ends 0 ∷ []) (through q 0 first ++ through q 1 second))
      go true e z = Memᴰ.head (ap ends z)
      go false e z = clash (cc)
  every_more ih (t ∷ ts) x h = go (both_answered q) (rw (eqb-zero-suc n) at (h.goes_on [] t ts refl))
    where
      s : Schedule
      s = record { steps = t ∷ ts; ending = x }

      pick : (u : ℕ) → t ≡ u → u < 2 → Memᴰ s (through q t (schedules (act q t Step).queue n))
          → Memᴰ s (through q 0 first ++ through q 1 second)
      pick zero e low m = Memᴰ.append_left (through q 1 second) (subst (λ (v : ℕ). Memᴰ s (through q v (schedules (act q v Step).queue n))) e m)
      pick (suc zero) e low m =
          Memᴰ.append_right (through q 0 first) (subst (λ (v : ℕ). Memᴰ s (through q v (schedules (act q v Step).queue n))) e m)
      pick (suc (suc u)) e low m = absurd (omega arith)

      go : (b : Bool) → b || false ≡ false → Memᴰ s (cond b (ends 0 ∷ []) (through q 0 first ++ through q 1 second))
      go true e = clash (cc)
      go false e =
          let step = h.busy [] t ts refl in
          pick t refl step.0 (through-every n q (h.goes_on [] t ts refl) t (schedules (act q t Step).queue n) ts x (ih t) step.1 h)

only : (n : ℕ) (q : Queue) (s : Schedule) → Memᴰ s (schedules q n) → Allowed n q s
unfolding schedules has_ended last_refused ending_of final
only zero q s m = subst (Allowed 0 q) (sym (Memᴰ.eq_of_singleton m)) (start 0 q (go (both_answered q)))
  where
    go : (b : Bool) → b || true ≡ true
    go true = refl
    go false = refl
only (suc n) q s m = only-more n q (λ t. only n (act q t Step).queue) s m

every : (n : ℕ) (q : Queue) (s : Schedule) → Allowed n q s → Memᴰ s (schedules q n)
unfolding schedules has_ended last_refused ending_of final
every zero q s h = go s.steps s.ending h
  where
    go : (ts : List ℕ) (x : ℕ) → Allowed 0 q (record { steps = ts; ending = x }) → Memᴰ (record { steps = ts; ending = x }) (schedules q 0)
    go [] x h = Memᴰ.head (ap ends h.ending)
    go (t ∷ ts) x h = over (both_answered q) (h.goes_on [] t ts refl)
      where
        over : {A : Type 0} (b : Bool) → b || true ≡ false → A
        over true e = clash (cc)
        over false e = clash (cc)
every (suc n) q s h = every_more n q (λ t. every n (act q t Step).queue) s.steps s.ending h

pub only_allowed : OnlyAllowed
only_allowed q s m = only 48 q s m

pub every_allowed : EveryAllowed
every_allowed q s h = every 48 q s h
