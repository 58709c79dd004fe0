-- Beginning with zeros, repeated calls hand out each schedule once, and then no more.
use Rattle.std.specs.Prelude.{Err, Ok}
use mathlib.Core.{Path.{◌≡◌, refl, sym, ap, subst, ◌∙◌}, Bool.{Bool, true, false, cond}}
use mathlib.Core.List.{List, [], ◌∷◌, ◌++◌, map}
use Prim.Native.Nat.{ℕ, zero, suc, ◌+◌, ◌<◌, ◌≤◌}
use native.Mathlib.{Nat.{zero-add, suc-add}, Omega.arith}
use lib.{ListN.{length, get_or, drop, replicate}, Seq.{sets-eq, length-sets, take-append_seam}}
use borrow.Author.Tests.{le-leb, ne_eqb}
use Rattle.model.specs.Outcomes.{Outcome}
use Rattle.model.specs.{declared.Op.TheVariants.Step, Tables.Queue}
use Rattle.model.{specs.{Calls.act, Lists.All}, proofs.Lists.All.{all_map, all_append}}
use Rattle.schedule_model.specs.Schedules.{Schedule, ends, begun, at_work, both_answered, onwards, through}
use Rattle.schedule_model.specs.{Schedules.{schedules, all_schedules}, Next.{schedule_refusal, next_schedule}}
use Rattle.schedule_model.specs.Next.{Next, given, no_more, precedes, first_after, remembered, storing, handing}
use Rattle.schedule_model.specs.Claims.{told, calls, Pairwise, Enumerates}
use Rattle.schedule_model.proofs.{Order.{never_self, precedes_trans, not_back}, Admitted.{at_work_lem, memory}}
use Rattle.schedule_model.proofs.Pairs.{Starts, through_starts, in_order}

-- Those after g.
after : List ℕ → List Schedule → List Schedule
after g [] = []
after g (s ∷ l) = cond (precedes g s.steps) (s ∷ after g l) (after g l)

front : List Schedule → Next
front [] = no_more
front (s ∷ l) = given s

front_is : (g : List ℕ) (l : List Schedule) → first_after g l ≡ front (after g l)
unfolding first_after after front
front_is g [] = refl
front_is g (s ∷ l) = go (precedes g s.steps) (front_is g l)
  where
    go : (b : Bool) → first_after g l ≡ front (after g l) → cond b (given s) (first_after g l) ≡ front (cond b (s ∷ after g l) (after g l))
    go true e = refl
    go false e = e

abbrev Later : List ℕ → Schedule → Type 0
Later g x = precedes g x.steps ≡ true

all_after : (g : List ℕ) (l : List Schedule) → All (Later g) l → after g l ≡ l
unfolding after
all_after g [] h = refl
all_after g (s ∷ l) h = rw h.0 (ap (λ (r : List Schedule). s ∷ r) (all_after g l h.1))

front_has : (P : Schedule → Type 0) (g : List ℕ) (l : List Schedule) (s : Schedule) (r : List Schedule) → All P l → after g l ≡ s ∷ r → P s
unfolding after
front_has P g [] s r h e = absurd (let z : ◌≡◌ {A = ℕ} 0 1 = cc in omega arith)
front_has P g (x ∷ l) s r h e = go (precedes g x.steps) e (front_has P g l s r h.1)
  where
    go : (b : Bool) → cond b (x ∷ after g l) (after g l) ≡ s ∷ r → (after g l ≡ s ∷ r → P s) → P s
    go true e f = let z : x ≡ s = cc in subst P z h.0
    go false e f = f e

-- What comes after the first of those after g.
abbrev InLine : List Schedule → Type 0
InLine = Pairwise (λ s x. precedes s.steps x.steps ≡ true)

abbrev Rest : Schedule → List Schedule → List Schedule → Schedule → Type 0
Rest x l r t = cond (precedes t.steps x.steps) (x ∷ after t.steps l) (after t.steps l) ≡ r

rest-is : (g : List ℕ) (l : List Schedule) (s : Schedule) (r : List Schedule) → InLine l → after g l ≡ s ∷ r → after s.steps l ≡ r
unfolding after
rest-is g [] s r o e = absurd (let z : ◌≡◌ {A = ℕ} 0 1 = cc in omega arith)
rest-is g (x ∷ l) s r o e = go (precedes g x.steps) refl e (rest-is g l s r o.1)
  where
    go : (b : Bool) → precedes g x.steps ≡ b → cond b (x ∷ after g l) (after g l) ≡ s ∷ r
        → (after g l ≡ s ∷ r → after s.steps l ≡ r) → Rest x l r s
    go true h e f =
        let z : x ≡ s = cc in
        let w : after g l ≡ r = cc in
        let v = all_map (Later x.steps) (Later g) (λ y k. precedes_trans g x.steps y.steps h k) l o.0 in
        subst (Rest x l r) z (rw (never_self x.steps) (all_after x.steps l o.0 ∙ sym (all_after g l v) ∙ w))
    go false h e f = rw (not_back x.steps s.steps (front_has (Later x.steps) g l s r o.0 e)) (f e)

-- A schedule has as many steps as there were to go, or fewer, and its ending is not that of no more.
record Fits (n : ℕ) (s : Schedule) : Type 0 where
  short : length s.steps ≤ n
  ending : s.ending < 3

begun-fits : (n t : ℕ) (l : List Schedule) → All (Fits n) l → All (Fits (suc n)) (map (begun t) l)
begun-fits n t [] h = tt
begun-fits n t (x ∷ l) h = (record { short = omega (arith, h.0.short); ending = h.0.ending }, begun-fits n t l h.1)

through-fits : (n : ℕ) (q : Queue) (t : ℕ) (l : List Schedule) → All (Fits n) l → All (Fits (suc n)) (through q t l)
through-fits n q t l h = go (at_work q t) (act q t Step).outcome
  where
    go : (b : Bool) (a : Outcome) → All (Fits (suc n)) (cond b (onwards t a l) [])
    go true (Err why) = (record { short = omega arith; ending = omega arith }, tt)
    go true (Ok a) = begun-fits n t l h
    go false a = tt

fits : (q : Queue) (n : ℕ) → All (Fits n) (schedules q n)
unfolding schedules
fits q zero = go (both_answered q)
  where
    go : (b : Bool) → All (Fits 0) (ends (cond b 0 1) ∷ [])
    go true = (record { short = omega arith; ending = omega arith }, tt)
    go false = (record { short = omega arith; ending = omega arith }, tt)
fits q (suc n) =
    let a = (act q 0 Step).queue in
    let b = (act q 1 Step).queue in
    go (both_answered q) (schedules a n) (schedules b n) (fits a n) (fits b n)
  where
    go : (b : Bool) (l m : List Schedule) → All (Fits n) l → All (Fits n) m → All (Fits (suc n)) (cond b (ends 0 ∷ []) (through q 0 l ++ through q 1 m))
    go true l m h k = (record { short = omega arith; ending = omega arith }, tt)
    go false l m h k = all_append (Fits (suc n)) (through q 0 l) (through q 1 m) (through-fits n q 0 l h) (through-fits n q 1 m k)

-- With a task at work no schedule is empty.
some_step : (t : ℕ) (l : List Schedule) → All (Starts t) l → All (Later []) l
unfolding precedes
some_step t l h = all_map (Starts t) (Later []) (λ y j. rw j.1 refl) l h

nonempty : (n : ℕ) (q : Queue) → both_answered q ≡ false → All (Later []) (schedules q (suc n))
unfolding schedules
nonempty n q e =
    let l = schedules (act q 0 Step).queue n in
    let m = schedules (act q 1 Step).queue n in
    rw e
    (all_append (Later []) (through q 0 l) (through q 1 m)
    (some_step 0 (through q 0 l) (through_starts q 0 l))
    (some_step 1 (through q 1 m) (through_starts q 1 m)))

-- What is stored is read again.
stored : (l ws : List ℕ) → length l ≤ 48 → 49 ≤ length ws → storing l ws ≡ length l ∷ (l ++ drop (0 + suc (length l)) ws)
unfolding storing
stored l ws h k = sets-eq (length l ∷ l) ws 0 (omega (arith, h, k))

read_back : (l ws : List ℕ) → length l ≤ 48 → 49 ≤ length ws → remembered (storing l ws) ≡ l
unfolding remembered
read_back l ws h k = rw (stored l ws h k, le-leb (length l) 48 h) (take-append_seam l (drop (0 + suc (length l)) ws))

told_is : (s : Schedule) (ws : List ℕ) → Fits 48 s → 49 ≤ length ws → told (handing ws (given s)) ≡ given s
told_is s ws h k =
    rw (ne_eqb s.ending 3 (λ e. omega (arith, e, h.ending)), stored s.steps ws h.short k)
    (ap (λ (l : List ℕ). given (record { steps = l; ending = s.ending })) (take-append_seam s.steps (drop (0 + suc (length s.steps)) ws)))

same-refusal : (q : Queue) (l ws : List ℕ) → schedule_refusal q (storing l ws) ≡ schedule_refusal q ws
unfolding schedule_refusal storing
same-refusal q l ws = rw (length-sets ws 0 (length l ∷ l)) refl

long : (l ws : List ℕ) → 49 ≤ length ws → 49 ≤ length (storing l ws)
unfolding storing
long l ws h = rw (length-sets ws 0 (length l ∷ l)) h

forgotten : (ws : List ℕ) → get_or ws 0 0 ≡ 0 → remembered ws ≡ []
unfolding remembered
forgotten ws e = rw e refl

-- As many calls as there are schedules left, and one more.
module _ (q : Queue) where
  next-is : (ws : List ℕ) → schedule_refusal q ws ≡ 0 → next_schedule q ws ≡ handing ws (front (after (remembered ws) (all_schedules q)))
  unfolding next_schedule
  next-is ws e = rw (e, front_is (remembered ws) (all_schedules q)) refl

  no-more : (k : ℕ) (ws : List ℕ) → schedule_refusal q ws ≡ 0 → after (remembered ws) (all_schedules q) ≡ [] → calls q k ws ≡ replicate k no_more
  unfolding calls front
  no-more zero ws ok e = refl
  no-more (suc k) ws ok e = rw (next-is ws ok, e) (ap (λ (r : List Next). no_more ∷ r) (no-more k ws ok e))

  hands_out : (l : List Schedule) (k : ℕ) (ws : List ℕ) → schedule_refusal q ws ≡ 0 → 49 ≤ length ws → after (remembered ws) (all_schedules q) ≡ l
      → calls q (length l + k) ws ≡ map given l ++ replicate k no_more
  unfolding calls front
  hands_out [] k ws ok h e = rw (zero-add k) (no-more k ws ok e)
  hands_out (s ∷ l) k ws ok h e =
      let g = remembered ws in
      let f = front_has (Fits 48) g (all_schedules q) s l (fits q 48) e in
      let m = storing s.steps ws in
      let again : after (remembered m) (all_schedules q) ≡ l = rw (read_back s.steps ws f.short h) (rest-is g (all_schedules q) s l (in_order q 48) e) in
      rw (suc-add (length l) k, next-is ws ok, e, told_is s ws f h)
      (ap (λ (r : List Next). given s ∷ r) (hands_out l k m (same-refusal q s.steps ws ∙ ok) (long s.steps ws h) again))

pub enumerates : Enumerates
enumerates q ws k ok begin =
    let all = all_after [] (all_schedules q) (nonempty 47 q (at_work_lem q ws ok)) in
    hands_out q (all_schedules q) k ws ok (memory q ws ok) (ap (λ (g : List ℕ). after g (all_schedules q)) (forgotten ws begin) ∙ all)
