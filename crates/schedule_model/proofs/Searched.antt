-- The search finds the first schedule after the remembered list in dictionary order.
use Rattle.std.specs.Prelude.{Err, Ok}
use mathlib.Core.{Path.{◌≡◌, refl, sym, ap, ◌∙◌}, Bool.{Bool, true, false, ◌||◌, ◌&&◌, not, cond}}
use mathlib.Core.List.{List, [], ◌∷◌, ◌++◌, map}
use Prim.Native.Nat.{ℕ, zero, suc, ◌+◌, ◌-◌, ◌<◌, ◌≤◌}
use native.Mathlib.Omega.{arith}
use lib.{Dec.{ltb, eqb, leb}, Arith.lt_of_le-ne, ListN.{length, get_or, take, drop, length-drop}}
use lib.Seq.{drop-cons, get_or-take, get_or-drop, length-take-le}
use borrow.Author.Tests.{leb-true, ltb-true, ltb-false, eqb-true, eqb-false, lt-ltb, le-ltb, eq-eqb, ne_eqb}
use Rattle.model.specs.Outcomes.{Outcome}
use Rattle.model.specs.{declared.Op.TheVariants.Step, Tables.Queue}
use Rattle.model.{specs.Calls.act, proofs.Tests.Truth.by_test}
use Rattle.schedule_model.specs.Schedules.{Schedule, ends, begun, at_work, both_answered, onwards, through}
use Rattle.schedule_model.specs.Schedules.{schedules, all_schedules}
use Rattle.schedule_model.specs.Next.{Next, given, no_more, precedes, first_after, memory_length, remembered}
use Rattle.schedule_model.specs.Search.{ended, or_else, prefixed, stepped, least, frees, tried, seek_by}
use Rattle.schedule_model.proofs.AnyStep.{seek_of}

-- The first of a list, if any will do, or if it must come after g.
abbrev pub pick : Bool → List ℕ → List Schedule → Next
pick true g [] = no_more
pick true g (s ∷ l) = given s
pick false g l = first_after g l

after-append : (g : List ℕ) (l m : List Schedule) → first_after g (l ++ m) ≡ or_else (first_after g l) (first_after g m)
unfolding first_after
after-append g [] m = refl
after-append g (s ∷ l) m = go (precedes g s.steps) (after-append g l m)
  where
    go : (b : Bool) → first_after g (l ++ m) ≡ or_else (first_after g l) (first_after g m)
        → cond b (given s) (first_after g (l ++ m)) ≡ or_else (cond b (given s) (first_after g l)) (first_after g m)
    go true e = refl
    go false e = e

pick_append : (f : Bool) (g : List ℕ) (l m : List Schedule) → pick f g (l ++ m) ≡ or_else (pick f g l) (pick f g m)
pick_append true g [] m = refl
pick_append true g (s ∷ l) m = refl
pick_append false g l m = after-append g l m

-- Schedules that begin with t: none is after u and g, all are, or those whose rest is after g.
none_after : (t u : ℕ) (g : List ℕ) (l : List Schedule) → ltb t u ≡ true → first_after (u ∷ g) (map (begun t) l) ≡ no_more
unfolding first_after precedes
none_after t u g [] e = refl
none_after t u g (s ∷ l) e =
    let h = ltb-true t u e in rw (le-ltb u t (omega (arith, h)), ne_eqb u t (λ z. omega (arith, h, z))) (none_after t u g l e)

rest-after : (t u : ℕ) (g : List ℕ) (l : List Schedule) → eqb t u ≡ true → first_after (u ∷ g) (map (begun t) l) ≡ prefixed t (first_after g l)
unfolding first_after precedes
rest-after t u g [] e = refl
rest-after t u g (s ∷ l) e =
    let h = eqb-true t u e in rw (le-ltb u t (omega (arith, h)), eq-eqb u t (sym h)) (go (precedes g s.steps) (rest-after t u g l e))
  where
    go : (b : Bool) → first_after (u ∷ g) (map (begun t) l) ≡ prefixed t (first_after g l)
        → cond b (given (begun t s)) (first_after (u ∷ g) (map (begun t) l)) ≡ prefixed t (cond b (given s) (first_after g l))
    go true e = refl
    go false e = e

first-begun : (t : ℕ) (g h : List ℕ) (l : List Schedule) → pick true g (map (begun t) l) ≡ prefixed t (pick true h l)
first-begun t g h [] = refl
first-begun t g h (s ∷ l) = refl

all_after : (t u : ℕ) (g h : List ℕ) (l : List Schedule) → ltb t u ≡ false → eqb t u ≡ false
    → first_after (u ∷ g) (map (begun t) l) ≡ prefixed t (pick true h l)
unfolding first_after precedes
all_after t u g h [] e d = refl
all_after t u g h (s ∷ l) e d = rw (lt-ltb u t (lt_of_le-ne (ltb-false t u e) (λ z. eqb-false t u d (sym z)))) refl

nil_after : (t : ℕ) (h : List ℕ) (l : List Schedule) → first_after [] (map (begun t) l) ≡ prefixed t (pick true h l)
unfolding first_after precedes
nil_after t h [] = refl
nil_after t h (s ∷ l) = refl

-- A refused step leaves one schedule, and nothing below it is looked at.
abbrev below : Outcome → List Schedule → List Schedule
below (Err why) l = ends 2 ∷ []
below (Ok a) l = l

onwards-is : (t : ℕ) (a : Outcome) (l : List Schedule) → onwards t a l ≡ map (begun t) (below a l)
onwards-is t (Err why) l = refl
onwards-is t (Ok a) l = refl

stepped-is : (t : ℕ) (a : Outcome) (f : Bool) (g : List ℕ) (l : List Schedule) → stepped t a f (pick f g l) ≡ prefixed t (pick f g (below a l))
unfolding first_after precedes
stepped-is t (Err why) true g l = refl
stepped-is t (Err why) false g l = refl
stepped-is t (Ok a) f g l = refl

-- Task t, where any schedule will do; where the list is at its end; where u stands next in it and g after that.
module _ (t : ℕ) (a : Outcome) (l : List Schedule) where
  to_free : (g h : List ℕ) → stepped t a true (pick true h l) ≡ pick true g (onwards t a l)
  to_free g h = stepped-is t a true h l ∙ sym (ap (pick true g) (onwards-is t a l) ∙ first-begun t g h (below a l))

  to_nil : (h : List ℕ) → stepped t a true (pick true h l) ≡ first_after [] (onwards t a l)
  to_nil h = stepped-is t a true h l ∙ sym (ap (first_after []) (onwards-is t a l) ∙ nil_after t h (below a l))

  to_cons : (u : ℕ) (g : List ℕ) → cond (ltb t u) no_more (stepped t a (not (eqb t u)) (pick (not (eqb t u)) g l)) ≡ first_after (u ∷ g) (onwards t a l)
  to_cons u g = go (ltb t u) (eqb t u) refl refl ∙ sym (ap (first_after (u ∷ g)) (onwards-is t a l))
    where
      go : (b e : Bool) → ltb t u ≡ b → eqb t u ≡ e
          → cond b no_more (stepped t a (not e) (pick (not e) g l)) ≡ first_after (u ∷ g) (map (begun t) (below a l))
      go true e x y = sym (none_after t u g (below a l) x)
      go false true x y = stepped-is t a false g l ∙ sym (rest-after t u g (below a l) y)
      go false false x y = stepped-is t a true g l ∙ sym (all_after t u g g (below a l) x y)

-- A task may be idle.
when : (w b f : Bool) (g : List ℕ) (l : List Schedule) (m : Next) → cond b no_more m ≡ pick f g l → cond (not w || b) no_more m ≡ pick f g (cond w l [])
unfolding first_after
when true b f g l m e = e
when false b true g l m e = refl
when false b false g l m e = refl

-- No step to go; and both tasks tried.
closed : (b f : Bool) (g : List ℕ) → cond b (ended f (ends 0)) (ended f (ends 1)) ≡ pick f g (ends (cond b 0 1) ∷ [])
unfolding first_after precedes
closed true true g = refl
closed false true g = refl
closed true false g = refl
closed false false g = refl

joined : (b f : Bool) (g : List ℕ) (x y : Next) (l m : List Schedule) → x ≡ pick f g l → y ≡ pick f g m
    → cond b (ended f (ends 0)) (or_else x y) ≡ pick f g (cond b (ends 0 ∷ []) (l ++ m))
unfolding first_after precedes
joined true true g x y l m h k = refl
joined true false g x y l m h k = refl
joined false f g x y l m h k = rw (h, k) (sym (pick_append f g l m))

-- A level of the search: b, the list binds, and then u stands next in it.
level : (t u : ℕ) (a : Outcome) (l : List Schedule) (w f b : Bool) (g h : List ℕ) → (b ≡ true → g ≡ u ∷ h) → (b ≡ false → g ≡ [])
    → let z = not (not f && b) || not (eqb t u) in
    cond (not w || ((not f && b) && ltb t u)) no_more (stepped t a z (pick z h l)) ≡ pick f g (cond w (onwards t a l) [])
level t u a l w true b g h yet over = when w false true g (onwards t a l) _ (to_free t a l g h)
level t u a l w false true g h yet over =
    when w (ltb t u) false (u ∷ h) (onwards t a l) _ (to_cons t a l u h)
    ∙ ap (λ (r : List ℕ). first_after r (cond w (onwards t a l) [])) (sym (yet refl))
level t u a l w false false g h yet over =
    when w false false [] (onwards t a l) _ (to_nil t a l h)
    ∙ ap (λ (r : List ℕ). first_after r (cond w (onwards t a l) [])) (sym (over refl))

drop_past : (n : ℕ) (l : List ℕ) → length l ≤ n → drop n l ≡ []
drop_past zero [] h = refl
drop_past zero (x ∷ l) h = absurd (omega arith)
drop_past (suc n) [] h = refl
drop_past (suc n) (x ∷ l) h = drop_past n l (omega arith)

-- The memory's length is at most 48.
short : (n : ℕ) → cond (leb n 48) n 48 ≤ 48
short n = by_test (λ (m : ℕ). m ≤ 48) (leb n 48) (λ e. leb-true n 48 e) (λ _. omega arith)

module _ (ws : List ℕ) (len : ℕ) (few : len ≤ 48) (enough : 49 ≤ length ws) where
  abbrev list : List ℕ
  list = take len (drop 1 ws)

  -- What is left of it with n steps to go.
  abbrev left : ℕ → List ℕ
  left n = drop (48 - n) list

  long : length list ≡ len
  long = length-take-le len (drop 1 ws) (rw (length-drop 1 ws) (omega (arith, few, enough)))

  yet : (n : ℕ) → suc n ≤ 48 → ltb (48 - suc n) len ≡ true → left (suc n) ≡ least ws (suc n) ∷ left n
  yet n h e =
      let j = 48 - suc n in
      let i : j < len = ltb-true j len e in
      let x : 1 + j ≡ 49 - suc n = omega (arith, h) in
      let y : suc j ≡ 48 - n = omega (arith, h) in
      drop-cons list j 0 (rw long i)
      ∙ ap (λ (v : ℕ). v ∷ drop (suc j) list) (get_or-take len (drop 1 ws) j 0 i ∙ get_or-drop 1 ws j 0 ∙ ap (λ (k : ℕ). get_or ws k 0) x)
      ∙ ap (λ (k : ℕ). least ws (suc n) ∷ drop k list) y

  over : (n : ℕ) → ltb (48 - suc n) len ≡ false → left (suc n) ≡ []
  over n e = drop_past (48 - suc n) list (rw long (ltb-false (48 - suc n) len e))

  at : (n : ℕ) → suc n ≤ 48 → (f : Bool) (q : Queue) (t : ℕ) → ((f : Bool) (q : Queue) → seek_of ws len n f q ≡ pick f (left n) (schedules q n))
      → tried ws len (suc n) f q t (act q t Step).outcome (seek_of ws len n (frees ws len (suc n) f t) (act q t Step).queue)
      ≡ pick f (left (suc n)) (through q t (schedules (act q t Step).queue n))
  at n h f q t below =
      let d = act q t Step in
      ap (λ (m : Next). tried ws len (suc n) f q t d.outcome m) (below (frees ws len (suc n) f t) d.queue)
      ∙ level t (least ws (suc n)) d.outcome (schedules d.queue n) (at_work q t) f (ltb (48 - suc n) len) (left (suc n)) (left n) (yet n h) (over n)

  pub search_is : (n : ℕ) → n ≤ 48 → (f : Bool) (q : Queue) → seek_of ws len n f q ≡ pick f (left n) (schedules q n)
  unfolding seek_by schedules
  search_is zero h f q = closed (both_answered q) f (left zero)
  search_is (suc n) h f q =
      let below = search_is n (omega (arith, h)) in
      joined (both_answered q) f (left (suc n)) _ _ _ _ (at n h f q 0 below) (at n h f q 1 below)

-- The search is the definition: with the whole list, bound by it.
pub finds : (ws : List ℕ) (q : Queue) → 49 ≤ length ws → seek_of ws (memory_length ws) 48 false q ≡ first_after (remembered ws) (all_schedules q)
unfolding remembered
finds ws q enough = search_is ws (memory_length ws) (short (get_or ws 0 0)) enough 48 (omega arith) false q
