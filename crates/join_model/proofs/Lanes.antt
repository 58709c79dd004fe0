-- All labels pushed by task 0 alone: the closed form, the outcomes, and 33 by the tag at the last start.
use mathlib.Core.{Path.{◌≡◌, refl, ap, subst, ◌∙◌}, Bool.{Bool, true, false, ◌||◌}, List.{List, [], ◌∷◌, ◌++◌}}
use Prim.Native.Nat.{ℕ, suc, ◌+◌, ◌-◌, ◌<◌, ◌≤◌}
use native.Mathlib.Omega.{arith}
use lib.{Dec.ltb, ListN.{length, get_or}}
use borrow.Author.Tests.{ne_eqb, ltb-true, ltb-false, lt-ltb}
use Rattle.word.specs.declared.Anchor.{Anchor}
use Rattle.model.specs.Outcomes.{Outcome}
use Rattle.model.specs.{Tables.Queue, History.{Request, run, final}}
use Rattle.model.proofs.Tests.Truth.{split, or-false}
use Rattle.join_model.specs.Join.{anchor_in, push_alone, pushes, outcomes, any_late}
use Rattle.join_model.specs.Laws.{answers_one, answers_next, answers_more, answers}
use Rattle.join_model.specs.Closed.{label_of, tag_after, held, holding, late_for}
use Rattle.join_model.proofs.{Ran.{Ran, ran-none, ran_on}, Pushed.turned_away, Fresh.Fresh}
use Rattle.join_model.proofs.Pushes.{ready, begins, prepared, held_reads, one_more}

-- The labels l are those of f from k on.
abbrev Follows : (ℕ → ℕ) → ℕ → List ℕ → Type 0
Follows f k [] = Unit {0}
Follows f k (x ∷ l) = (f k ≡ x) × Follows f (suc k) l

follows : (f : ℕ → ℕ) (k : ℕ) (l : List ℕ) → ((i : ℕ) → f (k + i) ≡ get_or l i 0) → Follows f k l
follows f k [] h = tt
follows f k (x ∷ l) h =
    let here : k ≡ k + 0 = omega arith in
    (ap f here ∙ h 0, follows f (suc k) l (λ i. let there : suc k + i ≡ k + suc i = omega arith in ap f there ∙ h (suc i)))

pub own_labels : (l : List ℕ) → Follows (label_of l) 1 l
own_labels l = follows (label_of l) 1 l (λ i. let e : 1 + i ≡ suc i = omega arith in ap (label_of l) e)

-- What is said of a list of requests and of those after it.
said_on : {q mid : Queue} (os ps : List Request) {l : List Outcome} → Ran q os mid l → outcomes (run q (os ++ ps)) ≡ l ++ outcomes (run mid ps)
said_on {mid = mid} os ps r = (ran_on {after = final mid ps} os ps {m = outcomes (run mid ps)} r (record { leaves = refl; says = refl })).says

or_nothing : (b : Bool) → b || false ≡ b
or_nothing true = refl
or_nothing false = refl

module _ (q : Queue) (fresh : Fresh q) (f : ℕ → ℕ) where
  abbrev slots : ℕ
  slots = q.tables.control.slots

  abbrev tag : ℕ
  tag = (anchor_in q).tag

  -- A start of the labels l is late, where m labels were pushed before the last one.
  abbrev late_from : ℕ → List ℕ → Bool
  late_from m [] = false
  late_from m (x ∷ l) = ltb 4294967262 (tag_after tag (suc m)) || late_from (suc m) l

  abbrev Known : ℕ → Type 0
  Known m = tag_after tag (suc m) ≤ 4294967264

  known_more : (m : ℕ) → ltb 4294967262 (tag_after tag (suc m)) ≡ false → Known (suc m)
  known_more m e = let z = ltb-false 4294967262 (tag_after tag (suc m)) e in omega arith

  one : (x : ℕ) (m : ℕ) → f (suc (suc m)) ≡ x → suc m < slots → Known m → ltb 4294967262 (tag_after tag (suc m)) ≡ false
      → Ran (held q m f) (push_alone (suc (suc m)) x) (held q (suc m) f) answers_next
  one x m e h k early = subst (λ (x : ℕ). Ran (held q m f) (push_alone (suc (suc m)) x) (held q (suc m) f) answers_next) e (one_more q fresh f m h k early)

  rest : (l : List ℕ) (m : ℕ) → Follows f (suc (suc m)) l → suc m + length l ≤ slots → Known m → late_from m l ≡ false
      → Ran (held q m f) (pushes (suc (suc m)) l) (held q (m + length l) f) (answers_more l)
  rest [] m e h k late =
      let z : m ≡ m + 0 = omega arith in
      subst (λ (n : ℕ). Ran (held q m f) [] (held q n f) []) z (ran-none (held q m f))
  rest (x ∷ l) m e h k late =
      let z : suc m + length l ≡ m + suc (length l) = omega arith in
      let no = or-false _ _ late in
      let first = one x m e.0 (omega arith) k no.0 in
      let others = rest l (suc m) e.1 (omega arith) (known_more m no.0) no.1 in
      subst (λ (n : ℕ). Ran (held q m f) (pushes (suc (suc m)) (x ∷ l)) (held q n f) (answers_next ++ answers_more l)) z
      (ran_on (push_alone (suc (suc m)) x) (pushes (suc (suc (suc m))) l) first others)

  late-rest : (l : List ℕ) (m : ℕ) → Follows f (suc (suc m)) l → suc m + length l ≤ slots → Known m
      → any_late (outcomes (run (held q m f) (pushes (suc (suc m)) l))) ≡ late_from m l
  unfolding run
  late-rest [] m e h k = refl
  late-rest (x ∷ l) m e h k = split (ltb 4294967262 (tag_after tag (suc m)))
      (λ late. let z = turned_away (held q m f) (suc m) x (prepared q fresh f m (omega arith) k) (now-late late) in rw (z, late))
      (λ early. rw early
      (ap any_late (said_on (push_alone (suc (suc m)) x) (pushes (suc (suc (suc m))) l) (one x m e.0 (omega arith) k early))
      ∙ late-rest l (suc m) e.1 (omega arith) (known_more m early)))
    where
      now-late : ltb 4294967262 (tag_after tag (suc m)) ≡ true → ltb 4294967262 (anchor_in (held q m f)).tag ≡ true
      now-late late = ap (λ (a : Anchor). ltb 4294967262 a.tag) (held_reads q fresh f m (omega arith) k) ∙ late

  -- From the fresh queue on.
  module _ (x : ℕ) (l : List ℕ) (labels : Follows f 1 (x ∷ l)) (room : suc (length l) ≤ slots) where
    start : ltb 4294967262 tag ≡ false → Ran q (push_alone 1 x) (held q 0 f) answers_one
    start e = subst (λ (x : ℕ). Ran q (push_alone 1 x) (held q 0 f) answers_one) labels.0 (begins q fresh f (omega arith) e)

    fits : 1 + length l ≤ slots
    fits = omega arith

    known : ltb 4294967262 tag ≡ false → Known 0
    known e = let z = ltb-false 4294967262 tag e in omega arith

    pub all-late : any_late (outcomes (run q (pushes 1 (x ∷ l)))) ≡ ltb 4294967262 tag || late_from 0 l
    unfolding run
    all-late = split (ltb 4294967262 tag)
        (λ late. let z = turned_away q 0 x (ready q fresh f (omega arith)) late in rw (z, late))
        (λ early. rw early
        (ap any_late (said_on (push_alone 1 x) (pushes 2 l) (start early)) ∙ late-rest l 0 labels.1 (omega arith) (known early)))

    pub all-pushed : ltb 4294967262 tag || late_from 0 l ≡ false → Ran q (pushes 1 (x ∷ l)) (held q (length l) f) (answers_one ++ answers_more l)
    all-pushed e =
        let z : 0 + length l ≡ length l = omega arith in
        let no = or-false _ _ e in
        subst (λ (n : ℕ). Ran q (pushes 1 (x ∷ l)) (held q n f) (answers_one ++ answers_more l)) z
        (ran_on (push_alone 1 x) (pushes 2 l) (start no.0) (rest l 0 labels.1 fits (known no.0) no.1))

  -- The last start's tag is the highest.
  higher : (a b : ℕ) → a ≤ b → ltb 4294967262 a || ltb 4294967262 b ≡ ltb 4294967262 b
  higher a b h = split (ltb 4294967262 a)
      (λ e. rw (e, lt-ltb 4294967262 b (omega (arith, ltb-true 4294967262 a e))))
      (λ e. rw e)

  last-late : (m x : ℕ) (l : List ℕ) → late_from m (x ∷ l) ≡ ltb 4294967262 (tag_after tag (suc m + length l))
  last-late m x [] =
      let z : suc m ≡ suc m + 0 = omega arith in
      or_nothing _ ∙ ap (λ (n : ℕ). ltb 4294967262 (tag_after tag n)) z
  last-late m x (y ∷ l) =
      let z : suc (suc m) + length l ≡ suc m + suc (length l) = omega arith in
      ap (λ (b : Bool). ltb 4294967262 (tag_after tag (suc m)) || b) (last-late (suc m) y l)
      ∙ higher (tag_after tag (suc m)) (tag_after tag (suc (suc m) + length l)) (omega arith)
      ∙ ap (λ (n : ℕ). ltb 4294967262 (tag_after tag n)) z

  some_late : (l : List ℕ) → ltb 4294967262 tag || late_from 0 l ≡ late_for tag (suc (length l))
  unfolding late_for
  some_late [] = or_nothing _
  some_late (y ∷ l) =
      let n = length l in
      let z : 1 + n ≡ suc (suc n) - 1 = omega arith in
      rw (ne_eqb (suc (suc n)) 0 (λ e. omega arith), ne_eqb (suc (suc n)) 1 (λ e. omega arith))
      (ap (λ (b : Bool). ltb 4294967262 tag || b) (last-late 0 y l)
      ∙ higher tag (tag_after tag (1 + n)) (omega arith)
      ∙ ap (λ (n : ℕ). ltb 4294967262 (tag_after tag n)) z)

module _ (q : Queue) (fresh : Fresh q) where
  pub late_is : (l : List ℕ) → length l ≤ q.tables.control.slots → any_late (outcomes (run q (pushes 1 l))) ≡ late_for (anchor_in q).tag (length l)
  unfolding run late_for
  late_is [] h = refl
  late_is (x ∷ l) h = all-late q fresh (label_of (x ∷ l)) x l (own_labels (x ∷ l)) h ∙ some_late q fresh (label_of (x ∷ l)) l

  pub pushed-is : (l : List ℕ) → length l ≤ q.tables.control.slots → late_for (anchor_in q).tag (length l) ≡ false
      → Ran q (pushes 1 l) (holding q l) (answers l)
  unfolding holding
  pushed-is [] h e = ran-none q
  pushed-is (x ∷ l) h e = all-pushed q fresh (label_of (x ∷ l)) x l (own_labels (x ∷ l)) h (some_late q fresh (label_of (x ∷ l)) l ∙ e)
