-- The joining by pushes is the joining word by word.
use mathlib.Core.{Path.{◌≡◌, refl, sym, ap, ◌∙◌}, Bool.{Bool, true, false, cond}, List.{List, [], ◌∷◌, ◌++◌}}
use Prim.Native.Nat.{ℕ, ◌<◌, ◌≤◌}
use lib.{Dec.eqb, ListN.length}
use borrow.Author.Tests.{eqb-true, ltb-false, ltb-true, not-false}
use Rattle.model.specs.{Tables.Queue, Report.busy, History.run, Lists.All, Walk.{contents, is_broken}}
use Rattle.model.{specs.Refusals.{Rule, rule, first}, proofs.Tests.{Rules.{tests, cleared}, Truth.{and-true, split}}}
use Rattle.join_model.specs.Join.{anchor_in, lanes, pushes, outcomes, any_late, source_tests, source_fits, third_fits}
use Rattle.join_model.specs.Join.{at_rest, fresh, rules_before33, join_rules, join_refusal, Joined, joined, join}
use Rattle.join_model.specs.Closed.{late_for, held, holding, closed_refusal, join_closed}
use Rattle.join_model.specs.Laws.{ClosedForm, AllAnswered, NotLent, answers, besides}
use Rattle.join_model.proofs.{Fresh.{Fresh, is-fresh}, Ran.Ran, Lanes.{late_is, pushed-is}}

-- A last rule counts only where none before it applies.
same-last : (l : List Rule) (n : ℕ) (b c : Bool) → (first l ≡ 0 → b ≡ c) → first (l ++ (rule n b ∷ [])) ≡ first (l ++ (rule n c ∷ []))
same-last [] n b c h = rw (h refl)
same-last (r ∷ l) n b c h = go r.applies refl (λ g. same-last l n b c g)
  where
    go : (x : Bool) → r.applies ≡ x → ((first l ≡ 0 → b ≡ c) → first (l ++ (rule n b ∷ [])) ≡ first (l ++ (rule n c ∷ [])))
        → first ((r ∷ l) ++ (rule n b ∷ [])) ≡ first ((r ∷ l) ++ (rule n c ∷ []))
    go true e more = rw e
    go false e more = rw e (more (λ z. h (rw e z)))

-- What the rules before 33 leave: of a source, that its Left words are there, it is STABLE and its walk is not broken.
pub record Rests (q : Queue) : Type 0 where
  pub rows : q.tables.control.slots < length q.tables.lefts
  pub stable : (anchor_in q).status ≡ 0
  pub walks : is_broken (contents q.tables) ≡ false

pub record Admitted (a b q : Queue) : Type 0 where
  pub first : Rests a
  pub second : Rests b
  pub third : Fresh q
  pub room : length (lanes a b) ≤ q.tables.control.slots

rests : (q : Queue) → source_fits q ≡ true → at_rest q ≡ true → is_broken (contents q.tables) ≡ false → Rests q
unfolding source_fits at_rest
rests q f e w = record {
  rows = ltb-true _ _ (tests (source_tests q) f).0;
  stable = eqb-true _ _ (and-true (eqb (busy q) 0) (eqb (anchor_in q).status 0) e).1;
  walks = w;
}

admit : (a b q : Queue) (more : List Rule) → All (λ (r : Rule). r.applies ≡ false) (rules_before33 a b q ++ more) → Admitted a b q
admit a b q more z =
    let later = z.1.1.1 in
    let fit = tests (source_fits a ∷ source_fits b ∷ third_fits q ∷ []) (not-false _ later.0) in
    let rest = tests (at_rest a ∷ at_rest b ∷ fresh q ∷ []) (not-false _ later.1.1.1.0) in
    record {
      first = rests a fit.0 rest.0 later.1.0;
      second = rests b fit.1.0 rest.1.0 later.1.1.0;
      third = is-fresh q (not-false _ z.1.1.0) fit.1.1.0 rest.1.1.0;
      room = ltb-false _ _ later.1.1.1.1.0;
    }

module _ (a b q : Queue) where
  -- 33 by the pushes and by the tag.
  pub same-refusal : join_refusal a b q ≡ closed_refusal a b q
  unfolding join_refusal closed_refusal
  same-refusal =
      same-last (rules_before33 a b q) 33 (any_late (outcomes (run q (pushes 1 (lanes a b))))) (late_for (anchor_in q).tag (length (lanes a b)))
      (λ e. let g = admit a b q [] (cleared (rules_before33 a b q) refl e) in late_is q g.third (lanes a b) g.room)

  abbrev late : Bool
  late = late_for (anchor_in q).tag (length (lanes a b))

  pub accepted : closed_refusal a b q ≡ 0 → Admitted a b q × (late ≡ false)
  unfolding closed_refusal
  accepted e =
      let z = cleared (join_rules a b q late) refl e in
      let later = z.1.1.1.1 in
      (admit a b q (rule 33 late ∷ []) z, later.1.1.1.1.0)

  pub joins : closed_refusal a b q ≡ 0 → Ran q (pushes 1 (lanes a b)) (holding q (lanes a b)) (answers (lanes a b))
  joins e = let g = accepted e in pushed-is q g.0.third (lanes a b) g.0.room g.1

  pub closed_join : join a b q ≡ join_closed a b q
  unfolding join join_closed
  closed_join =
      rw same-refusal
      (split (eqb (closed_refusal a b q) 0)
      (λ e. rw e (ap (λ (z : Queue). record { code = closed_refusal a b q; third = z }) (joins (eqb-true _ _ e)).leaves))
      (λ e. rw e))

  answers-all : join_refusal a b q ≡ 0 → outcomes (run q (pushes 1 (lanes a b))) ≡ answers (lanes a b)
  answers-all e = (joins (sym same-refusal ∙ e)).says

pub closed_form : ClosedForm
closed_form a b q = closed_join a b q

pub all-answered : AllAnswered
all-answered a b q e = answers-all a b q e

-- The closed form looks at nothing that is not lent, and hands the third's next table on.
module _ (a b q : Queue) (marks1 next1 marks2 next2 next : List ℕ) where
  abbrev other : Queue → Queue
  other z = besides z z.tables.marks next

  laid_other : (x : Bool) (l : List ℕ) → cond x (holding (other q) l) (other q) ≡ other (cond x (holding q l) q)
  unfolding holding held
  laid_other true [] = refl
  laid_other true (y ∷ l) = refl
  laid_other false l = refl

  same-lanes : lanes (besides a marks1 next1) (besides b marks2 next2) ≡ lanes a b
  unfolding contents
  same-lanes = refl

  closed_other : closed_refusal (besides a marks1 next1) (besides b marks2 next2) (other q) ≡ closed_refusal a b q
  unfolding closed_refusal contents source_fits third_fits at_rest fresh busy
  closed_other = refl

pub not_lent : NotLent
unfolding join_closed
not_lent a b q marks1 next1 marks2 next2 next =
    let l = lanes a b in
    let why = closed_refusal a b q in
    let put : Joined → Joined = λ j. record { code = j.code; third = besides j.third j.third.tables.marks next } in
    closed_join (besides a marks1 next1) (besides b marks2 next2) (besides q q.tables.marks next)
    ∙ (λ i. joined (closed_other a b q marks1 next1 marks2 next2 next i) (besides q q.tables.marks next)
    (holding (besides q q.tables.marks next) (same-lanes a b q marks1 next1 marks2 next2 next i)))
    ∙ ap (λ (z : Queue). record { code = why; third = z }) (laid_other a b q marks1 next1 marks2 next2 next (eqb why 0) l)
    ∙ ap put (sym (closed_join a b q))
