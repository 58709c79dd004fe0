-- The call's steps, one after the other, make up its meaning.
use mathlib.Core.{Bool.{Bool, true, false, not, ◌&&◌, cond}, List.{List, []}, Path.{◌≡◌, refl, sym, ap, subst, ◌∙◌}}
use Prim.Native.Nat.{ℕ, ◌≤◌}
use native.Mathlib.Omega.{arith}
use lib.{Dec.{eqb, leb}, ListN.length}
use borrow.Author.Tests.{leb-true, eqb-true, eqb-false}
use Rattle.model.specs.{declared.Control.Control, Tables.Tables, Sound.{control_tests, control_sound, rows_fit}}
use Rattle.model.specs.Walk.{Walk, entries, broken, walk_from, contents, is_broken, met}
use Rattle.model.proofs.Tests.{Truth.{and-true, split}, Rules.tests}
use Rattle.sheet_model.specs.{declared.SheetReply.SheetReply, Sheet.{Sheet, malformed}, Words.linked}
use Rattle.sheet_model.{specs.Verdict.{refused, verdict, judge}, proofs.Formed.{Formed, formed}}
use Rattle.sheet.specs.{Squares.{Row, byte_row, crossed}, Extents.{unseen, gathered, extents}}
use Rattle.std.specs.Prelude.{Option, None, Some, Result, Ok, Err}
use Rattle.sheet.specs.{declared.extents.Extents.Extents, Refusals.{unfit, walked, asked}, Search.in_rows}
use Rattle.walk.specs.declared.{Unsound.Unsound, Way.Way}
use Rattle.walk.specs.{Ways.{way_of, beginning_of, links_on, ahead, walk_by}, Over.{Made, made, lost}}
use Rattle.walk.proofs.Along.{waits, begins-at}
use Rattle.sheet.proofs.{Broken.found-verdict, Rounds.{Shows, marks}, ByteRows.{bytes, bytes_show}}
use Rattle.sheet.proofs.Gather.{Short, along_short}

pub slots_few : (c : Control) → control_sound c ≡ true → c.slots ≤ 1023
unfolding control_sound
slots_few c e =
    let slots = (tests (control_tests c) e).1.0 in
    leb-true c.slots 1023 (and-true (leb 1 c.slots) (leb c.slots 1023) slots).1

-- The extents as the call finds them.
abbrev pub extents_in : Sheet → Tables → Made Extents
extents_in s q = extents (beginning_of q.control) s.listed q.lefts q.rights q.labels unseen

-- A square of the chained rules and the extents of a walk w tell the verdict on its entries.
module _ (s : Sheet) {A : Type 0} (r : Row A) (R : (ℕ → Bool) → A) (law : Shows r R) (beyond : List A) where
  abbrev pub found : Extents → SheetReply
  found e =
      in_rows (crossed r (marks r R law beyond (linked s.rules (length s.listed))) e.low e.high) (length s.listed) 1
      (length s.listed)

  abbrev pub GivesVerdict : Made Extents → Walk → Type 0
  GivesVerdict (made e) w = (is_broken w ≡ false) × (Formed s → found e ≡ verdict s (met w))
  GivesVerdict lost w = is_broken w ≡ true

  of_walk : (up : Bool) (w : Walk) → Short 1023 w → GivesVerdict (gathered up s.listed unseen w) (walk_from (cond up 0 1) w)
  of_walk true (entries l) h = (refl, λ f. found-verdict s f true l h r R law beyond)
  of_walk false (entries l) h = (refl, λ f. found-verdict s f false l h r R law beyond)
  of_walk up broken h = refl

  shorter : (n : ℕ) (w : Walk) → n ≤ 1023 → Short n w → Short 1023 w
  shorter n (entries l) h g = omega arith
  shorter n broken h g = tt

  module _ (q : Tables) (few : q.control.slots ≤ 1023) where
    short : (w : Way) → w ≡ way_of q.control → Short 1023 (ahead w q.lefts q.rights q.labels)
    unfolding way_of
    short w e = shorter w.slots (ahead w q.lefts q.rights q.labels) (rw e few)
        (along_short w.slots (links_on w q.lefts q.rights) q.labels w.last w.slots w.first)

    pub gives-verdict : GivesVerdict (extents_in s q) (contents q)
    unfolding extents
    gives-verdict = subst (GivesVerdict (extents_in s q)) (sym (waits q (beginning_of q.control) refl)) (go (beginning_of q.control) refl)
      where
        go : (b : Result (Option Way) Unsound) → b ≡ beginning_of q.control
            → GivesVerdict (extents b s.listed q.lefts q.rights q.labels unseen) (walk_by b q.lefts q.rights q.labels)
        go (Ok None) e = of_walk true (entries []) (omega arith)
        go (Err u) e = refl
        go (Ok (Some w)) e = of_walk w.rightward (ahead w q.lefts q.rights q.labels) (short w (begins-at q.control w e).0)

-- What stands before the walk applies, or doesn't.
unfit-none : (a b c : Bool) → unfit a b c ≡ 0 → (a ≡ true) × (b ≡ false) × (c ≡ true)
unfolding unfit
unfit-none true false true e = (refl, refl, refl)
unfit-none true false false e = absurd (omega arith)
unfit-none true true c e = absurd (omega arith)
unfit-none false b c e = absurd (omega arith)

module _ (q : Tables) (s : Sheet) (enough : Bool) where
  abbrev pub why : ℕ
  why = unfit (control_sound q.control) (malformed s) (rows_fit false q.control.slots q && enough)

  pub record Accepted : Type 0 where
    pub control : control_sound q.control ≡ true
    pub form : malformed s ≡ false
    pub long : rows_fit false q.control.slots q && enough ≡ true

  pub accepted : why ≡ 0 → Accepted
  accepted e =
      let f = unfit-none (control_sound q.control) (malformed s) (rows_fit false q.control.slots q && enough) e in
      record { control = f.0; form = f.1; long = f.2 }

  pub judge-unfit : (why ≡ 0 → ⊥) → refused why ≡ judge q s enough
  unfolding judge unfit
  judge-unfit h = go (control_sound q.control) (malformed s) (rows_fit false q.control.slots q && enough) h
    where
      walk : Bool
      walk = is_broken (contents q)

      go : (a b c : Bool) → (unfit a b c ≡ 0 → ⊥) → refused (unfit a b c)
          ≡ (let n = cond (not a) 34 (cond b 46 (cond (not c) 12 (cond walk 34 0))) in cond (eqb n 0) (verdict s (met (contents q))) (refused n))
      go false b c h = refl
      go true true c h = refl
      go true false false h = refl
      go true false true h = absurd (h refl)

  module _ (ok : Accepted) where
    few : q.control.slots ≤ 1023
    few = slots_few q.control ok.control

    pub judge-lost : lost ≡ extents_in s q → refused 34 ≡ judge q s enough
    unfolding judge
    judge-lost h =
        let t = subst (λ (m : Made Extents). GivesVerdict s byte_row bytes bytes_show [] m (contents q)) (sym h)
        (gives-verdict s byte_row bytes bytes_show [] q few) in
        rw (ok.control, ok.form, ok.long, t)

    -- With a square of either kind.
    pub judge-told : {A : Type 0} (r : Row A) (R : (ℕ → Bool) → A) (law : Shows r R) (beyond : List A) (e : Extents) → made e ≡ extents_in s q
        → found s r R law beyond e ≡ judge q s enough
    unfolding judge
    judge-told r R law beyond e h =
        let t = subst (λ (m : Made Extents). GivesVerdict s r R law beyond m (contents q)) (sym h) (gives-verdict s r R law beyond q few) in
        rw (ok.control, ok.form, ok.long, t.0) (t.1 (formed s ok.form))

-- What is asked: a refusal, or what the walk noted.
module _ (q : Tables) (s : Sheet) (enough : Bool) where
  abbrev answered : Bool → Result Extents ℕ
  answered b = cond b (walked (extents_in s q)) (Err (why q s enough))

  err-asked : (n : ℕ) → Err n ≡ asked (why q s enough) (extents_in s q) → (refused n ≡ judge q s enough) × (n ≡ 0 → ⊥)
  err-asked n e =
      split (eqb (why q s enough) 0)
      (λ z. lost_there z (extents_in s q) refl (e ∙ ap answered z))
      (λ z.
      let h : n ≡ why q s enough = stands (e ∙ ap answered z) in
      let some = eqb-false (why q s enough) 0 z in
      (ap refused h ∙ judge-unfit q s enough some, λ w. some (sym h ∙ w)))
    where
      stands : Err n ≡ answered false → n ≡ why q s enough
      stands f = cc

      lost_there : eqb (why q s enough) 0 ≡ true → (m : Made Extents) → m ≡ extents_in s q → Err n ≡ walked m
          → (refused n ≡ judge q s enough) × (n ≡ 0 → ⊥)
      lost_there z (made x) h f = absurd cc
      lost_there z lost h f =
          let g : n ≡ 34 = cc in
          (ap refused g ∙ judge-lost q s enough (accepted q s enough (eqb-true (why q s enough) 0 z)) h, λ w. omega arith)

  pub record Asked (x : Extents) : Type 0 where
    pub ok : Accepted q s enough
    pub noted : made x ≡ extents_in s q

  ok-asked : (x : Extents) → Ok x ≡ asked (why q s enough) (extents_in s q) → Asked x
  ok-asked x e = split (eqb (why q s enough) 0) (λ z. record {
    ok = accepted q s enough (eqb-true (why q s enough) 0 z);
    noted = same (extents_in s q) (e ∙ ap answered z);
  }) (λ z. absurd (neither (e ∙ ap answered z)))
    where
      neither : Ok x ≡ answered false → ⊥
      neither f = cc

      same : (m : Made Extents) → Ok x ≡ walked m → made x ≡ m
      same (made y) f = let g : x ≡ y = cc in ap made g
      same lost f = absurd cc

  -- The walk notes where none was seen.
  module _ (first : Extents) (blank : first ≡ unseen) where
    abbrev asked-from : Result Extents ℕ
    asked-from = asked (why q s enough) (extents (beginning_of q.control) s.listed q.lefts q.rights q.labels first)

    from : asked-from ≡ asked (why q s enough) (extents_in s q)
    from = ap (λ (x : Extents). asked (why q s enough) (extents (beginning_of q.control) s.listed q.lefts q.rights q.labels x)) blank

    pub asked-err : (n : ℕ) → Err n ≡ asked-from → (refused n ≡ judge q s enough) × (n ≡ 0 → ⊥)
    asked-err n e = err-asked n (e ∙ from)

    pub asked-ok : (x : Extents) → Ok x ≡ asked-from → Asked x
    asked-ok x e = ok-asked x (e ∙ from)

-- The tests before the walk, one after the other.
module _ (a b c : Bool) where
  pub unfit_34 : a ≡ false → 34 ≡ unfit a b c
  unfolding unfit
  unfit_34 e = rw e

  pub unfit_46 : a ≡ true → b ≡ true → 46 ≡ unfit a b c
  unfolding unfit
  unfit_46 e f = rw (e, f)

  pub unfit_12 : a ≡ true → b ≡ false → c ≡ false → 12 ≡ unfit a b c
  unfolding unfit
  unfit_12 e f g = rw (e, f, g)

  pub unfit_0 : a ≡ true → b ≡ false → c ≡ true → 0 ≡ unfit a b c
  unfolding unfit
  unfit_0 e f g = rw (e, f, g)
