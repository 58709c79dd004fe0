-- Tests made one after the other give the number of the first rule that applies: of an opening, of a start.
use mathlib.Core.{Path.{◌≡◌, refl, sym, ap, ◌∙◌}, Logic.◌≢◌, Bool.{Bool, true, false, ◌&&◌, not, cond}}
use mathlib.Core.List.{List, [], ◌∷◌}
use Prim.Native.Nat.{ℕ, ◌≤◌}
use lib.Dec.{eqb}
use borrow.Author.Tests.{eq-eqb, ne_eqb, le-leb, not-true, not-false}
use Rattle.model.specs.{declared.{Control.Control, Call.Call, Asked.Asked}, Tables.is_pooled, Sound.record_sound}
use Rattle.model.specs.Refusals.{Rule, rule, Lent, opening_rules, admission_rules, admission, is_busy, late, asked_rules}
use Rattle.model.specs.Refusals.{start_refusal}
use Rattle.model.proofs.Tests.{Rules.{Tried, none, stop, pass, tried, first_passed, first-refused}, Truth.and-true}
use Rattle.sound.proofs.Parts.{idle-sound}
use Rattle.calls.specs.Opening.{opening_refusal}

pub opening-tried : (tasks slots : ℕ) (fits : Bool) {n : ℕ} → Tried (opening_rules tasks slots fits) n → n ≡ opening_refusal tasks slots fits
unfolding opening_refusal
opening-tried tasks slots fits h = tried h

-- What is asked from the record on: a busy one by 34 and 30 alone, an idle one by 32 and 33 alone.
module _ (c : Control) (r : Call) (a : Asked) where
  abbrev pub free_rules : List Rule
  free_rules = rule 32 a.taken ∷ rule 33 (late c) ∷ []

  abbrev pub record_on : List Rule
  record_on = rule 34 (not (record_sound (is_pooled c) c.slots r)) ∷ rule 30 (is_busy r) ∷ free_rules

  pub of_busy : r.place ≢ 0 → Tried record_on (cond (record_sound (is_pooled c) c.slots r) 30 34)
  of_busy h = go (record_sound (is_pooled c) c.slots r) refl
    where
      go : (b : Bool) → record_sound (is_pooled c) c.slots r ≡ b → Tried record_on (cond b 30 34)
      go true e = pass (ap not e) (stop (ap not (ne_eqb _ _ h)))
      go false e = stop (ap not e)

  of_idle : {n : ℕ} → eqb r.place 0 ≡ true → Tried free_rules n → Tried record_on n
  of_idle h t = pass (ap not (idle-sound _ _ _ h)) (pass (ap not h) t)

  pub of_free : (eqb r.place 0 && not a.taken) && not (late c) ≡ true → Tried record_on 0
  of_free h =
      let z = and-true (eqb r.place 0 && not a.taken) (not (late c)) h in
      let y = and-true (eqb r.place 0) (not a.taken) z.0 in
      of_idle y.0 (pass (not-true _ y.1) (pass (not-true _ z.1) none))

  pub of_taken : r.place ≡ 0 → a.taken ≡ true → Tried record_on 32
  of_taken h e = of_idle (eq-eqb _ _ h) (stop e)

  pub of_late : (eqb r.place 0 && not a.taken) && not (late c) ≡ false → r.place ≡ 0 → a.taken ≡ false → Tried record_on 33
  of_late h i e =
      of_idle (eq-eqb _ _ i) (pass e (stop (not-false _ (rw (eq-eqb _ _ i, e) at h))))

-- A start is turned away before it is asked anything, or the number is what it is asked gives.
module _ (c : Control) (fit : Bool) (p : Lent) (r : Call) (side : ℕ) (a : Asked) (why : ℕ) (e : why ≡ admission c fit p) where
  pub turned_away : why ≢ 0 → why ≡ start_refusal c fit p r side a
  unfolding admission start_refusal
  turned_away h = e ∙ sym (first-refused (admission_rules c fit p) (asked_rules c r side a) (λ z. h (e ∙ z)))

  pub then_asked : why ≡ 0 → {n : ℕ} → Tried (asked_rules c r side a) n → n ≡ start_refusal c fit p r side a
  unfolding admission start_refusal
  then_asked z h = tried h ∙ sym (first_passed (admission_rules c fit p) (asked_rules c r side a) refl (sym e ∙ z))

  pub from_record : why ≡ 0 → side ≤ 1 → a.wrong ≡ false → a.outside ≡ false → {n : ℕ} → Tried (record_on c r a) n
      → n ≡ start_refusal c fit p r side a
  from_record z l w o h = then_asked z (pass (ap not (le-leb _ _ l)) (pass w (pass o h)))
