-- What a step is asked of control and lengths, one test after the other: the first rule that applies.
use mathlib.Core.{Path.{◌≡◌, refl, sym, ◌∙◌}, Bool.{Bool, true, false, ◌&&◌, ◌||◌, not, cond, and-false}, Logic.◌≢◌}
use Prim.Native.Nat.{ℕ}
use native.Mathlib.Omega.{arith}
use lib.Dec.{leb, ltb, eqb}
use Rattle.word.specs.Anchor.{anchor_of}
use Rattle.model.specs.{declared.Control.Control, Sound.{from1, anchor_sound, control_sound}}
use Rattle.model.specs.Refusals.{first, table_rules}
use Rattle.sound.specs.{declared.Lengths.Lengths, Lengths.{lengths_fit, next_rules}}

-- Control's tests up to the first that fails; where the first three hold, the word for pooled decides.
module _ (c : Control) (fit : Bool) where
  pub by_tasks : from1 16 c.tasks ≡ false → 34 ≡ first (table_rules c fit)
  unfolding control_sound
  by_tasks e = rw e

  pub by_anchor : anchor_sound c.slots (anchor_of c.anchor) ≡ false → 34 ≡ first (table_rules c fit)
  unfolding control_sound
  by_anchor e = rw e (simp and-false)

  pub by_slots : from1 1023 c.slots ≡ false → 34 ≡ first (table_rules c fit)
  unfolding control_sound
  by_slots e = rw e (simp and-false)

  pub sound : from1 16 c.tasks ≡ true → anchor_sound c.slots (anchor_of c.anchor) ≡ true → from1 1023 c.slots ≡ true
      → control_sound c ≡ leb c.pooled 1
  unfolding control_sound
  sound tasks anchor slots = rw (tasks, slots, anchor)

-- A refusal by the word for pooled or by the next table is the tables', which are too short if that one is.
refuses : (p n fit : Bool) (why : ℕ) → (n ≡ false → fit ≡ false) → why ≡ cond (not p) 34 (cond (not n) 12 0) → why ≢ 0
    → why ≡ cond (not p) 34 (cond (not fit) 12 0)
refuses false n fit why short e other = e
refuses true false fit why short e other = rw (short refl) e
refuses true true fit why short e other = absurd (other e)

-- None: the word is sound, and the next table long enough.
pub passes : (p n : Bool) (why : ℕ) → why ≡ cond (not p) 34 (cond (not n) 12 0) → why ≡ 0 → (p ≡ true) × (n ≡ true)
passes true true why e none = (refl, refl)
passes true false why e none = let z : ◌≡◌ {A = ℕ} 12 0 = sym e ∙ none in absurd (omega arith)
passes false n why e none = let z : ◌≡◌ {A = ℕ} 34 0 = sym e ∙ none in absurd (omega arith)

-- The lengths' tests with that of the next table, which comes first.
module _ (pooled : Bool) (slots : ℕ) (t : Lengths) (enough : Bool) where
  pub short : (not pooled || ltb slots t.next) ≡ false → (lengths_fit pooled slots t && enough) ≡ false
  unfolding lengths_fit
  short e = rw e (simp and-false)

  pub long : (not pooled || ltb slots t.next) ≡ true → (lengths_fit false slots t && enough) ≡ (lengths_fit pooled slots t && enough)
  unfolding lengths_fit
  long e = rw e

-- Control is sound but for the word for pooled: that and the next table are asked.
module _ (c : Control) (t : Lengths) (enough : Bool) (why : ℕ) (e : why ≡ first (next_rules c.pooled c.slots t.next))
    (sound : control_sound c ≡ leb c.pooled 1) where
  pub by_next : why ≢ 0 → why ≡ first (table_rules c (lengths_fit (eqb c.pooled 1) c.slots t && enough))
  by_next other =
      rw sound
      (refuses (leb c.pooled 1) (not (eqb c.pooled 1) || ltb c.slots t.next) (lengths_fit (eqb c.pooled 1) c.slots t && enough) why
      (short (eqb c.pooled 1) c.slots t enough) e other)

  pub by_rows : (b : Bool) → why ≡ 0 → (lengths_fit false c.slots t && enough) ≡ b
      → cond b 0 12 ≡ first (table_rules c (lengths_fit (eqb c.pooled 1) c.slots t && enough))
  by_rows b none test =
      let z = passes (leb c.pooled 1) (not (eqb c.pooled 1) || ltb c.slots t.next) why e none in
      rw (sound, z.0, ← long (eqb c.pooled 1) c.slots t enough z.1, test) (told b)
    where
      told : (b : Bool) → ◌≡◌ {A = ℕ} (cond b 0 12) (cond (not b) 12 0)
      told true = refl
      told false = refl
