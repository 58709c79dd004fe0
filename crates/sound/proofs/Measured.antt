-- The test of the lengths is the document's rule on the tables.
use mathlib.Core.{Path.{◌≡◌, refl, sym, ap, ◌∙◌}, Bool.{Bool, false}, List.{List, []}}
use Prim.Native.Nat.{ℕ}
use Rattle.model.specs.{declared.Control.Control, Tables.{Tables, is_pooled, tables_of}, Sound.rows_fit, Refusals.{Lent, admission}}
use Rattle.sound.specs.{declared.Lengths.Lengths, Lengths.{lengths_of, Measures, lengths_fit}}

pub lengths_fit_lem : (pooled : Bool) (slots : ℕ) (q : Tables) (n : ℕ) → lengths_fit pooled slots (lengths_of q n) ≡ rows_fit pooled slots q
unfolding lengths_fit rows_fit
lengths_fit_lem pooled slots q n = refl

pub measured : (pooled : Bool) (slots : ℕ) (t : Lengths) (q : Tables) → Measures t q → lengths_fit pooled slots t ≡ rows_fit pooled slots q
measured pooled slots t q e = ap (lengths_fit pooled slots) e ∙ lengths_fit_lem pooled slots q t.records

-- The lengths of tables with so many records are lengths of these tables.
pub measures : (q : Tables) (n : ℕ) (t : Lengths) → t ≡ lengths_of q n → Measures t q
measures q n t e = e ∙ ap (λ (l : Lengths). lengths_of q l.records) (sym e)

-- The number found by the lengths is that found by the tables.
pub found_by : (c : Control) (p : Lent) (q : Tables) (n : ℕ) (t : Lengths) (why : ℕ) → t ≡ lengths_of q n
    → why ≡ admission c (lengths_fit (is_pooled c) c.slots t) p → why ≡ admission c (rows_fit (is_pooled c) c.slots q) p
found_by c p q n t why m e = e ∙ ap (λ (b : Bool). admission c b p) (measured (is_pooled c) c.slots t q (measures q n t m))

-- Where next rows count for nothing, none need be lent.
pub measured_unpooled : (c : Control) (slots : ℕ) (lefts rights labels marks next : List ℕ) (n : ℕ) (t : Lengths)
    → t ≡ lengths_of (tables_of c lefts rights labels marks []) n
    → lengths_fit false slots t ≡ rows_fit false slots (tables_of c lefts rights labels marks next)
unfolding lengths_fit rows_fit
measured_unpooled c slots lefts rights labels marks next n t e = ap (lengths_fit false slots) e
