-- The call over rows: what its parts say comes to what it means.
use mathlib.Core.{Path.{◌≡◌, sym, ap, ◌∙◌}, Bool.Bool, List.List}
use Prim.Native.Nat.{ℕ}
use Rattle.model.specs.Outcomes.{Outcome, Refused}
use Rattle.model.specs.{declared.{Control.Control, Reply.Reply}, Sound.rows_fit}
use Rattle.model.specs.{Tables.{Tables, is_pooled, tables_of}, Refusals.{alone, admission}, Calls.{step_lent, reply_of}}
use Rattle.sound.specs.{declared.Lengths.Lengths, Lengths.{lengths_of, lengths_fit}}
use Rattle.engine.proofs.InParts.{turned_away, admitted}
use Rattle.layout.specs.Rows.{control_of, record_of, upper_of}
use Rattle.rows.specs.Moved.{RowMoved}
use Rattle.capi_record.specs.Replies.{RepliedAlone, replied_alone}

module _ (ws row lefts rights labels marks next : List ℕ) (c : Control) (ec : c ≡ control_of ws) where
  abbrev before : Tables
  before = tables_of (control_of ws) lefts rights labels marks next

  -- Whether tables of these lengths are long enough for a control.
  abbrev fit : Control → Bool
  fit d = lengths_fit (is_pooled d) d.slots (lengths_of before 1)

  abbrev Replies : Tables → List ℕ → Reply → Type 0
  Replies q' row' n =
      ◌≡◌ {A = RepliedAlone} (record { tables = q'; task = record_of row'; upper = upper_of row'; reply = n })
      (replied_alone (upper_of row) (step_lent before (record_of row)))

  module _ (why : ℕ) (l : Lengths) (el : l ≡ lengths_of before 1) (told : why ≡ admission c (lengths_fit (is_pooled c) c.slots l) alone)
      (o : Outcome) (n : Reply) (en : n ≡ reply_of o) where
    asked : why ≡ admission (control_of ws) (fit (control_of ws)) alone
    asked = told ∙ ap (λ (l : Lengths). admission c (lengths_fit (is_pooled c) c.slots l) alone) el ∙ ap (λ (d : Control). admission d (fit d) alone) ec

    -- Not admitted: the number alone.
    pub refused : (why ≡ 0 → ⊥) → o ≡ Refused why → Replies before row n
    unfolding step_lent rows_fit lengths_fit
    refused h eo = rw (en, eo) (ap (replied_alone (upper_of row)) (turned_away before alone (record_of row) why asked h))

    -- Admitted: the record is moved on in its row.
    pub stepped : (q' : Tables) (row' : List ℕ) → why ≡ 0 → RowMoved before row q' row' o → Replies q' row' n
    unfolding step_lent rows_fit lengths_fit
    stepped q' row' none moved =
        rw (en, moved.1) (ap (replied_alone (upper_of row)) (moved.0 ∙ admitted before alone (record_of row) (sym asked ∙ none)))
