-- Controls as rows of words: one read, one written; records and upper halves entry by entry.
use mathlib.Core.{List.{List, [], ◌∷◌, map}, Path.{◌≡◌, ◌∙◌, ap, refl, sym}}
use Prim.Native.Nat.{ℕ, zero, suc}
use lib.ListN.{get_or, length, set}
use Rattle.model.specs.declared.{Control.Control, Record.Record}
use Rattle.layout.specs.Rows.{control_of, record_of, records_of, upper_of, uppers_of}
use Rattle.shelf_model.specs.Shelves.{unfilled}
use Rattle.shelf.specs.{Pasting.{put_back, put_on}, Lent.controls_of}
use Rattle.shelf.proofs.Pasting.{map_back, map_put}

pub length_controls : (rows : List (List ℕ)) → length (controls_of rows) ≡ length rows
unfolding controls_of
length_controls [] = refl
length_controls (ws ∷ rows) = ap suc (length_controls rows)

-- What a control that is not lent reads as.
abbrev pub zeros : List ℕ
zeros = 0 ∷ 0 ∷ 0 ∷ 0 ∷ 0 ∷ []

pub control_read : (rows : List (List ℕ)) (i : ℕ) → control_of (get_or rows i zeros) ≡ get_or (controls_of rows) i unfilled
unfolding controls_of control_of
control_read [] i = refl
control_read (ws ∷ rows) zero = refl
control_read (ws ∷ rows) (suc i) = control_read rows i

pub control-put : (rows : List (List ℕ)) (i : ℕ) (ws : List ℕ) → controls_of (set rows i ws) ≡ set (controls_of rows) i (control_of ws)
unfolding controls_of
control-put [] i ws = refl
control-put (us ∷ rows) zero ws = refl
control-put (us ∷ rows) (suc i) ws = ap (λ (l : List Control). control_of us ∷ l) (control-put rows i ws)

records_map : (rows : List (List ℕ)) → records_of rows ≡ map record_of rows
unfolding records_of
records_map [] = refl
records_map (ws ∷ rows) = ap (λ (l : List Record). record_of ws ∷ l) (records_map rows)

uppers_map : (rows : List (List ℕ)) → uppers_of rows ≡ map upper_of rows
unfolding uppers_of
uppers_map [] = refl
uppers_map (ws ∷ rows) = ap (λ (l : List ℕ). upper_of ws ∷ l) (uppers_map rows)

module _ (n k : ℕ) (from to : List (List ℕ)) where
  pub put-records : records_of (put_on n k from to) ≡ put_on n k (records_of from) (records_of to)
  put-records = records_map (put_on n k from to) ∙ map_put record_of n k from to
      ∙ (λ i. put_on n k (sym (records_map from) i) (sym (records_map to) i))

  pub put-uppers : uppers_of (put_on n k from to) ≡ put_on n k (uppers_of from) (uppers_of to)
  put-uppers = uppers_map (put_on n k from to) ∙ map_put upper_of n k from to
      ∙ (λ i. put_on n k (sym (uppers_map from) i) (sym (uppers_map to) i))

  pub back-records : records_of (put_back n k from to) ≡ put_back n k (records_of from) (records_of to)
  back-records = records_map (put_back n k from to) ∙ map_back record_of n k from to
      ∙ (λ i. put_back n k (sym (records_map from) i) (sym (records_map to) i))

  pub back-uppers : uppers_of (put_back n k from to) ≡ put_back n k (uppers_of from) (uppers_of to)
  back-uppers = uppers_map (put_back n k from to) ∙ map_back upper_of n k from to
      ∙ (λ i. put_back n k (sym (uppers_map from) i) (sym (uppers_map to) i))
