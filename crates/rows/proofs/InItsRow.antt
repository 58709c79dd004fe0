-- A record moved on in its row: what the parts of the step say comes to what the step of an admitted record means.
use mathlib.Core.{Path.{◌≡◌, sym, ap, subst, ◌∙◌}, Bool.cond, List.List}
use Prim.Native.Nat.{ℕ, ◌≤◌}
use Rattle.model.specs.Outcomes.{Outcome, Refused}
use Rattle.model.specs.declared.{Control.Control, Call.Call, Record.Record}
use Rattle.model.specs.{declared.Transition.Transition, Tables.{Tables, is_pooled, tables_of}, Ends.ends_call}
use Rattle.model.specs.Refusals.{record_refusal}
use Rattle.table.specs.Lent.{with_tables}
use Rattle.places.specs.Arm.{step_at}
use Rattle.engine.specs.{StepAdmitted.step_admitted, Stored.{anchor_after, call_after, head_after, own_after}}
use Rattle.engine.proofs.{Stored.{moved-stored, deque-stored}, InParts.{stopped, at-place}}
use Rattle.layout.specs.Rows.{control_of, call_of, record_of, upper_of}
use Rattle.rows.specs.Moved.{RowMoved}
use Rattle.layout.proofs.Rows.{counting}

-- What a step beyond 10 stores: head, own slot and label first, and then, with the step d that this hands on, the rest.
pub in_layers : (c : Control) (t : Record) {u : ℕ} {c₁ c₂ : Control} {t₁ t₂ : Record} {u₁ u₂ : ℕ} {m d : Transition} {o : Outcome}
    → (d ≡ m) × ((c₁ ≡ head_after c m) × ((t₁ ≡ own_after t m) × (u₁ ≡ u)))
    → (o ≡ d.outcome) × ((c₂ ≡ anchor_after c₁ d) × ((t₂ ≡ call_after t₁ d) × (u₂ ≡ cond (ends_call d.outcome) 0 u₁)))
    → (o ≡ m.outcome) × ((c₂ ≡ anchor_after (head_after c m) m) × ((t₂ ≡ call_after (own_after t m) m) × (u₂ ≡ cond (ends_call m.outcome) 0 u)))
in_layers c t {u} {m = m} {d = d} first last =
    let same = first.0 in (
      last.0 ∙ ap (λ (s : Transition). s.outcome) same,
      (
        last.1.0 ∙ ap (λ (x : Control). anchor_after x d) first.1.0 ∙ ap (anchor_after (head_after c m)) same,
        (
          last.1.1.0 ∙ ap (λ (x : Record). call_after x d) first.1.1.0 ∙ ap (call_after (own_after t m)) same,
          last.1.1.1 ∙ ap (cond (ends_call d.outcome) 0) first.1.1.1 ∙ ap (λ (s : Transition). cond (ends_call s.outcome) 0 u) same,
        ),
      ),
    )

module _ (ws row lefts rights labels marks next : List ℕ) (c : Control) (r : Call) (ec : c ≡ control_of ws) (er : r ≡ call_of row) where
  abbrev q : Control → Tables
  q d = tables_of d lefts rights labels marks next

  -- The refusal's number alone.
  pub refuses : (why : ℕ) (o : Outcome) → why ≡ record_refusal (is_pooled c) c.slots r → (why ≡ 0 → ⊥) → o ≡ Refused why
      → RowMoved (q (control_of ws)) row (q (control_of ws)) row o
  unfolding record_of
  refuses why o e h eo =
      let number =
      e ∙ ap (λ (d : Control). record_refusal (is_pooled d) d.slots r) ec
      ∙ ap (λ (t : Call). record_refusal (is_pooled (control_of ws)) (control_of ws).slots t) er in (
        ap (λ (u : Outcome). record { tables = q (control_of ws); task = record_of row; outcome = u }) eo
            ∙ stopped (q (control_of ws)) (record_of row) why number h,
        rw eo,
      )

  module _ (ws' row' lefts' rights' labels' marks' next' : List ℕ) (m : Transition)
      (up : upper_of row' ≡ cond (ends_call m.outcome) 0 (upper_of row)) where
    abbrev q' : Control → Tables
    q' d = tables_of d lefts' rights' labels' marks' next'

    module _ (e : (k : ℕ) → with_tables m lefts' rights' labels' marks' next' k ≡ step_admitted (q c) (counting r k)) where
      -- In the words of the row.
      of_row : with_tables m lefts' rights' labels' marks' next' (record_of row).retries ≡ step_admitted (q (control_of ws)) (record_of row)
      unfolding record_of
      of_row =
          let k = (record_of row).retries in
          e k ∙ ap (λ (d : Control). step_admitted (q d) (counting r k)) ec ∙ ap (λ (t : Call). step_admitted (q (control_of ws)) (counting t k)) er

      -- All that a step may change is stored; at 1 to 10 the first layer is all.
      stores : control_of ws' ≡ anchor_after (head_after (control_of ws) m) m → record_of row' ≡ call_after (own_after (record_of row) m) m
          → RowMoved (q (control_of ws)) row (q' (control_of ws')) row' m.outcome
      stores e1 e2 = (rw (e1, e2) (moved-stored (q (control_of ws)) (record_of row) m lefts' rights' labels' marks' next' of_row), up)

      stores_deque : r.place ≤ 10 → control_of ws' ≡ anchor_after (control_of ws) m → record_of row' ≡ call_after (record_of row) m
          → RowMoved (q (control_of ws)) row (q' (control_of ws')) row' m.outcome
      unfolding record_of
      stores_deque low e1 e2 =
          let in_deque : (call_of row).place ≤ 10 = subst (λ (t : Call). t.place ≤ 10) er low in
          (rw (e1, e2) (deque-stored (q (control_of ws)) (record_of row) m lefts' rights' labels' marks' next' of_row in_deque), up)

    -- The step at place n, which is the record's.
    module _ (n : ℕ) (o : Outcome) (none : record_refusal (is_pooled c) c.slots r ≡ 0) (at : r.place ≡ n) where
      moves : ((k : ℕ) → with_tables m lefts' rights' labels' marks' next' k ≡ step_at n (q c) r k)
          → (k : ℕ) → with_tables m lefts' rights' labels' marks' next' k ≡ step_admitted (q c) (counting r k)
      moves steps k = steps k ∙ at-place (q c) (counting r k) n none at

      told : o ≡ m.outcome → RowMoved (q (control_of ws)) row (q' (control_of ws')) row' m.outcome
          → RowMoved (q (control_of ws)) row (q' (control_of ws')) row' o
      told eo h = subst (λ (u : Outcome). RowMoved (q (control_of ws)) row (q' (control_of ws')) row' u) (sym eo) h

      pub at_its_place : ((k : ℕ) → with_tables m lefts' rights' labels' marks' next' k ≡ step_at n (q c) r k)
          → control_of ws' ≡ anchor_after (head_after (control_of ws) m) m → record_of row' ≡ call_after (own_after (record_of row) m) m → o ≡ m.outcome
          → RowMoved (q (control_of ws)) row (q' (control_of ws')) row' o
      at_its_place steps e1 e2 eo = told eo (stores (moves steps) e1 e2)

      pub deque-place : r.place ≤ 10 → ((k : ℕ) → with_tables m lefts' rights' labels' marks' next' k ≡ step_at n (q c) r k)
          → control_of ws' ≡ anchor_after (control_of ws) m → record_of row' ≡ call_after (record_of row) m → o ≡ m.outcome
          → RowMoved (q (control_of ws)) row (q' (control_of ws')) row' o
      deque-place low steps e1 e2 eo = told eo (stores_deque (moves steps) low e1 e2)
