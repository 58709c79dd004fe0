-- What lies beyond the lengths matters to nobody: a start or step of the queue cut to its lengths is the start or step of the queue, cut.
use mathlib.Core.{Bool.{Bool, true, false, ◌||◌, cond, not}, List.{List, [], ◌∷◌, ◌++◌}, Path.{◌≡◌, ◌∙◌, ap, refl}}
use Prim.Native.Nat.{ℕ, suc, ◌≤◌, ◌/◌, ◌%◌}
use native.Mathlib.Omega.{arith}
use lib.{Dec.{eqb, ltb}, ListN.{get_or, length, set, take}}
use borrow.Author.Tests.{eqb-false, eqb-true, not-false}
use Rattle.model.specs.Outcomes.{Moved, Refused}
use Rattle.model.specs.declared.{Call.Call, Record.Record}
use Rattle.model.specs.Tables.{Tables, bit, is_pooled, marked, put_bit, with_mark, with_head, tables_of}
use Rattle.model.specs.{Sound.{record_sound, rows_fit}, Places.{word_found, link_side, move, row}}
use Rattle.model.specs.Places.{Touch, nothing, set_anchor, set_link, clear_mark, take_slot, set_next, set_head, Move, apply}
use Rattle.model.specs.{Route.{answer, onward, route}, Calls.{Acted, decide, finish, step}}
use Rattle.model.specs.Refusals.{Lent, admission_rules, first, fits, rule, step_refusal, step_rules, step_sound}
use Rattle.model.proofs.{Tests.Rules.cleared, Bridge.{Facts.{RecordFine, control_fine, record_fine}, Stores.TouchFine}}
use Rattle.model.proofs.Bridge.Touches.{beyond, move_fine, row_fine}
use Rattle.shelf_model.specs.Cut.{cut_tables}
use Rattle.shelf_model.proofs.Lists.{get_take, longer_take, set_take}

-- Tables are long enough when cut just where they are.
next_fits : (b : Bool) (n : ℕ) (l : List ℕ) → not b || ltb n (length (cond b (take (suc n) l) [])) ≡ not b || ltb n (length l)
next_fits true n l = longer_take n l
next_fits false n l = refl

pub fits_cut : (q : Tables) → rows_fit (is_pooled q.control) q.control.slots (cut_tables q)
    ≡ rows_fit (is_pooled q.control) q.control.slots q
unfolding rows_fit
fits_cut q =
    let n = q.control.slots in
    rw (
      longer_take n q.lefts,
      longer_take n q.rights,
      longer_take n q.labels,
      longer_take (n / 64) q.marks,
      next_fits (is_pooled q.control) n q.next,
    )

-- Stores: a touch of a row, within the slots where it is a mark.
abbrev Within : ℕ → Touch → Type 0
Within n nothing = Unit {0}
Within n (set_anchor w) = Unit {0}
Within n (set_link side x w) = Unit {0}
Within n (clear_mark x) = x ≤ n
Within n (take_slot w x l) = x ≤ n
Within n (set_next x v) = Unit {0}
Within n (set_head w) = Unit {0}

pub mark-cut : (n : ℕ) (ws : List ℕ) (x b : ℕ) → x ≤ n → with_mark (take (suc (n / 64)) ws) x b ≡ take (suc (n / 64)) (with_mark ws x b)
mark-cut n ws x b h =
    ap (λ (w : ℕ). set (take (suc (n / 64)) ws) (x / 64) (put_bit w (x % 64) b)) (get_take (suc (n / 64)) ws (x / 64) 0 (omega arith))
    ∙ set_take (suc (n / 64)) ws (x / 64) (put_bit (get_or ws (x / 64) 0) (x % 64) b)

pub marked-cut : (n : ℕ) (ws : List ℕ) (x : ℕ) → x ≤ n → marked (take (suc (n / 64)) ws) x ≡ marked ws x
marked-cut n ws x h = ap (λ (w : ℕ). eqb (bit w (x % 64)) 1) (get_take (suc (n / 64)) ws (x / 64) 0 (omega arith))

next-cut : (b : Bool) (n : ℕ) (l : List ℕ) (x v : ℕ) → set (cond b (take (suc n) l) []) x v ≡ cond b (take (suc n) (set l x v)) []
next-cut true n l x v = set_take (suc n) l x v
next-cut false n l x v = refl

link-cut : (b : Bool) (n : ℕ) (l : List ℕ) (x w : ℕ)
    → cond b (take (suc n) l) (set (take (suc n) l) x w) ≡ take (suc n) (cond b l (set l x w))
link-cut true n l x w = refl
link-cut false n l x w = set_take (suc n) l x w

other_cut : (b : Bool) (n : ℕ) (l : List ℕ) (x w : ℕ)
    → cond b (set (take (suc n) l) x w) (take (suc n) l) ≡ take (suc n) (cond b (set l x w) l)
other_cut true n l x w = set_take (suc n) l x w
other_cut false n l x w = refl

-- The cut tables, with other columns.
abbrev pub columns : Tables → List ℕ → List ℕ → List ℕ → List ℕ → List ℕ → Tables
columns q l r a m n = tables_of q.control l r a m n

pub apply-cut : (t : Touch) (q : Tables) → Within q.control.slots t → apply t (cut_tables q) ≡ cut_tables (apply t q)
apply-cut nothing q h = refl
apply-cut (set_anchor w) q h = refl
apply-cut (set_link side x w) q h = λ i. columns q
    (link-cut (eqb side 1) q.control.slots q.lefts x w i)
    (other_cut (eqb side 1) q.control.slots q.rights x w i)
    (cut_tables q).labels (cut_tables q).marks (cut_tables q).next
apply-cut (clear_mark x) q h = λ i. columns q (cut_tables q).lefts (cut_tables q).rights
    (cut_tables q).labels (mark-cut q.control.slots q.marks x 0 h i) (cut_tables q).next
apply-cut (take_slot w x l) q h = λ i. columns (with_head q w)
    (cut_tables q).lefts (cut_tables q).rights (set_take (suc q.control.slots) q.labels x l i)
    (mark-cut q.control.slots q.marks x 1 h i) (cut_tables q).next
apply-cut (set_next x v) q h = λ i. columns q (cut_tables q).lefts (cut_tables q).rights (cut_tables q).labels
    (cut_tables q).marks (next-cut (is_pooled q.control) q.control.slots q.next x v i)
apply-cut (set_head w) q h = refl

-- Reads of a sound record's row.
column_cut : (n : ℕ) (l : List ℕ) (x : ℕ) → x ≤ n → get_or (take (suc n) l) x 0 ≡ get_or l x 0
column_cut n l x h = get_take (suc n) l x 0 (omega arith)

met-cut : (q : Tables) (r : Call) → RecordFine (is_pooled q.control) q.control.slots r → word_found (cut_tables q) r ≡ word_found q r
met-cut q r h = λ i.
    cond (eqb r.place 3) (side (eqb (link_side r) 1) i)
    (cond (eqb r.place 5) (side (eqb (link_side r) 1) i)
    (cond (eqb r.place 7) (side (eqb (link_side r) 1) i)
    (cond (eqb r.place 9) (side (eqb (link_side r) 1) i)
    (cond (eqb r.place 11) (column_cut q.control.slots q.labels (row r) low i)
    (next (eqb r.place 13) refl i)))))
  where
    low : row r ≤ q.control.slots
    low = row_fine (is_pooled q.control) q.control.slots r h

    pooled : eqb r.place 13 ≡ true → is_pooled q.control ≡ true
    pooled e = beyond (is_pooled q.control) q.control.slots r h (omega (arith, eqb-true r.place 13 e))

    side : (d : Bool) → get_or (cond d (take (suc q.control.slots) q.rights) (take (suc q.control.slots) q.lefts)) (row r) 0
        ≡ get_or (cond d q.rights q.lefts) (row r) 0
    side true = column_cut q.control.slots q.rights (row r) low
    side false = column_cut q.control.slots q.lefts (row r) low

    next : (b : Bool) → eqb r.place 13 ≡ b → cond b (get_or (cut_tables q).next (row r) 0) 0 ≡ cond b (get_or q.next (row r) 0) 0
    next true e = ap (λ (p : Bool). get_or (cond p (take (suc q.control.slots) q.next) []) (row r) 0) (pooled e)
        ∙ column_cut q.control.slots q.next (row r) low
    next false e = refl

-- Why a step is refused.
last_three : (sound idles x y : Bool) → (sound ≡ true → idles ≡ false → x ≡ y)
    → first (rule 34 (not sound) ∷ rule 31 idles ∷ rule 34 (not x) ∷ [])
    ≡ first (rule 34 (not sound) ∷ rule 31 idles ∷ rule 34 (not y) ∷ [])
last_three false idles x y h = refl
last_three true true x y h = refl
last_three true false x y h = ap (λ (b : Bool). first (rule 34 (not b) ∷ [])) (h refl refl)

step_refusal-cut : (q : Tables) (p : Lent) (r : Call) → step_refusal (cut_tables q) p r ≡ step_refusal q p r
unfolding step_refusal
step_refusal-cut q p r =
    let pooled = is_pooled q.control in
    let n = q.control.slots in
    rw (fits_cut q)
    (ap (λ (n : ℕ). first (admission_rules q.control (fits q) p ++ (rule n true ∷ [])))
    (last_three (record_sound pooled n r) (eqb r.place 0) _ _
    (λ s b. ap (step_sound q.control r) (met-cut q r (record_fine pooled n r s (eqb-false _ _ b))))))

within : (pooled : Bool) (n : ℕ) (t : Touch) → TouchFine pooled n t → Within n t
within pooled n nothing h = tt
within pooled n (set_anchor w) h = tt
within pooled n (set_link side x w) h = tt
within pooled n (clear_mark x) h = h
within pooled n (take_slot w x l) h = h.1
within pooled n (set_next x v) h = tt
within pooled n (set_head w) h = tt

-- What a start or step leaves, cut.
abbrev pub cut_acted : Acted → Acted
cut_acted a = record { tables = cut_tables a.tables; task = a.task; outcome = a.outcome }

module _ (q : Tables) (r : Record) (h : RecordFine (is_pooled q.control) q.control.slots r.call)
    (low : q.control.slots ≤ 1023) where
  abbrev c : Call
  c = r.call

  abbrev m : Move
  m = move q.control c (word_found q c)

  touch-within : Within q.control.slots m.touch
  touch-within = within _ _ m.touch (move_fine (is_pooled q.control) q.control.slots c h low q.control (word_found q c))

  label-cut : get_or (cut_tables q).labels (row c) 0 ≡ get_or q.labels (row c) 0
  label-cut = column_cut q.control.slots q.labels (row c) (row_fine (is_pooled q.control) q.control.slots c h)

  finish-cut : finish (cut_tables q) r (move q.control c (word_found (cut_tables q) c)) ≡ cut_acted (finish q r m)
  unfolding finish
  finish-cut =
      ap (λ (w : ℕ). finish (cut_tables q) r (move q.control c w)) (met-cut q c h)
      ∙ (λ i. record {
        tables = apply-cut m.touch q touch-within i;
        task = (finish q r m).task;
        outcome = Moved (answer (onward (route c.place c.kind m.branch) m.task.finishing)
            (record { slot = row c; label = cond (eqb c.place 17) c.label (label-cut i) }));
      })

pub decide-cut : (why : ℕ) (q : Tables) (r : Record) (done done' : Acted)
    → (why ≡ 0 → done' ≡ cut_acted done) → decide why (cut_tables q) r done' ≡ cut_acted (decide why q r done)
decide-cut why q r done done' h = go (eqb why 0) refl
  where
    go : (b : Bool) → eqb why 0 ≡ b → cond b done' (record { tables = cut_tables q; task = r; outcome = Refused why })
        ≡ cut_acted (cond b done (record { tables = q; task = r; outcome = Refused why }))
    go true e = h (eqb-true why 0 e)
    go false e = refl

pub step_cut : (q : Tables) (p : Lent) (r : Record) → step (cut_tables q) p r ≡ cut_acted (step q p r)
unfolding step step_refusal
step_cut q p r =
    ap (λ (why : ℕ). decide why (cut_tables q) r
    (finish (cut_tables q) r (move q.control r.call (word_found (cut_tables q) r.call)))) (step_refusal-cut q p r.call)
    ∙ decide-cut (step_refusal q p r.call) q r (finish q r (move q.control r.call (word_found q r.call))) _ go
  where
    go : step_refusal q p r.call ≡ 0 → finish (cut_tables q) r (move q.control r.call (word_found (cut_tables q) r.call))
        ≡ cut_acted (finish q r (move q.control r.call (word_found q r.call)))
    go e =
        let z = cleared (step_rules q p r.call) refl e in
        let busy = eqb-false _ _ z.1.1.1.1.0 in
        finish-cut q r (record_fine (is_pooled q.control) q.control.slots r.call (not-false _ z.1.1.1.0) busy)
        (control_fine q.control (not-false _ z.0)).slots
