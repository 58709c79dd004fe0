-- The answer: refused before the walk, by the walk, for want of room, or written.
use mathlib.Core.{Path.{◌≡◌, refl, sym, ap, subst, ◌∙◌}, Bool.{Bool, true, false, cond}, List.{List, [], ◌∷◌}}
use Prim.Native.Nat.{ℕ, ◌<◌, ◌≤◌}
use native.Mathlib.Omega.{arith}
use lib.{Dec.ltb, ListN.length}
use borrow.Author.Tests.{le-ltb, ltb-false, ltb-true, ne_eqb, not-false}
use Rattle.model.specs.{Tables.Tables, Sound.{control_sound, row_tests, rows_fit}, Report.waiting}
use Rattle.model.specs.{Walk.{Walk, broken, contents, entries, is_broken, met}, Refusals.{Rule, rule, first, table_rules}}
use Rattle.model.proofs.Tests.{Rules.{tests, cleared, first-refused}, Truth.{not_both, or-false, split}}
use Rattle.std.specs.Prelude.{Some, Ok}
use Rattle.walk.specs.declared.{Way.Way}
use Rattle.walk.specs.{Ways.{ahead, beginning_of, links_on, turned_back, way_of}, Counted.counted}
use Rattle.walk.proofs.{Along.begins-at, Counting.all-counted}
use Rattle.waiting.specs.Waiting.{Written, kept, labels_of, onto, read_out, slots_of, too_short, waiting_refusal}
use Rattle.waiting.specs.{Waiting.written_out, Laid.{Inside, Lays, Walks, trail, laid}}
use Rattle.waiting.proofs.Laid.{keeps, lays}

-- Both tables have room.
pub room : (n : ℕ) (slots labels : List ℕ) → too_short n slots labels ≡ false → (n ≤ length slots) × (n ≤ length labels)
room n slots labels e =
    let z = or-false (ltb (length slots) n) (ltb (length labels) n) e in
    (ltb-false _ _ z.0, ltb-false _ _ z.1)

module _ (q : Tables) (slots labels : List ℕ) where
  -- The rules before the walk, and what they say.
  abbrev rules : List Rule
  rules = table_rules q.control (rows_fit false q.control.slots q)

  abbrev pub why : ℕ
  why = first rules

  pub turned_away : (n : ℕ) → n ≡ why → (n ≡ 0 → ⊥) → kept n slots labels ≡ read_out q slots labels
  unfolding read_out waiting_refusal
  turned_away n e h =
      let later = rule 34 (is_broken (contents q)) ∷ rule 12 (too_short (waiting q) slots labels) ∷ [] in
      let r = first-refused rules later (λ z. h (e ∙ z)) ∙ sym e in
      rw (r, ne_eqb n 0 h)

  module _ (n : ℕ) (e : n ≡ why) (z : n ≡ 0) where
    passed : (control_sound q.control ≡ true) × (rows_fit false q.control.slots q ≡ true)
    passed = let y = cleared rules refl (sym e ∙ z) in (not-false _ y.0, not-false _ y.1.0)

    -- The rows that the walk needs are there.
    rows : (q.control.slots < length q.lefts) × (q.control.slots < length q.rights) × (q.control.slots < length q.labels)
    unfolding rows_fit
    rows = let t = tests (row_tests false q.control.slots q) passed.1 in (ltb-true _ _ t.0, ltb-true _ _ t.1.0, ltb-true _ _ t.1.1.0)

    pub ready : (w : Way) → Ok (Some w) ≡ beginning_of q.control → Walks w q.lefts q.rights q.labels
    unfolding way_of
    ready w b =
        let at = begins-at q.control w b in
        record { on = at.1; left_rows = rw at.0 rows.0; right_rows = rw at.0 rows.1; label_rows = rw at.0 rows.2 }

    pub reads : (v : Walk) → contents q ≡ v → written_out v slots labels ≡ read_out q slots labels
    unfolding read_out waiting_refusal waiting
    reads (entries l) e = rw (passed.0, passed.1, e) (split (too_short (length l) slots labels) (λ h. rw h) (λ h. rw h))
    reads broken e = rw (passed.0, passed.1, e)

-- What comes of nothing waiting, and of what the count says of the walk.
module _ (slots labels : List ℕ) where
  pub nothing : kept 0 slots labels ≡ written_out (entries []) slots labels
  nothing = rw (le-ltb (length slots) 0 (omega arith), le-ltb (length labels) 0 (omega arith))

  pub short : (v : Walk) (m : ℕ) → Ok m ≡ counted v → too_short m slots labels ≡ true → kept 12 slots labels ≡ written_out v slots labels
  short (entries l) m t h = rw (ap (λ (k : ℕ). too_short k slots labels) (sym (all-counted (entries l) m t).1) ∙ h)
  short broken m t h = absurd (not_both refl (all-counted broken m t).0)

  writes : (v : Walk) (m : ℕ) → Ok m ≡ counted v → too_short m slots labels ≡ false → (s l : List ℕ)
      → s ≡ onto (slots_of (met v)) slots → l ≡ onto (labels_of (met v)) labels
      → ◌≡◌ {A = Written} (record { reply = record { code = 0; count = m }; slots = s; labels = l }) (written_out v slots labels)
  writes (entries l) m t h s c es ec =
      let k = (all-counted (entries l) m t).1 in
      rw (ap (λ (k : ℕ). too_short k slots labels) (sym k) ∙ h) (λ i. record { reply = record { code = 0; count = k i }; slots = es i; labels = ec i })
  writes broken m t h s c es ec = absurd (not_both refl (all-counted broken m t).0)

-- The writing, along the links of a way whose direction is known.
module _ (w : Way) (lefts rights labels slots copies : List ℕ) (n : ℕ) where
  abbrev walk : Walk
  walk = turned_back w (ahead w lefts rights labels)

  module _ (t : Ok n ≡ counted walk) (h : too_short n slots copies ≡ false) (right : Bool) (e : w.rightward ≡ right) where
    abbrev links : List ℕ
    links = cond right rights lefts

    chosen : links_on w lefts rights ≡ links
    chosen = ap (λ (b : Bool). cond b rights lefts) e

    -- What it relies on.
    pub may_lay : Walks w lefts rights labels → w.slots < length links → Lays w n links labels slots copies
    may_lay k r =
        let all = all-counted walk n t in
        record {
          link_rows = r;
          label_rows = k.label_rows;
          room = room n slots copies h;
          inside = subst (λ (l : List ℕ). Inside w.slots (trail l labels n w.first)) chosen (keeps w lefts rights labels n all.0 all.1);
        }

    pub lays_all : (s l : List ℕ)
        → s ≡ laid w.rightward n 0 (slots_of (trail links labels n w.first)) slots
        → l ≡ laid w.rightward n 0 (labels_of (trail links labels n w.first)) copies
        → ◌≡◌ {A = Written} (record { reply = record { code = 0; count = n }; slots = s; labels = l }) (written_out walk slots copies)
    lays_all s l es el =
        let all = all-counted walk n t in
        let r = room n slots copies h in
        let back = sym chosen in
        writes slots copies walk n t h s l
        (es ∙ ap (λ (k : List ℕ). laid w.rightward n 0 (slots_of (trail k labels n w.first)) slots) back
        ∙ lays w lefts rights labels n (λ e. e.slot) slots all.0 all.1 r.0)
        (el ∙ ap (λ (k : List ℕ). laid w.rightward n 0 (labels_of (trail k labels n w.first)) copies) back
        ∙ lays w lefts rights labels n (λ e. e.label) copies all.0 all.1 r.1)
