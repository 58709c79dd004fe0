-- The rules stage by stage: refused before the walks, by one of them, or as the rules after them say.
use mathlib.Core.{Path.{◌≡◌, refl, sym, ap, ap₂, subst, ◌∙◌}, Bool.{Bool, true, false, not, cond, ◌&&◌}, List.{List, [], ◌∷◌}}
use mathlib.Core.Logic.{◌≢◌}
use Prim.Native.Nat.{ℕ, ◌+◌, ◌/◌, ◌≤◌}
use native.Mathlib.Omega.{arith}
use lib.{Dec.ltb, ListN.{length, length-map}}
use Rattle.model.specs.{declared.{Control.Control, Entry.Entry}, Tables.{Queue, tables_of, queue_of}, Lists.every}
use Rattle.model.specs.{Sound.{control_tests, control_sound}, Walk.{contents, met}}
use Rattle.model.proofs.{Tests.Rules.tests, Bridge.Facts.from1_true}
use Rattle.sound.specs.Lengths.{lengths_of}
use Rattle.walk.specs.{declared.Unsound.Unsound, Counted.counted}
use Rattle.walk.proofs.Counting.{all-counted, none-counted}
use Rattle.layout.{specs.Rows.records_of, proofs.Rows.length_records}
use Rattle.stock_model.specs.Accounts.{waiting_labels}
use Rattle.join_model.specs.Join.{anchor_in, lanes, source_fits, third_fits, at_rest, fresh}
use Rattle.join_model.{specs.Closed.{late_for, closed_refusal}, proofs.Merged.{interleaved, length_merged}}
use Rattle.std.specs.Prelude.{Result, Ok, Err}
use Rattle.model.specs.{declared.Refusal.Refusal, Outcomes.Refused}
use Rattle.join.specs.{declared.admit.Waiting.Waiting, Stages.{lengths_fit, tests_refusal, later_refusal}}
use Rattle.join.specs.Admits.{walked, Admits}

-- Long enough by the lengths is long enough, whatever marks and next table are told of.
pub fits-is : (c : Control) (rows : List (List ℕ)) (lefts rights labels told marks next : List ℕ)
    → lengths_fit c (lengths_of (tables_of c lefts rights labels told []) (length rows))
    ≡ source_fits (queue_of c (records_of rows) lefts rights labels marks next)
unfolding lengths_fit source_fits
fits-is c rows lefts rights labels told marks next = rw length_records

one_applies : (a b q f : Bool) (rest : ℕ) → tests_refusal a b q f ≢ 0
    → cond (not a) 34 (cond (not b) 34 (cond (not q) 34 (cond (not f) 12 rest))) ≡ tests_refusal a b q f
unfolding tests_refusal
one_applies true true true true rest h = absurd (h refl)
one_applies true true true false rest h = refl
one_applies true true false f rest h = refl
one_applies true false q f rest h = refl
one_applies false b q f rest h = refl

none-applies : (a b q f : Bool) → tests_refusal a b q f ≡ 0 → (a ≡ true) × (b ≡ true) × (q ≡ true) × (f ≡ true)
unfolding tests_refusal
none-applies true true true true e = (refl, refl, refl, refl)
none-applies true true true false e = absurd (omega arith)
none-applies true true false f e = absurd (omega arith)
none-applies true false q f e = absurd (omega arith)
none-applies false b q f e = absurd (omega arith)

module _ (a b q : Queue) where
  abbrev pub why : ℕ
  why =
      tests_refusal (control_sound a.tables.control) (control_sound b.tables.control) (control_sound q.tables.control)
      (every (source_fits a ∷ source_fits b ∷ third_fits q ∷ []))

  pub turned_away : (n : ℕ) → n ≡ why → n ≢ 0 → Admits a b q (Refused n)
  unfolding closed_refusal
  turned_away n e h = (e ∙ sym (one_applies _ _ _ _ _ (λ z. h (e ∙ z))), h)

  module _ (n : ℕ) (e : n ≡ why) (z : n ≡ 0) where
    passed : (control_sound a.tables.control ≡ true) × (control_sound b.tables.control ≡ true) × (control_sound q.tables.control ≡ true)
        × (every (source_fits a ∷ source_fits b ∷ third_fits q ∷ []) ≡ true)
    passed = none-applies _ _ _ _ (sym e ∙ z)

    pub small : q.tables.control.slots ≤ 1023
    unfolding control_sound
    small = (from1_true 1023 q.tables.control.slots (tests (control_tests q.tables.control) passed.2).1.0).1

    first-lost : (u : Unsound) → Err u ≡ counted (contents a.tables) → Admits a b q (Refused 34)
    unfolding closed_refusal
    first-lost u g = (rw (passed.0, passed.1, passed.2, passed.3, none-counted (contents a.tables) u g), λ z. omega arith)

    module _ (k : ℕ) (g : Ok k ≡ counted (contents a.tables)) where
      second-lost : (u : Unsound) → Err u ≡ counted (contents b.tables) → Admits a b q (Refused 34)
      unfolding closed_refusal
      second-lost u h = (
        rw (
          passed.0,
          passed.1,
          passed.2,
          passed.3,
          (all-counted (contents a.tables) k g).0,
          none-counted
              (contents b.tables) u h,
        ),
        λ z. omega arith,
      )

      module _ (m : ℕ) (h : Ok m ≡ counted (contents b.tables)) where
        in_first : k ≡ length (waiting_labels a.tables)
        in_first = (all-counted (contents a.tables) k g).1 ∙ sym (length-map (met (contents a.tables)) (λ (e : Entry). e.label))

        in_second : m ≡ length (waiting_labels b.tables)
        in_second = (all-counted (contents b.tables) m h).1 ∙ sym (length-map (met (contents b.tables)) (λ (e : Entry). e.label))

        in_both : k + m ≡ length (lanes a b)
        in_both = ap₂ (λ (x y : ℕ). x + y) in_first in_second ∙ sym (length_merged (interleaved (waiting_labels a.tables) (waiting_labels b.tables)))

        module _ (code : ℕ)
            (d : code ≡ later_refusal (every (at_rest a ∷ at_rest b ∷ fresh q ∷ [])) (ltb q.tables.control.slots (k + m))
            (late_for (anchor_in q).tag (k + m))) where
          decided : code ≡ closed_refusal a b q
          unfolding closed_refusal later_refusal
          decided =
              d ∙ ap (λ (n : ℕ). later_refusal (every (at_rest a ∷ at_rest b ∷ fresh q ∷ [])) (ltb q.tables.control.slots n)
              (late_for (anchor_in q).tag n)) in_both
              ∙ rw (passed.0, passed.1, passed.2, passed.3, (all-counted (contents a.tables) k g).0, (all-counted (contents b.tables) m h).0)

          pub turned_away_late : code ≢ 0 → Admits a b q (Refused code)
          turned_away_late o = (decided, o)

          pub let_in : code ≡ 0 → Admits a b q (Ok (record { first = k; second = m }))
          let_in o = record { none = sym decided ∙ o; first = in_first; second = in_second }

    -- What the walks said: 34, or what they counted.
    pub lost : (e : Refusal) → Err e ≡ walked (counted (contents a.tables)) (counted (contents b.tables)) → Admits a b q (Err e)
    lost e w = go _ _ refl refl w
      where
        go : (x y : Result ℕ Unsound) → x ≡ counted (contents a.tables) → y ≡ counted (contents b.tables) → Err e ≡ walked x y → Admits a b q (Err e)
        go (Err u) y ex ey w = subst (Admits a b q) (sym w) (first-lost u ex)
        go (Ok k) (Err u) ex ey w = subst (Admits a b q) (sym w) (second-lost k ex u ey)
        go (Ok k) (Ok m) ex ey w = absurd (cc)

    abbrev Met : Waiting → Type 0
    Met w = (Ok w.first ≡ counted (contents a.tables)) × (Ok w.second ≡ counted (contents b.tables))

    pub met_all : (v : Waiting) → Ok v ≡ walked (counted (contents a.tables)) (counted (contents b.tables)) → Met v
    met_all v w = go _ _ refl refl w
      where
        go : (x y : Result ℕ Unsound) → x ≡ counted (contents a.tables) → y ≡ counted (contents b.tables) → Ok v ≡ walked x y → Met v
        go (Err u) y ex ey w = absurd (cc)
        go (Ok k) (Err u) ex ey w = absurd (cc)
        go (Ok k) (Ok m) ex ey w = let e : record { first = k; second = m } ≡ v = cc in subst Met e (ex, ey)

-- The rules before the walks, by the tests of lengths that were made.
pub tried : (first second third : Control) (rows1 rows2 rows : List (List ℕ)) (l1 r1 b1 l2 r2 b2 l r b m m1 x1 m2 x2 x : List ℕ)
    {f1 f2 f3 : Bool} {n : ℕ}
    → f1 ≡ lengths_fit first (lengths_of (tables_of first l1 r1 b1 [] []) (length rows1))
    → f2 ≡ lengths_fit second (lengths_of (tables_of second l2 r2 b2 [] []) (length rows2))
    → f3 ≡ lengths_fit third (lengths_of (tables_of third l r b m []) (length rows))
    → n ≡ tests_refusal (control_sound first) (control_sound second) (control_sound third)
    (every (f1 ∷ f2 ∷ (f3 && ltb (third.slots / 64) (length m)) ∷ []))
    → n ≡ why (queue_of first (records_of rows1) l1 r1 b1 m1 x1) (queue_of second (records_of rows2) l2 r2 b2 m2 x2)
    (queue_of third (records_of rows) l r b m x)
unfolding third_fits
tried first second third rows1 rows2 rows l1 r1 b1 l2 r2 b2 l r b m m1 x1 m2 x2 x e1 e2 e3 e =
    let g1 = e1 ∙ fits-is first rows1 l1 r1 b1 [] m1 x1 in
    let g2 = e2 ∙ fits-is second rows2 l2 r2 b2 [] m2 x2 in
    let g3 = e3 ∙ fits-is third rows l r b m m x in
    e ∙ (λ i. tests_refusal (control_sound first) (control_sound second) (control_sound third)
    (every (g1 i ∷ g2 i ∷ (g3 i && ltb (third.slots / 64) (length m)) ∷ [])))
