-- What a touch does on tables that differ in labels and marks alone.
use mathlib.Core.{Path.{◌≡◌, refl, ap}, Bool.{Bool, true, false, cond}, List.List}
use Prim.Native.Nat.{ℕ}
use lib.{Dec.eqb, ListN.{get_or, set}, Seq.set-get_or}
use Rattle.word.specs.Link.{link_of, pack_link}
use Rattle.model.specs.Tables.{Tables, tables_of, with_mark, with_anchor, with_head, linked, with_marks, with_next, with_taken}
use Rattle.model.{specs.{Sides.links, Sound.link_sound}, proofs.Tests.Truth.not_both}
use Rattle.threads_model.specs.{declared.PlannedTouch.PlannedTouch, Split.{Touched, perform, swapped, plan_of}}

abbrev pub overlay : Tables → List ℕ → List ℕ → Tables
overlay q l k = tables_of q.control q.lefts q.rights l k q.next

pub record Over (q : Tables) (l k : List ℕ) (d e : Touched) : Type 0 where
  pub tables : e.tables ≡ overlay d.tables l k
  pub found : e.found ≡ d.found
  pub labels : d.tables.labels ≡ q.labels
  pub marks : d.tables.marks ≡ q.marks

pub both : {A : Type 0} (R : A → A → Type 0) (b : Bool) {x y x' y' : A} → (b ≡ true → R x x') → (b ≡ false → R y y')
    → R (cond b x y) (cond b x' y')
both R true f g = f refl
both R false f g = g refl

module _ (q : Tables) (l k : List ℕ) where
  same : (w : ℕ) → Over q l k (record { tables = q; found = w }) (record { tables = overlay q l k; found = w })
  same w = record { tables = refl; found = refl; labels = refl; marks = refl }

  stored : (q' : Tables) (w : ℕ) → q'.labels ≡ q.labels → q'.marks ≡ q.marks
      → Over q l k (record { tables = q'; found = w }) (record { tables = overlay q' l k; found = w })
  stored q' w x y = record { tables = refl; found = refl; labels = x; marks = y }

  swap : (q' : Tables) (w : ℕ) (b : Bool) → q'.labels ≡ q.labels → q'.marks ≡ q.marks
      → Over q l k (record { tables = cond b q' q; found = w }) (record { tables = cond b (overlay q' l k) (overlay q l k); found = w })
  swap q' w true x y = stored q' w x y
  swap q' w false x y = same w

  pub over : (p : PlannedTouch) → eqb p.act 6 ≡ false → eqb p.act 9 ≡ false → Over q l k (perform q p) (perform (overlay q l k) p)
  unfolding perform
  over p no6 no9 =
      let R = Over q l k in
      let anchor = q.control.anchor in
      let head = q.control.head in
      let link = get_or (links q p.side) p.slot 0 in
      both R (eqb p.act 1) (λ _. same anchor)
      (λ _. both R (eqb p.act 2) (λ _. swap (with_anchor q p.word) anchor (eqb anchor p.expected) refl refl)
      (λ _. both R (eqb p.act 3) (λ _. same link)
      (λ _. both R (eqb p.act 4) (λ _. swap (linked q p.side p.slot p.word) link (eqb link p.expected) refl refl)
      (λ _. both R (eqb p.act 5)
      (λ _. swap (linked q p.side p.slot (pack_link (record { tag = (link_of link).tag; slot = p.word }))) link
      (link_sound q.control.slots link) refl refl)
      (λ _. both R (eqb p.act 6) (λ e. absurd (not_both e no6))
      (λ _. both R (eqb p.act 7) (λ _. same head)
      (λ _. both R (eqb p.act 8) (λ _. swap (with_head q p.word) head (eqb head p.expected) refl refl)
      (λ _. both R (eqb p.act 9) (λ e. absurd (not_both e no9))
      (λ _. both R (eqb p.act 10) (λ _. same (get_or q.next p.slot 0))
      (λ _. both R (eqb p.act 11) (λ _. stored (with_next q (set q.next p.slot p.word)) 0 refl refl)
      (λ _. same 0)))))))))))

-- Acts 5, 6, 9 and 11, by their act.
abbrev acting : PlannedTouch → ℕ → PlannedTouch
acting p n = plan_of n p.side p.slot p.expected p.word p.label

module _ (q : Tables) (p : PlannedTouch) where
  reacted : (n : ℕ) → p.act ≡ n → p ≡ acting p n
  reacted n e = λ i. record { act = e i; label = p.label; side = p.side; slot = p.slot; expected = p.expected; word = p.word }

  pub perform5 : p.act ≡ 5
      → perform q p ≡ (let link = get_or (links q p.side) p.slot 0 in record {
        tables =
            cond (link_sound q.control.slots link) (linked q p.side p.slot (pack_link (record { tag = (link_of link).tag; slot = p.word }))) q;
        found = link;
      })
  unfolding perform
  perform5 e = ap (perform q) (reacted 5 e)

  pub perform6 : p.act ≡ 6
      → perform q p ≡ record { tables = with_marks q (with_mark q.marks p.slot 0); found = get_or q.labels p.slot 0 }
  unfolding perform
  perform6 e = ap (perform q) (reacted 6 e)

  pub perform9 : p.act ≡ 9
      → perform q p ≡ swapped q q.control.head p.expected (with_taken (with_head q p.word) p.slot p.label)
  unfolding perform
  perform9 e = ap (perform q) (reacted 9 e)

  pub perform11 : p.act ≡ 11 → perform q p ≡ record { tables = with_next q (set q.next p.slot p.word); found = 0 }
  unfolding perform
  perform11 e = ap (perform q) (reacted 11 e)

-- A link word that is stored where it stands already.
pub linked-same : (q : Tables) (side x : ℕ) → linked q side x (get_or (links q side) x 0) ≡ q
linked-same q side x = go (eqb side 1)
  where
    go : (b : Bool) → tables_of q.control (cond b q.lefts (set q.lefts x (get_or (cond b q.rights q.lefts) x 0)))
        (cond b (set q.rights x (get_or (cond b q.rights q.lefts) x 0)) q.rights) q.labels q.marks q.next ≡ q
    go true = λ i. tables_of q.control q.lefts (set-get_or q.rights x 0 i) q.labels q.marks q.next
    go false = λ i. tables_of q.control (set-get_or q.lefts x 0 i) q.rights q.labels q.marks q.next
