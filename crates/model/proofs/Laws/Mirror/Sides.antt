-- What a side picks, mirrored: the opposite side picks the same of the mirrored tables.
use mathlib.Core.{Path.{◌≡◌, refl, ap, ap₂, ◌∙◌}, Bool.{Bool, true, false, ◌||◌, not, cond}, List.List}
use Prim.Native.Nat.{ℕ, zero, suc, ◌<◌}
use native.Mathlib.Omega.{arith}
use lib.{Dec.{eqb, leb}, ListN.get_or}
use borrow.Author.Tests.{leb-true}
use Rattle.word.specs.{declared.Anchor.Anchor, Anchor.anchor_of, Link.link_of}
use Rattle.model.specs.{declared.Call.Call, Tables.Tables, Places.{side_of, end_seen, row, link_side, word_found}}
use Rattle.model.specs.Mirror.{mirror_side, mirror_status, mirror_anchor, mirror_tables, mirror_busy}
use Rattle.model.specs.{Sides.{opposite, near, far, facing, links, pushing, status_side}, Kinds.{helping, is_push}}
use Rattle.model.proofs.Laws.Mirror.Packed.{mirror_fields}

-- A side enters by one test alone.
module _ (d : ℕ) where
  pub near_mirror : (a : Anchor) → near (opposite d) (mirror_anchor a) ≡ near d a
  near_mirror a = go (eqb d 1)
    where
      go : (b : Bool) → cond (eqb (cond b 0 1) 1) a.left a.right ≡ cond b a.right a.left
      go true = refl
      go false = refl

  pub far_mirror : (a : Anchor) → far (opposite d) (mirror_anchor a) ≡ far d a
  far_mirror a = go (eqb d 1)
    where
      go : (b : Bool) → cond (eqb (cond b 0 1) 1) a.right a.left ≡ cond b a.left a.right
      go true = refl
      go false = refl

  pub facing_mirror : (tag status n f : ℕ) → facing (opposite d) tag (mirror_status status) n f ≡ mirror_anchor (facing d tag status n f)
  facing_mirror tag status n f = go (eqb d 1)
    where
      go : (b : Bool) → facing (cond b 0 1) tag (mirror_status status) n f ≡ record {
        tag = tag;
        status = mirror_status status;
        left = cond b n f;
        right = cond b f n;
      }
      go true = refl
      go false = refl

  pub links_mirror : (q : Tables) → links (mirror_tables q) (opposite d) ≡ links q d
  links_mirror q = go (eqb d 1)
    where
      go : (b : Bool) → cond (eqb (cond b 0 1) 1) q.lefts q.rights ≡ cond b q.rights q.lefts
      go true = refl
      go false = refl

  pub pushing_mirror : pushing (opposite d) ≡ mirror_status (pushing d)
  unfolding mirror_status
  pushing_mirror = go (eqb d 1)
    where
      go : (b : Bool) → pushing (cond b 0 1) ≡ mirror_status (cond b 1 2)
      go true = refl
      go false = refl

  pub pushing_small : pushing d < 4
  pushing_small = go (eqb d 1)
    where
      go : (b : Bool) → cond b 1 2 < 4
      go true = omega arith
      go false = omega arith

-- The side of a step, where the record is sound: its side is 0 or 1, and a record that helps has read RPUSH or LPUSH.
side_or_status : (h : Bool) (s d : ℕ) → leb d 1 ≡ true → leb s 2 ≡ true → not h || not (eqb s 0) ≡ true
    → cond h (status_side (mirror_status s)) (mirror_side d) ≡ opposite (cond h (status_side s) d)
unfolding mirror_status mirror_side
side_or_status false s zero f g e = refl
side_or_status false s (suc zero) f g e = refl
side_or_status false s (suc (suc d)) f g e = absurd (omega (arith, leb-true (suc (suc d)) 1 f))
side_or_status true zero d f g e = absurd (let z : ◌≡◌ {A = ℕ} 0 1 = cc in omega arith)
side_or_status true (suc zero) d f g e = refl
side_or_status true (suc (suc zero)) d f g e = refl
side_or_status true (suc (suc (suc s))) d f g e = absurd (omega (arith, leb-true (suc (suc (suc s))) 2 g))

module _ (r : Call) where
  pub side_mirror : leb r.side 1 ≡ true → leb (anchor_of r.seen).status 2 ≡ true
      → not (helping r) || not (eqb (anchor_of r.seen).status 0) ≡ true
      → side_of (mirror_busy r) ≡ opposite (side_of r)
  unfolding side_of
  side_mirror f g e =
      ap (λ (a : Anchor). cond (helping r) (status_side a.status) (mirror_side r.side)) (mirror_fields r.seen)
      ∙ side_or_status (helping r) (anchor_of r.seen).status r.side f g e

  module _ (turned : side_of (mirror_busy r) ≡ opposite (side_of r)) where
    pub end_mirror : end_seen (mirror_busy r) ≡ end_seen r
    end_mirror = ap₂ (λ (d : ℕ) (a : Anchor). near d a) turned (mirror_fields r.seen) ∙ near_mirror (side_of r) (anchor_of r.seen)

    pub row_mirror : row (mirror_busy r) ≡ row r
    unfolding row
    row_mirror = ap (λ (x : ℕ).
        cond (eqb r.place 3) (cond (is_push r) r.own x)
        (cond (eqb r.place 5) x
        (cond (eqb r.place 7) r.neighbour
        (cond (eqb r.place 9) r.neighbour
        (cond (eqb r.place 11) x
        (cond (eqb r.place 13) (link_of r.link).slot
        (cond (eqb r.place 14) (link_of r.link).slot
        (cond (eqb r.place 16) r.own
        (cond (eqb r.place 17) r.own 0))))))))) end_mirror

    pub link_side_mirror : link_side (mirror_busy r) ≡ opposite (link_side r)
    unfolding link_side
    link_side_mirror = rw turned (go (eqb r.place 3 || eqb r.place 5))
      where
        go : (b : Bool) → cond b (opposite (opposite (side_of r))) (opposite (side_of r)) ≡ opposite (cond b (opposite (side_of r)) (side_of r))
        go true = refl
        go false = refl

    pub link_met_mirror : (q : Tables) → word_found (mirror_tables q) (mirror_busy r) ≡ word_found q r
    link_met_mirror q =
        let link : get_or (links (mirror_tables q) (link_side (mirror_busy r))) (row (mirror_busy r)) 0 ≡ get_or (links q (link_side r)) (row r) 0 =
        ap₂ (λ (d x : ℕ). get_or (links (mirror_tables q) d) x 0) link_side_mirror row_mirror
        ∙ ap (λ (l : List ℕ). get_or l (row r) 0) (links_mirror (link_side r) q) in
        λ i.
        cond (eqb r.place 3) (link i)
        (cond (eqb r.place 5) (link i)
        (cond (eqb r.place 7) (link i)
        (cond (eqb r.place 9) (link i)
        (cond (eqb r.place 11) (get_or q.labels (row_mirror i) 0)
        (cond (eqb r.place 13) (get_or q.next (row_mirror i) 0) 0)))))
