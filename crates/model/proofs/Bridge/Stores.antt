-- A touch of the tables is a touch of the decoded ones, and link words stay sound.
use mathlib.Core.{Bool.{Bool, cond, false, true}, List.List, Logic.{◌≢◌, ◌⊎◌, inl, inr}}
use mathlib.Core.Path.{◌∙◌, ◌≡◌, ap, fun_ext, refl, subst, sym}
use Prim.Native.Nat.{◌/◌, ◌<◌, ◌^◌, ◌≤◌, ℕ}
use native.Mathlib.Omega.{arith}
use lib.{Dec.{eqb, ltb}, ListN.{get_or, length, set}, Seq.{get_or-set_other, get_or-set_same}}
use borrow.Author.Tests.{eqb-false, eqb-true, lt-ltb}
use Rattle.word.specs.Link.{link_of, spare_of}
use Rattle.model.specs.Places.{Touch, apply, clear_mark, nothing, set_anchor, set_head, set_link, set_next, take_slot}
use Rattle.model.specs.{Tables.{Tables, is_pooled, marked, with_mark, unused, with_taken}, declared.Record.Record}
use Rattle.model.proofs.{Tests.Truth.{by_test, decide_eq, split}, Machine.Machine.{relink, upd}}
use Rattle.model.proofs.Bridge.{Facts.{LinksFine, RowsFine}, Marks.{marked_other, marked-same}}
use Rattle.model.proofs.Bridge.View.{link_at, link_seen, rec_of, touch_seen, view}
use Rattle.model.proofs.Machine.Machine as M

-- A store in a list is a store in the function that it stands for.
upd_list : {A B : Type 0} (f : B → A) (l : List B) (z w : B) (x : ℕ) → x < length l
    → (λ (y : ℕ). f (get_or (set l x w) y z)) ≡ upd (λ y. f (get_or l y z)) x (f w)
unfolding upd
upd_list f l z w x h = fun_ext (λ y. by_test (λ v. f (get_or (set l x w) y z) ≡ v) (eqb y x)
    (λ e. ap (λ (n : ℕ). f (get_or (set l x w) n z)) (eqb-true y x e) ∙ ap f (get_or-set_same l x w z h))
    (λ e. ap f (get_or-set_other l x y w z (eqb-false y x e))))

upd_mark : (ws : List ℕ) (x b : ℕ) → b < 2 → x / 64 < length ws → (λ (y : ℕ). marked (with_mark ws x b) y) ≡ upd (λ y. marked ws y) x (eqb b 1)
unfolding upd
upd_mark ws x b hb hx = fun_ext (λ y. by_test (λ v. marked (with_mark ws x b) y ≡ v) (eqb y x)
    (λ e. ap (λ (n : ℕ). marked (with_mark ws x b) n) (eqb-true y x e) ∙ marked-same ws x b hb hx)
    (λ e. marked_other ws x b hb hx y (eqb-false y x e)))

-- A record put back, where the records beyond the tasks count as idle.
pub task_set : (n : ℕ) (l : List Record) (t : ℕ) (r : Record) → t < length l → t < n
    → (λ (u : ℕ). cond (ltb u n) (rec_of (get_or (set l t r) u unused).call) M.blank)
    ≡ upd (λ u. cond (ltb u n) (rec_of (get_or l u unused).call) M.blank) t (rec_of r.call)
unfolding upd
task_set n l t r h g = fun_ext (λ u. by_test (λ v. cond (ltb u n) (rec_of (get_or (set l t r) u unused).call) M.blank ≡ v) (eqb u t)
    (λ e. let z = eqb-true u t e in
    ap (λ (b : Bool). cond b (rec_of (get_or (set l t r) u unused).call) M.blank) (lt-ltb u n (omega arith))
    ∙ ap (λ (v : ℕ). rec_of (get_or (set l t r) v unused).call) z ∙ ap (λ (x : Record). rec_of x.call) (get_or-set_same l t r unused h))
    (λ e. ap (λ (v : Record). cond (ltb u n) (rec_of v.call) M.blank) (get_or-set_other l t u r unused (eqb-false u t e))))

-- No touch changes the numbers of tasks and slots.
pub touched_tasks : (t : Touch) (q : Tables) → (apply t q).control.tasks ≡ q.control.tasks
touched_tasks nothing q = refl
touched_tasks (set_anchor w) q = refl
touched_tasks (set_link side x w) q = refl
touched_tasks (clear_mark x) q = refl
touched_tasks (take_slot w x l) q = refl
touched_tasks (set_next x v) q = refl
touched_tasks (set_head w) q = refl

pub touched_slots : (t : Touch) (q : Tables) → (apply t q).control.slots ≡ q.control.slots
touched_slots nothing q = refl
touched_slots (set_anchor w) q = refl
touched_slots (set_link side x w) q = refl
touched_slots (clear_mark x) q = refl
touched_slots (take_slot w x l) q = refl
touched_slots (set_next x v) q = refl
touched_slots (set_head w) q = refl

pub touched_pooled : (t : Touch) (q : Tables) → (apply t q).control.pooled ≡ q.control.pooled
touched_pooled nothing q = refl
touched_pooled (set_anchor w) q = refl
touched_pooled (set_link side x w) q = refl
touched_pooled (clear_mark x) q = refl
touched_pooled (take_slot w x l) q = refl
touched_pooled (set_next x v) q = refl
touched_pooled (set_head w) q = refl

-- A touch within the rows, and a sound link word.
abbrev pub WordFine : ℕ → ℕ → Type 0
WordFine slots w = (spare_of w ≡ 0) × ((link_of w).slot ≤ slots) × ((link_of w).tag < 2 ^ 32)

abbrev pub TouchFine : Bool → ℕ → Touch → Type 0
TouchFine pooled slots nothing = Unit {0}
TouchFine pooled slots (set_anchor w) = Unit {0}
TouchFine pooled slots (set_link side x w) = (x ≤ slots) × WordFine slots w
TouchFine pooled slots (clear_mark x) = x ≤ slots
TouchFine pooled slots (take_slot w x l) = (pooled ≡ true) × (x ≤ slots) × WordFine slots w
TouchFine pooled slots (set_next x v) = (pooled ≡ true) × (x ≤ slots) × (v ≤ slots)
TouchFine pooled slots (set_head w) = WordFine slots w

set_keeps : (P : ℕ → Type 0) (l : List ℕ) (x w y : ℕ) → x < length l → P w → P (get_or l y 0) → P (get_or (set l x w) y 0)
set_keeps P l x w y h p g = go (decide_eq y x)
  where
    go : (y ≡ x) ⊎ (y ≢ x) → P (get_or (set l x w) y 0)
    go (inl z) = subst (λ v. P (get_or (set l x w) v 0)) (sym z) (subst P (sym (get_or-set_same l x w 0 h)) p)
    go (inr z) = subst P (sym (get_or-set_other l x y w 0 z)) g

module _ (q : Tables) (h : RowsFine q) where
  relinked : (side x w : ℕ) → x ≤ q.control.slots → (view (apply (set_link side x w) q)).link ≡ relink (view q).link (eqb side 1) x (link_seen w)
  unfolding view relink
  relinked side x w hx = split (eqb side 1)
      (λ e. rw e (fun_ext (elim [ false ↦ refl | true ↦ upd_list link_seen q.rights 0 w x (omega (arith, h.rights)) ])))
      (λ e. rw e (fun_ext (elim [ false ↦ upd_list link_seen q.lefts 0 w x (omega (arith, h.lefts)) | true ↦ refl ])))

  pub view_touched : (t : Touch) → TouchFine (is_pooled q.control) q.control.slots t → view (apply t q) ≡ M.apply (view q) (touch_seen t)
  unfolding view
  view_touched nothing f = refl
  view_touched (set_anchor w) f = refl
  view_touched (set_link side x w) f = λ i. record {
    slots = q.control.slots;
    pooled = (view q).pooled;
    anchor = (view q).anchor;
    head = (view q).head;
    next = (view q).next;
    link = relinked side x w f.0 i;
    label = (view q).label;
    mark = (view q).mark;
  }
  view_touched (clear_mark x) f = λ i. record {
    slots = q.control.slots;
    pooled = (view q).pooled;
    anchor = (view q).anchor;
    head = (view q).head;
    next = (view q).next;
    link = (view q).link;
    label = (view q).label;
    mark = upd_mark q.marks x 0 (omega arith) (omega (arith, h.marks)) i;
  }
  view_touched (take_slot w x l) f = λ i. record {
    slots = q.control.slots;
    pooled = (view q).pooled;
    anchor = (view q).anchor;
    head = link_seen w;
    next = (view q).next;
    link = (view q).link;
    label = upd_list (λ v. v) q.labels 0 l x (omega (arith, h.labels, f.1)) i;
    mark = upd_mark q.marks x 1 (omega arith) (omega (arith, h.marks, f.1)) i;
  }
  view_touched (set_next x v) f = λ i. record {
    slots = q.control.slots;
    pooled = (view q).pooled;
    anchor = (view q).anchor;
    head = (view q).head;
    next = upd_list (λ v. v) q.next 0 v x (omega (arith, h.next f.0, f.1)) i;
    link = (view q).link;
    label = (view q).label;
    mark = (view q).mark;
  }
  view_touched (set_head w) f = refl

  pub view_taken : (x l : ℕ) → x ≤ q.control.slots → view (with_taken q x l) ≡ M.with_label (view q) x l
  unfolding view
  view_taken x l hx = λ i. record {
    slots = q.control.slots;
    pooled = (view q).pooled;
    anchor = (view q).anchor;
    head = (view q).head;
    next = (view q).next;
    link = (view q).link;
    label = upd_list (λ v. v) q.labels 0 l x (omega (arith, h.labels)) i;
    mark = upd_mark q.marks x 1 (omega arith) (omega (arith, h.marks)) i;
  }

  pub links_touched : LinksFine q → (t : Touch) → TouchFine (is_pooled q.control) q.control.slots t → LinksFine (apply t q)
  links_touched k nothing f = record { spare = k.spare; tag = k.tag; slot = k.slot; next = k.next; head = k.head }
  links_touched k (set_anchor w) f = record { spare = k.spare; tag = k.tag; slot = k.slot; next = k.next; head = k.head }
  links_touched k (clear_mark x) f = record { spare = k.spare; tag = k.tag; slot = k.slot; next = k.next; head = k.head }
  links_touched k (take_slot w x l) f = record { spare = k.spare; tag = k.tag; slot = k.slot; next = k.next; head = f.2 }
  links_touched k (set_head w) f = record { spare = k.spare; tag = k.tag; slot = k.slot; next = k.next; head = f }
  links_touched k (set_next x v) f = record {
    spare = k.spare;
    tag = k.tag;
    slot = k.slot;
    next = λ p y g. set_keeps (λ z. z ≤ q.control.slots) q.next x v y (omega (arith, h.next p, f.1)) f.2 (k.next p y g);
    head = k.head;
  }
  links_touched k (set_link side x w) f = record {
    spare = λ d y g. stays (λ v. spare_of v ≡ 0) f.1.0 d y (λ d. k.spare d y g);
    tag = λ d y g. stays (λ v. (link_of v).tag < 2 ^ 32) f.1.2 d y (λ d. k.tag d y g);
    slot = λ d y g. stays (λ v. (link_of v).slot ≤ q.control.slots) f.1.1 d y (λ d. k.slot d y g);
    next = k.next;
    head = k.head;
  }
    where
      stays : (P : ℕ → Type 0) → P w → (d : Bool) (y : ℕ) → ((d : Bool) → P (link_at q d y)) → P (link_at (apply (set_link side x w) q) d y)
      stays P p false y o = by_test (λ l. P (get_or l y 0)) (eqb side 1) (λ e. o false)
          (λ e. set_keeps P q.lefts x w y (omega (arith, h.lefts, f.0)) p (o false))
      stays P p true y o = by_test (λ l. P (get_or l y 0)) (eqb side 1)
          (λ e. set_keeps P q.rights x w y (omega (arith, h.rights, f.0)) p (o true)) (λ e. o true)
