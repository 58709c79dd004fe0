-- The own link word of a push at 3, once loaded, is nobody else's to change: so its compare-and-swap fits.
use mathlib.Core.{Path.{◌≡◌, refl, ap, sym, subst, ◌∙◌}, Bool.{Bool, true, false, cond, not}}
use Prim.Native.Nat.{ℕ, ◌<◌}
use native.Mathlib.Omega.{arith}
use lib.{Dec.eqb, ListN.{length, get_or, set}, Seq.{get_or-set_same, get_or-set_other}}
use borrow.Author.Tests.{eqb-true, eqb-false, eq-eqb}
use Rattle.model.specs.{declared.{Record.Record, Op.TheVariants.{Push, Pop, PushPooled, Step}}, Sides.links}
use Rattle.model.specs.{Tables.{Tables, Queue, task_at, unused, linked, marked}, Refusals.late, Places.{link_side, row}}
use Rattle.model.proofs.{Tests.Truth.{either, by_test, not_both, split}, Invariant.Owners.{Owner, held, queued}}
use Rattle.model.proofs.Places.Owned.{queued_held}
use Rattle.threads_model.specs.{declared.PlannedTouch.PlannedTouch, Split.{Touched, perform, plan}, Starts.own_refusal}
use Rattle.threads_model.specs.Instructions.{Hand, free, begun, loaded, knows, claims, looks, labels, marks, ends, tick}
use Rattle.threads_model.specs.Instructions.{Ticked, at_once, is_as_read, is_to_put, loads_own, one_word, put_into, puts_own}
use Rattle.threads_model.specs.Instructions.{reads_next, replaces, step_first, clears, written}
use Rattle.threads_model.specs.Crew.{Crew, next, ticked, go}
use Rattle.threads.specs.Promises.{record_of}
use Rattle.threads.proofs.Follow.{LinkPlans.changes, Starting.looks-is, Good.Good, Relation.{Extra, Sim}}
use Rattle.threads.proofs.Follow.Starting.{named_own, first_pop, first_push_pooled, first_push, claims-is}
use Rattle.threads.proofs.Follow.Good as own

-- Another row's link words stay.
linked_other : (q : Tables) (d y w side x : ℕ) → (x ≡ y → ⊥) → get_or (links (linked q d y w) side) x 0 ≡ get_or (links q side) x 0
linked_other q d y w side x ne =
    split (eqb side 1)
    (λ s. split (eqb d 1) (λ e. rw (s, e) (get_or-set_other q.rights y x w 0 ne)) (λ e. rw (s, e)))
    (λ s. split (eqb d 1) (λ e. rw (s, e)) (λ e. rw (s, e) (get_or-set_other q.lefts y x w 0 ne)))

module _ (pooled slots : ℕ) where
  abbrev plan_of : Record → PlannedTouch
  plan_of r = plan pooled slots r.call

  -- A thread that has loaded its own link word finds it unchanged.
  abbrev pub Reads : Tables → Record → Hand → Type 0
  Reads q r free = Unit {0}
  Reads q r (begun op) = Unit {0}
  Reads q r (loaded w) = eqb (plan_of r).act 11 ≡ false → is_as_read q (plan_of r) w ≡ true
  Reads q r (knows label) = Unit {0}
  Reads q r (claims side slot label) = Unit {0}
  Reads q r (looks side slot label) = Unit {0}
  Reads q r (labels both slot label task o) = Unit {0}
  Reads q r (marks slot task o) = Unit {0}
  Reads q r (ends task o) = Unit {0}

  -- What an instruction leaves to the thread itself.
  module _ (q : Tables) (r : Record) where
    abbrev Own : Ticked → Type 0
    Own k = Reads k.tables r k.hand

    own_loads : Own (loads_own pooled slots q r)
    unfolding loads_own is_as_read
    own_loads = let link = get_or (links q (plan_of r).side) (plan_of r).slot 0 in either Own (is_to_put slots (plan_of r) link) (λ _. eq-eqb link link refl) tt

    own_puts : (w : ℕ) → Own (puts_own pooled slots q r w)
    unfolding puts_own
    own_puts w = either Own (is_as_read q (plan_of r) w) tt own_loads

    own_once : Own (at_once pooled slots q r)
    unfolding at_once
    own_once = tt

    own_next : eqb (plan_of r).act 11 ≡ true → Own (reads_next pooled slots q r)
    unfolding reads_next
    own_next e = either Own (eqb (get_or q.next (plan_of r).slot 0) (plan_of r).word) tt (λ n. absurd (not_both e n))

    own_word : Own (one_word pooled slots q r)
    unfolding one_word
    own_word = by_test Own (eqb (plan_of r).act 11) own_next (λ _. own_once)

    own_replaces : (w : ℕ) → Own (replaces pooled slots q r w)
    unfolding replaces
    own_replaces w = either Own (eqb (plan_of r).act 11) own_once (own_puts w)

    own_steps : Own (step_first pooled slots q r)
    unfolding step_first
    own_steps =
        either Own (eqb (plan_of r).act 5) own_loads
        (either Own (eqb (plan_of r).act 6) tt
        (either Own (eqb (plan_of r).act 9) (either Own (eqb q.control.head (plan_of r).expected) tt tt) own_word))

    own_reads : (k : Hand) → Reads (tick pooled slots q r k).tables (written k r) (tick pooled slots q r k).hand
    unfolding clears
    own_reads free = tt
    own_reads (begun (Push side slot label)) = subst Own (sym (first_push q r pooled slots side slot label))
        (either Own (eqb (named_own pooled slots r.call side slot) 0) (either Own (late q.control) tt tt) tt)
    own_reads (begun (Pop side)) = subst Own (sym (first_pop q r pooled slots side))
        (either Own (eqb (own_refusal pooled slots r.call side false false) 0) (either Own (late q.control) tt tt) tt)
    own_reads (begun (PushPooled side label)) = subst Own (sym (first_push_pooled q r pooled slots side label))
        (either Own (eqb (own_refusal pooled slots r.call side (not (eqb pooled 1)) false) 0) (either Own (late q.control) tt tt) tt)
    own_reads (begun Step) = own_steps
    own_reads (loaded w) = own_replaces w
    own_reads (knows label) = tt
    own_reads (claims side slot label) = subst Own (sym (claims-is q r side slot label)) (either Own (marked q.marks slot) tt tt)
    own_reads (looks side slot label) = subst Own (sym (looks-is q r side slot label)) tt
    own_reads (labels true slot label task o) = tt
    own_reads (labels false slot label task o) = tt
    own_reads (marks slot task o) = tt
    own_reads (ends task o) = tt

    -- What it leaves of the link words of a row x that it does not change.
    module _ (x : ℕ) where
      abbrev Keeps : Ticked → Type 0
      Keeps k = (side : ℕ) → get_or (links k.tables side) x 0 ≡ get_or (links q side) x 0

      keeps-loads : Keeps (loads_own pooled slots q r)
      unfolding loads_own
      keeps-loads = either Keeps (is_to_put slots (plan_of r) (get_or (links q (plan_of r).side) (plan_of r).slot 0)) (λ _. refl) (λ _. refl)

      keeps-puts : (w : ℕ) → (x ≡ (plan_of r).slot → ⊥) → Keeps (puts_own pooled slots q r w)
      unfolding puts_own
      keeps-puts w ne = either Keeps (is_as_read q (plan_of r) w)
          (λ side. linked_other q (plan_of r).side (plan_of r).slot (put_into (plan_of r) w) side x ne) keeps-loads

      abbrev LinksKept : Touched → Type 0
      LinksKept d = (side : ℕ) → get_or (links d.tables side) x 0 ≡ get_or (links q side) x 0

      abbrev Row : Tables → Type 0
      Row t = (side : ℕ) → get_or (links t side) x 0 ≡ get_or (links q side) x 0

      keeps-touch : (p : PlannedTouch) → eqb p.act 5 ≡ false
          → (p.act ≡ 4 → get_or (links q p.side) p.slot 0 ≡ p.expected → x ≡ p.slot → ⊥) → LinksKept (perform q p)
      unfolding perform
      keeps-touch p no5 ne =
          let same : Row q = λ (side : ℕ). refl in
          let head = q.control.head in
          either LinksKept (eqb p.act 1) same
          (either LinksKept (eqb p.act 2) (either Row (eqb q.control.anchor p.expected) same same)
          (either LinksKept (eqb p.act 3) same
          (by_test LinksKept (eqb p.act 4)
          (λ e. by_test Row (eqb (get_or (links q p.side) p.slot 0) p.expected)
          (λ z side. linked_other q p.side p.slot p.word side x (ne (eqb-true _ _ e) (eqb-true _ _ z))) (λ _. same))
          (λ _. by_test LinksKept (eqb p.act 5) (λ e. absurd (not_both e no5))
          (λ _. either LinksKept (eqb p.act 6) same
          (either LinksKept (eqb p.act 7) same
          (either LinksKept (eqb p.act 8) (either Row (eqb head p.expected) same same)
          (either LinksKept (eqb p.act 9) (either Row (eqb head p.expected) same same)
          (either LinksKept (eqb p.act 10) same
          (either LinksKept (eqb p.act 11) same same))))))))))

      keeps-once : eqb (plan_of r).act 5 ≡ false
          → ((plan_of r).act ≡ 4 → get_or (links q (plan_of r).side) (plan_of r).slot 0 ≡ (plan_of r).expected → x ≡ (plan_of r).slot → ⊥)
          → Keeps (at_once pooled slots q r)
      unfolding at_once
      keeps-once no5 ne = keeps-touch (plan_of r) no5 ne

      keeps-next : Keeps (reads_next pooled slots q r)
      unfolding reads_next
      keeps-next = either Keeps (eqb (get_or q.next (plan_of r).slot 0) (plan_of r).word) (λ _. refl) (λ _. refl)

      keeps-word : eqb (plan_of r).act 5 ≡ false
          → ((plan_of r).act ≡ 4 → get_or (links q (plan_of r).side) (plan_of r).slot 0 ≡ (plan_of r).expected → x ≡ (plan_of r).slot → ⊥)
          → Keeps (one_word pooled slots q r)
      unfolding one_word
      keeps-word no5 ne = either Keeps (eqb (plan_of r).act 11) keeps-next (keeps-once no5 ne)

      keeps-replaces : (w : ℕ) → (eqb (plan_of r).act 11 ≡ false → x ≡ (plan_of r).slot → ⊥) → Keeps (replaces pooled slots q r w)
      unfolding replaces
      keeps-replaces w ne =
          by_test Keeps (eqb (plan_of r).act 11)
          (λ e. let is = eqb-true (plan_of r).act 11 e in
          keeps-once (ap (λ (a : ℕ). eqb a 5) is) (λ four. absurd (let z : ◌≡◌ {A = ℕ} 4 11 = sym four ∙ is in omega arith)))
          (λ n. keeps-puts w (ne n))

      keeps-steps : ((plan_of r).act ≡ 4 → get_or (links q (plan_of r).side) (plan_of r).slot 0 ≡ (plan_of r).expected → x ≡ (plan_of r).slot → ⊥)
          → Keeps (step_first pooled slots q r)
      unfolding step_first
      keeps-steps ne =
          by_test Keeps (eqb (plan_of r).act 5) (λ _. keeps-loads)
          (λ no5. either Keeps (eqb (plan_of r).act 6) (λ _. refl)
          (either Keeps (eqb (plan_of r).act 9) (either Keeps (eqb q.control.head (plan_of r).expected) (λ _. refl) (λ _. refl))
          (keeps-word no5 ne)))

-- Every thread of the tasks opened.
abbrev pub AllRead : ℕ → ℕ → ℕ → Crew → Type 0
AllRead tasks pooled slots m = (u : ℕ) → u < tasks → Reads pooled slots m.queue.tables (task_at m.queue u) (m.hands u)

module _ (tasks pooled slots : ℕ) (m : Crew) (q : Queue) (f : Sim tasks pooled slots m q) (g : Good tasks pooled slots q) where
  abbrev T : Tables
  T = m.queue.tables

  abbrev G : Tables
  G = q.tables

  abbrev h : ℕ → Owner
  h = g.matched.inv.owner

  as_listed : (t : ℕ) (k : Hand) → m.hands t ≡ k → record_of k (task_at m.queue t) ≡ task_at q t
  as_listed t k at = subst (λ (k : Hand). record_of k (task_at m.queue t) ≡ task_at q t) at (f.records t)

  -- The row of touch 5 is of a slot that the thread owns; that of touch 4, where it is made, waits in the queue.
  own_slot : (t : ℕ) → t < tasks → task_at m.queue t ≡ task_at q t → (plan pooled slots (task_at m.queue t).call).act ≡ 5
      → h (plan pooled slots (task_at m.queue t).call).slot ≡ held t
  own_slot t lt same five =
      let n = (changes pooled slots (task_at m.queue t).call).five five in
      subst (λ (x : ℕ). h x ≡ held t) (sym (n.slot ∙ ap (λ (r : Record). row r.call) same))
      (own.own3 tasks pooled slots q g t lt (ap (λ (r : Record). r.call.place) (sym same) ∙ n.place)
      (ap (λ (r : Record). r.call.kind) (sym same) ∙ n.push))

  back_slot : (t : ℕ) → t < tasks → task_at m.queue t ≡ task_at q t → let p = plan pooled slots (task_at m.queue t).call in
      p.act ≡ 4 → get_or (links T p.side) p.slot 0 ≡ p.expected → h p.slot ≡ queued
  back_slot t lt same four is =
      let r = task_at m.queue t in
      let p = plan pooled slots r.call in
      let n = (changes pooled slots r.call).four four in
      let found : get_or (links G (link_side (task_at q t).call)) (row (task_at q t).call) 0 ≡ (task_at q t).call.link =
      subst (λ (r : Record). get_or (links G (link_side r.call)) (row r.call) 0 ≡ r.call.link) same
      ((λ i. get_or (links G (sym n.side i)) (sym n.slot i) 0) ∙ sym (ap (λ (X : Tables). get_or (links X p.side) p.slot 0) f.rest) ∙ is
      ∙ n.expected) in
      subst (λ (x : ℕ). h x ≡ queued) (sym (n.slot ∙ ap (λ (r : Record). row r.call) same))
      (own.near9 tasks pooled slots q g t lt (ap (λ (r : Record). r.call.place) (sym same) ∙ n.place) found)

  -- An instruction of thread t leaves the link words of a slot that another owns.
  module _ (t : ℕ) (lt : t < tasks) (u : ℕ) (ne : u ≡ t → ⊥) (x : ℕ) (hx : h x ≡ held u) where
    abbrev r : Record
    r = task_at m.queue t

    abbrev Stay : Ticked → Type 0
    Stay k = Keeps pooled slots T r x k

    spares : (k : Hand) → m.hands t ≡ k → Stay (tick pooled slots T r k)
    unfolding clears
    spares free at = λ _. refl
    spares (begun (Push side slot label)) at = subst Stay (sym (first_push T r pooled slots side slot label))
        (either Stay (eqb (named_own pooled slots r.call side slot) 0) (either Stay (late T.control) (λ _. refl) (λ _. refl)) (λ _. refl))
    spares (begun (Pop side)) at = subst Stay (sym (first_pop T r pooled slots side))
        (either Stay (eqb (own_refusal pooled slots r.call side false false) 0) (either Stay (late T.control) (λ _. refl) (λ _. refl)) (λ _. refl))
    spares (begun (PushPooled side label)) at = subst Stay (sym (first_push_pooled T r pooled slots side label))
        (either Stay (eqb (own_refusal pooled slots r.call side (not (eqb pooled 1)) false) 0)
        (either Stay (late T.control) (λ _. refl) (λ _. refl)) (λ _. refl))
    spares (begun Step) at = keeps-steps pooled slots T r x
        (λ four is e. queued_held (sym (back_slot t lt (as_listed t (begun Step) at) four is) ∙ sym (ap h e) ∙ hx))
    spares (loaded w) at =
        let z = subst (λ (k : Hand). Extra tasks pooled slots t r G.labels k) at (f.extra t) in
        keeps-replaces pooled slots T r x w (λ n e. ne (own.held_same tasks pooled slots q g u t x hx
        (subst (λ (y : ℕ). h y ≡ held t) (sym e) (own_slot t lt (as_listed t (loaded w) at) (z n).0))))
    spares (knows label) at = λ _. refl
    spares (claims side slot label) at = subst Stay (sym (claims-is T r side slot label)) (either Stay (marked T.marks slot) (λ _. refl) (λ _. refl))
    spares (looks side slot label) at = subst Stay (sym (looks-is T r side slot label)) (λ _. refl)
    spares (labels both slot label task o) at = λ _. refl
    spares (marks slot task o) at = λ _. refl
    spares (ends task o) at = λ _. refl

  module _ (t : ℕ) (lt : t < tasks) where
    abbrev after : Ticked
    after = ticked pooled slots m t

    others_read : (u : ℕ) → u < tasks → (u ≡ t → ⊥) → (k : Hand) → m.hands u ≡ k → Reads pooled slots T (task_at m.queue u) k
        → Reads pooled slots after.tables (task_at m.queue u) k
    unfolding is_as_read
    others_read u lu ne free at z = tt
    others_read u lu ne (begun op) at z = tt
    others_read u lu ne (loaded w) at z = λ n.
        let p = plan pooled slots (task_at m.queue u).call in
        let five = (subst (λ (k : Hand). Extra tasks pooled slots u (task_at m.queue u) G.labels k) at (f.extra u) n).0 in
        ap (λ (y : ℕ). eqb y w)
        (spares t lt u ne p.slot (own_slot u lu (as_listed u (loaded w) at) five) (m.hands t) refl p.side) ∙ z n
    others_read u lu ne (knows label) at z = tt
    others_read u lu ne (claims side slot label) at z = tt
    others_read u lu ne (looks side slot label) at z = tt
    others_read u lu ne (labels both slot label task o) at z = tt
    others_read u lu ne (marks slot task o) at z = tt
    others_read u lu ne (ends task o) at z = tt

    low : t < length m.queue.records
    low = let z = own.records-long tasks pooled slots q g in let w = g.count in let v = f.long in omega (arith, z, w, v, lt)

    pub next-reads : AllRead tasks pooled slots m → AllRead tasks pooled slots (go pooled slots m (next t))
    unfolding go
    next-reads z u lu =
        let T' = after.tables in
        let rs = m.queue.records in
        let r' = written (m.hands t) (task_at m.queue t) in
        split (eqb u t)
        (λ e. subst (λ (u : ℕ). Reads pooled slots T' (get_or (set rs t r') u unused) (cond (eqb u t) after.hand (m.hands u))) (sym (eqb-true u t e))
        (subst (λ (b : Bool). Reads pooled slots T' (get_or (set rs t r') t unused) (cond b after.hand (m.hands t))) (sym (eq-eqb t t refl))
        (subst (λ (r : Record). Reads pooled slots T' r after.hand) (sym (get_or-set_same rs t r' unused low))
        (own_reads pooled slots T (task_at m.queue t) (m.hands t)))))
        (λ e. subst (λ (b : Bool). Reads pooled slots T' (get_or (set rs t r') u unused) (cond b after.hand (m.hands u))) (sym e)
        (subst (λ (r : Record). Reads pooled slots T' r (m.hands u)) (sym (get_or-set_other rs t u r' unused (eqb-false u t e)))
        (others_read u lu (eqb-false u t e) (m.hands u) refl (z u lu))))
