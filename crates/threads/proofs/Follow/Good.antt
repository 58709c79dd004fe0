-- What holds of the queue of a list after an opening, and what ownership says of a thread's slot.
use mathlib.Core.{Path.{◌≡◌, refl, ap, sym, subst, ◌∙◌}, Bool.{Bool, true, false, not, cond}, List.{[], ◌∷◌}}
use mathlib.Core.Logic.{◌≢◌, ◌⊎◌, inl, inr}
use Prim.Native.Nat.{ℕ, suc, ◌<◌, ◌≤◌, ◌/◌}
use native.Mathlib.Omega.{arith}
use lib.{Dec.{eqb, leb}, ListN.{length, get_or}, Seq.set-get_or}
use borrow.Author.Tests.{eq-eqb, eqb-true, leb-true, lt-ltb}
use Rattle.word.specs.Anchor.{anchor_of}
use Rattle.model.specs.{declared.{Call.Call, Asked.Asked, Op.{Op, TheVariants.{Push, Step}}}, Sound.record_sound}
use Rattle.model.specs.Outcomes.{Refused}
use Rattle.model.specs.{History.Ledger, Sides.{links, near}}
use Rattle.model.specs.Tables.{Tables, Queue, is_pooled, at_place, task_at, record_at, marked, started, unused}
use Rattle.model.specs.{Places.{end_seen, link_side, row, side_of}, Refusals.start_refusal, Calls.{Done, act, back}}
use Rattle.model.specs.Refusals.{admission, alone, among, fits, first, is_busy, late, push_refusal, records_fit, rule}
use Rattle.model.proofs.{Tests.Truth.{and-true, by_test, split}, Laws.LentRecord.{lent_record, with_row}}
use Rattle.model.proofs.Invariant.{Owners.{Owner, free, held, queued, shows}, Tasks.{Live, Own, Task, way}}
use Rattle.model.proofs.Bridge.{Facts.{RowsFine, rows_fine}, Operations.task_of, Words.towards_status}
use Rattle.model.proofs.Bridge.View.{anchor_seen, kind_of, link_at, link_seen, place_of, rec_of, state_of, view}
use Rattle.model.proofs.{Chain.Links.inner_in, Lists.Slots.slots as slots_of}
use Rattle.model.proofs.Ledger.{EveryOperation.{act_good, push_good}, Matched.Matched}
use Rattle.model.proofs.Unsound.{Runs.act_safe, Safe.Safe, StartSafe.{Room, push_begins, start_safe}}
use Rattle.model.proofs.Laws.Sizes as sizes
use Rattle.model.proofs.Machine.Machine as M
use Rattle.threads_model.specs.{Split.split_step, Starts.own_refusal, Turns.{act_early, take_early}}
use Rattle.threads.proofs.{Split.Stands.split-stands, Lists.EarlyPush.{early-fits, waited}}

pub record Good (tasks pooled slots : ℕ) (q : Queue) : Type 0 where
  pub position : ℕ
  pub ledger : Ledger
  pub matched : Matched position q ledger
  pub safe : Safe q
  pub long : sizes.fits q ≡ true
  pub count : q.tables.control.tasks ≡ tasks
  pub pool : q.tables.control.pooled ≡ pooled
  pub size : q.tables.control.slots ≡ slots

module _ (tasks pooled slots : ℕ) where
  pub good_act : (q : Queue) (t : ℕ) (o : Op) → Good tasks pooled slots q → Good tasks pooled slots (act q t o).queue
  good_act q t o g = record {
    position = suc g.position;
    ledger = _;
    matched = act_good g.position q g.ledger g.matched t o;
    safe = (act_safe g.position q g.ledger g.matched g.safe t o).1;
    long = sizes.act-fits q t o ∙ g.long;
    count = sizes.act-tasks q t o ∙ g.count;
    pool = sizes.act-pooled q t o ∙ g.pool;
    size = sizes.act-slots q t o ∙ g.size;
  }

  pub act-never : (q : Queue) (t : ℕ) (o : Op) → Good tasks pooled slots q → (act q t o).outcome ≡ Refused 34 → ⊥
  act-never q t o g = (act_safe g.position q g.ledger g.matched g.safe t o).0

  -- The turn of a push that has passed 33, where the tag has room.
  pub good_early : (q : Queue) (t side slot label : ℕ) → Good tasks pooled slots q → Room q t (started 0 side slot label)
      → Good tasks pooled slots (take_early q (record { task = t; op = Push side slot label; early = true })).queue
  unfolding take_early act_early
  good_early q t side slot label g room =
      by_test (λ (d : Done). Good tasks pooled slots d.queue) (eqb (push_refusal q.tables (among q t) (record_at q t) side slot) 33)
      (λ e. let w = waited q t side slot (eqb-true _ _ e) in
      record {
        position = suc g.position;
        ledger = _;
        matched = push_good g.position q g.ledger g.matched t w.lies w.free side slot label w.real w.within w.named w.unmarked;
        safe = start_safe q g.safe t w.lies w.free _ _ (started 0 side slot label)
            (push_begins (is_pooled q.tables.control) q.tables.control.slots side slot label w.sided w.real w.within) room;
        long = early-fits q t side slot label ∙ g.long;
        count = g.count;
        pool = g.pool;
        size = g.size;
      })
      (λ _. good_act q t (Push side slot label) g)

  pub early-never : (q : Queue) (t side slot label : ℕ) → Good tasks pooled slots q
      → (take_early q (record { task = t; op = Push side slot label; early = true })).outcome ≡ Refused 34 → ⊥
  unfolding take_early act_early
  early-never q t side slot label g =
      by_test (λ (d : Done). d.outcome ≡ Refused 34 → ⊥) (eqb (push_refusal q.tables (among q t) (record_at q t) side slot) 33)
      (λ _ e. let w : ◌≡◌ {A = ℕ} 0 1 = cc in omega arith)
      (λ _. act-never q t (Push side slot label) g)

  module _ (q : Queue) (g : Good tasks pooled slots q) where
    abbrev G : Tables
    G = q.tables

    abbrev pub h : ℕ → Owner
    h = g.matched.inv.owner

    abbrev lengths : (fits G ≡ true) × (records_fit G.control.tasks q ≡ true)
    lengths = and-true (fits G) (records_fit G.control.tasks q) g.long

    pub rows : RowsFine G
    rows = rows_fine G lengths.0

    pub records-long : G.control.tasks ≤ length q.records
    records-long = leb-true G.control.tasks (length q.records) lengths.1

    pub label-room : (x : ℕ) → x ≤ slots → x < length G.labels
    label-room x le = let z = rows.labels in let w = g.size in omega (arith, z, w)

    pub mark-room : (x : ℕ) → x ≤ slots → x / 64 < length G.marks
    mark-room x le = let z = rows.marks in let w = g.size in omega (arith, z, w)

    pub held_same : (t u x : ℕ) → h x ≡ held t → h x ≡ held u → t ≡ u
    held_same t u x a b = let e : held t ≡ held u = sym a ∙ b in cc

    module _ (t : ℕ) (lt : t < tasks) where
      abbrev r : Call
      r = record_at q t

      abbrev R : M.Rec
      R = rec_of r

      known : t < G.control.tasks
      known = subst (λ (n : ℕ). t < n) (sym g.count) lt

      task : Task (place_of r.place) (view G) h t R (g.matched.book.calls t)
      unfolding state_of rec_of
      task = subst (λ (r : M.Rec). Task r.place (view G) h t r (g.matched.book.calls t)) (task_of q t known) (g.matched.inv.tasks t)

      placed : (n : ℕ) → r.place ≡ n → Task (place_of n) (view G) h t R (g.matched.book.calls t)
      placed n e = subst (λ (n : ℕ). Task (place_of n) (view G) h t R (g.matched.book.calls t)) e task

      own_push : (k : M.Kind) → k ≡ M.push → Own k (view G).label h t R.own R.label → (h R.own ≡ held t) × ((view G).label R.own ≡ R.label)
      own_push M.push e o = (o.1, o.2)
      own_push M.pop e o = absurd (let z : ◌≡◌ {A = ℕ} 0 1 = cc in omega arith)

      -- A push at 1 owns its slot, whose row has its label.
      pub own1 : r.place ≡ 1 → r.kind ≡ 0 → (h r.own ≡ held t) × (get_or G.labels r.own 0 ≡ r.label)
      unfolding view rec_of
      own1 e k = own_push (kind_of r.kind) (ap kind_of k) (placed 1 e).1.own

      -- A pop at 11 owns the end that it took.
      tip_is : (b : Bool) → M.tip (anchor_seen r.seen) b ≡ cond b (anchor_of r.seen).right (anchor_of r.seen).left
      tip_is true = refl
      tip_is false = refl

      row11 : r.place ≡ 11 → row r ≡ near r.side (anchor_of r.seen)
      unfolding row side_of
      row11 e = subst (λ (n : ℕ). row (at_place r n) ≡ near r.side (anchor_of r.seen)) (sym e) refl

      pub own11 : r.place ≡ 11 → h (row r) ≡ held t
      unfolding rec_of
      own11 e = subst (λ (x : ℕ). h x ≡ held t) (tip_is (eqb r.side 1) ∙ sym (row11 e)) (placed 11 e).holds

      -- A push at 3 owns its slot.
      pub own3 : r.place ≡ 3 → r.kind ≡ 0 → h (row r) ≡ held t
      unfolding view rec_of row
      own3 e k =
          subst (λ (x : ℕ). h x ≡ held t)
          (sym (subst (λ (n : ℕ). row (at_place r n) ≡ r.own) (sym e) (ap (λ (b : Bool). cond b r.own (end_seen (at_place r 3))) (eq-eqb _ _ k))))
          (own_push (kind_of r.kind) (ap kind_of k) (placed 3 e).0.before.own).0

      -- At 9, where the link as read is still there, the neighbour waits in the queue.
      found9 : link_at G (M.towards (anchor_seen r.seen).status) r.neighbour ≡ get_or (links G (link_side (at_place r 9))) (row (at_place r 9)) 0
      unfolding link_side row side_of
      found9 =
          let z = towards_status (anchor_of r.seen).status in
          split (eqb (anchor_of r.seen).status 1) (λ e. rw (z, e)) (λ e. rw (z, e))

      row9 : row (at_place r 9) ≡ r.neighbour
      unfolding row
      row9 = refl

      near_queued : Task M.at9 (view G) h t R (g.matched.book.calls t) → R.link ≡ (view G).link (way R.read) R.near → h R.near ≡ queued
      unfolding state_of view
      near_queued w z = go w.1.chance
        where
          s : M.Shared
          s = view G

          e : Bool
          e = way R.read

          go : Live s R.read R.near R.link ⊎ (R.link.tag < (s.link e R.near).tag) → h R.near ≡ queued
          go (inr grown) = let f = ap (λ (l : M.Link). l.tag) z in absurd (omega arith)
          go (inl l) =
              let p = l.current in
              let st : s.anchor.status ≡ M.pushing e = ap (λ (b : M.Anchor). b.status) (sym p) ∙ w.0.status in
              let b = g.matched.inv.whole in
              subst (λ (x : ℕ). h x ≡ queued) (ap (λ (b : M.Anchor). M.inner s e (M.tip b e)) (sym p) ∙ l.near)
              (inner_in s.link s.anchor (slots_of g.matched.book.queue) b.shape e (λ z. h z ≡ queued) st b.owned)

      pub near9 : r.place ≡ 9 → get_or (links G (link_side r)) (row r) 0 ≡ r.link → h (row r) ≡ queued
      unfolding view rec_of
      near9 e same =
          subst (λ (n : ℕ). get_or (links G (link_side (at_place r n))) (row (at_place r n)) 0 ≡ r.link → h (row (at_place r n)) ≡ queued) (sym e)
          (λ is. subst (λ (x : ℕ). h x ≡ queued) (sym row9) (near_queued (placed 9 e) (sym (ap link_seen (found9 ∙ is))))) same

      -- A push at 14 is one of a pooled queue.
      pub pool14 : r.place ≡ 14 → pooled ≡ 1
      unfolding view
      pool14 e = sym g.pool ∙ eqb-true _ _ (placed 14 e).0

      pub push14 : r.place ≡ 14 → r.kind ≡ 0
      unfolding rec_of
      push14 e = go (eqb r.kind 0) refl (placed 14 e).1.kind
        where
          go : (b : Bool) → eqb r.kind 0 ≡ b → cond b M.push M.pop ≡ M.push → r.kind ≡ 0
          go true e z = eqb-true _ _ e
          go false e z = absurd (let z : ◌≡◌ {A = ℕ} 0 1 = cc in omega arith)

      -- A slot that a task has is one of the queue's; one that is held at 1 or 11 is marked.
      pub within : (x : ℕ) → h x ≡ held t → (x ≢ 0) × (x ≤ slots)
      unfolding state_of view
      within x e =
          let z = g.matched.inv.whole.bounds x (λ f. let w : held t ≡ free = sym e ∙ f in let v : ◌≡◌ {A = ℕ} 0 1 = cc in omega arith) in
          (z.0, subst (λ (n : ℕ). x ≤ n) g.size z.1)

      marked_by : (p : M.Place) → place_of r.place ≡ p → M.is_giving p ≡ false → (x : ℕ) → h x ≡ held t → marked G.marks x ≡ true
      unfolding state_of view rec_of
      marked_by p e n x o =
          g.matched.inv.marks x (subst (λ (n : ℕ). x ≤ n) (sym g.size) (within x o).1)
          ∙ ap (shows (state_of q).task) o
          ∙ ap (λ (z : M.Rec). not (M.is_giving z.place)) (task_of q t known)
          ∙ ap (λ (p : M.Place). not (M.is_giving p)) e
          ∙ ap not n

      pub marked1 : r.place ≡ 1 → r.kind ≡ 0 → marked G.marks r.own ≡ true
      marked1 e k = marked_by M.at1 (ap place_of e) refl r.own (own1 e k).0

      -- No two tasks have one slot.
      pub apart_1_11 : (u : ℕ) (lu : u < tasks) (x : ℕ) → r.place ≡ 1 → r.kind ≡ 0 → r.own ≡ x → h x ≡ held u → t ≡ u
      apart_1_11 u lu x e k o hu = held_same t u x (subst (λ (x : ℕ). h x ≡ held t) o (own1 e k).0) hu

      -- A step is a split step.
      admits : admission G.control (fits G) alone ≡ 0
      unfolding admission
      admits = let c = g.safe.control in let f = lengths.0 in rw (c, f)

      own_row : with_row q t (task_at q t) ≡ q
      own_row = λ i. record { tables = q.tables; records = set-get_or q.records t unused i }

      pub step_is : act q t Step ≡ back q t (split_step G (task_at q t))
      step_is =
          ap (λ (p : Queue). act p t Step) (sym own_row)
          ∙ lent_record q t (task_at q t) known records-long
          ∙ ap (back q t) (sym (split-stands G (task_at q t) admits))

      -- A start's refusal: that of its own numbers and record, then 32, then 33.
      first_of : (a b c d e taken late : Bool)
          → first (rule 14 a ∷ rule 41 b ∷ rule 15 c ∷ rule 34 d ∷ rule 30 e ∷ rule 32 taken ∷ rule 33 late ∷ [])
          ≡ (let own = first (rule 14 a ∷ rule 41 b ∷ rule 15 c ∷ rule 34 d ∷ rule 30 e ∷ []) in
          cond (eqb own 0) (cond taken 32 (cond late 33 0)) own)
      first_of true b c d e taken late = refl
      first_of false true c d e taken late = refl
      first_of false false true d e taken late = refl
      first_of false false false true e taken late = refl
      first_of false false false false true taken late = refl
      first_of false false false false false taken late = refl

      abbrev pub refusal : ℕ → Asked → ℕ
      refusal side a = start_refusal G.control (fits G) (among q t) r side a

      pub start_why : (side : ℕ) (a : Asked) → refusal side a
          ≡ (let own = own_refusal pooled slots r side a.wrong a.outside in cond (eqb own 0) (cond a.taken 32 (cond (late G.control) 33 0)) own)
      unfolding start_refusal own_refusal
      start_why side a =
          let c = g.safe.control in
          let f = lengths.0 in
          let n = lengths.1 in
          let k = lt-ltb t G.control.tasks known in
          rw (c, f, n, k)
          (first_of (not (leb side 1)) a.wrong a.outside (not (record_sound (is_pooled G.control) G.control.slots r)) (is_busy r) a.taken
          (late G.control)
          ∙ (λ i. let own = first (rule 14 (not (leb side 1)) ∷ rule 41 a.wrong ∷ rule 15 a.outside
          ∷ rule 34 (not (record_sound (eqb (g.pool i) 1) (g.size i) r)) ∷ rule 30 (is_busy r) ∷ []) in
          cond (eqb own 0) (cond a.taken 32 (cond (late G.control) 33 0)) own))
