-- Starts, whole operations, lists of them and the walk: the queue cut to its lengths does as the queue.
use mathlib.Core.{Bool.{Bool, true, false, ◌&&◌, cond, not}, List.{List, [], ◌∷◌}, Path.{◌≡◌, ◌∙◌, ap, ap₂, refl, sym}}
use Prim.Native.Nat.{ℕ, zero, suc, ◌≤◌}
use native.Mathlib.Omega.{arith}
use lib.{Dec.{eqb, ltb}, ListN.{get_or, set, take}, Seq.set-get_or}
use borrow.Author.Tests.{ltb-true, not-false}
use Rattle.word.specs.{Anchor.anchor_of, Link.link_of}
use Rattle.model.specs.declared.{Answer.TheVariants.Running, Op.{Op, TheVariants.{Push, Pop, PushPooled, Step}}}
use Rattle.model.specs.declared.{Call.Call, Record.Record, Asked.Asked, Control.Control}
use Rattle.model.specs.Outcomes.{Moved, Refused}
use Rattle.model.specs.Sound.{control_sound, from1, link_sound}
use Rattle.model.specs.Tables.{Queue, Tables, asking, is_pooled, started, task_at, unused, with_call, with_taken}
use Rattle.model.specs.Refusals.{Lent, admission_rules, among, first, fits, named_push, nothing_asked, pooled_push, rule}
use Rattle.model.specs.Refusals.{pop_refusal, push_refusal, push_pooled_refusal, start_rules, start_refusal, step_refusal}
use Rattle.model.specs.Calls.{Acted, Done, act, act_on, back, decide, pop_start, push_start, push_pooled_start, step}
use Rattle.model.specs.Walk.{Walk, along, and_then, broken, contents, entries, walk_from, whence}
use Rattle.model.specs.{History.{Event, Request, run}, Sides.{far, is_empty, near, opposite}}
use Rattle.model.proofs.{Tests.{Rules.cleared, Truth.split}, Bridge.Facts.from1_true, Laws.Sizes.act-tasks}
use Rattle.shelf_model.specs.Cut.{cut, cut_tables}
use Rattle.shelf_model.proofs.Lists.{enough_take, get_take, set_take}
use Rattle.shelf_model.proofs.Cut.{columns, cut_acted, decide-cut, fits_cut, mark-cut, marked-cut, step_cut}

-- A start looks at the lengths, which the cut keeps; a push also at its slot's mark, which lies within them once 15 has passed.
start_refusal-cut : (q : Tables) (p : Lent) (r : Call) (side : ℕ) (a : Asked)
    → start_refusal q.control (fits (cut_tables q)) p r side a ≡ start_refusal q.control (fits q) p r side a
start_refusal-cut q p r side a = ap (λ (b : Bool). start_refusal q.control b p r side a) (fits_cut q)

same-mark : (c : Control) (fit : Bool) (p : Lent) (r : Call) (side : ℕ) (wrong outside x y : Bool) → (outside ≡ false → x ≡ y)
    → start_refusal c fit p r side (record { wrong = wrong; outside = outside; taken = x })
    ≡ start_refusal c fit p r side (record { wrong = wrong; outside = outside; taken = y })
unfolding start_refusal
same-mark c fit p r side wrong true x y h = refl
same-mark c fit p r side wrong false x y h =
    ap (λ (b : Bool). start_refusal c fit p r side (record { wrong = wrong; outside = false; taken = b })) (h refl)

push_refusal-cut : (q : Tables) (p : Lent) (r : Call) (side slot : ℕ)
    → push_refusal (cut_tables q) p r side slot ≡ push_refusal q p r side slot
push_refusal-cut q p r side slot =
    let inside = from1 q.control.slots slot in
    start_refusal-cut q p r side (named_push (cut_tables q) slot)
    ∙ same-mark q.control (fits q) p r side (is_pooled q.control) (not inside) _ _
    (λ e. marked-cut q.control.slots q.marks slot (from1_true q.control.slots slot (not-false inside e)).1)

taken_cut : (q : Tables) (x l : ℕ) → x ≤ q.control.slots → with_taken (cut_tables q) x l ≡ cut_tables (with_taken q x l)
taken_cut q x l h = λ i. columns q (cut_tables q).lefts (cut_tables q).rights
    (set_take (suc q.control.slots) q.labels x l i) (mark-cut q.control.slots q.marks x 1 h i) (cut_tables q).next

push_within : (q : Tables) (p : Lent) (r : Call) (side slot : ℕ) → push_refusal q p r side slot ≡ 0 → slot ≤ q.control.slots
unfolding start_refusal
push_within q p r side slot e =
    let z = cleared (start_rules q.control (fits q) p r side (named_push q slot)) refl e in
    (from1_true q.control.slots slot (not-false _ z.1.1.1.1.1.0)).1

act_on-cut : (q : Tables) (p : Lent) (r : Record) (o : Op) → act_on (cut_tables q) p r o ≡ cut_acted (act_on q p r o)
unfolding act_on push_start push_pooled_start pop_start
act_on-cut q p r (Push side slot label) =
    let begun : (Tables → Acted) = λ t. record { tables = t; task = with_call r (started 0 side slot label); outcome = Moved (Running 1) } in
    ap (λ (why : ℕ). decide why (cut_tables q) r (begun (with_taken (cut_tables q) slot label))) (push_refusal-cut q p r.call side slot)
    ∙ decide-cut (push_refusal q p r.call side slot) q r (begun (with_taken q slot label)) (begun (with_taken (cut_tables q) slot label))
    (λ e. ap begun (taken_cut q slot label (push_within q p r.call side slot e)))
act_on-cut q p r (Pop side) =
    let begun : (Tables → Acted) = λ t. record { tables = t; task = with_call r (started 1 side 0 0); outcome = Moved (Running 1) } in
    ap (λ (why : ℕ). decide why (cut_tables q) r (begun (cut_tables q))) (start_refusal-cut q p r.call side nothing_asked)
    ∙ decide-cut (pop_refusal q p r.call side) q r (begun q) (begun (cut_tables q)) (λ e. refl)
act_on-cut q p r (PushPooled side label) =
    let begun : (Tables → Acted) = λ t. record { tables = t; task = with_call r (asking side label); outcome = Moved (Running 12) } in
    ap (λ (why : ℕ). decide why (cut_tables q) r (begun (cut_tables q))) (start_refusal-cut q p r.call side (pooled_push q))
    ∙ decide-cut (push_pooled_refusal q p r.call side) q r (begun q) (begun (cut_tables q)) (λ e. refl)
act_on-cut q p r Step = step_cut q p r

-- A task that there is not: refused by 34, 12 or 13, whatever its record.
abbrev unknown_by : Tables → Lent → ℕ
unknown_by q p = first (admission_rules q.control (fits q) (record { enough = p.enough; known = false }))

not-zero : (a b : Bool) → eqb (first (rule 34 a ∷ rule 12 b ∷ rule 13 true ∷ [])) 0 ≡ false
not-zero true b = refl
not-zero false true = refl
not-zero false false = refl

unknown : (q : Tables) (p : Lent) (r : Record) (o : Op) → p.known ≡ false
    → act_on q p r o ≡ record { tables = q; task = r; outcome = Refused (unknown_by q p) }
unfolding act_on push_start push_pooled_start pop_start step start_refusal step_refusal
unknown q p r (Push side slot label) e = rw (e, not-zero (not (control_sound q.control)) (not (fits q && p.enough)))
unknown q p r (Pop side) e = rw (e, not-zero (not (control_sound q.control)) (not (fits q && p.enough)))
unknown q p r (PushPooled side label) e = rw (e, not-zero (not (control_sound q.control)) (not (fits q && p.enough)))
unknown q p r Step e = rw (e, not-zero (not (control_sound q.control)) (not (fits q && p.enough)))

among-cut : (q : Queue) (t : ℕ) → among (cut q) t ≡ among q t
among-cut q t = λ i. record { enough = enough_take q.tables.control.tasks q.records i; known = ltb t q.tables.control.tasks }

-- The law: what lies beyond the lengths matters to no start or step.
abbrev pub cut_done : Done → Done
cut_done d = record { queue = cut d.queue; outcome = d.outcome }

back_cut : (q : Queue) (t : ℕ) (a : Acted) → a.tables.control.tasks ≡ q.tables.control.tasks
    → back (cut q) t (cut_acted a) ≡ cut_done (back q t a)
back_cut q t a e = λ i. record {
  queue = record {
    tables = cut_tables a.tables;
    records = (set_take q.tables.control.tasks q.records t a.task
        ∙ ap (λ (n : ℕ). take n (set q.records t a.task)) (sym e)) i;
  };
  outcome = a.outcome;
}

-- A refused operation leaves the queue as it was.
absent_act : (q : Queue) (t : ℕ) (o : Op) → ltb t q.tables.control.tasks ≡ false
    → act q t o ≡ record { queue = q; outcome = Refused (unknown_by q.tables (among q t)) }
unfolding act
absent_act q t o e =
    ap (back q t) (unknown q.tables (among q t) (task_at q t) o e)
    ∙ (λ i. record {
      queue = record { tables = q.tables; records = set-get_or q.records t unused i };
      outcome = Refused (unknown_by q.tables (among q t));
    })

unknown-cut : (q : Queue) (t : ℕ) → unknown_by (cut_tables q.tables) (among (cut q) t) ≡ unknown_by q.tables (among q t)
unknown-cut q t = ap (λ (p : Lent). unknown_by (cut_tables q.tables) p) (among-cut q t)
    ∙ ap (λ (b : Bool). first (rule 34 (not (control_sound q.tables.control))
    ∷ rule 12 (not (b && (among q t).enough)) ∷ rule 13 true ∷ [])) (fits_cut q.tables)

pub act-cut : (q : Queue) (t : ℕ) (o : Op) → act (cut q) t o ≡ cut_done (act q t o)
unfolding act
act-cut q t o = split (ltb t q.tables.control.tasks) known absent
  where
    same : (act_on q.tables (among q t) (task_at q t) o).tables.control.tasks ≡ q.tables.control.tasks
    same = act-tasks q t o

    known : ltb t q.tables.control.tasks ≡ true → act (cut q) t o ≡ cut_done (act q t o)
    known e =
        ap₂ (λ (p : Lent) (r : Record). back (cut q) t (act_on (cut_tables q.tables) p r o))
        (among-cut q t) (get_take q.tables.control.tasks q.records t unused (ltb-true _ _ e))
        ∙ ap (back (cut q) t) (act_on-cut q.tables (among q t) (task_at q t) o)
        ∙ back_cut q t (act_on q.tables (among q t) (task_at q t) o) same

    absent : ltb t q.tables.control.tasks ≡ false → act (cut q) t o ≡ cut_done (act q t o)
    absent e =
        absent_act (cut q) t o e
        ∙ ap (λ (n : ℕ). record { queue = cut q; outcome = Refused n }) (unknown-cut q t)
        ∙ ap cut_done (sym (absent_act q t o e))

-- Lists: the same events, and the queue after them cut.
pub run-cut : (os : List Request) (q : Queue) → run (cut q) os ≡ run q os
unfolding run
run-cut [] q = refl
run-cut (o ∷ os) q =
    ap (λ (d : Done). seen d ∷ run d.queue os) (act-cut q o.task o.op)
    ∙ ap (λ (es : List Event). seen (act q o.task o.op) ∷ es) (run-cut os (act q o.task o.op).queue)
  where
    seen : Done → Event
    seen d = record {
      task = o.task;
      op = o.op;
      outcome = d.outcome;
      before = q.tables.control.anchor;
      after = d.queue.tables.control.anchor;
    }

-- The walk.
along-cut : (slots : ℕ) (links labels : List ℕ) (last n x : ℕ)
    → along slots (take (suc slots) links) (take (suc slots) labels) last n x ≡ along slots links labels last n x
unfolding along
along-cut slots links labels last zero x = refl
along-cut slots links labels last (suc n) x = split (from1 slots x)
    (λ e. let low = (from1_true slots x e).1 in
    rw (e, get_take (suc slots) labels x 0 (omega arith), get_take (suc slots) links x 0 (omega arith))
    (ap (λ (w : Walk). cond (eqb x last) (entries (record { slot = x; label = get_or labels x 0 } ∷ []))
    (and_then (record { slot = x; label = get_or labels x 0 }) (cond (link_sound slots (get_or links x 0)) w broken)))
    (along-cut slots links labels last n (link_of (get_or links x 0)).slot)))
    (λ e. rw e)

pub contents-cut : (q : Tables) → contents (cut_tables q) ≡ contents q
unfolding contents
contents-cut q =
    let a = anchor_of q.control.anchor in
    let side = whence a.status in
    let n = q.control.slots in
    ap (λ (w : Walk). cond (is_empty a) (entries []) (walk_from side w)) (go (eqb (opposite side) 1))
  where
    go : (d : Bool)
        → along q.control.slots (cond d (cut_tables q).rights (cut_tables q).lefts) (cut_tables q).labels
        (far (whence (anchor_of q.control.anchor).status) (anchor_of q.control.anchor))
        q.control.slots (near (whence (anchor_of q.control.anchor).status) (anchor_of q.control.anchor))
        ≡ along q.control.slots (cond d q.rights q.lefts) q.labels
        (far (whence (anchor_of q.control.anchor).status) (anchor_of q.control.anchor))
        q.control.slots (near (whence (anchor_of q.control.anchor).status) (anchor_of q.control.anchor))
    go true = along-cut q.control.slots q.rights q.labels _ q.control.slots _
    go false = along-cut q.control.slots q.lefts q.labels _ q.control.slots _
