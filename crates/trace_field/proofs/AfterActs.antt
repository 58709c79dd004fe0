-- The page after an operation, a malformed place and an opening: what their code leaves, as the definitions have it.
use Rattle.std.specs.Prelude.{Ok, Err, is_ok}
use Rattle.std.proofs.Common.{ℕ, ◌+◌, leb-true}
use mathlib.Core.{Path.{◌≡◌, refl, sym, ap, ◌∙◌}, Bool.{Bool, true, false, not, cond}, List.{List, [], ◌∷◌, append-nil}}
use lib.{Dec.{leb, eqb}, ListN.length}
use Rattle.model.specs.Outcomes.{Opened, Opening, Outcome, Refused}
use Rattle.model.specs.{declared.{Control.Control, Record.Record, Op.Op}, Refusals.open_refusal}
use Rattle.model.specs.{Tables.{Tables, Queue, queue_of, unused}, Lists.zeroed, Calls.{Done, OpenDone, act, open_as}}
use Rattle.model.specs.History.{run, final}
use Rattle.model.specs.Calls as calls
use Rattle.layout.specs.Rows.{control_of, records_of, queue_in}
use Rattle.calls.{specs.Opening.{OpenedParts, many_records, open_tables}, proofs.Openings.{open_parts, whole}}
use Rattle.lines.specs.{Line.{Put, given_room, room, line_of}, declared.Line.TheVariants.{Open, File}}
use Rattle.lines.proofs.Puts.{put-fits}
use Rattle.trace_field.specs.Run.{next, anchor_in, lines_of, number_of, operated, is_opened, opening_told, malformed}
use Rattle.trace_field.specs.Page.{Page, page_of, written, answered, emptied, cleared, operates, opens, breaks}
use Rattle.trace_field.specs.declared.RunState.{RunState}
use Rattle.trace_field.proofs.Pages.{breaks-fits}

-- Whether an opening was carried out, as the library asks it.
pub opened_is : (o : Opening) → is_ok o ≡ is_opened o
opened_is (Err refusal) = refl
opened_is (Ok u) = refl

-- An operation answered is the list of that one operation.
answered_one : (p : Page) (task : ℕ) (op : Op) → answered p task op (act p.run.queue task op) ≡ operates p (record { task = task; op = op } ∷ [])
unfolding answered operated final run lines_of number_of act emptied
answered_one p task op = rw append-nil

-- The same for the code's values: the rows are those before, after the operation, and at last; x is the page afterwards.
pub operate_page : (s : RunState) (out ws ws' : List ℕ) (rows rows₁ rows₂ : List (List ℕ)) (ls rs bs ms ns ls' rs' bs' ms' ns' : List ℕ) (task : ℕ) (op : Op)
    (c : Control) (o : Outcome) (x : Page)
    → control_of ws ≡ s.control → c ≡ control_of ws'
    → ◌≡◌ {A = Done} (record { queue = queue_in ws' rows₁ ls' rs' bs' ms' ns'; outcome = o }) (act (queue_in ws rows ls rs bs ms ns) task op)
    → records_of rows₂ ≡ records_of rows₁
    → x ≡ answered (page_of s out rows ls rs bs ms ns) task op (record { queue = queue_of c (records_of rows₂) ls' rs' bs' ms' ns'; outcome = o })
    → x ≡ operates (page_of s out rows ls rs bs ms ns) (record { task = task; op = op } ∷ [])
operate_page s out ws ws' rows rows₁ rows₂ ls rs bs ms ns ls' rs' bs' ms' ns' task op c o x ews ec e er ex =
    let before = page_of s out rows ls rs bs ms ns in
    let done : ◌≡◌ {A = Done} (record { queue = queue_of c (records_of rows₂) ls' rs' bs' ms' ns'; outcome = o }) (act before.run.queue task op) =
    rw (ec, er) (e ∙ ap (λ (d : Control). act (queue_of d (records_of rows) ls rs bs ms ns) task op) ews) in
    ex ∙ ap (answered before task op) done ∙ answered_one before task op

-- A malformed place told where its line fits.
pub break_page : (p : Page) (event : ℕ) (out : List ℕ) (to : ℕ) → leb (p.to + room) (length p.out) ≡ true → event ≡ next p.run.event
    → Put p.out out p.to to (given_room room (length p.out) p.to (line_of event File (anchor_in p.run.queue)))
    → ◌≡◌ {A = Page}
    (record {
      run = record { queue = p.run.queue; opened = p.run.opened; over = true; event = event };
      uppers = p.uppers;
      out = out;
      to = to;
      at = p.at;
    })
    (breaks p)
unfolding written malformed
break_page p event out to h e put =
    let w = put-fits _ put (leb-true _ _ h) in
    rw (w.stop, w.stored, e) (sym (breaks-fits p h))

-- As many records are cleared as an accepted opening asks for.
clear-opened : (pooled : Bool) (q : Tables) (n tasks slots tag : ℕ)
    → (open_tables pooled q n tasks slots tag).clear ≡ cond (is_opened (open_tables pooled q n tasks slots tag).outcome) tasks 0
unfolding open_tables open_as
clear-opened pooled q n tasks slots tag = go (eqb why 0)
  where
    why : ℕ
    why = open_refusal pooled (many_records q n) tasks slots

    done : Bool → OpenDone
    done b =
        cond b (record { queue = calls.opened pooled (many_records q n) tasks slots tag; outcome = Opened })
        (record { queue = many_records q n; outcome = Refused why })

    go : (b : Bool) → cond b tasks 0 ≡ cond (is_opened (done b).outcome) tasks 0
    go true = refl
    go false = refl

-- An opening, from its parts: rs' and u' are the records and the upper halves afterwards.
module _ (pooled : Bool) (p : Page) (n tasks slots tag : ℕ) (o : OpenedParts) where
  abbrev opened-queue : List Record → Queue
  opened-queue rs = record { tables = o.tables; records = rs }

  pub open_page : (rs : List Record) (u : List ℕ) (good : Bool) (event : ℕ) (out : List ℕ) (to : ℕ)
      → n ≡ length p.run.queue.records → o ≡ open_tables pooled p.run.queue.tables n tasks slots tag
      → rs ≡ zeroed o.clear unused p.run.queue.records → u ≡ zeroed o.clear 0 p.uppers → good ≡ is_opened o.outcome
      → event ≡ next p.run.event
      → Put p.out out p.to to (line_of event (Open o.outcome) o.tables.control.anchor)
      → ◌≡◌ {A = Page}
      (record {
        run = record { queue = opened-queue rs; opened = good; over = not good; event = event };
        uppers = u;
        out = out;
        to = to;
        at = p.at;
      })
      (opens p pooled tasks slots tag)
  unfolding opening_told written cleared
  open_page rs u good event out to en e er eu eg ev w =
      let d : open_as pooled p.run.queue tasks slots tag ≡ whole p.run.queue.records o =
      open_parts pooled p.run.queue tasks slots tag
      ∙ ap (λ (k : ℕ). whole p.run.queue.records (open_tables pooled p.run.queue.tables k tasks slots tag)) (sym en)
      ∙ ap (whole p.run.queue.records) (sym e) in
      let few : o.clear ≡ cond (is_opened o.outcome) tasks 0 =
      ap (λ (x : OpenedParts). x.clear) e ∙ clear-opened pooled p.run.queue.tables n tasks slots tag
      ∙ ap (λ (x : OpenedParts). cond (is_opened x.outcome) tasks 0) (sym e) in
      rw (d, w.stop, w.stored, er, eu, eg, ev, few)
