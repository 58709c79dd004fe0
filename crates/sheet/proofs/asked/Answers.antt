-- What stands before the walk, then the walk.
use Rattle.std.proofs.Common.{◌≡◌, sym, ap, ◌∙◌, ℕ, List, [], Bool, ◌&&◌, cond, eq-eqb, Result, Err}
use borrow.Author.Tests.{ne_eqb}
use Rattle.model.specs.{Tables.{Tables, tables_of}, Sound.control_sound}
use Rattle.sound.proofs.Measured.{measured_unpooled}
use Rattle.sheet_model.specs.Sheet.{Sheet, malformed}
use Rattle.sheet.specs.{declared.extents.Extents.Extents, Refusals.{unfit, walked}}
use Rattle.walk.specs.Ways.{beginning_of}
use Rattle.sheet.specs.Extents.{extents}
use Rattle.sheet.proofs.Judged.{why, accepted, slots_few}
use Rattle.sheet.proofs.asked.Goals as goal
use Rattle.sheet.proofs.asked.Goals.{After-unfit-why}

module _ (c : After-unfit-why) (next : List ℕ) where
  abbrev queue : Tables
  queue = tables_of c.args.c c.args.lefts.now c.args.rights.now c.args.labels.now c.args.marks.now next

  abbrev given : Sheet
  given = record { listed = c.args.listed.now; rules = c.args.rules.now }

  tried : c.unfit-why.result ≡ why queue given c.args.room
  tried =
      c.unfit-why.ensures
      ∙ ap (λ (b : Bool). unfit (control_sound c.args.c) (malformed given) (b && c.args.room))
      (c.rows_fit-fits.ensures ∙ measured_unpooled c.args.c c.args.c.slots _ _ _ _ next _ _ (c.of-t.ensures c.args.c))

  -- What the walk notes, with or without a refusal before it.
  abbrev by : Bool → Result Extents ℕ
  by b =
      cond b (walked (extents (beginning_of c.args.c) c.args.listed.now c.args.lefts.now c.args.rights.now c.args.labels.now c.args.seen.now))
      (Err (why queue given c.args.room))

pub returns-then-why-ne0 : goal.returns-then-why-ne0
returns-then-why-ne0 c next =
    let u = (goal.at.returns-then-why-ne0 c).After-unfit-why in
    ap Err (tried u next) ∙ sym (ap (by u next) (ne_eqb _ 0 (λ z. c.if-why-ne0.true (tried u next ∙ z))))

pub of_waiting-requires : goal.of_waiting-requires
of_waiting-requires c =
    let u = (goal.at.of_waiting-requires c).After-unfit-why in
    slots_few c.args.c (accepted (queue u []) (given u []) c.args.room (sym (tried u []) ∙ c.if-why-ne0.false)).control

pub returns-in-Ok : goal.returns-in-Ok
returns-in-Ok c next =
    let u = (goal.at.returns-in-Ok c).After-unfit-why in
    ap walked c.in-Ok.ensures ∙ sym (ap (by u next) (eq-eqb _ 0 (sym (tried u next) ∙ c.if-why-ne0.false)))

pub returns-in-Err : goal.returns-in-Err
returns-in-Err c next =
    let u = (goal.at.returns-in-Err c).After-unfit-why in
    ap walked c.in-Err.ensures ∙ sym (ap (by u next) (eq-eqb _ 0 (sym (tried u next) ∙ c.if-why-ne0.false)))
