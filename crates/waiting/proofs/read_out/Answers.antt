-- Refused before the walk, or what comes of the walk by where it begins.
use Rattle.std.proofs.Common.{◌≡◌, sym, ap, ◌∙◌, ℕ, List, [], Bool, Option, None, Some, Result, Ok}
use Rattle.model.specs.{Tables.{Tables, tables_of}, Refusals.{first, table_rules}}
use Rattle.sound.proofs.Measured.{measured_unpooled}
use Rattle.walk.{specs.{declared.{Unsound.Unsound, Way.Way}, Ways.{beginning_of, walk_by}}, proofs.Along.waits}
use Rattle.waiting.specs.{declared.WaitingReply.WaitingReply, Waiting.{Written, read_out, written_out}}
use Rattle.waiting.proofs.ReadingOut.{why, turned_away, nothing, ready, reads}
use Rattle.waiting.proofs.read_out.Goals as goal
use Rattle.waiting.proofs.read_out.Goals.{After-refusal-why}

-- The tables, whatever the next rows.
module _ (c : After-refusal-why) (next : List ℕ) where
  abbrev tables : Tables
  tables = tables_of c.args.c c.args.lefts.now c.args.rights.now c.args.labels.now c.args.marks.now next

  tried : c.refusal-why.result ≡ why tables c.args.slots.now c.args.copies.now
  tried =
      c.refusal-why.ensures
      ∙ ap (λ (b : Bool). first (table_rules c.args.c b)) (measured_unpooled c.args.c c.args.c.slots _ _ _ _ next _ _ (c.of-t.ensures c.args.c))

  -- A refusal leaves both tables.
  abbrev told : WaitingReply → Written
  told reply = record { reply = reply; slots = c.args.slots.now; labels = c.args.copies.now }

pub returns-then-why-ne0 : goal.returns-then-why-ne0
returns-then-why-ne0 c next =
    let r = (goal.at.returns-then-why-ne0 c).After-refusal-why in
    ap (told r next) c.refused.ensures ∙ turned_away (tables r next) c.args.slots.now c.args.copies.now _ (tried r next) c.if-why-ne0.true

-- What comes of the walk, by where it begins.
module _ (c : After-refusal-why) (next : List ℕ) (r : Result (Option Way) Unsound) (e : r ≡ beginning_of c.args.c) (z : c.refusal-why.result ≡ 0) where
  begun : written_out (walk_by r c.args.lefts.now c.args.rights.now c.args.labels.now) c.args.slots.now c.args.copies.now
      ≡ read_out (tables c next) c.args.slots.now c.args.copies.now
  begun =
      reads (tables c next) c.args.slots.now c.args.copies.now _ (tried c next) z (walk_by r c.args.lefts.now c.args.rights.now c.args.labels.now)
      (waits (tables c next) r e)

pub write_out-requires : goal.write_out-requires
write_out-requires c =
    let r = (goal.at.write_out-requires c).After-refusal-why in
    let e = ap Ok (sym c.in-Ok-Some.field-0-is) ∙ c.in-Ok-Some.ensures in
    ready (tables r []) c.args.slots.now c.args.copies.now _ (tried r []) c.if-why-ne0.false c.in-Ok-Some.w e

pub returns-in-Ok-None : goal.returns-in-Ok-None
returns-in-Ok-None c next =
    let e = ap Ok (sym c.in-Ok-None.field-0-is) ∙ c.in-Ok-None.ensures in
    nothing c.args.slots.now c.args.copies.now ∙ begun (goal.at.returns-in-Ok-None c).After-refusal-why next (Ok None) e c.if-why-ne0.false

pub returns-in-Ok-Some : goal.returns-in-Ok-Some
returns-in-Ok-Some c next =
    let e = ap Ok (sym c.in-Ok-Some.field-0-is) ∙ c.in-Ok-Some.ensures in
    c.write_out.ensures ∙ begun (goal.at.returns-in-Ok-Some c).After-refusal-why next (Ok (Some c.in-Ok-Some.w)) e c.if-why-ne0.false

pub returns-in-Err : goal.returns-in-Err
returns-in-Err c next =
    let r = (goal.at.returns-in-Err c).After-refusal-why in
    ap (told r next) c.refused-in-Err.ensures ∙ begun r next _ c.in-Err.ensures c.if-why-ne0.false
