-- What was found is carried out, and the position moves behind it.
use Rattle.std.proofs.Common.{length, refl, sym, ap, subst, ◌∙◌, Err, IfOk, Result}
use Rattle.runfile.specs.Field.{field_of}
use Rattle.runfile.specs.declared.{Found.Found, NoField.{NoField, TheVariants.{Cut, End}}}
use Rattle.trace_field.specs.{Run.carried, Page.BytesThere}
use Rattle.trace_field.proofs.Fields.{field_there, takes_found, takes_wrong, takes_waits, takes_none}
use Rattle.trace_field.proofs.take.Goals as goal

pub returns-then-not-has_room : goal.returns-then-not-has_room
returns-then-not-has_room c = sym (takes_none _ _ (cc))

pub carry_out-done-requires-clause-bytes_there : goal.carry_out-done-requires-clause-bytes_there
carry_out-done-requires-clause-bytes_there c =
    let rest = c.from_position-rest.result.now in
    subst (λ (f : Result Found NoField). IfOk f (λ found. BytesThere found.field 0 (length rest))) (sym c.in-Ok.ensures.value)
    (field_there c.args.s.opened rest)

pub returns-in-Ok : goal.returns-in-Ok
returns-in-Ok c =
    let rest = c.from_position-rest.ensures in
    takes_found _ _ _ _ (cc) (c.in-Ok.ensures.value ∙ ap (field_of c.args.s.opened) rest) (rw rest at c.carry_out-done.ensures)

pub returns-in-Err-Malformed : goal.returns-in-Err-Malformed
returns-in-Err-Malformed c =
    let e = ap Err (sym c.in-Err-Malformed.field-0-is) ∙ c.in-Err-Malformed.ensures.value ∙ ap (field_of c.args.s.opened) c.from_position-rest.ensures in
    takes_wrong _ _ _ (cc) e (c.malformed.ensures _ _ _ _ _ _)

pub returns-in-Err-Cut : goal.returns-in-Err-Cut
unfolding carried
returns-in-Err-Cut c =
    let e = ap Err (sym c.in-Err-Cut.field-0-is) ∙ c.in-Err-Cut.ensures.value ∙ ap (field_of c.args.s.opened) c.from_position-rest.ensures in
    takes_waits _ _ Cut refl (cc) e

pub returns-in-Err-End : goal.returns-in-Err-End
unfolding carried
returns-in-Err-End c =
    let e = ap Err (sym c.in-Err-End.field-0-is) ∙ c.in-Err-End.ensures.value ∙ ap (field_of c.args.s.opened) c.from_position-rest.ensures in
    takes_waits _ _ End refl (cc) e
