-- The first test that fails, or all at 11, of a push that draws, or of a pop that gives back.
use mathlib.Core.Path.{◌∙◌}
use borrow.Author.Tests.{eq-eqb, ne_eqb, le-leb, lt-leb}
use Rattle.sound.specs.Records.{slot_call}
use Rattle.sound.proofs.{SlotPlaces.gives, slot_call.Statement.statement}
use Rattle.sound.proofs.slot_call.Tie as tie

returns : tie.Need-returns-then-r-eq11
unfolding slot_call
returns c = simp (eq-eqb _ _ c.before.before.if-r-eq11.true)

returns-2 : tie.Need-returns-then-not-pooled
unfolding slot_call
returns-2 c = simp (ne_eqb _ _ c.before.if-r-eq11.false, c.if-not-pooled.true)

returns-3 : tie.Need-returns-then-r-ne0
unfolding slot_call
returns-3 c =
    let place = c.before.before in
    let pool = place.before.before in
    simp (
      ne_eqb _ _ pool.before.if-r-eq11.false,
      pool.if-not-pooled.false,
      le-leb _ _
          place.if-r-le14.true,
      ne_eqb _ _ c.if-r-ne0.true,
    )

returns-4 : tie.Need-returns-then-r-ne0-2
unfolding slot_call
returns-4 c =
    let kind = c.before.before in
    let place = kind.before.before in
    let pool = place.before.before in
    simp (
      ne_eqb _ _ pool.before.if-r-eq11.false,
      pool.if-not-pooled.false,
      le-leb _ _ place.if-r-le14.true,
      eq-eqb _ _ kind.if-r-ne0.false,
      ne_eqb _ _ c.if-r-ne0-2.true,
    )

returns-5 : tie.Need-returns-then-r-eq12
unfolding slot_call
returns-5 c =
    let own = c.before.before in
    let kind = own.before.before in
    let place = kind.before.before in
    let pool = place.before.before in
    simp (
      ne_eqb _ _ pool.before.if-r-eq11.false,
      pool.if-not-pooled.false,
      le-leb _ _ place.if-r-le14.true,
      eq-eqb _ _ kind.if-r-ne0.false,
      eq-eqb _ _ own.if-r-ne0-2.false,
      eq-eqb _ _ c.if-r-eq12.true,
    )

returns-6 : tie.Need-returns-then-r-le14
unfolding slot_call
returns-6 c =
    let read = c.before in
    let first = read.before in
    let own = first.before.before in
    let kind = own.before.before in
    let place = kind.before.before in
    let pool = place.before.before in
    simp (
      ne_eqb _ _ pool.before.if-r-eq11.false,
      pool.if-not-pooled.false,
      le-leb _ _ place.if-r-le14.true,
      eq-eqb _ _ kind.if-r-ne0.false,
      eq-eqb _ _ own.if-r-ne0-2.false,
      ne_eqb _ _ first.if-r-eq12.false,
      read.unpack-head.ensures,
    )

returns-7 : tie.Need-returns-then-r-ne1
unfolding slot_call
returns-7 c =
    let place = c.before.before in
    let pool = place.before.before in
    simp (
      ne_eqb _ _ pool.before.if-r-eq11.false,
      pool.if-not-pooled.false,
      lt-leb _ _
          place.if-r-le14.false,
      ne_eqb _ _ c.if-r-ne1.true,
    )

returns-8 : tie.Need-returns-then-r-gt17
unfolding slot_call
returns-8 c =
    let kind = c.before.before in
    let place = kind.before.before in
    let pool = place.before.before in
    simp (
      ne_eqb _ _ pool.before.if-r-eq11.false,
      pool.if-not-pooled.false,
      lt-leb _ _ place.if-r-le14.false,
      eq-eqb _ _ kind.if-r-ne1.false,
      lt-leb _ _ c.if-r-gt17.true,
    )

returns-9 : tie.Need-returns
returns-9 c =
    let last = c.before in
    let kind = last.before.before in
    let place = kind.before.before in
    let pool = place.before.before in
    c.from1.ensures
    ∙ gives _ _ _ pool.before.if-r-eq11.false pool.if-not-pooled.false place.if-r-le14.false
    kind.if-r-ne1.false last.if-r-gt17.false

pub slot_call_spec : {M : Type 1} → statement M
slot_call_spec =
    tie.close
    (tie.spec
    returns
    returns-2
    returns-3
    returns-4
    returns-5
    (λ _ _. tt)
    returns-6
    returns-7
    returns-8
    (λ _ _. tt)
    returns-9)
