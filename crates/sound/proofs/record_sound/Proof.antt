-- Idle, beyond 10, or at 1 to 10.
use mathlib.Core.Path.{sym, ◌∙◌}
use native.Mathlib.Omega.{arith}
use borrow.Author.Tests.{eq-eqb}
use Rattle.sound.proofs.{Parts.idle-sound, DequePlaces.deque-places, SlotPlaces.slot_places}
use Rattle.sound.proofs.record_sound.Statement.{statement}
use Rattle.sound.proofs.record_sound.Tie as tie

returns : tie.Need-returns-then-r-eq0
returns c = sym (idle-sound _ _ _ (eq-eqb _ _ c.if-r-eq0.true))

returns-2 : tie.Need-returns-then-r-gt10
returns-2 c = c.slot_sound.ensures ∙ slot_places _ _ _ c.before.if-r-gt10.true

returns-3 : tie.Need-returns
returns-3 c =
    let beyond = c.before in
    c.deque_sound.ensures ∙ deque-places _ _ beyond.if-r-gt10.false _ (let busy = beyond.before.before.if-r-eq0.false in omega arith)

pub record_sound_spec : {M : Type 1} → statement M
record_sound_spec = tie.close (tie.spec returns (λ _ _. tt) returns-2 (λ _ _. tt) returns-3)
