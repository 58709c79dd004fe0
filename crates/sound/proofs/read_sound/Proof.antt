-- One of both is beyond slots; or the link word's spare bits decide, or nothing is left to ask.
use Rattle.sound.proofs.{Links.{most_of, one_beyond, many_slots, few_slots}, read_sound.Statement.statement}
use Rattle.sound.proofs.read_sound.Tie as tie

returns : tie.Need-returns-then-slots-max
returns c = let m = most_of _ _ _ c.before.max.ensures in one_beyond _ _ _ _ m.0 m.1 m.2 c.if-slots-max.true

returns-2 : tie.Need-returns-then-slots-gt-SLOT_MASK
returns-2 c =
    let near = c.before in
    let m = most_of _ _ _ near.before.max.ensures in
    many_slots _ _ _ _ m.0 m.1 near.if-slots-max.false c.if-slots-gt-SLOT_MASK.true

returns-3 : tie.Need-returns
returns-3 c =
    let near = c.before in
    let m = most_of _ _ _ near.before.max.ensures in
    few_slots _ _ _ _ m.0 m.1 near.if-slots-max.false c.if-slots-gt-SLOT_MASK.false

pub read_sound_spec : {M : Type 1} → statement M
read_sound_spec = tie.close (tie.spec (λ _ _. tt) returns returns-2 returns-3)
