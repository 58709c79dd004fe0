-- Equal ends; of different ones the first that is no slot, or none.
use mathlib.Core.{Path.{◌≡◌, sym, ap, ◌∙◌}, Bool.Bool}
use Rattle.word.specs.Anchor.{anchor_of}
use Rattle.model.specs.Sound.{anchor_sound}
use Rattle.sound.proofs.{Ends.{equal, left_null, right_null, both_slots}, anchor_sound.Statement.statement}
use Rattle.sound.proofs.anchor_sound.Tie as tie

-- What is shown of the Anchor unpacked is shown of the word.
module _ (u : tie.After-unpack-a) (b : Bool) where
  of_word : b ≡ anchor_sound u.before.args.slots u.unpack-a.result → b ≡ anchor_sound u.before.args.slots (anchor_of u.before.args.w)
  of_word h = h ∙ ap (anchor_sound u.before.args.slots) u.unpack-a.ensures

returns : tie.Need-returns-then-a
returns c = let ends = c.before.before in of_word ends.before.before _ (equal _ _ ends.if-a.true)

returns-2 : tie.Need-returns-then-not-from1
returns-2 c =
    let ends = c.before.before in
    of_word ends.before.before _ (left_null _ _ ends.if-a.false (sym c.before.from1.ensures ∙ c.if-not-from1.true))

returns-3 : tie.Need-returns-then-not-from1-2
returns-3 c =
    let left = c.before.before in
    let ends = left.before.before in
    of_word ends.before.before _ (right_null _ _ ends.if-a.false (sym c.before.from1-2.ensures ∙ c.if-not-from1-2.true))

returns-4 : tie.Need-returns
returns-4 c =
    let right = c.before in
    let left = right.before.before in
    let ends = left.before.before in
    of_word ends.before.before _
    (both_slots _ _ ends.if-a.false (sym left.before.from1.ensures ∙ left.if-not-from1.false)
    (sym right.before.from1-2.ensures ∙ right.if-not-from1-2.false))

pub anchor_sound_spec : {M : Type 1} → statement M
anchor_sound_spec = tie.close (tie.spec (λ _ _. tt) returns (λ _ _. tt) returns-2 (λ _ _. tt) returns-3 returns-4)
