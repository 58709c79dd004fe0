-- An unsound word leads nowhere; the lower half of a sound one is its slot.
use Rattle.std.proofs.Common.{◌≡◌, sym, ap, ◌∙◌, ℕ, ◌%◌, ◌^◌, Bool, true, false, cond, not, ◌||◌, List, get_or, Result, Ok, Err}
use lib.Dec.{eqb}
use Rattle.model.specs.Sound.{link_sound}
use Rattle.walk.specs.{declared.{Unsound.Unsound, Way.Way}, Ways.{unsound, named, links_on, leads_to}}
use Rattle.walk.proofs.Along.{half_slot}
use Rattle.walk.proofs.target.Goals as goal

module _ (w : Way) (lefts rights : List ℕ) (x word : ℕ) (e : word ≡ get_or (links_on w lefts rights) x 0) where
  abbrev judged : Bool → Result ℕ Unsound
  judged b = cond (not b || eqb (word % 2 ^ 32) 0) (Err unsound) (Ok (word % 2 ^ 32))

  names : (b : Bool) → b ≡ link_sound w.slots word → judged b ≡ named (leads_to w lefts rights x)
  unfolding leads_to
  names true s = let f : link_sound w.slots (get_or (links_on w lefts rights) x 0) ≡ true = ap (link_sound w.slots) (sym e) ∙ sym s in
      rw f (ap named (ap (λ l. l % 2 ^ 32) e ∙ half_slot _ _ f))
  names false s = let f : link_sound w.slots (get_or (links_on w lefts rights) x 0) ≡ false = ap (link_sound w.slots) (sym e) ∙ sym s in
      rw f

pub returns-then-link_sound-y : goal.returns-then-link_sound-y
returns-then-link_sound-y c =
    let n = names c.args.w c.args.lefts.now c.args.rights.now c.args.x _ c.link_at-word.ensures c.link_sound.result c.link_sound.ensures in
    rw c.if-link_sound-y.true at n

pub returns : goal.returns
returns c =
    let n = names c.args.w c.args.lefts.now c.args.rights.now c.args.x _ c.link_at-word.ensures c.link_sound.result c.link_sound.ensures in
    rw c.if-link_sound-y.false at n
