-- The left end no slot, no status; from place 5 on, equal ends, or different ones.
use mathlib.Core.{Path.{◌≡◌, sym, ap, ◌∙◌}, Bool.{Bool, true}}
use Rattle.word.specs.Anchor.{anchor_of}
use Rattle.model.specs.Sound.{from1}
use Rattle.sound.specs.Records.{deque_seen}
use Rattle.sound.proofs.Seen.{null_unstable, null_soon, no_status, late, equal_soon, apart_soon}
use Rattle.sound.proofs.deque_seen.Statement.{statement}
use Rattle.sound.proofs.deque_seen.Tie as tie

-- What is shown of the Anchor unpacked is shown of the word.
module _ (u : tie.After-unpack-a) (b : Bool) where
  of_word : (let r = u.before.args.r in
      b ≡ deque_seen u.before.args.slots r.place u.unpack-a.result → b ≡ deque_seen u.before.args.slots r.place (anchor_of r.seen))
  of_word h = h ∙ ap (deque_seen u.before.args.slots u.before.args.r.place) u.unpack-a.ensures

returns : tie.Need-returns-then-r-ge5
returns c =
    let left = c.before.before in
    of_word left.before.before _ (null_unstable _ _ _ (sym left.before.from1.ensures ∙ left.if-not-from1.true) c.if-r-ge5.true)

returns-2 : tie.Need-returns-then-not-from1
returns-2 c =
    let soon = c.before in
    let left = soon.before.before in
    let u = left.before.before in
    of_word u _ (null_soon _ _ _ _ u.unpack-a.ensures (sym left.before.from1.ensures ∙ left.if-not-from1.true) soon.if-r-ge5.false)

-- The left end is a slot.
module _ (past : tie.Else-not-from1) where
  abbrev word : tie.After-unpack-a
  word = past.before.before

  first : from1 word.before.args.slots word.unpack-a.result.left ≡ true
  first = sym past.before.from1.ensures ∙ past.if-not-from1.false

returns-3 : tie.Need-returns-then-a-eq3
returns-3 c = let past = c.before.before in of_word (word past) _ (no_status _ _ _ (first past) c.if-a-eq3.true)

returns-4 : tie.Need-returns-then-r-ge5-2
returns-4 c =
    let called = c.before in
    let from5 = called.before.before in
    let used = from5.before.before in
    let past = used.before.before in
    let u = word past in
    of_word u _
    (rw called.from1-then-r-ge5-2.ensures
    (late u.before.args.slots u.before.args.r.place u.unpack-a.result (first past) u.before.args.r.seen u.unpack-a.ensures
    used.if-a-eq3.false from5.if-r-ge5-2.true))

returns-5 : tie.Need-returns-then-a
returns-5 c =
    let same = c.before in
    let soon = same.before.before in
    let used = soon.before.before in
    let past = used.before.before in
    of_word (word past) _ (equal_soon _ _ _ (first past) same.if-a.true soon.if-r-ge5-2.false)

returns-6 : tie.Need-returns
returns-6 c =
    let other = c.before in
    let soon = other.before.before in
    let used = soon.before.before in
    let past = used.before.before in
    of_word (word past) _
    (c.from1-2.ensures
    ∙ apart_soon _ _ _ (first past) _ (word past).unpack-a.ensures used.if-a-eq3.false other.if-a.false soon.if-r-ge5-2.false)

pub deque_seen_spec : {M : Type 1} → statement M
deque_seen_spec =
    tie.close
    (tie.spec
    (λ _ _. tt)
    (λ _ _. tt)
    returns
    returns-2
    returns-3
    (λ _ _. tt)
    returns-4
    returns-5
    (λ _ _. tt)
    returns-6)
