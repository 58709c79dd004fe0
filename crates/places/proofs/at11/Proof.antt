-- `cleared11` and `unsound11`, with what the calls answer put in.
use mathlib.Core.Path.{◌≡◌, sym, ◌∙◌}
use borrow.Author.Rules.{rules}
use Rattle.decide.specs.Decided.{own_end}
use Rattle.places.proofs.{OnRows.{cleared11, unsound11}, at11.Statement.statement}
use Rattle.places.proofs.at11.Tie as tie

-- The end, as read, tested for a slot.
module _ (tested : tie.After-is_slot) where
  abbrev start : tie.Start
  start = let end = tested.before.before in end.before.before.before

  near : tested.before.before.own_end-end.result ≡ own_end start.args.r
  near = tested.before.before.own_end-end.ensures

returns : tie.Need-returns-then-is_slot
returns c =
    let cleared = c.before.before.before in
    let slot = cleared.before.before in
    let tested = slot.before in
    let a = (start tested).args in
    let yes = rw (near tested) at (sym tested.is_slot.ensures ∙ slot.if-is_slot.true) in
    λ ls rs xs k.
    rw (c.at11.ensures, cleared.clear_mark.ensures, tested.before.get_or-label.ensures, near tested)
    (cleared11 a.c a.r ls rs a.labels.now a.marks.now xs k yes)

returns-2 : tie.Need-returns
returns-2 c =
    let tested = c.before.before in
    let a = (start tested).args in
    let no = rw (near tested) at (sym tested.is_slot.ensures ∙ c.before.if-is_slot.false) in
    λ ls rs xs k. rw c.at11-2.ensures (unsound11 a.c a.r ls rs a.labels.now a.marks.now xs k no _)

pub at11_spec : {M : Type 1} → statement M
at11_spec =
    tie.close
    (tie.spec
    (λ c κs. search rules)
    (λ c κs. search rules)
    (λ c κs. search rules)
    (λ c κs. search rules)
    (λ c κs. search rules)
    (λ c. search rules)
    returns
    (λ c κs. search rules)
    returns-2)
