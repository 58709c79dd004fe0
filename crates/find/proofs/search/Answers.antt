-- Nothing waits, or what is noted from the left; from the right end it is turned.
use Rattle.std.proofs.Common.{◌≡◌, refl, sym, ap, ◌∙◌, ℕ, List, length, arith, Option, None, Some, Result, Ok, Err}
use lib.ListN.{length-replicate}
use borrow.Author.Tests.{not-true, not-false}
use Rattle.model.specs.Walk.{Walk}
use Rattle.walk.{specs.{declared.{Unsound.Unsound, Way.Way}, Ways.{unsound, ahead, beginning_of, walk_by}, Over.over}, proofs.Along.begins-at}
use Rattle.find.specs.Looked.{note_on, noted, found_in, answered}
use Rattle.find.proofs.Searching.{blank, with, within, none_found, nothing-found, blanked, left-found, right-found}
use Rattle.find.proofs.search.Goals as goal
use Rattle.find.proofs.search.Goals.{After-begin, After-look}

begun : (c : After-begin) (r : Result (Option Way) Unsound) → c.begin.result ≡ r
    → found_in (walk_by r c.args.lefts.now c.args.rights.now c.args.labels.now) c.args.wanted.now
    ≡ found_in (walk_by (beginning_of c.args.c) c.args.lefts.now c.args.rights.now c.args.labels.now) c.args.wanted.now
begun c r e =
    ap (λ (r : Result (Option Way) Unsound). found_in (walk_by r c.args.lefts.now c.args.rights.now c.args.labels.now) c.args.wanted.now)
    (sym e ∙ c.begin.ensures)

-- The walk that was made, and what came of it.
module _ (c : After-look) where
  abbrev w : Way
  w = c.in-Some.w

  abbrev walk : Walk
  walk = ahead c.in-Some.w c.args.lefts.now c.args.rights.now c.args.labels.now

  came : (r : Result ℕ Unsound) → c.look.result ≡ r → noted r c.look.new.positions ≡ over (note_on w.rightward c.args.wanted.now) (with 0 blank) walk
  came r e =
      ap (λ (r : Result ℕ Unsound). noted r c.look.new.positions) (sym e) ∙ c.look.ensures
      ∙ ap (λ (ps : List ℕ). over (note_on w.rightward c.args.wanted.now) (with 0 ps) walk) c.requires.1

room : (ps : List ℕ) → ps ≡ blank → length ps ≡ 32
room ps e = ap length e ∙ length-replicate {A = ℕ} 32 0

pub returns-in_default : goal.returns-in_default
returns-in_default c =
    ap (λ (ps : List ℕ). answered (Ok 0) ps) c.requires.1
    ∙ none_found c.args.wanted.now c.requires.0
    ∙ begun (goal.at.returns-in_default c).After-begin (Ok None) (c.in_ok-w.was ∙ ap Ok c.in_default.is)

pub look-requires : goal.look-requires
look-requires c = record {
  at = (begins-at c.args.c c.in-Some.w (sym (c.in_ok-w.was ∙ ap Ok c.in-Some.is) ∙ c.begin.ensures)).1;
  sieve_size = refl;
  room = omega (arith, c.requires.0, room c.args.positions.now c.requires.1);
}

-- All of the walk went into it.
pub turn-requires : goal.turn-requires
turn-requires c =
    let v = (goal.at.turn-requires c).After-look in (
      omega (arith, c.requires.0, room c.args.positions.now c.requires.1),
      within c.in-Some.w.rightward c.args.wanted.now c.in-Ok.rows c.look.new.positions (walk v) (came v _ c.in-Ok.is),
    )

pub returns-then-not-w : goal.returns-then-not-w
returns-then-not-w c =
    let v = (goal.at.returns-then-not-w c).After-look in
    ap (λ (ps : List ℕ). answered (Ok c.in-Ok.rows) ps) c.turn.ensures
    ∙ right-found c.in-Some.w c.args.wanted.now c.requires.0 c.in-Ok.rows c.look.new.positions (walk v) (not-true _ c.if-not-w.true)
    (came v _ c.in-Ok.is)
    ∙ begun (goal.at.returns-then-not-w c).After-begin (Ok (Some c.in-Some.w)) (c.in_ok-w.was ∙ ap Ok c.in-Some.is)

pub returns-else-not-w : goal.returns-else-not-w
returns-else-not-w c =
    let v = (goal.at.returns-else-not-w c).After-look in
    left-found c.in-Some.w c.args.wanted.now c.requires.0 c.in-Ok.rows c.look.new.positions (walk v) (not-false _ c.if-not-w.false)
    (came v _ c.in-Ok.is)
    ∙ begun (goal.at.returns-else-not-w c).After-begin (Ok (Some c.in-Some.w)) (c.in_ok-w.was ∙ ap Ok c.in-Some.is)

pub returns-in_default-look : goal.returns-in_default-look
returns-in_default-look c =
    let v = (goal.at.returns-in_default-look c).After-look in
    ap (λ (ps : List ℕ). answered (Err unsound) ps)
    (c.fill.ensures ∙ blanked c.look.new.positions (c.look.auto.positions ∙ room c.args.positions.now c.requires.1))
    ∙ nothing-found (note_on c.in-Some.w.rightward c.args.wanted.now) (with 0 blank) c.in-Some.w (walk v) c.args.wanted.now (came v _ c.in_default-look.is)
    ∙ begun (goal.at.returns-in_default-look c).After-begin (Ok (Some c.in-Some.w)) (c.in_ok-w.was ∙ ap Ok c.in-Some.is)
