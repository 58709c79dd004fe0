-- A busy, sound record's tests taken apart.
use mathlib.Core.{Path.◌≡◌, Bool.{Bool, true, false, ◌||◌, not, cond}}
use Prim.Native.Nat.{ℕ}
use native.Mathlib.Omega.{arith}
use lib.Dec.{eqb, leb}
use borrow.Author.Tests.{le-leb, leb-true}
use Rattle.word.specs.Anchor.{anchor_of}
use Rattle.model.specs.{declared.Call.Call, Sound.{anchor_tests, anchor_sound, record_tests, record_sound}}
use Rattle.model.specs.{Lists.every, Kinds.{is_pop, is_push, drawing, giving, helping}}
use Rattle.model.proofs.Tests.Rules.{tests}

pub implied : (a b : Bool) → not a || b ≡ true → a ≡ true → b ≡ true
implied true b e h = e
implied false b e h = absurd (let z : ◌≡◌ {A = ℕ} 0 1 = cc in omega arith)

pub otherwise : (a b : Bool) → a || b ≡ true → a ≡ false → b ≡ true
otherwise true b e h = absurd (let z : ◌≡◌ {A = ℕ} 0 1 = cc in omega arith)
otherwise false b e h = e

-- What the laws use of a busy, sound record.
pub record Sound (r : Call) : Type 0 where
  pub place : leb r.place 17 ≡ true
  pub kind : leb r.kind 1 ≡ true
  pub side : leb r.side 1 ≡ true
  pub pops : not (eqb r.place 11 || giving r) || is_pop r ≡ true
  pub pushes : not (drawing r) || is_push r ≡ true
  pub status : leb (anchor_of r.seen).status 2 ≡ true
  pub unstable : not (helping r) || not (eqb (anchor_of r.seen).status 0) ≡ true

at_most : (pooled : Bool) (p : ℕ) → leb p (cond pooled 17 11) ≡ true → leb p 17 ≡ true
at_most true p e = e
at_most false p e = le-leb p 17 (omega (arith, leb-true p 11 e))

pub sound_record : (pooled : Bool) (slots : ℕ) (r : Call) → record_sound pooled slots r ≡ true → eqb r.place 0 ≡ false → Sound r
unfolding record_sound anchor_sound
sound_record pooled slots r sound busy =
    let all = tests (record_tests pooled slots r) (otherwise (eqb r.place 0) (every (record_tests pooled slots r)) sound busy) in
    let rest = all.1.1.1.1.1.1.1 in
    let anchor = tests (anchor_tests slots (anchor_of r.seen)) rest.1.1.1.1.0 in
    record {
      place = at_most pooled r.place all.0;
      kind = all.1.0;
      side = all.1.1.0;
      pops = all.1.1.1.1.0;
      pushes = all.1.1.1.1.1.0;
      status = anchor.0;
      unstable = rest.1.1.1.1.1.0;
    }
