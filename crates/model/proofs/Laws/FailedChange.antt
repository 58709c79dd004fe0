-- A change that fails at 2 or 4 reads Anchor as place 1 would, all in the same step, and is counted. (Document 02: #106.)
use mathlib.Core.{Path.{◌≡◌, sym, subst}, Bool.{true, false}, Logic.{◌⊎◌, inl, inr}}
use Prim.Native.Nat.{ℕ}
use lib.Dec.{eqb}
use Rattle.word.specs.Anchor.{anchor_of}
use Rattle.model.specs.{declared.{Call.Call, Record.Record}, Tables.{Tables, is_pooled, at_place, with_call}}
use Rattle.model.specs.{Sound.{control_sound, record_sound, rows_fit}, Route.{counted, goes}, Calls.{finish, step}}
use Rattle.model.specs.{Places.{side_of, row, reading, at1, at2, at4, move}, Kinds.is_pop}
use Rattle.model.specs.Refusals.{Lent, step_sound, step_refusal}
use Rattle.model.proofs.{Tests.Truth.split, Laws.Onward.reads_on}

module _ (q : Tables) (p : Lent) (t : Record) where
  abbrev r : Call
  r = t.call

  -- The call at another place, and at 1 with one more failed change.
  abbrev at : ℕ → Record
  at place = with_call t (at_place r place)

  abbrev retried : Record
  retried = record { call = at_place r 1; retries = counted t.retries true }

  -- A step at this place that is not refused is place 1's.
  abbrev ReadsAs1 : ℕ → Type 0
  ReadsAs1 place = step_refusal q p (at_place r place) ≡ 0 → step q p (at place) ≡ step q p retried

  abbrev outcome : ℕ
  outcome = reading (is_pop r) (anchor_of q.control.anchor)

  module _ (moved : eqb q.control.anchor r.seen ≡ false) where
    same2 : step_refusal q p (at_place r 1) ≡ step_refusal q p (at_place r 2)
    unfolding step_refusal step_sound record_sound control_sound rows_fit move at1 at2
    same2 = split (is_pooled q.control) (λ e. rw (moved, e)) (λ e. rw (moved, e))

    failed2 : ReadsAs1 2
    unfolding step finish move at1 at2 row side_of counted goes
    failed2 none = rw (same2, none, moved, (reads_on r.kind outcome).0)

    same4 : step_refusal q p (at_place r 1) ≡ step_refusal q p (at_place r 4)
    unfolding step_refusal step_sound record_sound control_sound rows_fit move at1 at4
    same4 = split (is_pooled q.control) (λ e. rw (moved, e)) (λ e. rw (moved, e))

    failed4 : ReadsAs1 4
    unfolding step finish move at1 at4 row side_of counted goes
    failed4 none = rw (same4, none, moved, (reads_on r.kind outcome).1)

  -- The law.
  pub failed_change : (r.place ≡ 2) ⊎ (r.place ≡ 4) → eqb q.control.anchor r.seen ≡ false → ReadsAs1 r.place
  failed_change (inl here) moved = subst (λ (n : ℕ). ReadsAs1 n) (sym here) (failed2 moved)
  failed_change (inr here) moved = subst (λ (n : ℕ). ReadsAs1 n) (sym here) (failed4 moved)
