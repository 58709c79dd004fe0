-- The mirror of the mirror is the queue itself: the mirror loses nothing.
use mathlib.Core.{Path.{◌≡◌, refl, ap, ap₂, ◌∙◌}, Bool.{Bool, true, false, cond}, List.{List, [], ◌∷◌, map}}
use Prim.Native.Nat.{ℕ, zero, suc}
use native.Mathlib.Omega.{arith}
use lib.Dec.{eqb}
use borrow.Author.Tests.{ne_eqb}
use Rattle.model.specs.declared.{Call.Call, Record.Record}
use Rattle.model.specs.Tables.{Queue, of_kind, with_anchor, with_call, with_seen}
use Rattle.model.specs.Mirror.{mirror_side, mirror_busy, mirror_record, mirror_task, mirror_queue}
use Rattle.model.proofs.Laws.Mirror.{Packed.mirror_involutive, Steps.busy_record}

side-twice : (side : ℕ) → mirror_side (mirror_side side) ≡ side
unfolding mirror_side
side-twice zero = refl
side-twice (suc zero) = refl
side-twice (suc (suc side)) = ap mirror_side kept ∙ kept
  where
    kept : mirror_side (suc (suc side)) ≡ suc (suc side)
    kept = rw (ne_eqb (suc (suc side)) 0 (λ e. omega arith), ne_eqb (suc (suc side)) 1 (λ e. omega arith))

record_twice : (r : Call) → mirror_record (mirror_record r) ≡ r
unfolding mirror_record
record_twice r = go (eqb r.place 0) refl
  where
    go : (b : Bool) → eqb r.place 0 ≡ b → mirror_record (mirror_record r) ≡ r
    go true e = let kept = ap (λ (b : Bool). cond b r (mirror_busy r)) e in ap mirror_record kept ∙ kept
    go false e =
        ap mirror_record (busy_record r e) ∙ busy_record (mirror_busy r) e
        ∙ ap₂ (λ (d w : ℕ). of_kind (with_seen r w r.finishing) r.kind d)
        (side-twice r.side) (mirror_involutive r.seen)

records-twice : (l : List Record) → map mirror_task (map mirror_task l) ≡ l
records-twice [] = refl
records-twice (r ∷ l) = ap₂ (λ (x : Call) (m : List Record). with_call r x ∷ m) (record_twice r.call) (records-twice l)

pub mirror_twice : (q : Queue) → mirror_queue (mirror_queue q) ≡ q
mirror_twice q = λ i. record {
  tables = with_anchor q.tables (mirror_involutive q.tables.control.anchor i);
  records = records-twice q.records i;
}
