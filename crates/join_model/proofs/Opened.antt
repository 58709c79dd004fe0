-- An opening with named slots leaves a fresh queue.
use mathlib.Core.{Path.{◌≡◌, refl, ap, ◌∙◌}, Bool.{true, false, not, cond}, List.{List, []}}
use Prim.Native.Nat.{ℕ, zero, suc, ◌+◌, ◌/◌, ◌<◌, ◌≤◌}
use native.Mathlib.Omega.{arith}
use lib.{Dec.eqb, ListN.{get_or, replicate, drop, get_or-replicate, length-replicate, get_or-append}}
use borrow.Author.Tests.{eq-eqb}
use Rattle.word.specs.Anchor.{anchor_of, pack_anchor, empty_anchor}
use Rattle.model.specs.{declared.Record.Record, Tables.{Queue, unused}, Calls.opened, Report.busy}
use Rattle.model.specs.Lists.{zeroed, count}
use Rattle.model.proofs.{Openings.after-opening, Tests.{Rules.{◌and◌, passes}, Truth.and_of}}
use Rattle.join_model.specs.{Join.{at_rest, blank, fresh_tests, fresh}, Laws.OpenedFresh}

zeroed-at : {A : Type 0} (n : ℕ) (z d : A) (l : List A) (i : ℕ) → i < n → get_or (zeroed n z l) i d ≡ z
zeroed-at n z d l i h = get_or-append (replicate n z) (drop n l) d i (omega (arith, length-replicate n z)) ∙ get_or-replicate n i z d h

zeroed-blank : (n m : ℕ) (l : List ℕ) → m ≤ n → blank m (zeroed n 0 l) ≡ true
zeroed-blank n zero l h = refl
zeroed-blank n (suc m) l h = and_of (zeroed-blank n m l (omega arith)) (eq-eqb _ _ (zeroed-at n 0 0 l m h))

none-busy : (n m : ℕ) (l : List Record) → m ≤ n → count (λ t. not (eqb (get_or (zeroed n unused l) t unused).call.place 0)) m ≡ 0
unfolding count
none-busy n zero l h = refl
none-busy n (suc m) l h =
    let z = ap {B = ℕ} (λ (r : Record). cond (not (eqb r.call.place 0)) 1 0) (zeroed-at n unused unused l m h) in
    omega (arith, none-busy n m l (omega arith), z)

opened-fresh : (q : Queue) (tasks slots tag : ℕ) → fresh (opened false q tasks slots tag) ≡ true
unfolding opened fresh at_rest busy
opened-fresh q tasks slots tag =
    let w = pack_anchor (empty_anchor tag) in
    let o = opened false q tasks slots tag in
    let status : (anchor_of w).status ≡ 0 = omega arith in
    let left : (anchor_of w).left ≡ 0 = omega arith in
    let right : (anchor_of w).right ≡ 0 = omega arith in
    passes (fresh_tests o)
    (refl
    and and_of (eq-eqb _ _ left) (eq-eqb _ _ right)
    and and_of (eq-eqb _ _ (none-busy tasks tasks q.records (omega arith))) (eq-eqb _ _ status)
    and zeroed-blank (slots + 1) (slots + 1) q.tables.lefts (omega arith)
    and zeroed-blank (slots + 1) (slots + 1) q.tables.rights (omega arith)
    and zeroed-blank (slots + 1) (slots + 1) q.tables.labels (omega arith)
    and zeroed-blank (slots / 64 + 1) (slots / 64 + 1) q.tables.marks (omega arith)
    and tt)

pub openings_fresh : OpenedFresh
openings_fresh q tasks slots tag e =
    after-opening false (λ z os. fresh z ≡ true) (λ q tasks slots tag e os. opened-fresh q tasks slots tag) q tasks slots tag e []
