-- Room for 65 calls and for an order of 65 numbers is enough: more of either change no verdict.
use mathlib.Core.{Bool.{Bool, true, false, ◌&&◌, cond, not}, List.List, Path.{◌≡◌, refl, sym, ap, ◌∙◌}}
use Prim.Native.Nat.{ℕ, zero, suc, ◌/◌, ◌≤◌}
use native.Mathlib.Omega.{arith}
use lib.{Dec.{eqb, leb}, ListN.{length, take}, Seq.{length-take-le, take_all}}
use borrow.Author.Tests.{leb-false, leb-true, lt-leb, ne_eqb}
use Rattle.model.proofs.Tests.Truth.{split}
use Rattle.audit_model.specs.declared.{Finished.Finished, Verdict.TheVariants.Refused}
use Rattle.audit_model.specs.{Audit.{accepted, rearranges, verdict}, LentHistory.{calls_from, calls_in}}
use Rattle.historyfile.specs.{Buffer.held, Reading.Reading}
use Rattle.std.specs.Prelude.{Option, Some, None, Ok, Err, is_none, is_some}
use Rattle.historyfile.specs.declared.words.Fault.{Fault}
use Rattle.judge.specs.Judging.{told}

count-calls : (i n : ℕ) (ws : List ℕ) → length (calls_from i n ws) ≡ n
unfolding calls_from
count-calls i zero ws = refl
count-calls i (suc n) ws = ap suc (count-calls (suc i) n ws)

-- Over 64 calls are refused, whatever the order.
many : (ws ks : List ℕ) → 455 ≤ length ws → verdict (calls_in ws) ks ≡ Refused 40
unfolding verdict accepted
many ws ks h =
    let z : length (calls_in ws) ≡ length ws / 7 = count-calls 0 (length ws / 7) ws in
    rw (lt-leb (length (calls_in ws)) 64 (omega arith))

-- Of an order of over 64 numbers the numbers do not matter.
long : (cs : List Finished) (ks ls : List ℕ) → 65 ≤ length ks → 65 ≤ length ls → verdict cs ks ≡ verdict cs ls
unfolding verdict accepted rearranges
long cs ks ls h k = split (leb (length cs) 64)
    (λ e. let few = leb-true (length cs) 64 e in
    rw (ne_eqb (length ks) (length cs) (λ z. omega arith), ne_eqb (length ls) (length cs) (λ z. omega arith)))
    (λ e. rw e)

module _ (m n : ℕ) (h : 455 ≤ m) (k : 65 ≤ n) where
  calls-enough : (ws ks : List ℕ) → verdict (calls_in (take m ws)) ks ≡ verdict (calls_in ws) ks
  calls-enough ws ks = split (leb (length ws) m)
      (λ e. ap (λ (l : List ℕ). verdict (calls_in l) ks) (take_all m ws (leb-true (length ws) m e)))
      (λ e. let over = leb-false (length ws) m e in
      let z : length (take m ws) ≡ m = length-take-le m ws (omega arith) in
      many (take m ws) ks (omega arith) ∙ sym (many ws ks (omega arith)))

  order-enough : (cs : List Finished) (ks : List ℕ) → verdict cs (take n ks) ≡ verdict cs ks
  order-enough cs ks = split (leb (length ks) n)
      (λ e. ap (verdict cs) (take_all n ks (leb-true (length ks) n e)))
      (λ e. let over = leb-false (length ks) n e in
      let z : length (take n ks) ≡ n = length-take-le n ks (omega arith) in
      long cs (take n ks) ks (omega arith) (omega arith))

  pub enough : (r : Reading) → told (held m n r) ≡ told r
  enough r =
      ap (λ v. cond (is_none r.place.fault && eqb r.place.column 8) (Ok v) (Err r.place))
      (calls-enough r.calls (take n r.order) ∙ order-enough (calls_in r.calls) r.order)

-- A reading without a fault and with an order is judged, and any other is not.
no_fault : (f : Option Fault) (b : Bool) → is_some f ≡ not b → is_none f ≡ b
no_fault None true e = refl
no_fault None false e = sym e
no_fault (Some why) true e = sym e
no_fault (Some why) false e = refl

module _ (r : Reading) (b : Bool) (is : is_some r.place.fault ≡ not b) where
  pub judged_so : b && eqb r.place.column 8 ≡ true → Ok (verdict (calls_in r.calls) r.order) ≡ told r
  judged_so e = rw (no_fault r.place.fault b is, e)

  pub unread : b && eqb r.place.column 8 ≡ false → Err r.place ≡ told r
  unread e = rw (no_fault r.place.fault b is, e)
