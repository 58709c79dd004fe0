-- The verdict from its parts.
use mathlib.Core.{Bool.{true, false, ◌&&◌}, List.{List, [], ◌∷◌}, Path.{◌≡◌, refl, sym, ap, ◌∙◌}}
use Prim.Native.Nat.{ℕ, ◌/◌, ◌<◌, ◌≤◌}
use native.Mathlib.Omega.{arith}
use lib.{Dec.{eqb, leb}, ListN.{length, drop}}
use borrow.Author.Tests.{eq-eqb, eqb-true, le-leb, leb-true, lt-leb, ne_eqb}
use Rattle.model.{specs.Sound.from1, proofs.Tests.Truth.{and-true, not_both, split}}
use Rattle.audit_model.specs.declared.{Finished.Finished, Verdict.TheVariants.{Failed, Passed, Refused}}
use Rattle.audit_model.specs.Audit.{accepted, all_of, apart, differ, in_order, pairwise, rearranges, replay, verdict}
use Rattle.audit_model.specs.{Audit.well_formed, LentHistory.{calls_from, calls_in}}
use Rattle.audit.proofs.Loops.{passes, passes_from}

module _ (cs : List Finished) (n : ℕ) (len : length cs ≡ n) where
  pub too_many : 64 < n → false ≡ accepted cs
  unfolding accepted
  too_many h = rw (len, lt-leb n 64 h)

  pub few_enough : n ≤ 64 → accepted cs ≡ passes well_formed apart cs
  unfolding accepted
  few_enough h = rw (len, le-leb n 64 h)

  pub at_most_64 : accepted cs ≡ true → n ≤ 64
  unfolding accepted
  at_most_64 e =
      let z = leb-true (length cs) 64 (and-true (leb (length cs) 64) (all_of well_formed cs)
      (and-true (leb (length cs) 64 && all_of well_formed cs) (pairwise apart cs) e).0).0 in
      omega arith

module _ (ks : List ℕ) (n : ℕ) where
  pub another_length : (length ks ≡ n → ⊥) → false ≡ rearranges n ks
  unfolding rearranges
  another_length e = rw (ne_eqb (length ks) n e)

  pub same_length : length ks ≡ n → rearranges n ks ≡ passes (from1 n) differ ks
  unfolding rearranges
  same_length e = rw (eq-eqb (length ks) n e)

  pub not_rearranged : (j : ℕ) → length ks ≡ n → passes (from1 n) differ (drop j ks) ≡ false → false ≡ rearranges n ks
  not_rearranged j e h = sym (same_length e ∙ split (passes (from1 n) differ ks)
      (λ t. absurd (not_both (passes_from (from1 n) differ ks j t) h)) (λ t. t))

  pub rearranged : rearranges n ks ≡ true → (length ks ≡ n) × (all_of (from1 n) ks ≡ true)
  unfolding rearranges
  rearranged e =
      let z = and-true (eqb (length ks) n) (all_of (from1 n) ks) (and-true (eqb (length ks) n && all_of (from1 n) ks) (pairwise differ ks) e).0 in
      (eqb-true (length ks) n z.0, z.1)

module _ (cs : List Finished) (ks : List ℕ) where
  pub refused : accepted cs ≡ false → Refused 40 ≡ verdict cs ks
  unfolding verdict
  refused a = rw a

  module _ (n : ℕ) (len : length cs ≡ n) (good : accepted cs ≡ true) where
    pub out_of_order : rearranges n ks ≡ false → Failed 0 ≡ verdict cs ks
    unfolding verdict
    out_of_order r = rw (good, len, r)

    pub replayed_so : rearranges n ks ≡ true → replay 1 (in_order cs ks) [] ≡ verdict cs ks
    unfolding verdict
    replayed_so r = rw (good, len, r)

-- A history of no call.
pub no-calls : (ws : List ℕ) → length ws < 7 → calls_in ws ≡ []
unfolding calls_from
no-calls ws h = let z : length ws / 7 ≡ 0 = omega arith in ap (λ (n : ℕ). calls_from 0 n ws) z

pub none_ordered : (ks : List ℕ) → length ks ≡ 0 → Passed ≡ verdict [] ks
unfolding verdict accepted rearranges replay
none_ordered [] e = refl
none_ordered (k ∷ ks) e = absurd (omega arith)

pub some_ordered : (ks : List ℕ) → (length ks ≡ 0 → ⊥) → Failed 0 ≡ verdict [] ks
unfolding verdict accepted rearranges
some_ordered ks e = rw (ne_eqb (length ks) 0 e)
