-- Settled calls: their effects in order name every call once, and each effect suits the call of its number.
use mathlib.Core.{List.{List, [], ◌∷◌, ◌++◌, map, reverse-cons}, Logic.◌≢◌, Path.{◌≡◌, refl, sym, ap, ◌∙◌, subst}}
use Prim.Native.Nat.{ℕ, suc, ◌≤◌}
use native.Mathlib.Omega.{arith}
use lib.{ListN.{length, length-reverse, length-map, get_or-append}, Seq.get_or_at}
use Rattle.model.specs.{History.{LedgerCall, Effect}, Lists.All}
use Rattle.audit_model.specs.{declared.Finished.Finished, Audit.{nobody, numbered}, Written.{finished, written}}
use Rattle.audit_model.proofs.OrderedEffects.{OrderedEffect, put, put_all, ordered_effect, ordered_effects}
use Rattle.audit_model.proofs.{Lists.{Pairs, all_both, all_map}, Settled.{Settled, Suits}}
use Rattle.audit_model.proofs.Order.{NotAfter, insert_all, insert_length, insert-pairs, insert_sorted}

abbrev pub IsSettled : LedgerCall → Type 0
IsSettled c = Settled c (written c c.ending)

pub record Within (n : ℕ) (t : OrderedEffect) : Type 0 where
  pub low : 1 ≤ t.number
  pub high : t.number ≤ n

abbrev pub OtherCall : OrderedEffect → OrderedEffect → Type 0
OtherCall t u = t.number ≢ u.number

pub record Ordered (fs : List Finished) (n : ℕ) (l : List OrderedEffect) : Type 0 where
  pub count : length l ≡ n
  pub known : All (Within n) l
  pub differ : Pairs OtherCall l
  pub sorted : Pairs NotAfter l
  pub suits : All (λ (t : OrderedEffect). Suits (numbered fs t.number) t) l

pub finished_cons : (c : LedgerCall) (cs : List LedgerCall) → finished (c ∷ cs) ≡ finished cs ++ (written c c.ending ∷ [])
finished_cons c cs = reverse-cons (written c c.ending) (map (λ (c : LedgerCall). written c c.ending) cs)

pub finished_length : (cs : List LedgerCall) → length (finished cs) ≡ length cs
finished_length cs =
    length-reverse (map (λ (c : LedgerCall). written c c.ending) cs)
    ∙ length-map cs (λ (c : LedgerCall). written c c.ending)

-- A call more: the numbers of the others stay, and the next number is its own.
numbered_old : (fs : List Finished) (f : Finished) (k : ℕ) → k ≤ length fs → numbered (fs ++ (f ∷ [])) k ≡ numbered fs k
numbered_old fs f k h = get_or-append (nobody ∷ fs) (f ∷ []) nobody k (omega arith)

numbered_new : (fs : List Finished) (f : Finished) (n : ℕ) → length fs ≡ n → numbered (fs ++ (f ∷ [])) (suc n) ≡ f
numbered_new fs f n e = get_or_at fs f [] nobody n e

inserted : (fs : List Finished) (f : Finished) (n : ℕ) (l : List OrderedEffect) (t : OrderedEffect)
    → length fs ≡ n → t.number ≡ suc n → Suits f t → Ordered fs n l
    → Ordered (fs ++ (f ∷ [])) (suc n) (put t l)
inserted fs f n l t e k s o = record {
  count = insert_length t l ∙ ap suc o.count;
  known = insert_all (Within (suc n)) t l (record { low = omega arith; high = omega arith })
      (all_map (λ (u : OrderedEffect) w. record { low = w.low; high = omega (arith, w.high) }) l o.known);
  differ = insert-pairs OtherCall t l
      (all_map {R = OtherCall t} above l o.known)
      (all_map {R = λ (u : OrderedEffect). OtherCall u t} below l o.known)
      o.differ;
  sorted = insert_sorted t l o.sorted;
  suits = insert_all (λ (u : OrderedEffect). Suits (numbered (fs ++ (f ∷ [])) u.number) u) t l
      (subst (λ (x : Finished). Suits x t) (sym (ap (numbered (fs ++ (f ∷ []))) k ∙ numbered_new fs f n e)) s)
      (all_both kept l o.known o.suits);
}
  where
    above : (u : OrderedEffect) → Within n u → OtherCall t u
    above u w z = omega (arith, w.high, k)

    below : (u : OrderedEffect) → Within n u → OtherCall u t
    below u w z = omega (arith, w.high, k)

    kept : (u : OrderedEffect) → Within n u → Suits (numbered fs u.number) u → Suits (numbered (fs ++ (f ∷ [])) u.number) u
    kept u w v = subst (λ (x : Finished). Suits x u) (sym (numbered_old fs f u.number (omega (arith, w.high)))) v

pub ordered : (cs : List LedgerCall) → All IsSettled cs → Ordered (finished cs) (length cs) (ordered_effects cs)
ordered [] h = record { count = refl; known = tt; differ = tt; sorted = tt; suits = tt }
ordered (c ∷ cs) h =
    let s = h.0 in
    let n = suc (length cs) in
    let f = ordered_effect n c.kind c.side c.entry in
    let t = f s.effect in
    subst (λ (es : List Effect). Ordered (finished (c ∷ cs)) n (put_all f es (ordered_effects cs))) (sym s.only)
    (subst (λ (fs : List Finished). Ordered fs n (put t (ordered_effects cs))) (sym (finished_cons c cs))
    (inserted (finished cs) (written c c.ending) (length cs) (ordered_effects cs) t (finished_length cs) refl (s.suits n) (ordered cs h.1)))
