-- A list of demand 3 with at most 64 calls, all answered, passes when it is written with its places as events and its effects as the order.
use mathlib.Core.{Bool.{Bool, true}, List.{List, [], ◌∷◌, map, map-map}, Path.{◌≡◌, refl, sym, ap, ◌∙◌, subst}}
use Prim.Native.Nat.{ℕ, suc, ◌≤◌}
use native.Mathlib.Omega.{arith}
use lib.ListN.{length, length-map}
use borrow.Author.Tests.{eq-eqb, le-leb, ne_eqb}
use Rattle.model.specs.{declared.Entry.Entry, Calls.opened, Refusals.open_refusal, Sound.from1, Tables.Queue, Lists.All}
use Rattle.model.specs.History.{LedgerCall, Lawful, Request, ledger, run}
use Rattle.model.proofs.{Linearizable.linearized, Openings.after-opening, Tests.Truth.and_of}
use Rattle.model.proofs.Ledger.Opened as start
use Rattle.audit_model.specs.declared.{Finished.Finished, Verdict.TheVariants.Passed}
use Rattle.audit_model.specs.Audit.{accepted, all_of, apart, differ, not_earlier, numbered, rearranges, replay}
use Rattle.audit_model.specs.Audit.{verdict, well_formed}
use Rattle.audit_model.specs.Written.{HistoriesPass, IsAnswered, Passes, finished, written}
use Rattle.audit_model.proofs.{OrderedEffects.{OrderedEffect, order_is, ordered_effects}, Order.NotAfter}
use Rattle.audit_model.proofs.Lists.{Pairs, all_append, all_both, all_map, all_mapped, all_of_lem, pairs-mapped}
use Rattle.audit_model.proofs.{Lists.{pairs_of, pairs-snoc}, Replayed.{Replays, replayed, served_in}}
use Rattle.audit_model.proofs.{Events.{Apart, Past, Tidy, run_tidy}, SlotsDropped.{label-gives, labels_of}}
use Rattle.audit_model.proofs.Settled.{Suits, apart-written, formed, settled}
use Rattle.audit_model.proofs.Numbered.{IsSettled, Ordered, Within, finished_cons, finished_length, ordered}

-- What a history may hold.
abbrev Formed : Finished → Type 0
Formed f = well_formed f ≡ true

abbrev Differ : Finished → Finished → Type 0
Differ f g = apart f g ≡ true

abbrev Done : LedgerCall → Type 0
Done c = IsAnswered c.ending

abbrev Law : LedgerCall → Type 0
Law c = Lawful c c.ending

all_finished : (P : Finished → Type 0) (cs : List LedgerCall) → All (λ (c : LedgerCall). P (written c c.ending)) cs → All P (finished cs)
all_finished P [] h = tt
all_finished P (c ∷ cs) h =
    subst (All P) (sym (finished_cons c cs))
    (all_append P (finished cs) (written c c.ending ∷ []) (all_finished P cs h.1) (h.0, tt))

pairs-finished : (cs : List LedgerCall) → All Done cs → Pairs Apart cs → Pairs Differ (finished cs)
pairs-finished [] d h = tt
pairs-finished (c ∷ cs) d h = subst (Pairs Differ) (sym (finished_cons c cs))
    (pairs-snoc Differ (finished cs) (written c c.ending) (pairs-finished cs d.1 h.1)
    (all_finished (λ (f : Finished). Differ f (written c c.ending)) cs
    (all_both (λ (x : LedgerCall) i a. apart-written c x d.0 i a) cs d.1 h.0)))

all-formed : (n : ℕ) (cs : List LedgerCall) → All Done cs → All (Past n) cs → All Law cs → All Formed (finished cs)
all-formed n cs d p l = all_finished Formed cs (go cs d p l)
  where
    go : (cs : List LedgerCall) → All Done cs → All (Past n) cs → All Law cs → All (λ (c : LedgerCall). Formed (written c c.ending)) cs
    go [] d p l = tt
    go (c ∷ cs) d p l = (formed c n c.ending d.0 p.0 l.0, go cs d.1 p.1 l.1)

is-accepted : (n : ℕ) (cs : List LedgerCall) → length cs ≤ 64 → All Done cs → Tidy n cs → All Law cs → accepted (finished cs) ≡ true
unfolding accepted
is-accepted n cs s d t l =
    and_of
    (and_of (le-leb (length (finished cs)) 64 (omega (arith, finished_length cs)))
    (all_of_lem well_formed (λ f h. h) (finished cs) (all-formed n cs d t.past l)))
    (pairs_of apart (λ f g h. h) (finished cs) (pairs-finished cs d t.apart))

-- The order is a rearrangement.
abbrev InRange : ℕ → ℕ → Type 0
InRange n k = from1 n k ≡ true

abbrev Distinct : ℕ → ℕ → Type 0
Distinct j k = j ≡ k → ⊥

in_range : (n : ℕ) (t : OrderedEffect) → Within n t → InRange n t.number
in_range n t w = and_of (le-leb 1 t.number w.low) (le-leb t.number n w.high)

is_rearranged : (fs : List Finished) (n : ℕ) (l : List OrderedEffect) → Ordered fs n l → rearranges n (map (λ (t : OrderedEffect). t.number) l) ≡ true
unfolding rearranges
is_rearranged fs n l o =
    let number : OrderedEffect → ℕ = λ t. t.number in
    and_of (and_of (eq-eqb _ n (length-map l number ∙ o.count))
    (all_of_lem {P = InRange n} (from1 n) (λ k h. h) (map number l) (all_mapped (InRange n) number l (all_map (in_range n) l o.known))))
    (pairs_of {R = Distinct} differ (λ j k h. rw (ne_eqb j k h)) (map number l) (pairs-mapped Distinct number l o.differ))

-- Served in this order, every call gets its answer, and none stands before one that was answered before its start.
module _ (fs : List Finished) where
  abbrev at : OrderedEffect → Finished
  at t = numbered fs t.number

  none-earlier : (t : OrderedEffect) (l : List OrderedEffect) → Suits (at t) t → All (λ (u : OrderedEffect). Suits (at u) u) l → All (NotAfter t) l
      → all_of (not_earlier (at t)) (map at l) ≡ true
  unfolding not_earlier
  none-earlier t [] s ss h = refl
  none-earlier t (u ∷ l) s ss h =
      let z : (at t).start ≤ (at u).end = omega (arith, s.begun, ss.0.within, h.0) in
      and_of (le-leb (at t).start (at u).end z) (none-earlier t l s ss.1 h.1)

  passes : (p : ℕ) (l : List OrderedEffect) (d d' : List Entry)
      → All (λ (u : OrderedEffect). Suits (at u) u) l → Pairs NotAfter l → Replays l d d' → replay p (map at l) (labels_of d) ≡ Passed
  unfolding replay
  passes p [] d d' s o r = refl
  passes p (t ∷ l) d d' s o r =
      let g = label-gives (at t) r.0 t d s.0 r.1.0 in
      rw (and_of g.agrees (none-earlier t l s.0 s.1 o.0))
      (ap (replay (suc p) (map at l)) g.queue ∙ passes (suc p) l (served_in r.0 t d).deque d' s.1 o.1 r.1.1)

all_settled : (cs : List LedgerCall) → All Done cs → All Law cs → All IsSettled cs
all_settled [] d l = tt
all_settled (c ∷ cs) d l = (settled c c.ending d.0 l.0, all_settled cs d.1 l.1)

opened-passes : (pooled : Bool) (q : Queue) (tasks slots tag : ℕ) → open_refusal pooled q tasks slots ≡ 0
    → (os : List Request) → Passes (opened pooled q tasks slots tag) os
unfolding verdict
opened-passes pooled q tasks slots tag e os done small =
    let o = opened pooled q tasks slots tag in
    let l = ledger (run o os) in
    let cs = l.calls in
    let lin = linearized pooled q tasks slots tag e os in
    let begun = start.open_good pooled q tasks slots tag (start.some_slots pooled q tasks slots e) in
    let tidy = run_tidy os 1 o start.nobody begun (record { past = tt; apart = tt }) in
    let rep = replayed (run o os) 1 start.nobody (record { before = tt; replays = refl }) in
    let ord = ordered cs (all_settled cs done lin.calls) in
    ap (verdict (finished cs)) (order_is cs)
    ∙ rw (is-accepted tidy.0 cs small done tidy.1 lin.calls, finished_length cs, is_rearranged (finished cs) (length cs) (ordered_effects cs) ord)
    (ap (λ (x : List Finished). replay 1 x []) (map-map (numbered (finished cs)) (λ (t : OrderedEffect). t.number) (ordered_effects cs))
    ∙ passes (finished cs) 1 (ordered_effects cs) [] l.deque ord.suits ord.sorted rep.1.replays)

pub histories_pass : HistoriesPass
histories_pass pooled = after-opening pooled Passes (opened-passes pooled)
