-- The verdict on a history of finished calls and its claimed order of effects. (Document 02: #103.)
use mathlib.Core.{Bool.{Bool, true, ◌&&◌, ◌||◌, not, cond}, List.{List, [], ◌∷◌, map}}
use Rattle.std.specs.Prelude.{ℕ, suc}
use lib.{Dec.{eqb, leb, ltb}, ListN.{length, get_or}}
use Rattle.model.specs.{Deque.seen_from, Sound.from1}
use Rattle.audit_model.specs.declared.Finished.{Finished}
use Rattle.audit_model.specs.declared.Verdict.{Verdict, TheVariants.{Refused, Failed, Passed}}

-- Each element passes a test; each passes it against every later one.
abbrev pub all_of : {A : Type 0} → (A → Bool) → List A → Bool
all_of p [] = true
all_of p (x ∷ l) = p x && all_of p l

abbrev pub pairwise : {A : Type 0} → (A → A → Bool) → List A → Bool
pairwise r [] = true
pairwise r (x ∷ l) = all_of (r x) l && pairwise r l

-- 40: over 64 calls, an answer event not after its start, two events equal, or a kind, side or answer unknown.
-- Answers: 2 pushed, 3 empty, 4 popped; *no slot*, 5, is unknown to a history.
unfoldable pub well_formed : Finished → Bool
well_formed c = leb c.kind 1 && leb c.side 1 && leb 2 c.answer && leb c.answer 4 && ltb c.start c.end

unfoldable pub apart : Finished → Finished → Bool
apart c d =
    not (eqb c.start d.start) && not (eqb c.start d.end)
    && not (eqb c.end d.start) && not (eqb c.end d.end)

unfoldable pub accepted : List Finished → Bool
accepted cs = leb (length cs) 64 && all_of well_formed cs && pairwise apart cs

-- The order names every call once: as many numbers as calls, each of a call, none twice. Calls are numbered from 1.
abbrev pub differ : ℕ → ℕ → Bool
differ j k = not (eqb j k)

unfoldable pub rearranges : ℕ → List ℕ → Bool
rearranges n ks = eqb (length ks) n && all_of (from1 n) ks && pairwise differ ks

-- A call all of zeros, for a number that no call has.
abbrev pub nobody : Finished
nobody = record { task = 0; kind = 0; side = 0; label = 0; answer = 0; start = 0; end = 0 }

-- Call number k, from 1 on.
abbrev pub numbered : List Finished → ℕ → Finished
numbered cs k = get_or (nobody ∷ cs) k nobody

-- The calls in the order.
abbrev pub in_order : List Finished → List ℕ → List Finished
in_order cs ks = map (numbered cs) ks

-- A plain queue of labels, from left to right: what it answers to a call, the label popped, and the queue then.
pub record Given : Type 0 where
  pub answer : ℕ
  pub label : ℕ
  pub queue : List ℕ

abbrev pub take_label : ℕ → List ℕ → Given
take_label side [] = record { answer = 3; label = 0; queue = [] }
take_label side (x ∷ q) = record { answer = 4; label = x; queue = seen_from side q }

-- By the call's kind and side, and a push's label.
unfoldable pub serve_label : ℕ → ℕ → ℕ → List ℕ → Given
serve_label kind side label q =
    cond (eqb kind 0)
    (record { answer = 2; label = 0; queue = seen_from side (label ∷ seen_from side q) })
    (take_label side (seen_from side q))

abbrev pub gives : Finished → List ℕ → Given
gives c q = serve_label c.kind c.side c.label q

-- The call's answer is the one given; popped with another label is another answer.
unfoldable pub agrees : ℕ → ℕ → ℕ → ℕ → Bool
agrees answer label given popped = eqb answer given && (not (eqb given 4) || eqb label popped)

-- Call d was not answered before call c started.
unfoldable pub not_earlier : Finished → Finished → Bool
not_earlier c d = leb c.start d.end

-- The calls served in order, from position p on: the first whose answer is another,
-- or that stands before a call answered before its start.
unfoldable pub replay : ℕ → List Finished → List ℕ → Verdict
replay p [] q = Passed
replay p (c ∷ cs) q =
    let g = gives c q in
    cond (agrees c.answer c.label g.answer g.label && all_of (not_earlier c) cs) (replay (suc p) cs g.queue) (Failed p)

unfoldable pub verdict : List Finished → List ℕ → Verdict
verdict cs ks =
    cond (accepted cs)
    (cond (rearranges (length cs) ks) (replay 1 (in_order cs ks) []) (Failed 0))
    (Refused 40)
