-- What a verdict says, in the words of document 02, #103; the laws are proved in proofs/VerdictLaws.antt, the last one in proofs/RoundTrip.antt.
use mathlib.Core.{Bool.{Bool, true, false, ◌&&◌}, List.{List, [], ◌∷◌, ◌++◌}, Path.◌≡◌}
use Rattle.std.specs.Prelude.{ℕ, zero, suc, ◌≤◌, length}
use Rattle.audit_model.specs.{declared.Finished.Finished, Audit.{rearranges, verdict}}
use Rattle.audit_model.specs.declared.Verdict.{Verdict, TheVariants.{Refused, Failed, Passed}}
use Rattle.audit_model.specs.Audit.{accepted, agrees, all_of, differ, gives, in_order, not_earlier, pairwise}
use Rattle.audit_model.specs.LentHistory.{calls_in, words_of}

-- Served from queue q, the call gets its answer.
abbrev pub answers : Finished → List ℕ → Bool
answers c q = agrees c.answer c.label (gives c q).answer (gives c q).label

-- Served one after another from queue q, each call gets its answer.
abbrev pub Answered : List Finished → List ℕ → Type 0
Answered [] q = Unit {0}
Answered (c ∷ cs) q = (answers c q ≡ true) × Answered cs (gives c q).queue

-- It passes if and only if the order names every call once, no call comes before one that was answered before it started,
-- and a plain queue, empty at first, gives each answer.
pub record Passing (cs : List Finished) (ks : List ℕ) : Type 0 where
  pub once : rearranges (length cs) ks ≡ true
  pub order : pairwise not_earlier (in_order cs ks) ≡ true
  pub given : Answered (in_order cs ks) []

-- A call is right where it has its answer and stands before no call answered before its start.
abbrev pub right : Finished → List ℕ → List Finished → Bool
right c q later = answers c q && all_of (not_earlier c) later

abbrev pub AllRight : List Finished → List ℕ → List Finished → Type 0
AllRight [] q later = Unit {0}
AllRight (c ∷ cs) q later = (right c q (cs ++ later) ≡ true) × AllRight cs (gives c q).queue later

abbrev pub queue_after : List Finished → List ℕ → List ℕ
queue_after [] q = q
queue_after (c ∷ cs) q = queue_after cs (gives c q).queue

-- Position p of the calls in order, from 1, is the first that is not right.
pub record FirstWrong (cs : List Finished) (q : List ℕ) (p : ℕ) : Type 0 where
  pub before : List Finished
  pub call : Finished
  pub later : List Finished
  pub all : cs ≡ before ++ (call ∷ later)
  pub position : p ≡ suc (length before)
  pub earlier : AllRight before q (call ∷ later)
  pub wrong : right call (queue_after before q) later ≡ false

-- 0: the order is no rearrangement.
abbrev pub FailsAt : List Finished → List ℕ → ℕ → Type 0
FailsAt cs ks zero = rearranges (length cs) ks ≡ false
FailsAt cs ks (suc p) = (rearranges (length cs) ks ≡ true) × FirstWrong (in_order cs ks) [] (suc p)

abbrev pub Meaning : List Finished → List ℕ → Verdict → Type 0
Meaning cs ks (Refused n) = (accepted cs ≡ false) × (n ≡ 40)
Meaning cs ks (Failed p) = (accepted cs ≡ true) × FailsAt cs ks p
Meaning cs ks Passed = (accepted cs ≡ true) × Passing cs ks

-- Every verdict means what it says.
abbrev pub VerdictMeans : Type 0
VerdictMeans = (cs : List Finished) (ks : List ℕ) → Meaning cs ks (verdict cs ks)

-- And what means a verdict gets it: no history and order mean two.
abbrev pub MeaningIsTold : Type 0
MeaningIsTold = (cs : List Finished) (ks : List ℕ) (v : Verdict) → Meaning cs ks v → verdict cs ks ≡ v

-- A rearrangement leaves no call out: no number of a call differs from all of the order.
abbrev pub EveryCallListed : Type 0
EveryCallListed = (n : ℕ) (ks : List ℕ) (k : ℕ) → rearranges n ks ≡ true → 1 ≤ k → k ≤ n → all_of (differ k) ks ≡ false

-- A history written as words, seven a call, is read back as it was.
abbrev pub ReadBack : Type 0
ReadBack = (cs : List Finished) → calls_in (words_of cs) ≡ cs
