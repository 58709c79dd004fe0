-- A history written as words is read back.
use mathlib.Core.{List.{List, [], ◌∷◌}, Path.{◌≡◌, refl, ap, ◌∙◌}}
use Prim.Native.Nat.{ℕ, zero, suc, ◌+◌, ◌*◌, ◌/◌, ◌≤◌}
use native.Mathlib.Omega.{arith}
use lib.ListN.{length, get_or}
use Rattle.audit_model.specs.{declared.{Finished.Finished, Verdict.TheVariants.Passed}, Audit.verdict}
use Rattle.audit_model.specs.{Written.{IsAnswered, effect_order, finished}, Laws.ReadBack}
use Rattle.audit_model.specs.LentHistory.{call_at, calls_from, calls_in, words_of}
use Rattle.model.specs.{History.{AfterOpening, LedgerCall, Request, ledger, run}, Calls.open_as, Tables.Queue, Lists.All}
use Rattle.audit_model.proofs.HistoriesPass.{histories_pass}

words_length : (cs : List Finished) → length (words_of cs) ≡ 7 * length cs
words_length [] = refl
words_length (c ∷ cs) = let h = words_length cs in omega arith

-- The calls behind the first.
skip : (c : Finished) (cs : List Finished) (i : ℕ) → call_at (words_of (c ∷ cs)) (suc i) ≡ call_at (words_of cs) i
skip c cs i = λ j. record {
  task = at (7 * suc i) (7 * i) (omega arith) j;
  kind = at (7 * suc i + 1) (7 * i + 1) (omega arith) j;
  side = at (7 * suc i + 2) (7 * i + 2) (omega arith) j;
  label = at (7 * suc i + 3) (7 * i + 3) (omega arith) j;
  answer = at (7 * suc i + 4) (7 * i + 4) (omega arith) j;
  start = at (7 * suc i + 5) (7 * i + 5) (omega arith) j;
  end = at (7 * suc i + 6) (7 * i + 6) (omega arith) j;
}
  where
    at : (k m : ℕ) → k ≡ suc (suc (suc (suc (suc (suc (suc m)))))) → get_or (words_of (c ∷ cs)) k 0 ≡ get_or (words_of cs) m 0
    at k m e = ap (λ (k : ℕ). get_or (words_of (c ∷ cs)) k 0) e

read_on : (c : Finished) (cs : List Finished) (i n : ℕ) → calls_from (suc i) n (words_of (c ∷ cs)) ≡ calls_from i n (words_of cs)
unfolding calls_from
read_on c cs i zero = refl
read_on c cs i (suc n) = λ j. skip c cs i j ∷ read_on c cs (suc i) n j

read_all : (cs : List Finished) → calls_from 0 (length cs) (words_of cs) ≡ cs
unfolding calls_from
read_all [] = refl
read_all (c ∷ cs) = ap (λ (l : List Finished). c ∷ l) (read_on c cs 0 (length cs) ∙ read_all cs)

pub read_back : ReadBack
read_back cs =
    let z : length (words_of cs) / 7 ≡ length cs = let h = words_length cs in omega arith in
    ap (λ (n : ℕ). calls_from 0 n (words_of cs)) z ∙ read_all cs

-- So a list of demand 3 passes as the words that are lent.
pub words_pass : AfterOpening (λ (q : Queue) (os : List Request). let cs = (ledger (run q os)).calls in
    All (λ (c : LedgerCall). IsAnswered c.ending) cs → length cs ≤ 64 → verdict (calls_in (words_of (finished cs))) (effect_order cs) ≡ Passed)
words_pass pooled q tasks slots tag e os done small =
    let cs = (ledger (run (open_as pooled q tasks slots tag).queue os)).calls in
    ap (λ (fs : List Finished). verdict fs (effect_order cs)) (read_back (finished cs)) ∙ histories_pass pooled q tasks slots tag e os done small
