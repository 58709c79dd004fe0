-- A run cut in two is a list cut in two.
use mathlib.Core.{Path.{◌≡◌, refl, ap, sym, subst, ◌∙◌}, List.{List, [], ◌∷◌, ◌++◌}}
use Prim.Native.Nat.{ℕ}
use Rattle.model.specs.Outcomes.{Outcome}
use Rattle.model.specs.{Tables.Queue, Lists.All}
use Rattle.threads_model.specs.{Turns.{Turn, run_turns, final_turns}, Crew.owed}
use Rattle.threads_model.specs.Crew.{Act, Crew, Known, all_free, decides, go, go_on, turns, tells_to, told, outcomes_of}
use Rattle.threads.specs.Consequences.{InstructionsRealTime, RealTime}
use Rattle.threads.proofs.{Lists.Append.{assoc, outcomes_append}, Follow.Good.Good, Run.runs_on}
use Rattle.threads.proofs.Since.{after-threads}

append_same : (a b c : List Turn) → (a ++ b) ++ c ≡ a ++ (b ++ c)
append_same [] b c = refl
append_same (x ∷ a) b c = ap (λ (l : List Turn). x ∷ l) (append_same a b c)

behind : List Outcome → List Outcome
behind [] = []
behind (x ∷ l) = l

cancel : (a b c : List Outcome) → a ++ b ≡ a ++ c → b ≡ c
unfolding behind
cancel [] b c e = e
cancel (x ∷ a) b c e = cancel a b c (ap behind e)

module _ (pooled slots : ℕ) where
  pub go-more : (a b : List Act) (m : Crew) → go_on pooled slots m (a ++ b) ≡ go_on pooled slots (go_on pooled slots m a) b
  unfolding go_on
  go-more [] b m = refl
  go-more (x ∷ a) b m = go-more a b (go pooled slots m x)

  turns_more : (a b : List Act) (m : Crew) → turns pooled slots m (a ++ b) ≡ turns pooled slots m a ++ turns pooled slots (go_on pooled slots m a) b
  unfolding go_on turns
  turns_more [] b m = refl
  turns_more (x ∷ a) b m =
      let m' = go pooled slots m x in
      let d = decides pooled slots m x in
      ap (λ (l : List Turn). d ++ l) (turns_more a b m')
      ∙ sym (append_same d (turns pooled slots m' a) (turns pooled slots (go_on pooled slots m' a) b))

  told_more : (a b : List Act) (m : Crew) (t : ℕ)
      → told pooled slots m (a ++ b) t ≡ told pooled slots m a t ++ told pooled slots (go_on pooled slots m a) b t
  unfolding go_on told
  told_more [] b m t = refl
  told_more (x ∷ a) b m t =
      let m' = go pooled slots m x in
      let d = tells_to m x t in
      ap (λ (l : List Outcome). d ++ l) (told_more a b m' t)
      ∙ sym (assoc d (told pooled slots m' a t) (told pooled slots (go_on pooled slots m' a) b t))

pub first-known : (tasks : ℕ) (a b : List Act) → All (Known tasks) (a ++ b) → All (Known tasks) a
first-known tasks [] b h = tt
first-known tasks (x ∷ a) b h = (h.0, first-known tasks a b h.1)

module _ (tasks pooled slots : ℕ) (q : Queue) (g : Good tasks pooled slots q) where
  real_time : (a b : List Act) → All (Known tasks) (a ++ b) → RealTime pooled slots q a b
  real_time a b h =
      let m = go_on pooled slots (all_free q) a in
      let us = turns pooled slots (all_free q) a in
      let vs = turns pooled slots m b in
      let whole = (runs_on tasks pooled slots q g (a ++ b) h).outcomes in
      let part = (runs_on tasks pooled slots q g a (first-known tasks a b h)).outcomes in
      record {
        cut = turns_more pooled slots a b (all_free q);
        before = part;
        behind = λ t.
            let later = outcomes_of t (run_turns (final_turns q us) vs) in
            let heard = told pooled slots (all_free q) a t in
            let last = owed ((go_on pooled slots m b).hands t) in
            cancel heard (owed (m.hands t) ++ later) (told pooled slots m b t ++ last)
            (sym (assoc heard (owed (m.hands t)) later)
            ∙ ap (λ (l : List Outcome). l ++ later) (sym (part t))
            ∙ sym (outcomes_append t us vs q)
            ∙ ap (λ (l : List Turn). outcomes_of t (run_turns q l)) (sym (turns_more pooled slots a b (all_free q)))
            ∙ whole t
            ∙ (λ i. told_more pooled slots a b (all_free q) t i ++ owed ((go-more pooled slots a b (all_free q) i).hands t))
            ∙ assoc heard (told pooled slots m b t) last);
      }

pub instructions_real_time : InstructionsRealTime
instructions_real_time =
    after-threads (λ past pooled slots q l. (a b : List Act) → l ≡ a ++ b → RealTime pooled slots q a b)
    (λ tasks pooled slots past q k l h a b is. real_time tasks pooled slots q k.good a b (subst (All (Known tasks)) is h))
