-- After an opening no two threads ever have an instruction on one label before them.
use mathlib.Core.Path.{subst}
use Prim.Native.Nat.{ℕ, ◌<◌}
use Rattle.threads_model.specs.{Turns.final_turns, Crew.{all_free, go_on, turns}}
use Rattle.threads.specs.Promises.{InstructionsLabelsApart, LabelsApart}
use Rattle.threads.proofs.{Follow.Labels.apart, Run.runs_on, Since.after-threads}

pub instructions_labels_apart : InstructionsLabelsApart
instructions_labels_apart = after-threads (λ past. LabelsApart) (λ tasks pooled slots past q k l h t u lt lu.
    let z = runs_on tasks pooled slots q k.good l h in
    let count = k.good.count in
    apart tasks pooled slots (go_on pooled slots (all_free q) l) (final_turns q (turns pooled slots (all_free q) l)) z.sim z.good t u
    (subst (λ (n : ℕ). t < n) count lt) (subst (λ (n : ℕ). u < n) count lu))
