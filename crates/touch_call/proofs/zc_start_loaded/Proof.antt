use mathlib.Core.Path.{ap, ◌∙◌}
use Rattle.layout.specs.Rows.{record_of, upper_of}
use Rattle.threads_model.specs.declared.Start.{Start}
use Rattle.touch.specs.Started.{loaded_by}
use borrow.Author.Rules.{rules}
use Rattle.touch_call.proofs.zc_start_loaded.Statement.{statement}
use Rattle.touch_call.proofs.zc_start_loaded.Tie as tie

returns : tie.Need-returns
returns c =
    let st = c.before.before in
    let a = st.before.before.args in
    let was = a.task.now in
    c.start_loaded.ensures
    ∙ ap (λ (s : Start). loaded_by a.pooled a.slots (upper_of was) (record_of was) s a.anchor)
    st.start_of-s.ensures

pub zc_start_loaded_spec : {M : Type 1} → statement M
zc_start_loaded_spec = tie.close (tie.spec (λ c κs. search rules) (λ c κs. search rules) returns)
