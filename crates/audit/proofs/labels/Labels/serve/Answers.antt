-- A push is served at its side's end, a pop takes the label there.
use Rattle.std.proofs.Common.{arith, ◌≡◌, sym, subst, ◌/◌, length, get_or}
use borrow.Author.Tests.{eq-eqb, ne_eqb}
use lib.Dec.{eqb}
use Rattle.audit_model.specs.{declared.Finished.Finished, Audit.{gives, nobody, serve_label}, LentHistory.calls_in}
use Rattle.audit.specs.LabelQueue.{Put, Serves, held, label_at}
use Rattle.audit.proofs.Buffer.{plain}
use Rattle.audit.proofs.labels.Labels.serve.Goals as goal

pub returns-then-c-eq0 : goal.returns-then-c-eq0
unfolding serve_label
returns-then-c-eq0 c =
    let ws = c.args.words.now in
    let d = get_or (calls_in ws) c.args.k nobody in
    let q = c.args.self.now in
    let after = c.push.new.self in
    subst (λ (x : Finished). x.kind ≡ 0 → Put q.low q.high x.side c.args.k after.low after.high q.places.now after.places.now
    → Serves ws d q.low q.high (gives d (held ws q.low q.high q.places.now)) (eqb x.answer 2) after.low after.high after.places.now)
    (sym c.call_at-c.ensures)
    (λ push put. rw (eq-eqb d.kind 0 push) (record {
      same_is = plain d.answer d.label 2 (λ e. omega arith);
      queue_is = put.queue_is (label_at ws);
      moved = put.moved;
      holds = put.holds (length ws / 7) c.requires.0 c.requires.5;
    })) c.if-c-eq0.true c.push.ensures

pub returns : goal.returns
unfolding serve_label
returns c =
    let ws = c.args.words.now in
    let q = c.args.self.now in
    let one = c.call_at-c in
    let after = c.pop.new.self in
    subst (λ (x : Finished). Serves ws x q.low q.high (gives x (held ws q.low q.high q.places.now)) c.pop.result after.low after.high after.places.now)
    one.ensures
    (rw (ne_eqb one.result.kind 0 c.if-c-eq0.false) c.pop.ensures)
