-- At the right the index is stored behind the last, at the left before the first.
use Rattle.std.proofs.Common.{arith, ◌∙◌, ap, ◌+◌, ◌-◌}
use mathlib.Core.List.{map}
use lib.{ListN.length-map, Seq.slice}
use Rattle.audit.proofs.Buffer.{holds_more, map-set, push_left, push_right}
use Rattle.audit.proofs.labels.Labels.push.Goals as goal

pub returns-then-side-eq1 : goal.returns-then-side-eq1
returns-then-side-eq1 c =
    let q = c.args.self.now in
    let len = c.requires.4 in
    record {
      queue_is = λ f. ap (slice q.low (q.high + 1)) (map-set f q.places.now q.high c.args.k)
          ∙ push_right (map f q.places.now) q.low q.high (f c.args.k) c.args.side c.if-side-eq1.true c.requires.1
          (let z = length-map q.places.now f in omega arith);
      moved = record { ends = omega arith; left = omega arith; right = omega arith };
      holds = λ n. holds_more n q.places.now q.high c.args.k (omega arith);
    }

pub returns-else-side-eq1 : goal.returns-else-side-eq1
returns-else-side-eq1 c =
    let q = c.args.self.now in
    let len = c.requires.4 in
    record {
      queue_is = λ f. ap (slice (q.low - 1) q.high) (map-set f q.places.now (q.low - 1) c.args.k)
          ∙ push_left (map f q.places.now) q.low q.high (f c.args.k) c.args.side (q.low - 1) c.if-side-eq1.false (omega arith) c.requires.1
          (let z = length-map q.places.now f in omega arith);
      moved = record { ends = omega arith; left = omega arith; right = omega arith };
      holds = λ n. holds_more n q.places.now (q.low - 1) c.args.k (omega arith);
    }
