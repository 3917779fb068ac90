use Rattle.std.proofs.Common.{◌≡◌, ◌≤◌, [], Option, None, length, Bool, sym, ap, ◌∙◌, rules, arith}
use Rattle.std.specs.Prelude.{if◌then◌else◌}
use Rattle.std.specs.VecDeque.{deque_capacity}
use Rattle.std.proofs.lemmas.List.{length-replicate}
use Rattle.wq_core.specs.declared.entry.Running.{Running}
use Rattle.wq_core.specs.Held.{padded}
use Rattle.wq_core.proofs.Padding.{padded-none, count-few}
use Rattle.wq_core.proofs.lane.Lane.new.Goals as goal
use Rattle.wq_core.proofs.lane.Lane.new.Goals.{then-shape, else-shape}

pub returns-clause-lane : goal.returns-clause-lane
returns-clause-lane g c =
    let shape = c.args.shape in
    let k = c.if-shape.count in
    let count : k ≡ (if shape.ordered then 0 else c.args.helpers) = elim c.if-shape.branch [
      | then-shape w ↦ w.count-is ∙ ap (λ (b : Bool). if b then 0 else c.args.helpers) (sym w.if-shape.true)
      | else-shape w ↦ w.count-is ∙ ap (λ (b : Bool). if b then 0 else c.args.helpers) (sym w.if-shape.false)
    ] in
    let few : k ≤ 8 = omega (arith, count, count-few shape.ordered c.args.helpers, c.requires) in
    let empty : c.in_ok-pending.pending.items ≡ [] = search rules in
    let room : deque_capacity c.in_ok-pending.pending ≡ shape.items = search rules in
    let none = c.in_ok-helping.ensures.places in
    let idle = ap padded none ∙ padded-none k few in
    let helpers = ap length none ∙ length-replicate {A = Option Running} k None ∙ count in
    λ t. record {
      lane = record { pending = empty t; running = None; helping = idle t };
      room = room t;
      ordered = shape.ordered;
      helpers = helpers t;
    }
