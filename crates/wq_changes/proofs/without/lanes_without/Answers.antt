use Rattle.std.proofs.Common.{◌++◌, ◌∷◌, [], ℕ, ap, ◌∙◌}
use Rattle.wq_changes.specs.Without.{lane_without}
use Rattle.wq_changes.proofs.Ranges.{made}
use Rattle.wq_changes.proofs.without.lanes_without.Goals as goal

pub loop-number-preserved : goal.loop-number-preserved
loop-number-preserved g c =
    let lane = lane_without c.args.old.now c.args.new.now c.args.change.now in
    made lane c.loop-number.number c.loop-number.lanes.items c.push.new.self.items c.loop-number.invariant
    (c.in_ok-push.ensures.items ∙ ap (λ (q : ℕ). c.loop-number.lanes.items ++ (q ∷ [])) (c.lane_without.ensures ∙ ap lane c.new.ensures))
