use Rattle.std.proofs.Common.{◌∙◌}
use Rattle.wq_deadlock.proofs.KnownStuck.{released-view}
use Rattle.wq_deadlock.proofs.stuck.Stuck.release.Goals as goal

pub returns-clause-released : goal.returns-clause-released
returns-clause-released g c =
    released-view c.self.inside.known.items c.self.inside.waiting.items c.args.self.now c.self.view_is c.args.item
    c.from-place.result c.index.result.now c.clear.new.self c.as_slice.result.now c.forget-lowest.new.known.items
    (c.from-place.ensures ∙ c.get.ensures) c.requires c.index.ensures c.as_slice.ensures c.clear.ensures.items
    c.forget-lowest.ensures.known
