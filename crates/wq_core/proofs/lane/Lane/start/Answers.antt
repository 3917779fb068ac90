use Rattle.std.proofs.Common.{Option, Some, sym, ap, ◌∙◌}
use Rattle.std.specs.Prelude.{option_map}
use Rattle.wq_core.specs.declared.entry.Entry.{Entry}
use Rattle.wq_core.specs.State.{Lane, with_run_by}
use Rattle.wq_core.specs.Rules.{begun, with_cancelled}
use Rattle.wq_core.proofs.Rising.{found-one}
use Rattle.wq_core.proofs.lane.Lane.start.Goals as goal

pub returns-clause-lane : goal.returns-clause-lane
returns-clause-lane g c =
    let lane = c.args.self.now.lane in
    let e = c.args.entry in
    let k = c.args.context in
    c.set.ensures.lane
    ∙ ap (λ (l : Lane). with_run_by l k (Some (begun e))) c.cancel.ensures.lane
    ∙ ap (λ (o : Option Entry). with_run_by (with_cancelled e.item lane) k (option_map begun o)) (sym (found-one lane.pending e c.requires.once c.requires.pending))
