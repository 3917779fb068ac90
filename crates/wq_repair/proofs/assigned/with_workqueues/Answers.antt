use Rattle.std.proofs.Common.{sym, ap, ◌∙◌}
use Rattle.wq_core.specs.Assigned.{Assigned}
use Rattle.wq_repair.proofs.assigned.with_workqueues.Goals as goal

pub new-requires : goal.new-requires
new-requires g c = c.requires ∙ sym (ap (λ (a : Assigned). a.declared.partition.groups) c.assigned.view_is)

pub returns : goal.returns
returns g c = c.new.ensures ∙ ap (λ (a : Assigned). record a { workqueues = c.args.workqueues.now }) c.assigned.view_is
