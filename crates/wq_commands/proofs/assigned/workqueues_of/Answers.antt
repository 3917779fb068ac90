use Rattle.std.proofs.Common.{sym, ap, ◌∙◌}
use Rattle.std.proofs.lemmas.Result.{IfOk-weaker}
use Rattle.wq_cert.proofs.LanesRead.{AreWorkqueuesOf-workqueues_of_text}
use Rattle.wq_groups.specs.DeclaredGroups.{Declared}
use Rattle.wq_commands.proofs.assigned.workqueues_of.Goals as goal

pub returns-clause-assigned : goal.returns-clause-assigned
returns-clause-assigned g c =
    let s : Declared = record { table = c.declared.inside.table; partition = c.declared.inside.groups } in
    let sound = c.declared.invariant in
    IfOk-weaker c.read_workqueues.result _ _ (λ ws read.
    (AreWorkqueuesOf-workqueues_of_text s.table.names s.partition sound.partition (sym sound.one_group_each)
    c.args.text.now ws read).assignment.assignment.one_each
    ∙ ap (λ (d : Declared). d.partition.groups) c.declared.view_is)
    c.read_workqueues.ensures.workqueues
