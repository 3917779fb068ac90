use Rattle.std.proofs.Common.{drop, length, map, subst}
use Rattle.std.proofs.lemmas.Result.{IfOk-weaker}
use Rattle.wq_rescuer.specs.Contexts.{contexts_of}
use Rattle.wq_script.specs.Crews.{shared_by_two}
use Rattle.wq_script.specs.Scripts.{runs_of}
use Rattle.wq_groups.specs.DeclaredGroups.{Declared}
use Rattle.wq_run.specs.Running.{HasRuntime, HaveMade}
use Rattle.wq_run.proofs.AnswerLemmas.{Stops-runnable}
use Rattle.wq_run.proofs.RuntimeLemmas.{PrintsRun-closed}
use Rattle.wq_run.proofs.serving.serve.Goals as goal

pub returns-in-Ok-clause-ran : goal.returns-in-Ok-clause-ran
returns-in-Ok-clause-ran g c =
    let s = c.args.declared.now in
    let w = g.N.Naming.wiring in
    let ran = c.in-Ok.ran in
    let called = subst (λ (d : Declared). HaveMade w (shared_by_two (length d.table.names))
    (drop (length (contexts_of w)) ran.seats.items))
    c.declared.view_is c.in-Ok.ensures.called in
    IfOk-weaker c.conclude.result _ _
    (λ text h. PrintsRun-closed w.helpers s w c.args.assignment.now g.N.Naming.rows ran.seats.items
    (map runs_of ran.bodies.items) ran.rescued.items ran.finished ran.faults
    h.0 h.1 text.items c.requires.items c.requires.plan c.requires.few c.requires.of_wiring c.requires.of_rows
    c.in-Ok.ensures.ran called c.requires.few_helpers c.in-Ok.ensures.served h.2 h.3) c.conclude.ensures.reported

pub returns-in-Ok-clause-stopped : goal.returns-in-Ok-clause-stopped
returns-in-Ok-clause-stopped g c =
    Stops-runnable c.conclude.result (HasRuntime c.args.declared.now)
    (record { assignment = c.args.assignment.now; plan = c.requires.plan; few = c.requires.few })
