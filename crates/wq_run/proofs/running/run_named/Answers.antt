use Rattle.std.proofs.Common.{subst}
use Rattle.wq_groups.specs.DeclaredGroups.{IsSound}
use Rattle.wq_run.proofs.RuntimeLemmas.{items-wiring, RunsDeclared-no_runtime}
use Rattle.wq_run.proofs.running.run_named.Goals as goal

pub returns-in-Err-clause-ran : goal.returns-in-Err-clause-ran
returns-in-Err-clause-ran g c =
    let s = c.args.declared.now in
    let sound : IsSound s = subst IsSound c.declared.view_is c.declared.invariant in
    RunsDeclared-no_runtime c.args.helpers s g.N.Naming.wiring c.args.assignment.now c.args.rows c.in-Err.error c.refuse_runtime.result sound c.requires.plan c.requires.of_wiring c.requires.few_helpers c.requires.few_rows c.in-Err.ensures.refused c.refuse_runtime.ensures.refused

pub serve-requires-clause-items : goal.serve-requires-clause-items
serve-requires-clause-items g c =
    let s = c.args.declared.now in
    let sound : IsSound s = subst IsSound c.declared.view_is c.declared.invariant in
    λ κs within. items-wiring c.args.helpers g.N.Naming.wiring s c.args.assignment.now sound.table c.requires.of_wiring
