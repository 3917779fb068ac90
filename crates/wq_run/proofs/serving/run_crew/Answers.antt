use Rattle.std.proofs.Common.{rules, ◌≡◌, ℕ, List, Result, arith, drop, length, subst}
use Rattle.std.specs.Prelude.{IsTrue, is_ok}
use Rattle.std.specs.List.{All}
use Rattle.wq_history.specs.declared.fault.CallError.{CallError}
use Rattle.wq_rescuer.specs.Executing.{no_counts}
use Rattle.wq_rescuer.specs.Contexts.{contexts_of}
use Rattle.wq_rescuer.specs.Serving.{HaveCalled}
use Rattle.wq_script.specs.Acts.{CountsCalls}
use Rattle.wq_script.specs.Crews.{shared_by_two}
use Rattle.wq_items.specs.declared.target.Target.{Target}
use Rattle.wq_items.specs.Table.{targets_of}
use Rattle.wq_counts.specs.declared.kind.Kind.TheVariants.{Queue, Cancel}
use Rattle.wq_script.specs.Scripts.{Script}
use Rattle.wq_run.proofs.CallerLemmas.{have_made}
use Rattle.wq_run.proofs.CrewCounts.{calm_queue, calm_cancel, served_none}
use Rattle.wq_run.proofs.serving.run_crew.Goals as goal

pub run_all-requires-clause-width : goal.run_all-requires-clause-width
run_all-requires-clause-width g c = λ κs within k d below. omega (arith, c.requires.items, c.in_ok-bodies.ensures.width k d below)

pub returns-clause-called : goal.returns-clause-called
returns-clause-called g c =
    let w = g.N.Naming.wiring in
    let ran = c.in-Ok.ran in
    let seats = drop (length (contexts_of w)) ran.seats.items in
    let yes : IsTrue c.are_answered.result = search rules in
    let read : c.as_slice.result.now ≡ ran.results.items = search rules in
    have_made w (shared_by_two (length c.args.table.now.names)) ran.callers.items ran.results.items seats
    (subst (λ lists. HaveCalled (λ before now answer seat. CountsCalls w before answer (no_counts w) seat
    × (now ≡ before))
    lists ran.callers.items ran.results.items seats) c.in_ok-bodies.ensures.callers c.in-Ok.ensures.called)
    (subst (λ (results : List (Result (Unit {0}) CallError)). All (λ r. IsTrue (is_ok r)) results) read
    (c.are_answered.ensures yes))

pub returns-clause-served : goal.returns-clause-served
returns-clause-served g c =
    let served = c.in-Ok.ensures.served in
    let targets : Script → ℕ → List Target = λ script item. targets_of script.waits item in λ i said. (
      served_none g.N.Naming.wiring targets i Queue said calm_queue served,
      served_none g.N.Naming.wiring targets i Cancel said calm_cancel served,
    )
