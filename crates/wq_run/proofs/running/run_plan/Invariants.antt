use Rattle.wq_core.specs.Wiring.{wiring, with_helpers}
use Rattle.wq_groups.specs.DeclaredGroups.{declared_waits}
use Rattle.wq_run.proofs.running.run_plan.Given as goal

abbrev pub ghosts-run_named-N-Naming : goal.ghosts-run_named-N-Naming
ghosts-run_named-N-Naming g a = record {
  wiring = with_helpers (wiring (declared_waits a.declared.now) a.assignment.now)
      a.helpers;
  rows = a.rows;
}

abbrev pub ghosts-run_named-N-Ledger : goal.ghosts-run_named-N-Ledger
ghosts-run_named-N-Ledger g a = record { name = a.blank.name; parts = a.blank.parts }
