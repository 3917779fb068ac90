use Rattle.wq_core.specs.Wiring.{wiring, with_helpers}
use Rattle.wq_groups.specs.DeclaredGroups.{declared_waits}
use Rattle.test_runtime.proofs.loads.running.run.Given as goal

abbrev pub ghosts-run_named-N-Naming : goal.ghosts-run_named-N-Naming
ghosts-run_named-N-Naming g a = record {
  wiring = with_helpers (wiring (declared_waits a.bed.now.declared.now) a.bed.now.assignment.now) a.bed.now.helpers;
  rows = a.bed.now.rows;
}

abbrev pub ghosts-run_named-N-Ledger : goal.ghosts-run_named-N-Ledger
ghosts-run_named-N-Ledger g a = record { name = a.blank.name; parts = a.blank.parts }
