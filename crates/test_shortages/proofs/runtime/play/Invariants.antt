use Rattle.wq_core.specs.Wiring.{wiring}
use Rattle.wq_groups.specs.DeclaredGroups.{declared_waits}
use Rattle.test_shortages.proofs.runtime.play.Given as goal

-- what the runtime is made of
abbrev pub ghosts-run-N-Naming : goal.ghosts-run-N-Naming
ghosts-run-N-Naming g a = record { wiring = wiring (declared_waits a.declared.now) a.plan.now; rows = 100 }

-- its ledger, in which the seats count
abbrev pub ghosts-run-N-Ledger : goal.ghosts-run-N-Ledger
ghosts-run-N-Ledger g a = record { name = a.blank.name; parts = a.blank.parts }
