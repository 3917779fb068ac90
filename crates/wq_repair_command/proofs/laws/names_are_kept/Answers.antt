use Rattle.wq_names.specs.Names.{names_of}
use Rattle.wq_repair_command.proofs.ReadBack.{names_of-text}
use Rattle.wq_repair_command.proofs.ReadNames.{IsCalled-names_of}
use Rattle.wq_repair_command.proofs.Shown.{shown-names_of}
use Rattle.wq_repair_command.proofs.laws.names_are_kept.Goals as goal

pub returns : goal.returns
returns c = λ t p ws text table partition long assigned few. names_of-text t p ws (names_of text) table partition long assigned few (shown-names_of text) (IsCalled-names_of text)
