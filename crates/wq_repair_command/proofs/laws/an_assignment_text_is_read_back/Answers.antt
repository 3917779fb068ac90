use Rattle.wq_names.specs.Names.{names_of}
use Rattle.wq_repair_command.proofs.ReadBack.{workqueues_of_text-printed}
use Rattle.wq_repair_command.proofs.Shown.{shown-names_of}
use Rattle.wq_repair_command.proofs.laws.an_assignment_text_is_read_back.Goals as goal

pub returns : goal.returns
returns c = λ t p ws text table partition long assigned few. workqueues_of_text-printed t p ws (names_of text) table partition long assigned few (shown-names_of text)
