use Rattle.wq_commands.proofs.DeclaredLemmas.{declared_in-declaration}
use Rattle.wq_commands.proofs.laws.a_text_declares_what_its_passes_make.Goals as goal

pub returns : goal.returns
returns c = declared_in-declaration
