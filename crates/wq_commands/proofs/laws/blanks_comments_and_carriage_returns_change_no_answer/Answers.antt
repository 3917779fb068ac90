use Rattle.wq_commands.proofs.Examples.{two_items_spaced}
use Rattle.wq_commands.proofs.laws.blanks_comments_and_carriage_returns_change_no_answer.Goals as goal

pub returns : goal.returns
returns c = two_items_spaced
