use Rattle.wq_dot.proofs.Counts.{one_line_each}
use Rattle.wq_dot.proofs.laws.each_item_has_one_line.Goals as goal

pub returns : goal.returns
returns c = one_line_each
