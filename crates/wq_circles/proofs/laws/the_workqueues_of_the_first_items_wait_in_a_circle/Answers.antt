use Rattle.wq_circles.proofs.FirstItems.{Circle-first, Circle-hang}
use Rattle.wq_circles.proofs.laws.the_workqueues_of_the_first_items_wait_in_a_circle.Goals as goal

pub returns-clause-first : goal.returns-clause-first
returns-clause-first c = Circle-first

pub returns-clause-run : goal.returns-clause-run
returns-clause-run c = Circle-hang
