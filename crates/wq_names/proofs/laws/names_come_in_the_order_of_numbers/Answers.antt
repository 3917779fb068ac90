use Rattle.wq_names.proofs.Numbered.{numbers_are, one_name_each}
use Rattle.wq_names.proofs.laws.names_come_in_the_order_of_numbers.Goals as goal

pub returns-clause-numbers : goal.returns-clause-numbers
returns-clause-numbers c = numbers_are

pub returns-clause-one_each : goal.returns-clause-one_each
returns-clause-one_each c = one_name_each
