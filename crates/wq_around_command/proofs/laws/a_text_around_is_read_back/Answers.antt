use Rattle.wq_around_command.proofs.PrintedAround.{around_of_text-circle, around_of_text-norescuer, around_of_text-plan}
use Rattle.wq_around_command.proofs.laws.a_text_around_is_read_back.Goals as goal

pub returns-clause-plan : goal.returns-clause-plan
returns-clause-plan c = λ t p f ws order chain table is long fixed assigned keeps few below short_order arcs short none.
    around_of_text-plan t p f ws order chain table is long fixed assigned keeps few below short_order arcs short none

pub returns-clause-circle : goal.returns-clause-circle
returns-clause-circle c = λ t p f arcs steps table some few known each most.
    around_of_text-circle t p f table arcs steps some few known each most

pub returns-clause-norescuer : goal.returns-clause-norescuer
returns-clause-norescuer c = λ t p f arc steps table known each most.
    around_of_text-norescuer t p f table arc steps known each most
