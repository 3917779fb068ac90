use Rattle.wq_history.proofs.laws.a_caller_is_told_where_nothing_below_is_unfinished.Goals as goal

pub returns-clause-of_an_item : goal.returns-clause-of_an_item
returns-clause-of_an_item c w rows i n said = ((λ may. may), (λ may. may))

pub returns-clause-of_a_lane : goal.returns-clause-of_a_lane
returns-clause-of_a_lane c w rows q n said = ((λ may. may), (λ may. may))
