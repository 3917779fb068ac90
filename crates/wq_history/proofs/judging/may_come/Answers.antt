use Rattle.wq_history.proofs.judging.may_come.Goals as goal

pub returns-in-WaitAll : goal.returns-in-WaitAll
returns-in-WaitAll g c = rw c.in-WaitAll.is c.may_wait_all.ensures

pub returns-in-Help : goal.returns-in-Help
returns-in-Help g c = rw c.in-Help.is c.may_help.ensures
