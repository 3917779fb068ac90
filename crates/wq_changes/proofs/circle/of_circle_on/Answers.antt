use Rattle.wq_changes.proofs.circle.of_circle_on.Goals as goal

pub put_round-requires-clause-between : goal.put_round-requires-clause-between
put_round-requires-clause-between g c = c.requires.between

pub returns : goal.returns
returns g c = rw c.new-text.ensures.items at c.in_ok-put_round.ensures.added
