use Rattle.wq_hang.proofs.NeededPlaces.{needs_rise, needs_few, needs_each}
use Rattle.wq_hang.proofs.laws.a_walk_needs_the_places_of_its_unsure_flushes.Goals as goal

pub returns-clause-rise : goal.returns-clause-rise
returns-clause-rise c = needs_rise

pub returns-clause-few : goal.returns-clause-few
returns-clause-few c = needs_few

pub returns-clause-each : goal.returns-clause-each
returns-clause-each c = needs_each
