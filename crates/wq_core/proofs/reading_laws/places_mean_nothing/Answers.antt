use Rattle.wq_core.proofs.MoreFlushes.{DeclaresMore-same, SameButPlaces-sym, AsDeclared-same, SameButPlaces-compact}
use Rattle.wq_core.proofs.reading_laws.places_mean_nothing.Goals as goal

pub returns-clause-more : goal.returns-clause-more
returns-clause-more c = DeclaresMore-same

pub returns-clause-back : goal.returns-clause-back
returns-clause-back c = SameButPlaces-sym

pub returns-clause-as_declared : goal.returns-clause-as_declared
returns-clause-as_declared c = AsDeclared-same

pub returns-clause-reading : goal.returns-clause-reading
returns-clause-reading c = SameButPlaces-compact
