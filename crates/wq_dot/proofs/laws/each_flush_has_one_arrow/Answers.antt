use Rattle.wq_graph.proofs.Graphs.{IsArc-by_place}
use Rattle.wq_dot.proofs.Counts.{one_arrow_each, places_are}
use Rattle.wq_dot.proofs.laws.each_flush_has_one_arrow.Goals as goal

pub returns-clause-arrows : goal.returns-clause-arrows
returns-clause-arrows c = one_arrow_each

pub returns-clause-declared : goal.returns-clause-declared
returns-clause-declared c t p table = IsArc-by_place t.waits p.group_of table.places_are_numbered

pub returns-clause-places : goal.returns-clause-places
returns-clause-places c t p table = places_are t p.group_of table
