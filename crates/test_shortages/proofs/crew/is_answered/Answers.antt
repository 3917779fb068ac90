use Rattle.std.proofs.Common.{arith}
use Rattle.test_shortages.proofs.crew.is_answered.Goals as goal

-- the table has a list of targets for each name, and the runtime an item for each list
pub rescue-answered-requires-clause-width : goal.rescue-answered-requires-clause-width
rescue-answered-requires-clause-width g c =
    omega (arith, c.requires, c.len-items.ensures.table.one_list_each, c.in-Ok.ensures.width)

pub help-answered-requires-clause-width : goal.help-answered-requires-clause-width
help-answered-requires-clause-width g c =
    omega (arith, c.requires, c.len-items.ensures.table.one_list_each, c.in-Ok.ensures.width)
