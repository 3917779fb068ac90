use Rattle.std.proofs.Common.{arith}
use Rattle.test_shortages.proofs.crew.serve.Goals as goal

-- the table has a list of targets for each name, and the runtime an item for each list
pub run_all-requires-clause-width : goal.run_all-requires-clause-width
run_all-requires-clause-width g c =
    λ κs within k d below. omega (arith, c.requires, c.len.ensures.table.one_list_each, c.in-Ok.ensures.width k d below)
