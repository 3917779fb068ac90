use Rattle.std.proofs.Common.{◌+◌, refl}
use Rattle.wq_items.specs.Table.{Table}
use Rattle.wq_items.proofs.GrownTables.{IsTable-one_added}
use Rattle.wq_items.proofs.table.Building.declare_one.Goals as goal

pub invariant_of-result : goal.invariant_of-result
invariant_of-result g c =
    let s = c.self.inside in
    let t : Table = record { names = s.names; spans = s.spans.items; waits = s.waits } in
    IsTable-one_added t c.args.kind c.again.result c.again-2.result s.flushes (s.flushes + 1) c.push_one.new.waits
    c.self.invariant.0 c.self.invariant.1 c.in-Some.ensures.room refl c.in-Some.ensures.added
