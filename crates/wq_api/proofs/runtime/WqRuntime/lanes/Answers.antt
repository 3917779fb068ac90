use Rattle.std.proofs.Common.{arith}
use Rattle.wq_api.proofs.Layouts.{one_each}
use Rattle.wq_api.proofs.runtime.WqRuntime.lanes.Goals as goal

pub overflow_cast-result : goal.overflow_cast-result
overflow_cast-result g c =
    let is = one_each g.N.Naming.wiring c.args.self.now.layout.helpers.items c.args.self.now.layout.helpers_of_each in
    omega (arith, is, c.len.ensures, c.args.self.now.layout.few_lanes)

pub returns-clause-lanes : goal.returns-clause-lanes
returns-clause-lanes g c =
    let is = one_each g.N.Naming.wiring c.args.self.now.layout.helpers.items c.args.self.now.layout.helpers_of_each in
    omega (arith, is, c.len.ensures)

pub returns-clause-few : goal.returns-clause-few
returns-clause-few g c =
    let is = one_each g.N.Naming.wiring c.args.self.now.layout.helpers.items c.args.self.now.layout.helpers_of_each in
    omega (arith, is, c.len.ensures, c.args.self.now.layout.few_lanes)
