use Rattle.std.proofs.Common.{◌≡◌, ◌∙◌, arith}
use Rattle.wq_api.proofs.Layouts.{helpers_at, helpers_past}
use Rattle.wq_api.proofs.runtime.WqRuntime.helpers_of.Goals as goal

pub returns-in-Some : goal.returns-in-Some
returns-in-Some g c =
    let found = c.in-Some.ensures.lookup in
    let is = c.deref.ensures.value ∙ c.args.self.now.layout.helpers_of_each in
    let same : c.from.result ≡ c.args.q = omega (arith, c.from.ensures, c.get.ensures) in
    helpers_at g.N.Naming.wiring c.deref.result.now c.args.q c.from.result c.in-Some.helpers.now is same found.3.0
    found.1

pub returns-in-None : goal.returns-in-None
returns-in-None g c =
    let found = c.in-None.ensures.lookup in
    let is = c.deref.ensures.value ∙ c.args.self.now.layout.helpers_of_each in
    let same : c.from.result ≡ c.args.q = omega (arith, c.from.ensures, c.get.ensures) in
    helpers_past g.N.Naming.wiring c.deref.result.now c.args.q c.from.result is c.args.self.now.layout.an_order_each
    same found.3
