use Rattle.std.proofs.Common.{refl}
use Rattle.wq_core.proofs.HelpSteps.{not_lawful-zero, help-number}
use Rattle.wq_core.proofs.machine.Core.helper_may.Goals as goal

pub returns-then-helper-eq0 : goal.returns-then-helper-eq0
returns-then-helper-eq0 g c =
    let m = c.args.self.now in
    not_lawful-zero m.wiring m.state c.args.helper.lane c.args.helper.number c.args.deed c.if-helper-eq0.true

pub returns-else-helper-eq0 : goal.returns-else-helper-eq0
returns-else-helper-eq0 g c = help-number c.args.helper.lane c.args.helper.number c.args.deed c.args.deed
    c.if-helper-eq0.false refl c.args.self.now c.may_do.result c.may_do.ensures
