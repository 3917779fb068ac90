use Rattle.std.proofs.Common.{refl}
use Rattle.wq_core.proofs.HelpSteps.{help-done, help-refused}
use Rattle.wq_core.proofs.machine.Core.help.Goals as goal

pub returns-clause-done : goal.returns-clause-done
returns-clause-done g c =
    help-done c.args.helper.lane c.args.helper.number c.args.deed c.args.deed c.if-helper-eq0.false refl
    c.args.self.now c.make.new.self c.make.result c.make.ensures.done

pub returns-clause-refused : goal.returns-clause-refused
returns-clause-refused g c =
    help-refused c.args.helper.lane c.args.helper.number c.args.deed c.args.deed c.if-helper-eq0.false refl
    c.args.self.now c.make.new.self c.make.result c.make.ensures.refused
