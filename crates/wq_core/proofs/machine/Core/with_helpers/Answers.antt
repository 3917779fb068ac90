use Rattle.std.proofs.Common.{◌≡◌, List, Bool, subst}
use Rattle.std.specs.Prelude.{IfOk}
use Rattle.wq_groups.specs.Declaration.{declaration_of}
use Rattle.wq_core.specs.Building.{first_machine_on}
use Rattle.wq_core.proofs.machine.Core.with_helpers.Goals as goal

pub returns-clause-machine : goal.returns-clause-machine
returns-clause-machine g c =
    let d = declaration_of c.args.table.now c.args.groups.now in
    subst (λ (bare : List Bool). IfOk c.made.result (λ m. m ≡ first_machine_on d (record { assignment = c.args.assignment.now; bare = bare }) c.args.helpers)) c.new.ensures.items c.made.ensures.machine
