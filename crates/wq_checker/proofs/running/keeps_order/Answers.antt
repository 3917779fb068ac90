use Rattle.std.proofs.Common.{sym, subst}
use Rattle.wq_core.specs.Runs.{IsHelp}
use Rattle.wq_core.proofs.Helpers.{no_help-lawful}
use Rattle.wq_checker.proofs.running.keeps_order.Goals as goal

-- there are no helpers
pub returns-in-Help : goal.returns-in-Help
returns-in-Help g c =
    λ lawful. absurd (no_help-lawful c.args.core.now.wiring c.args.core.now.state c.args.step c.requires lawful (subst IsHelp (sym c.in-Help.is) tt))
