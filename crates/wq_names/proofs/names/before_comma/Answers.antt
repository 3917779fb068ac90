use Rattle.wq_names.proofs.Commas.{before_first-at_comma, before_first-no_comma}
use Rattle.wq_names.proofs.names.before_comma.Goals as goal

pub returns-in-Some : goal.returns-in-Some
returns-in-Some c = before_first-at_comma c.args.bytes.now c.in-Some.comma c.in-Some.ensures

pub returns-in-None : goal.returns-in-None
returns-in-None c = before_first-no_comma c.args.bytes.now c.in-None.ensures
