use Rattle.std.proofs.Common.{rules, codes, Some, ap, ◌≡◌, ◌∙◌}
use Rattle.clap.specs.Words.{Rule, new_rule, rule_of}
use Rattle.wqplan.proofs.CommandLemmas.{range_given, many}
use Rattle.wqplan.proofs.command_line.names.Goals as goal

pub returns-clause-rule : goal.returns-clause-rule
returns-clause-rule c =
    let free : rule_of c.help.result ≡ new_rule (codes "NAME") = search rules in
    let range : c.num_args.result.num_vals ≡ Some many = range_given c.num_args.result.num_vals c.num_args.ensures.1 in
    ap rule_of c.num_args.ensures.0
    ∙ ap (λ r. record (rule_of c.help.result) { range = r }) range
    ∙ ap (λ (r : Rule). record r { range = Some many }) free
