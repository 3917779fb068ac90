use Rattle.std.proofs.Common.{rules, codes, Some, ap, ◌≡◌, ◌∙◌}
use Rattle.std.specs.Prelude.{pos}
use Rattle.clap.specs.Words.{Rule, new_rule, rule_of}
use Rattle.clap.specs.declared.builder.value_parser.ValueParser.TheVariants as vp
use Rattle.wqplan.proofs.command_line.helpers.Goals as goal

pub returns-clause-rule : goal.returns-clause-rule
returns-clause-rule c =
    let given = c.value_parser-2.ensures.given in
    let free : rule_of c.help.result ≡ new_rule (codes "HELPERS") = search rules in
    let made : c.range.result ≡ vp.Signed (pos 0) (pos 8) =
    rw (c.value_parser.ensures, c.new-2.ensures.start, c.new-2.ensures.end) at c.range.ensures in
    let parser : c.value_parser-2.result.value_parser ≡ Some (vp.Signed (pos 0) (pos 8)) =
    given.1 ∙ ap Some (given.2 ∙ made) in
    ap rule_of c.value_parser-2.ensures.others
    ∙ ap (λ p. record (rule_of c.help.result) { parser = p }) parser
    ∙ ap (λ (r : Rule). record r { parser = Some (vp.Signed (pos 0) (pos 8)) }) free
