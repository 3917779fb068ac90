use Rattle.std.proofs.Common.{rules, sym, subst, List, ◌∙◌}
use Rattle.std.specs.Prelude.{IfSome}
use Rattle.std.proofs.lemmas.Result.{IfOk-weaker}
use Rattle.clap.specs.Words.{Row, Text, found_of, rows_of, subcommand_rows_of}
use Rattle.wqplan.specs.CommandLine.{AsksFor, spelled}
use Rattle.wqplan.proofs.CommandLemmas.{asks_verb, met_verb, option_map_twice, unnamed}
use Rattle.wqplan.proofs.command_line.entered.Goals as goal

pub returns-in_default-named-clause-all : goal.returns-in_default-named-clause-all
returns-in_default-named-clause-all c = λ wanted asked.
    absurd (unnamed (subcommand_rows_of c.args.matches.now) c.in-Some.name.now
    (rows_of (found_of c.in-Some.given.now)) wanted
    (option_map_twice _ (λ (p : Text × List Row). p.0) _ ∙ sym c.in-Some.ensures.name) (sym c.in-Some.ensures.rows)
    (search rules) asked)

pub returns-clause-asked : goal.returns-clause-asked
returns-clause-asked c =
    let met = subcommand_rows_of c.args.matches.now in
    let is = met_verb met c.in-Some.name.now (rows_of (found_of c.in-Some.given.now)) c.in-Some-named.verb
    (option_map_twice _ (λ (p : Text × List Row). p.0) _ ∙ sym c.in-Some.ensures.name) (sym c.in-Some.ensures.rows)
    (search rules) in
    IfOk-weaker c.request_given.result _ _
    (λ found asked. subst (λ m. IfSome found (λ request. AsksFor m (spelled request))) (sym is) asked)
    c.request_given.ensures.asked

pub returns-clause-all : goal.returns-clause-all
returns-clause-all c =
    let met = subcommand_rows_of c.args.matches.now in
    let rows = rows_of (found_of c.in-Some.given.now) in
    let is = met_verb met c.in-Some.name.now rows c.in-Some-named.verb
    (option_map_twice _ (λ (p : Text × List Row). p.0) _ ∙ sym c.in-Some.ensures.name) (sym c.in-Some.ensures.rows)
    (search rules) in
    IfOk-weaker c.request_given.result _ _
    (λ found all wanted asked. let of = asks_verb met rows c.in-Some-named.verb wanted is asked in all wanted of.0 of.1)
    c.request_given.ensures.all
