use Rattle.std.proofs.Common.{true, ap, sym, subst, map, ◌≡◌, ◌∙◌}
use Rattle.clap.specs.Words.{App, app_of, is_simple, kind_of, subcommand_of, subcommand_rows_of, takes}
use Rattle.clap.specs.declared.error.kind.ErrorKind.TheVariants.{OutOfMemory}
use Rattle.wqplan.specs.CommandLine.{wqplan, spelled, AsksFor}
use Rattle.wqplan.proofs.CommandLemmas.{AsksFor-unique, failed_with}
use Rattle.wqplan.proofs.WordLemmas.{Asks_Calls, takes_Calls, wqplan_is_simple}
use Rattle.wqplan.proofs.CommandLemmas.{few_helpers, if_some, no_some}
use Rattle.wqplan.proofs.command_line.parse.Goals as goal

pub returns-in_err-matches-clause-called : goal.returns-in_err-matches-clause-called
returns-in_err-matches-clause-called g c = λ wanted is.
    let words = map g.S.AsStr.text c.args.words.now in
    let app_is : app_of c.in_ok-command.command ≡ wqplan = c.in_ok-command.ensures in
    let taken : takes (app_of c.in_ok-command.command) words ≡ true =
    ap (λ a. takes a words) app_is ∙ takes_Calls words wanted is in
    failed_with c.from_residual-in_err-matches.result c.in_err-matches.field-0.0 (λ request. spelled request ≡ wanted)
    (λ e. kind_of e ≡ OutOfMemory) c.from_residual-in_err-matches.ensures.1 (c.in_err-matches.ensures.passes taken)

pub returns-in-Some-clause-asked : goal.returns-in-Some-clause-asked
returns-in-Some-clause-asked g c =
    let words = map g.S.AsStr.text c.args.words.now in
    let matches = c.in_ok-matches.matches in
    let app_is : app_of c.in_ok-command.command ≡ wqplan = c.in_ok-command.ensures in
    let entered_is : subcommand_rows_of matches ≡ subcommand_of wqplan words =
    (c.in_ok-matches.ensures.ok.2 (ap is_simple app_is ∙ wqplan_is_simple)).1
    ∙ ap (λ (a : App). subcommand_of a words) app_is in
    subst (λ met. AsksFor met (spelled c.in-Some.request)) entered_is
    (if_some c.in_ok-request.field-0 c.in-Some.request
    (λ request. AsksFor (subcommand_rows_of c.in_ok-matches.matches)
    (spelled request)) c.in-Some.is c.in_ok-request.ensures.asked)

pub returns-in-Some-clause-called : goal.returns-in-Some-clause-called
returns-in-Some-clause-called g c = λ wanted is.
    let words = map g.S.AsStr.text c.args.words.now in
    let matches = c.in_ok-matches.matches in
    let app_is : app_of c.in_ok-command.command ≡ wqplan = c.in_ok-command.ensures in
    let entered_is : subcommand_rows_of matches ≡ subcommand_of wqplan words =
    (c.in_ok-matches.ensures.ok.2 (ap is_simple app_is ∙ wqplan_is_simple)).1
    ∙ ap (λ (a : App). subcommand_of a words) app_is in
    let asked = subst (λ met. AsksFor met (spelled c.in-Some.request)) entered_is
    (if_some c.in_ok-request.field-0 c.in-Some.request
    (λ request. AsksFor (subcommand_rows_of c.in_ok-matches.matches)
    (spelled request)) c.in-Some.is c.in_ok-request.ensures.asked) in
    AsksFor-unique (subcommand_of wqplan words) (spelled c.in-Some.request) wanted asked (Asks_Calls words wanted is)

pub returns-clause-called : goal.returns-clause-called
returns-clause-called g c = λ wanted is.
    let words = map g.S.AsStr.text c.args.words.now in
    let matches = c.in_ok-matches.matches in
    let app_is : app_of c.in_ok-command.command ≡ wqplan = c.in_ok-command.ensures in
    let entered_is : subcommand_rows_of matches ≡ subcommand_of wqplan words =
    (c.in_ok-matches.ensures.ok.2 (ap is_simple app_is ∙ wqplan_is_simple)).1
    ∙ ap (λ (a : App). subcommand_of a words) app_is in
    let asked = subst (λ met. AsksFor met wanted) (sym entered_is) (Asks_Calls words wanted is) in
    absurd (no_some c.in_ok-request.field-0 c.in-None.is (c.in_ok-request.ensures.all wanted asked))

pub returns-in-Some-clause-few_helpers : goal.returns-in-Some-clause-few_helpers
returns-in-Some-clause-few_helpers g c =
    let asked = (if_some c.in_ok-request.field-0 c.in-Some.request
    (λ request. AsksFor (subcommand_rows_of c.in_ok-matches.matches)
    (spelled request)) c.in-Some.is c.in_ok-request.ensures.asked) in
    few_helpers asked.0 (spelled c.in-Some.request) asked.2
