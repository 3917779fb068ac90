use Rattle.std.proofs.Common.{rules, ap, map, List, None, Some, ◌≡◌, ◌∙◌}
use Rattle.std.specs.Borrow.{Bor}
use Rattle.std.proofs.lemmas.Result.{IfOk-weaker}
use Rattle.clap.specs.Words.{Text, found_of}
use Rattle.wqplan.proofs.CommandLemmas.{names_given, no_names_given}
use Rattle.wqplan.proofs.command_line.names_given.Goals as goal

pub returns-in-Some : goal.returns-in-Some
returns-in-Some c =
    let is : c.get_strs.result ≡ Some c.in-Some.names = search rules in
    IfOk-weaker c.copied.result _ _
    (λ copy same. ap (λ (l : List (Bor Text)). map (λ n. n.now) l) same
    ∙ names_given (λ s. map (λ v. v.now) s.now) c.get_strs.result c.in-Some.names
    (found_of c.args.given.now) c.get_strs.ensures is) c.copied.ensures

pub returns-in-None : goal.returns-in-None
returns-in-None c =
    let is : c.get_strs.result ≡ None = search rules in
    ap (λ (l : List (Bor Text)). map (λ n. n.now) l) c.new.ensures.items
    ∙ no_names_given (λ s. map (λ v. v.now) s.now) c.get_strs.result (found_of c.args.given.now) c.get_strs.ensures is
