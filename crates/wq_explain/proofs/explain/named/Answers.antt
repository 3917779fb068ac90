use Rattle.std.proofs.Common.{rules, ◌≡◌, ◌∙◌, None, Some, ap, map, sym}
use Rattle.wq_explain.specs.Explaining.{Row, explanation_of, number_in, numbered, row_of, same_name}
use Rattle.wq_explain.proofs.TableLemmas.{found-said}
use Rattle.wq_explain.proofs.explain.named.Goals as goal

pub returns-in-Some : goal.returns-in-Some
returns-in-Some c =
    let word = c.args.word.now in
    let rows = c.args.rows.now in
    let is : number_in word ≡ Some c.in-Some.code = search rules in
    found-said row_of (λ (row : Row). numbered row.code c.in-Some.code) rows c.with_number.result c.with_number.ensures
    ∙ sym (ap (explanation_of (map row_of rows) word) is)

pub returns-in-None : goal.returns-in-None
returns-in-None c =
    let word = c.args.word.now in
    let rows = c.args.rows.now in
    let is : number_in word ≡ None = search rules in
    found-said row_of (λ (row : Row). same_name row.name word) rows c.with_name.result c.with_name.ensures
    ∙ sym (ap (explanation_of (map row_of rows) word) is)
