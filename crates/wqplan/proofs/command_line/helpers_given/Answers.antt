use Rattle.std.proofs.Common.{ℕ, List, Result, codes, ◌∙◌}
use Rattle.std.specs.Str.Parse.{ParsesUnsigned, ExplainsUnsignedError, HasUnsignedDigitsIfOk}
use Rattle.std.specs.declared.num.ParseIntError.{ParseIntError}
use Rattle.clap.specs.Words.{found_of, one_of, rows_of}
use Rattle.clap.proofs.WalkLemmas.{one_text-rows}
use Rattle.wqplan.proofs.HelperLemmas.{number_given, reads, some_given}
use Rattle.wqplan.proofs.command_line.helpers_given.Goals as goal

pub returns-clause-number : goal.returns-clause-number
returns-clause-number c =
    let f = found_of c.args.given.now in
    let word = one_of (codes "HELPERS") (rows_of f) in
    let is = one_text-rows f (codes "HELPERS") in
    let gives : List ℕ → Result ℕ ParseIntError → Type 0 =
    λ bs r. ParsesUnsigned 8 10 bs r × ExplainsUnsignedError 10 bs r × HasUnsignedDigitsIfOk bs r in
    let read = reads gives word c.try_get_one.result (λ e. c.try_get_one.ensures.none (is ∙ e))
    (λ t e. c.try_get_one.ensures.value t (is ∙ e)) in
    (number_given gives (λ t x g. g.0) word c.try_get_one.result c.few_read.result read c.few_read.ensures).0

pub returns-clause-few : goal.returns-clause-few
returns-clause-few c =
    let f = found_of c.args.given.now in
    let word = one_of (codes "HELPERS") (rows_of f) in
    let is = one_text-rows f (codes "HELPERS") in
    let gives : List ℕ → Result ℕ ParseIntError → Type 0 =
    λ bs r. ParsesUnsigned 8 10 bs r × ExplainsUnsignedError 10 bs r × HasUnsignedDigitsIfOk bs r in
    let read = reads gives word c.try_get_one.result (λ e. c.try_get_one.ensures.none (is ∙ e))
    (λ t e. c.try_get_one.ensures.value t (is ∙ e)) in
    (number_given gives (λ t x g. g.0) word c.try_get_one.result c.few_read.result read c.few_read.ensures).1

pub returns-clause-all : goal.returns-clause-all
returns-clause-all c =
    let f = found_of c.args.given.now in
    let word = one_of (codes "HELPERS") (rows_of f) in
    let is = one_text-rows f (codes "HELPERS") in
    let gives : List ℕ → Result ℕ ParseIntError → Type 0 =
    λ bs r. ParsesUnsigned 8 10 bs r × ExplainsUnsignedError 10 bs r × HasUnsignedDigitsIfOk bs r in
    let read = reads gives word c.try_get_one.result (λ e. c.try_get_one.ensures.none (is ∙ e))
    (λ t e. c.try_get_one.ensures.value t (is ∙ e)) in
    some_given gives (λ t x g. g.0) word c.try_get_one.result c.few_read.result read c.few_read.ensures
