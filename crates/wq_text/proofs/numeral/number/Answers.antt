use Rattle.std.proofs.Common.{ℕ, List, sym, subst}
use Rattle.std.specs.Bool.{IsTrue}
use Rattle.std.specs.Option.{IfSome, IfNone}
use Rattle.std.specs.Str.Parse.{ParsesUnsigned}
use Rattle.std.proofs.lemmas.Bool.{false≢true}
use Rattle.wq_text.specs.Numbers.{Spells}
use Rattle.wq_text.proofs.NumberLemmas.{BeginsNumber-spelled, IsUtf8-spelled, spelled-parse, parse-spelled}
use Rattle.wq_text.proofs.numeral.number.Goals as goal

pub returns-then-not-begins_number-clause-none : goal.returns-then-not-begins_number-clause-none
returns-then-not-begins_number-clause-none c =
    λ n s. let b = BeginsNumber-spelled c.args.bytes.now n s in
    false≢true (subst IsTrue c.if-not-begins_number.true (c.begins_number.ensures.1 (b.some, b.digit, b.alone)))

pub returns-in_default-clause-none : goal.returns-in_default-clause-none
returns-in_default-clause-none c = λ n s. c.in_default.ensures.cases.0 (IsUtf8-spelled c.args.bytes.now n s)

pub returns-clause-some : goal.returns-clause-some
returns-clause-some c =
    let bs = c.args.bytes.now in
    let front = c.begins_number.ensures.0 c.if-not-begins_number.false in
    let parses = subst (λ (ds : List ℕ). ParsesUnsigned 32 10 ds c.parse.result) c.in-Ok.ensures.cases.0 c.parse.ensures.value.0 in
    subst (λ o. IfSome o (λ n. Spells bs n)) (sym c.ok.ensures.value) (spelled-parse bs _ (record { some = front.0; digit = front.1; alone = front.2 }) parses)

pub returns-clause-none : goal.returns-clause-none
returns-clause-none c =
    let bs = c.args.bytes.now in
    let parses = subst (λ (ds : List ℕ). ParsesUnsigned 32 10 ds c.parse.result) c.in-Ok.ensures.cases.0 c.parse.ensures.value.0 in
    subst (λ o. IfNone o ((n : ℕ) → Spells bs n → ⊥)) (sym c.ok.ensures.value) (parse-spelled bs _ parses)
