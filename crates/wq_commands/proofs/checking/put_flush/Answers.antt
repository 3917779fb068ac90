use Rattle.std.proofs.Common.{◌≡◌, ◌++◌, [], List, ℕ, sym, ap, ◌∙◌}
use Rattle.std.proofs.lemmas.Option.{get_or_from_slice_get}
use Rattle.wq_text.specs.LineText.{spaced}
use Rattle.wq_cert.specs.PlanText.{name_of}
use Rattle.wq_commands.proofs.LineLemmas.{spaced-two}
use Rattle.wq_commands.proofs.checking.put_flush.Goals as goal

pub returns : goal.returns
returns g c =
    let names = c.args.table.now.names in
    let before = c.args.out.now.items in
    let item = name_of names c.args.item in
    let first : c.put_word.new.out.items ≡ before ++ spaced item =
    c.in_ok-put_word.ensures.added ∙ ap (λ (n : List ℕ). before ++ spaced n) (sym (get_or_from_slice_get names c.args.item c.name.result.now [] c.name.ensures)) in
    c.in_ok-put_word-2.ensures.added ∙ ap (λ (o : List ℕ). o ++ spaced c.name-2.result.now) first
    ∙ ap (λ (n : List ℕ). (before ++ spaced item) ++ spaced n) (sym (get_or_from_slice_get names c.args.target c.name-2.result.now [] c.name-2.ensures))
    ∙ spaced-two before item (name_of names c.args.target)
