use Rattle.std.proofs.Common.{◌≡◌, ◌++◌, ◌∷◌, [], List, ℕ, sym, ap, ◌∙◌}
use Rattle.std.proofs.lemmas.Option.{get_or_from_slice_get}
use Rattle.std.proofs.lemmas.Result.{on_ok_weaker}
use Rattle.wq_text.specs.LineText.{spaced}
use Rattle.wq_text.proofs.LineTextLemmas.{line_text-three}
use Rattle.wq_cert.specs.PlanText.{name_of}
use Rattle.wq_cert.specs.Part.{unsure_word}
use Rattle.wq_cert.proofs.part_printing.put_unsure_line.Goals as goal

-- a word was added behind what stood there
word_added : (before out new word name : List ℕ) → out ≡ before → name ≡ word → new ≡ out ++ spaced name
    → new ≡ before ++ spaced word
word_added before out new word name was is added =
    added ∙ ap (λ (o : List ℕ). o ++ spaced name) was ∙ ap (λ (n : List ℕ). before ++ spaced n) is

pub returns : goal.returns
returns g c =
    let names = c.args.table.now.names in
    let out = c.args.out.now.items in
    let word = unsure_word c.args.target.whole in
    let source = name_of names c.args.item in
    let target = name_of names c.args.target.item in
    let start : c.put.new.out.items ≡ out ++ word =
    c.in_ok-put.ensures.added ∙ ap (λ (w : List ℕ). out ++ w) c.unsure_word.ensures in
    let first = word_added (out ++ word) c.put.new.out.items c.put_word.new.out.items source c.name.result.now start
    (sym (get_or_from_slice_get names c.args.item c.name.result.now [] c.name.ensures)) c.in_ok-put_word.ensures.added
    in
    let second = word_added ((out ++ word) ++ spaced source) c.put_word.new.out.items c.put_word-2.new.out.items
    target c.name-2.result.now first
    (sym (get_or_from_slice_get names c.args.target.item c.name-2.result.now [] c.name-2.ensures))
    c.in_ok-put_word-2.ensures.added in
    on_ok_weaker c.put_end.result (λ e. e ∙ ap (λ (o : List ℕ). o ++ (10 ∷ [])) second
    ∙ line_text-three out word source target) c.put_end.ensures.added
