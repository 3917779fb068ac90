use Rattle.std.proofs.Common.{◌≡◌, ◌++◌, ◌∷◌, [], Bool, true, cond, ℕ, List, sym, ap, ◌∙◌}
use Rattle.std.specs.Prelude.{codes}
use Rattle.std.proofs.lemmas.Option.{get_or_from_slice_get}
use Rattle.std.proofs.lemmas.Result.{on_ok_weaker}
use Rattle.wq_text.specs.LineText.{line_text, spaced}
use Rattle.wq_text.proofs.LineTextLemmas.{line_text-three}
use Rattle.wq_cert.specs.PlanText.{arc_line, name_of}
use Rattle.wq_commands.specs.Answer.{ends_of}
use Rattle.wq_circles.specs.ComponentsText.{arc_words, is_unsure_arc}
use Rattle.wq_circles.proofs.printing.put_arc.Goals as goal

-- a word was added behind what stood there
word_added : (before out new word name : List ℕ) → out ≡ before → word ≡ name → new ≡ out ++ spaced name
    → new ≡ before ++ spaced word
word_added before out new word name was is added =
    added ∙ ap (λ (o : List ℕ). o ++ spaced name) was ∙ ap (λ (n : List ℕ). before ++ spaced n) (sym is)

pub returns : goal.returns
returns g c =
    let names = c.args.table.now.names in
    let arc = c.args.arc.now in
    let out = c.args.out.now.items in
    let word : List ℕ = codes "arc?" in
    let source : List ℕ = name_of names arc.src in
    let target : List ℕ = name_of names arc.dst in
    let first =
    word_added (out ++ word) c.put.new.out.items c.put_word.new.out.items source c.name.result.now
    c.in_ok-put.ensures.added (get_or_from_slice_get names arc.src c.name.result.now [] c.name.ensures)
    c.in_ok-put_word.ensures.added in
    let second =
    word_added ((out ++ word) ++ spaced source) c.put_word.new.out.items c.put_word-2.new.out.items target
    c.name-2.result.now first (get_or_from_slice_get names arc.dst c.name-2.result.now [] c.name-2.ensures)
    c.in_ok-put_word-2.ensures.added in
    let unsure : is_unsure_arc c.args.table.now.waits arc ≡ true = sym c.if-not-is_unsure.ensures in
    let words : arc_words names c.args.table.now.waits arc ≡ word ∷ source ∷ target ∷ [] =
    ap (λ (b : Bool). cond b (word ∷ source ∷ target ∷ []) (arc_line names (ends_of arc))) unsure in
    on_ok_weaker c.put_end.result
    (λ e. e ∙ ap (λ (o : List ℕ). o ++ (10 ∷ [])) second ∙ line_text-three out word source target
    ∙ ap (λ (line : List (List ℕ)). out ++ line_text line) (sym words)) c.put_end.ensures.added
