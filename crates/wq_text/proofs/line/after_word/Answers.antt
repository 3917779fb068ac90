use Rattle.std.proofs.Common.{◌≡◌, ℕ, List, ◌∷◌, ◌++◌, length, take, drop, sym, ap, ◌∙◌}
use Rattle.std.proofs.lemmas.List.{take-append-drop}
use Rattle.std.proofs.lemmas.Slice.Eq.{bytes_eq-Decides}
use Rattle.wq_text.proofs.line.after_word.Goals as goal

pub returns : goal.returns
returns c =
    let text = c.args.text.now in
    let word = c.args.word.now in
    let rest = c.in_ok-first.rest.now in
    let front : take (length word) text ≡ word = (bytes_eq-Decides (take (length word) text) word).0
    c.in_ok-after.ensures.cases.0 in
    let back : drop (length word) text ≡ 32 ∷ rest =
    sym c.in_ok-after.ensures.cases.1 ∙ c.in_ok-first.ensures.cases.0
    ∙ ap (λ (b : ℕ). b ∷ rest) c.if-first-ne32.false in
    sym (take-append-drop (length word) text) ∙ ap (λ (x : List ℕ). x ++ drop (length word) text) front
    ∙ ap (λ (x : List ℕ). word ++ x) back
