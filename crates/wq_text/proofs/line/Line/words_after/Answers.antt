use Rattle.std.proofs.Common.{◌≡◌, ◌+◌, ◌∷◌, ◌++◌, [], List, ℕ, length, take, drop, sym, ap, ◌∙◌, rules}
use Rattle.std.proofs.lemmas.List.{take-append-drop}
use Rattle.std.proofs.lemmas.Bool.Decides.{not_from_Decides}
use Rattle.std.proofs.lemmas.Slice.Eq.{bytes_eq-Decides}
use Rattle.wq_text.specs.Comments.{before_comment}
use Rattle.wq_text.specs.Lines.{LineView}
use Rattle.wq_text.specs.Words.{WordView, words_from, words_of}
use Rattle.wq_text.proofs.CutLemmas.{words_from-space, rest_after, starts_with-word, starts_with-byte}
use Rattle.wq_text.proofs.line.Line.words_after.Goals as goal

pub returns-clause-after : goal.returns-clause-after
returns-clause-after c =
    let l = c.self.inside in
    let word = c.args.word.now in
    let rest = c.in_ok-first.rest.now in
    let bytes = c.bytes.result.now in
    let whole : take l.len l.text.now ≡ bytes = ap (λ (v : LineView). v.bytes) c.self.view_is ∙ sym c.bytes.ensures in
    let front : take (length word) bytes ≡ word = (bytes_eq-Decides (take (length word) bytes) word).0 c.in_ok-after.ensures.cases.0 in
    let back : drop (length word) bytes ≡ 32 ∷ rest =
    sym c.in_ok-after.ensures.cases.1 ∙ c.in_ok-first.ensures.cases.0 ∙ ap (λ (b : ℕ). b ∷ rest) c.if-first-ne32.false in
    let cut : bytes ≡ word ++ (32 ∷ rest) =
    sym (take-append-drop (length word) bytes) ∙ ap (λ (x : List ℕ). x ++ drop (length word) bytes) front ∙ ap (λ (x : List ℕ). word ++ x) back in
    let first : WordView = record { start = l.start; bytes = word } in
    ap words_of (sym c.self.view_is)
    ∙ ap (λ (bs : List ℕ). words_from l.start (before_comment bs)) (whole ∙ cut)
    ∙ words_from-space l.start word rest c.requires.unbroken c.requires.some
    ∙ ap (λ (bs : List ℕ). first ∷ words_from (l.start + (length word + 1)) (before_comment bs)) (rest_after l.len l.text.now word 32 rest (whole ∙ cut) c.self.invariant.0)
    ∙ ap (λ (ws : List WordView). first ∷ ws) (sym c.of.ensures)
    ∙ ap (λ (v : LineView). record { start = v.start; bytes = word } ∷ c.of.result) c.self.view_is

pub returns-in_err-after-clause-none : goal.returns-in_err-after-clause-none
returns-in_err-after-clause-none c =
    let word = c.args.word.now in
    let bytes = c.bytes.result.now in
    let other = not_from_Decides _ (bytes_eq-Decides (take (length word) bytes) word) c.in_err-after.ensures.cases in
    let differs : ¬ (take (length word + 1) c.args.self.now.bytes ≡ word ++ (32 ∷ [])) =
    λ first. other (starts_with-word bytes word 32 (ap (λ (l : List ℕ). take (length word + 1) l) c.bytes.ensures ∙ first)) in
    Prim.search (rules, differs)

pub returns-then-first-ne32-clause-none : goal.returns-then-first-ne32-clause-none
returns-then-first-ne32-clause-none c first =
    let word = c.args.word.now in
    let bytes = c.bytes.result.now in
    let back : drop (length word) bytes ≡ c.in_ok-first.first.now ∷ c.in_ok-first.rest.now = sym c.in_ok-after.ensures.cases.1 ∙ c.in_ok-first.ensures.cases.0 in
    let space = starts_with-byte bytes word 32 _ _ (ap (λ (l : List ℕ). take (length word + 1) l) c.bytes.ensures ∙ first) back in
    Prim.search (rules, space)
