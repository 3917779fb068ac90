use Rattle.std.proofs.Common.{◌≡◌, ◌<◌, ◌+◌, ◌-◌, ◌++◌, ◌∷◌, ℕ, List, [], length, take, drop, sym, ap, ◌∙◌, arith, rules}
use Rattle.std.proofs.lemmas.Bool.{eqb-true, eqb-false}
use Rattle.std.proofs.lemmas.Grind.{common_steps}
use Rattle.std.proofs.lemmas.List.{length-take}
use Rattle.wq_text.specs.Comments.{before_comment}
use Rattle.wq_text.specs.Words.{WordView, words_from}
use Rattle.wq_text.proofs.CutLemmas.{rest_of, words_from-none, words_from-cut}
use Rattle.wq_text.proofs.word.WordsIterator.next.Goals as goal

pub split_word-requires : goal.split_word-requires
split_word-requires c = rest_of c.self.inside.left c.self.inside.text.now c.split_blanks.result.0.now c.split_blanks.result.1.now c.split_blanks.ensures.whole c.self.invariant.0

pub returns-then-is_empty-clause-steps : goal.returns-then-is_empty-clause-steps
returns-then-is_empty-clause-steps c =
    let s = c.self.inside in
    let line = take s.left s.text.now in
    let none : length c.split_word.result.0.now ≡ 0 = eqb-true _ _ (sym c.is_empty.ensures ∙ c.if-is_empty.true) in
    let words : words_from s.start (before_comment line) ≡ [] =
    words_from-none s.start line c.split_blanks.result.0.now c.split_blanks.result.1.now c.split_word.result.0.now c.split_word.result.1.now c.split_blanks.ensures.whole c.split_blanks.ensures.blank c.split_blanks.ensures.longest
    c.split_word.ensures.whole c.split_word.ensures.longest none in
    (sym c.self.view_is ∙ words, sym c.self.view_is ∙ words)

pub returns-clause-steps : goal.returns-clause-steps
returns-clause-steps c =
    let s = c.self.inside in
    let text = s.text.now in
    let gap = c.split_blanks.result.0.now in
    let rest = c.split_blanks.result.1.now in
    let word = c.split_word.result.0.now in
    let after = c.split_word.result.1.now in
    let behind = take (length text - length gap) (drop (length gap) text) in
    let some : 0 < length word = grind (arith, common_steps, eqb-false (length word) 0 (sym c.is_empty.ensures ∙ c.if-is_empty.false)) in
    let fits : rest ≡ take (length rest) behind = rest_of s.left text gap rest c.split_blanks.ensures.whole c.self.invariant.0 in
    let cut : take (length rest) behind ≡ word ++ after = sym fits ∙ c.split_word.ensures.whole in
    let left = rest_of (length rest) behind word after cut (omega (arith, ap length fits, length-take (length rest) behind)) in
    let first : WordView = record { start = s.start + length gap; bytes = word } in
    sym c.self.view_is
    ∙ words_from-cut s.start (take s.left text) gap rest word after c.split_blanks.ensures.whole c.split_blanks.ensures.blank c.split_word.ensures.whole c.split_word.ensures.unbroken c.split_word.ensures.longest some
    ∙ ap (λ (l : List ℕ). first ∷ words_from (s.start + length gap + length word) (before_comment l)) left

pub returns-clause-goes : goal.returns-clause-goes
returns-clause-goes c =
    let e = returns-clause-steps c in
    search rules
