use Rattle.std.proofs.Common.{ℕ, take, drop, sym, ap, subst, ◌∙◌, arith}
use Rattle.std.proofs.lemmas.List.Sums.{prefix_len-le-length}
use Rattle.wq_text.specs.Words.{is_blank, AllBlank}
use Rattle.wq_text.proofs.WordLemmas.{AllByRecursion-take-prefix_len, FailsAtOnce, FailsAtOnce-drop-prefix_len, begins_word-from_fails}
use Rattle.wq_text.proofs.word.split_blanks.Goals as goal

pub split_at-requires : goal.split_at-requires
split_at-requires c = omega (arith, c.blanks_in_front-len.ensures, prefix_len-le-length is_blank c.args.bytes.now)

pub returns-clause-blank : goal.returns-clause-blank
returns-clause-blank c =
    let bs = c.args.bytes.now in
    subst AllBlank (sym (c.split_at.ensures.front ∙ ap (λ (n : ℕ). take n bs) c.blanks_in_front-len.ensures)) (AllByRecursion-take-prefix_len is_blank bs)

pub returns-clause-longest : goal.returns-clause-longest
returns-clause-longest c =
    let bs = c.args.bytes.now in
    begins_word-from_fails _ (subst (FailsAtOnce is_blank) (sym (c.split_at.ensures.back ∙ ap (λ (n : ℕ). drop n bs) c.blanks_in_front-len.ensures)) (FailsAtOnce-drop-prefix_len is_blank bs))
