use Rattle.std.proofs.Common.{◌≡◌, ℕ, length, take, drop, sym, ap, subst, ◌∙◌, arith}
use Rattle.std.specs.List.{prefix_len}
use Rattle.std.proofs.lemmas.List.{length-take}
use Rattle.std.proofs.lemmas.List.Sums.{prefix_len-le-length}
use Rattle.wq_text.specs.Words.{in_word, AllInWord}
use Rattle.wq_text.proofs.CutLemmas.{EndsAtOnce-from_fails}
use Rattle.wq_text.proofs.WordLemmas.{AllByRecursion-take-prefix_len, FailsAtOnce, FailsAtOnce-drop-prefix_len}
use Rattle.wq_text.proofs.word.split_word.Goals as goal

pub word_in_front-len-requires : goal.word_in_front-len-requires
word_in_front-len-requires c = omega (arith, ap length c.requires, length-take (length c.args.bytes.now) c.args.text.now)

pub split_at-requires : goal.split_at-requires
split_at-requires c =
    let bs = c.args.bytes.now in
    let len : c.word_in_front-len.result ≡ prefix_len in_word bs = c.word_in_front-len.ensures ∙ ap (prefix_len in_word) (sym c.requires) in
    omega (arith, len, prefix_len-le-length in_word bs)

pub returns-clause-unbroken : goal.returns-clause-unbroken
returns-clause-unbroken c =
    let bs = c.args.bytes.now in
    let len : c.word_in_front-len.result ≡ prefix_len in_word bs = c.word_in_front-len.ensures ∙ ap (prefix_len in_word) (sym c.requires) in
    subst AllInWord (sym (c.split_at.ensures.front ∙ ap (λ (n : ℕ). take n bs) len)) (AllByRecursion-take-prefix_len in_word bs)

pub returns-clause-longest : goal.returns-clause-longest
returns-clause-longest c =
    let bs = c.args.bytes.now in
    let len : c.word_in_front-len.result ≡ prefix_len in_word bs = c.word_in_front-len.ensures ∙ ap (prefix_len in_word) (sym c.requires) in
    EndsAtOnce-from_fails _ (subst (FailsAtOnce in_word) (sym (c.split_at.ensures.back ∙ ap (λ (n : ℕ). drop n bs) len)) (FailsAtOnce-drop-prefix_len in_word bs))
