use Rattle.std.proofs.Common.{◌≡◌, ◌+◌, ℕ, true, inl, inr, get_or, sym, subst, ◌∙◌, arith}
use Rattle.std.proofs.lemmas.Bool.{cases_lt}
use Rattle.wq_text.specs.Words.{in_word}
use Rattle.wq_text.proofs.CutLemmas.{prefix_len-all, prefix_len-at_end}
use Rattle.wq_text.proofs.RunLemmas.{in_word-run}
use Rattle.wq_text.proofs.word.word_in_front.Goals as goal

pub loop-len-preserved : goal.loop-len-preserved
loop-len-preserved c k lt =
    let text = c.args.text.now in
    let at = c.loop-len.len + c.greater_at-len.result in
    elim (cases_lt k at) [
      | inl run ↦ in_word-run text c.loop-len.len c.greater_at-len.result c.loop-len.invariant c.greater_at-len.ensures.greater k run
      | inr last ↦
          let here : at ≡ k = omega arith in
          subst (λ (n : ℕ). in_word (get_or text n 0) ≡ true) here (sym c.in_word.ensures ∙ c.if-not-in_word.false)
    ]

pub returns-then-len-left : goal.returns-then-len-left
returns-then-len-left c =
    prefix_len-all c.args.text.now c.args.left c.requires (c.loop-len.len + c.greater_at-len.result) c.if-len-left.true (in_word-run c.args.text.now c.loop-len.len c.greater_at-len.result c.loop-len.invariant c.greater_at-len.ensures.greater)

pub returns-then-not-in_word : goal.returns-then-not-in_word
returns-then-not-in_word c =
    prefix_len-at_end c.args.text.now c.args.left c.requires (c.loop-len.len + c.greater_at-len.result) c.if-len-left.false (in_word-run c.args.text.now c.loop-len.len c.greater_at-len.result c.loop-len.invariant c.greater_at-len.ensures.greater) (sym c.in_word.ensures ∙ c.if-not-in_word.true)

pub returns : goal.returns
returns c = prefix_len-all c.args.text.now c.args.left c.requires c.loop-len.len c.loop-len-test.false c.loop-len.invariant
