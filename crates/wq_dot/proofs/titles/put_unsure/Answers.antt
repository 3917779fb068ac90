use Rattle.std.proofs.Common.{◌≡◌, ◌==◌, ◌++◌, ℕ, List, [], sym, ap, ◌∙◌, arith}
use Rattle.std.specs.Prelude.{codes, decimal}
use Rattle.std.proofs.lemmas.Bool.{cond-false, ne_eqb}
use Rattle.std.proofs.lemmas.Result.{on_ok_weaker}
use Rattle.wq_text.specs.LineText.{spaced}
use Rattle.wq_dot.specs.Dotting.{unsure_text}
use Rattle.wq_dot.proofs.Pieces.{put_line}
use Rattle.wq_dot.proofs.titles.put_unsure.Goals as goal

-- the words that this many flushes are unsure
abbrev waits_text : ℕ → List ℕ
waits_text unsure = codes "," ++ spaced (decimal unsure) ++ codes " not sure"

said : (unsure : ℕ) → (unsure ≡ 0 → ⊥) → waits_text unsure ≡ unsure_text unsure
said unsure some = sym (cond-false (unsure == 0) [] (waits_text unsure) (ne_eqb unsure 0 some))

pub returns : goal.returns
returns g c =
    let out = c.args.out.now.items in
    let unsure = c.args.unsure in
    let h2 = put_line out (codes ",") (spaced (decimal unsure)) _ _ c.in_ok-put.ensures.added
    c.in_ok-put_number.ensures.added in
    on_ok_weaker c.put-2.result
    (λ e. put_line out (codes "," ++ spaced (decimal unsure)) (codes " not sure") _ _ h2 e
    ∙ ap (λ (l : List ℕ). out ++ l) (said unsure (λ none. omega (arith, none, c.if-unsure-eq0.false))))
    c.put-2.ensures.added
