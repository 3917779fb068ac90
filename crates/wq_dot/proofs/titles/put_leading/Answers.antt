use Rattle.std.proofs.Common.{◌≡◌, ◌==◌, ◌++◌, ℕ, List, [], sym, ap, ◌∙◌, arith}
use Rattle.std.specs.Prelude.{codes, decimal}
use Rattle.std.proofs.lemmas.Bool.{cond-false, ne_eqb}
use Rattle.std.proofs.lemmas.Result.{on_ok_weaker}
use Rattle.wq_text.specs.LineText.{spaced}
use Rattle.wq_dot.specs.Dotting.{leading_text}
use Rattle.wq_dot.proofs.Pieces.{put_line}
use Rattle.wq_dot.proofs.titles.put_leading.Goals as goal

-- what is said of waits that lead to no rescuer
abbrev waits_text : ℕ → List ℕ
waits_text leading = codes "," ++ spaced (decimal leading) ++ codes " to no rescuer"

said : (leading : ℕ) → (leading ≡ 0 → ⊥) → waits_text leading ≡ leading_text leading
said leading some = sym (cond-false (leading == 0) [] (waits_text leading) (ne_eqb leading 0 some))

pub returns : goal.returns
returns g c =
    let out = c.args.out.now.items in
    let leading = c.args.leading in
    let h2 = put_line out (codes ",") (spaced (decimal leading)) _ _ c.in_ok-put.ensures.added c.in_ok-put_number.ensures.added in
    on_ok_weaker c.put-2.result
    (λ e. put_line out (codes "," ++ spaced (decimal leading)) (codes " to no rescuer") _ _ h2 e ∙ ap (λ (l : List ℕ). out ++ l) (said leading (λ none. omega (arith, none, c.if-leading-eq0.false)))) c.put-2.ensures.added
