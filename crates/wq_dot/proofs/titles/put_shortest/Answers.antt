use Rattle.std.proofs.Common.{◌≡◌, ◌==◌, ◌++◌, ℕ, List, [], sym, ap, ◌∙◌, arith}
use Rattle.std.specs.Prelude.{codes, decimal}
use Rattle.std.proofs.lemmas.Bool.{cond-false, ne_eqb}
use Rattle.std.proofs.lemmas.Result.{on_ok_weaker}
use Rattle.wq_text.specs.LineText.{spaced}
use Rattle.wq_dot.specs.Dotting.{shortest_text}
use Rattle.wq_dot.proofs.Pieces.{put_line}
use Rattle.wq_dot.proofs.titles.put_shortest.Goals as goal

-- what is said of this many bold waits
abbrev waits_text : ℕ → List ℕ
waits_text bold = codes "," ++ spaced (decimal bold) ++ codes " in bold"

said : (red bold : ℕ) → (red ≡ bold → ⊥) → waits_text bold ≡ shortest_text red bold
said red bold some = sym (cond-false (red == bold) [] (waits_text bold) (ne_eqb red bold some))

pub returns : goal.returns
returns g c =
    let out = c.args.out.now.items in
    let bold = c.args.bold in
    let h2 = put_line out (codes ",") (spaced (decimal bold)) _ _ c.in_ok-put.ensures.added c.in_ok-put_number.ensures.added in
    on_ok_weaker c.put-2.result
    (λ e. put_line out (codes "," ++ spaced (decimal bold)) (codes " in bold") _ _ h2 e ∙ ap (λ (l : List ℕ). out ++ l) (said c.args.red bold (λ all. omega (arith, all, c.if-red-bold.false)))) c.put-2.ensures.added
