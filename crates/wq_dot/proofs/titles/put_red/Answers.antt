use Rattle.std.proofs.Common.{◌≡◌, ◌==◌, ◌++◌, ℕ, List, refl, sym, ap, ◌∙◌, arith}
use Rattle.std.specs.Prelude.{codes}
use Rattle.std.proofs.lemmas.Bool.{cond-false, ne_eqb}
use Rattle.std.proofs.lemmas.Result.{on_ok_weaker}
use Rattle.wq_dot.specs.Dotting.{counted, leading_text, red_text, shortest_text}
use Rattle.wq_dot.proofs.Pieces.{put_line, put_more}
use Rattle.wq_dot.proofs.titles.put_red.Goals as goal

-- what is said if waits are red
abbrev said_text : List ℕ → ℕ → ℕ → ℕ → List ℕ
said_text hanging leading red bold =
    hanging ++ codes "," ++ counted red (codes "wait") ++ codes " in red" ++ leading_text leading
    ++ shortest_text red bold

said : (hanging : List ℕ) (leading red bold : ℕ) → (red ≡ 0 → ⊥)
    → said_text hanging leading red bold ≡ red_text hanging leading red bold
said hanging leading red bold some =
    sym (cond-false (red == 0) (codes "safe") (said_text hanging leading red bold) (ne_eqb red 0 some))

pub returns : goal.returns
returns g c =
    let out = c.args.out.now.items in
    let hanging = c.args.hanging.now in
    let leading = c.args.leading in
    let red = c.args.red in
    let bold = c.args.bold in
    let first : List ℕ = hanging ++ codes "," in
    let second : List ℕ = first ++ counted red (codes "wait") in
    let third : List ℕ = second ++ codes " in red" in
    let fourth : List ℕ = third ++ leading_text leading in
    let h1 = put_line out hanging (codes ",") _ _ c.in_ok-put.ensures.added c.in_ok-put-2.ensures.added in
    let h2 = put_line out first (counted red (codes "wait")) _ _ h1 c.in_ok-put_counted.ensures in
    let h3 = put_line out second (codes " in red") _ _ h2 c.in_ok-put-3.ensures.added in
    let h4 = put_line out third (leading_text leading) _ _ h3 c.in_ok-put_leading.ensures in
    on_ok_weaker c.put_shortest.result
    (λ e. put_more out fourth _ (shortest_text red bold) _ _ h4 e refl
    ∙ ap (λ (l : List ℕ). out ++ l)
    (said hanging leading red bold (λ none. omega (arith, none, c.if-red-eq0.false)))) c.put_shortest.ensures
