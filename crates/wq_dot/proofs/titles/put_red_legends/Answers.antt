use Rattle.std.proofs.Common.{◌≡◌, ◌==◌, ◌++◌, ℕ, List, [], sym, ap, ◌∙◌, arith}
use Rattle.std.proofs.lemmas.Bool.{cond-false, ne_eqb}
use Rattle.std.proofs.lemmas.Result.{on_ok_weaker}
use Rattle.wq_dot.specs.Dotting.{red_legend, red_legends, shortest_legend}
use Rattle.wq_dot.proofs.Pieces.{put_more}
use Rattle.wq_dot.proofs.titles.put_red_legends.Goals as goal

-- what is said if waits are red
abbrev said_text : ℕ → ℕ → ℕ → List ℕ
said_text leading red bold = red_legend leading red ++ shortest_legend red bold

said : (leading red bold : ℕ) → (red ≡ 0 → ⊥) → said_text leading red bold ≡ red_legends leading red bold
said leading red bold some = sym (cond-false (red == 0) [] (said_text leading red bold) (ne_eqb red 0 some))

pub returns : goal.returns
returns g c =
    let out = c.args.out.now.items in
    let leading = c.args.leading in
    let red = c.args.red in
    let bold = c.args.bold in
    on_ok_weaker c.put.result
    (λ e. put_more out (red_legend leading red) _ (shortest_legend red bold) _ _ c.in_ok-put_red_legend.ensures e
    c.shortest_legend.ensures
    ∙ ap (λ (l : List ℕ). out ++ l) (said leading red bold (λ none. omega (arith, none, c.if-red-eq0.false))))
    c.put.ensures.added
