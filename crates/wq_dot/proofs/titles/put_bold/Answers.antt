use Rattle.std.proofs.Common.{◌≡◌, ◌==◌, ◌++◌, ℕ, List, [], refl, sym, ap, ◌∙◌, arith}
use Rattle.std.specs.Prelude.{codes}
use Rattle.std.proofs.lemmas.Bool.{cond-false, ne_eqb}
use Rattle.std.proofs.lemmas.Result.{on_ok_weaker}
use Rattle.wq_dot.specs.Dotting.{bold_text, counted}
use Rattle.wq_dot.proofs.Pieces.{put_more}
use Rattle.wq_dot.proofs.titles.put_bold.Goals as goal

-- the words that this many waits are bold
abbrev waits_text : ℕ → List ℕ
waits_text bold = codes "," ++ counted bold (codes "wait") ++ codes " in bold"

said : (bold : ℕ) → (bold ≡ 0 → ⊥) → waits_text bold ≡ bold_text bold
said bold some = sym (cond-false (bold == 0) [] (waits_text bold) (ne_eqb bold 0 some))

pub returns : goal.returns
returns g c =
    let out = c.args.out.now.items in
    let bold = c.args.bold in
    let waits : List ℕ = counted bold (codes "wait") in
    let end : List ℕ = codes " in bold" in
    let h2 = put_more out (codes ",") _ waits _ _ c.in_ok-put.ensures.added c.in_ok-put_counted.ensures refl in
    on_ok_weaker c.put-2.result
    (λ e. put_more out (codes "," ++ waits) _ end _ _ h2 e refl
    ∙ ap (λ (l : List ℕ). out ++ l) (said bold (λ e. omega (arith, e, c.if-bold-eq0.false)))) c.put-2.ensures.added
