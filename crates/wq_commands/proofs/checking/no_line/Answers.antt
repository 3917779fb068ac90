use Rattle.std.proofs.Common.{◌≡◌, ◌++◌, ◌∷◌, [], List, ℕ, ap, ◌∙◌}
use Rattle.std.specs.Prelude.{codes, decimal, flat_map}
use Rattle.wq_text.specs.LineText.{spaced}
use Rattle.wq_checker.specs.Codes.{no_code}
use Rattle.wq_commands.specs.Checking.{no_details}
use Rattle.wq_commands.proofs.LineLemmas.{line_text-words}
use Rattle.wq_commands.proofs.checking.no_line.Goals as goal

pub returns : goal.returns
returns g c =
    let words = no_details c.args.table.now.names c.args.no.now in
    let begun : c.put.new.out.items ≡ codes "no" = c.in_ok-put.ensures.added ∙ ap (λ (o : List ℕ). o ++ codes "no") c.new-out.ensures.items in
    let numbered : c.put_number.new.out.items ≡ codes "no" ++ spaced (decimal (no_code c.args.no.now)) =
    c.in_ok-put_number.ensures.added ∙ ap (λ (o : List ℕ). o ++ spaced (decimal c.code.result)) begun ∙ ap (λ n. codes "no" ++ spaced (decimal n)) c.code.ensures in
    let detailed : c.put_details.new.out.items ≡ (codes "no" ++ spaced (decimal (no_code c.args.no.now))) ++ flat_map spaced words =
    c.in_ok-put_details.ensures ∙ ap (λ (o : List ℕ). o ++ flat_map spaced words) numbered in
    c.in_ok-put_end.ensures.added ∙ ap (λ (o : List ℕ). o ++ (10 ∷ [])) detailed ∙ line_text-words (codes "no") (decimal (no_code c.args.no.now)) words
