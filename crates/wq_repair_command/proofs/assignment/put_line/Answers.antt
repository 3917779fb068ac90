use Rattle.std.proofs.Common.{◌≡◌, ◌++◌, ◌∷◌, [], ℕ, List, map, ap, ◌∙◌}
use Rattle.std.specs.Prelude.{decimal, flat_map}
use Rattle.std.proofs.lemmas.Result.{on_ok_weaker}
use Rattle.wq_text.specs.LineText.{spaced}
use Rattle.wq_cert.specs.PlanText.{name_of}
use Rattle.wq_repair_command.specs.AssignmentText.{keyword, name_comment}
use Rattle.wq_repair_command.proofs.Lines.{line-parts}
use Rattle.wq_repair_command.proofs.assignment.put_line.Goals as goal

pub returns : goal.returns
returns g c =
    let out = c.args.out.now.items in
    let first = keyword c.args.is_bare in
    let number = spaced (decimal c.args.q) in
    let words = flat_map spaced (map (name_of c.args.table.now.names) c.args.items.now) in
    let comment = name_comment c.args.name.now in
    let one : c.put.new.out.items ≡ out ++ first = c.in_ok-put.ensures.added ∙ ap (λ (w : List ℕ). out ++ w) c.keyword.ensures in
    let two : c.put_number.new.out.items ≡ (out ++ first) ++ number =
    c.in_ok-put_number.ensures.added ∙ ap (λ (n : ℕ). c.put.new.out.items ++ spaced (decimal n)) c.from.ensures ∙ ap (λ (o : List ℕ). o ++ number) one in
    let three = c.in_ok-put_items.ensures ∙ ap (λ (o : List ℕ). o ++ words) two in
    let four = c.in_ok-put_name.ensures ∙ ap (λ (o : List ℕ). o ++ comment) three in
    on_ok_weaker c.put_end.result (λ e. e ∙ ap (λ (o : List ℕ). o ++ (10 ∷ [])) four ∙ line-parts out first number words comment (10 ∷ [])) c.put_end.ensures.added
