use Rattle.std.proofs.Common.{ℕ, List, [], ◌++◌, ap, ◌∙◌}
use Rattle.std.specs.Prelude.{option_map, unwrap_or}
use Rattle.wq_changes.specs.Few.{few_line}
use Rattle.wq_changes.proofs.few.of_few.Goals as goal

pub returns : goal.returns
returns g c =
    let said = option_map (λ v. v.items) c.in_ok-said.said in
    let file = c.args.assignment.file.now in
    record {
      said = said;
      reason = rw c.can_hang.ensures at c.in_ok-said.ensures;
      is =
          c.in_ok-put_said.ensures
          ∙ ap (λ (text : List ℕ). text ++ unwrap_or said [])
          (c.in_ok-put.ensures.added ∙ ap (λ (text : List ℕ). text ++ c.deref.result.now) c.in_ok-text.ensures
          ∙ ap (λ (lines : List ℕ). few_line file ++ lines) (c.deref.ensures.value ∙ c.in_ok-lines.ensures));
    }
