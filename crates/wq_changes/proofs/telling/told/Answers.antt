use Rattle.std.proofs.Common.{ℕ, List, [], ◌∷◌, sym, subst, ◌∙◌}
use Rattle.std.specs.Prelude.{IfOk}
use Rattle.std.proofs.lemmas.Result.{IfOk-weaker}
use Rattle.wq_diagnosis.specs.Diagnosis.{IsPlain}
use Rattle.wq_diagnosis.proofs.Lines.{plain-lines}
use Rattle.wq_voice.specs.Reasons.{plain_head}
use Rattle.wq_changes.specs.Told.{IsOneLine}
use Rattle.wq_changes.proofs.telling.told.Goals as goal

pub returns : goal.returns
returns g c =
    let file = c.args.repair.now.assignment.file.now in
    let place = c.of_change-place.result in
    subst (λ (what : List ℕ). IfOk c.line_at.result (λ text. IsOneLine file what text.items)) (c.deref.ensures.value ∙ c.in_ok-what.ensures)
    (IfOk-weaker c.line_at.result _ _ (λ text is. record {
      line = place.line;
      column = place.column;
      is = is;
      plain = subst IsPlain (sym is) (plain-lines (plain_head file (place.line ∷ place.column ∷ []) c.deref.result.now ∷ []));
    }) c.line_at.ensures)
