use Rattle.std.proofs.Common.{◌≡◌, Ok, sym, subst, ◌∙◌}
use Rattle.wq_meter.specs.Shell.{Given, kept}
use Rattle.wq_groups.specs.DeclaredGroups.{Declared}
use Rattle.wq_commands.specs.Declaration.{declaration}
use Rattle.wq_commands.specs.Shell.{AnswersTexts, HasOneAnswerTo}
use Rattle.wq_commands.proofs.SameTexts.{known_texts, one_answer}
use Rattle.wq_commands.proofs.laws.what_is_said_changes_no_answer.Goals as goal

pub returns : goal.returns
returns g c = λ command voice other_voice end other_end texts one other has finds finds_other answered other_answered.
    let limits = g.C.Finds.limits command in
    let answers = g.C.Finds.answers command in
    let is = known_texts g.D.Read.remaining g.S.Read.remaining g.T.Read.remaining limits one texts answered.texts finds
    answered.from in
    let is_other = known_texts g.D.Read.remaining g.S.Read.remaining g.T.Read.remaining limits other texts
    other_answered.texts finds_other other_answered.from in
    one_answer answers (kept limits other_answered.texts)
    (subst (λ (t : Given). (s : Declared) → declaration (kept limits t).first ≡ Ok s → HasOneAnswerTo s answers)
    (sym is_other) has)
    answered.found other_answered.found end other_end answered.out other_answered.out
    (subst (λ (t : Given). AnswersTexts answers (kept limits t) answered.found end answered.out) (is ∙ sym is_other)
    answered.answer)
    other_answered.answer
