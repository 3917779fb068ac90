use Rattle.std.proofs.lemmas.Result.{IfOk-weaker}
use Rattle.wq_groups.specs.Declaration.{IsDeclaration}
use Rattle.wq_groups.specs.DeclaredGroups.{declared_waits}
use Rattle.wq_groups.proofs.Declarations.{IsDeclaration-of}
use Rattle.wq_cert.specs.AroundReading.{around_certificate}
use Rattle.wq_checker.proofs.GoodAround.{YesIsLeastAround-answer, CircleIsOfAll-answer, NoneIsOfAll-answer}
use Rattle.wq_checker.proofs.checking_around.check_around.Goals as goal

pub returns-clause-least : goal.returns-clause-least
returns-clause-least g c =
    let sound = c.table-table.ensures.assigned.declared in
    let declared = c.args.start.now.declared in
    let is : IsDeclaration (declared_waits declared) =
    IsDeclaration-of declared.table declared.partition sound.table sound.partition sound.one_group_each in
    IfOk-weaker c.check_certificate.result _ _
    (λ r answers. YesIsLeastAround-answer (declared_waits declared) is c.args.fixed.now c.requires.fixed
    (around_certificate c.args.answer.now) r c.requires.asked answers) c.check_certificate.ensures

pub returns-clause-circle : goal.returns-clause-circle
returns-clause-circle g c =
    let sound = c.table-table.ensures.assigned.declared in
    let declared = c.args.start.now.declared in
    let is : IsDeclaration (declared_waits declared) =
    IsDeclaration-of declared.table declared.partition sound.table sound.partition sound.one_group_each in
    IfOk-weaker c.check_certificate.result _ _
    (λ r answers. CircleIsOfAll-answer (declared_waits declared) is c.args.fixed.now c.requires.fixed
    (around_certificate c.args.answer.now) r c.requires.asked answers) c.check_certificate.ensures

pub returns-clause-none : goal.returns-clause-none
returns-clause-none g c =
    let sound = c.table-table.ensures.assigned.declared in
    let declared = c.args.start.now.declared in
    let is : IsDeclaration (declared_waits declared) =
    IsDeclaration-of declared.table declared.partition sound.table sound.partition sound.one_group_each in
    IfOk-weaker c.check_certificate.result _ _
    (λ r answers. NoneIsOfAll-answer (declared_waits declared) is c.args.fixed.now c.requires.fixed
    (around_certificate c.args.answer.now) r answers) c.check_certificate.ensures
