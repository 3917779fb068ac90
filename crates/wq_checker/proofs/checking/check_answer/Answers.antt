use Rattle.std.proofs.lemmas.Result.{IfOk-weaker}
use Rattle.wq_groups.specs.Declaration.{IsDeclaration, declaration_of}
use Rattle.wq_groups.proofs.Declarations.{IsDeclaration-of}
use Rattle.wq_cert.specs.Certificate.{certificate}
use Rattle.wq_checker.proofs.GoodAnswers.{YesIsSafe-answer, FewerWaitInCircle-answer, YesIsLeast-answer, EachWaitsInCircle-answer, EachDeadlocks-answer}
use Rattle.wq_checker.proofs.checking.check_answer.Goals as goal

pub returns-clause-safe : goal.returns-clause-safe
returns-clause-safe g c =
    let d = declaration_of c.args.table.now c.args.groups.now in
    let is : IsDeclaration d = IsDeclaration-of c.args.table.now c.args.groups.now c.len-items.ensures.table c.len-groups.ensures.partition c.requires.grouped in
    IfOk-weaker c.check_certificate.result _ _ (λ r answers. YesIsSafe-answer d is (certificate c.args.answer.now) r answers) c.check_certificate.ensures.answer

pub returns-clause-fewer : goal.returns-clause-fewer
returns-clause-fewer g c =
    let d = declaration_of c.args.table.now c.args.groups.now in
    let is : IsDeclaration d = IsDeclaration-of c.args.table.now c.args.groups.now c.len-items.ensures.table c.len-groups.ensures.partition c.requires.grouped in
    IfOk-weaker c.check_certificate.result _ _ (λ r answers. FewerWaitInCircle-answer d is (certificate c.args.answer.now) r c.requires.asked answers) c.check_certificate.ensures.answer

pub returns-clause-least : goal.returns-clause-least
returns-clause-least g c =
    let d = declaration_of c.args.table.now c.args.groups.now in
    let is : IsDeclaration d = IsDeclaration-of c.args.table.now c.args.groups.now c.len-items.ensures.table c.len-groups.ensures.partition c.requires.grouped in
    IfOk-weaker c.check_certificate.result _ _ (λ r answers. YesIsLeast-answer d is (certificate c.args.answer.now) r c.requires.asked answers) c.check_certificate.ensures.answer

pub returns-clause-circle : goal.returns-clause-circle
returns-clause-circle g c =
    let d = declaration_of c.args.table.now c.args.groups.now in
    let is : IsDeclaration d = IsDeclaration-of c.args.table.now c.args.groups.now c.len-items.ensures.table c.len-groups.ensures.partition c.requires.grouped in
    IfOk-weaker c.check_certificate.result _ _ (λ r answers. EachWaitsInCircle-answer d is (certificate c.args.answer.now) r c.requires.asked answers) c.check_certificate.ensures.answer

pub returns-clause-deadlocks : goal.returns-clause-deadlocks
returns-clause-deadlocks g c =
    let d = declaration_of c.args.table.now c.args.groups.now in
    let is : IsDeclaration d = IsDeclaration-of c.args.table.now c.args.groups.now c.len-items.ensures.table c.len-groups.ensures.partition c.requires.grouped in
    IfOk-weaker c.check_certificate.result _ _ (λ r answers. EachDeadlocks-answer d is (certificate c.args.answer.now) r c.requires.asked answers) c.check_certificate.ensures.answer
