use Rattle.std.proofs.Common.{◌≡◌, Result, Ok, subst, sym}
use Rattle.std.proofs.lemmas.Result.{IfOk-weaker}
use Rattle.wq_groups.specs.DeclaredGroups.{declared_waits, Declared}
use Rattle.wq_fixed.specs.Fixed.{IsFixed}
use Rattle.wq_cert.specs.declared.fault.CertError.{CertError}
use Rattle.wq_cert.specs.AroundReading.{AroundCertificate, around_certificate, around_of_text}
use Rattle.wq_cert.specs.Texts.{IsCertFaultOf}
use Rattle.wq_checker.specs.Around.{IsAroundAsked}
use Rattle.wq_commands.specs.declared.found.Which.TheVariants.{Certificate as SecondText}
use Rattle.wq_commands.specs.Found.{AnswersIn}
use Rattle.wq_around_command.specs.Checking.{FindsCheckAround}
use Rattle.wq_around_command.proofs.AskedLemmas.{IsAroundAsked-read}
use Rattle.wq_around_command.proofs.Taking.{AnswersIn-unread}
use Rattle.wq_around_command.proofs.checking.check_fixed.Goals as goal

pub check_claim-answer-requires-clause-asked : goal.check_claim-answer-requires-clause-asked
check_claim-answer-requires-clause-asked g c =
    let s : Declared = record { table = c.declared.inside.table; partition = c.declared.inside.groups } in
    let f = c.args.fixed.now in
    let claim = around_certificate c.in-Ok.claim in
    let fixed = subst (λ (d : Declared). IsFixed d.partition.groups f) (sym c.declared.view_is) c.requires in
    subst (λ (d : Declared). IsAroundAsked (declared_waits d) f claim) c.declared.view_is
    (IsAroundAsked-read s c.declared.invariant f fixed c.args.text.now claim c.in-Ok.ensures.answer)

pub returns-in-Ok : goal.returns-in-Ok
returns-in-Ok g c =
    let s = c.args.declared.now in
    let f = c.args.fixed.now in
    let read : around_of_text s.table.names s.partition f c.args.text.now ≡ Ok (around_certificate c.in-Ok.claim) =
    subst (λ (d : Declared). around_of_text d.table.names d.partition f c.args.text.now
    ≡ Ok (around_certificate c.in-Ok.claim)) c.declared.view_is c.in-Ok.ensures.answer in
    IfOk-weaker c.check_claim-answer.result _ _ (λ a found.
    subst (λ (r : Result AroundCertificate CertError).
    AnswersIn SecondText r (λ claim. FindsCheckAround s f claim) a.found a.end a.text.items) (sym read) found)
    c.check_claim-answer.ensures

pub returns-in-Err : goal.returns-in-Err
returns-in-Err g c =
    let s = c.args.declared.now in
    let f = c.args.fixed.now in
    let fault = subst (λ (d : Declared).
    IsCertFaultOf c.in-Err.fault (around_of_text d.table.names d.partition f c.args.text.now)) c.declared.view_is
    c.in-Err.ensures.fault in
    IfOk-weaker c.unread.result _ _ (λ a unread.
    AnswersIn-unread SecondText (around_of_text s.table.names s.partition f c.args.text.now)
    (λ claim. FindsCheckAround s f claim) c.in-Err.fault a.found a.end a.text.items fault unread) c.unread.ensures
