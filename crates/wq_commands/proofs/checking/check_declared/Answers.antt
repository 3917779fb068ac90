use Rattle.std.proofs.Common.{subst}
use Rattle.wq_cert.specs.Certificate.{certificate}
use Rattle.wq_checker.specs.Answers.{IsAsked}
use Rattle.wq_groups.specs.DeclaredGroups.{declared_waits, Declared}
use Rattle.wq_commands.proofs.CheckLemmas.{IsAsked-read}
use Rattle.wq_commands.proofs.checking.check_declared.Goals as goal

pub check_certificate-answer-requires : goal.check_certificate-answer-requires
check_certificate-answer-requires g c =
    let s : Declared = record { table = c.declared.inside.table; partition = c.declared.inside.groups } in
    let claim = certificate c.in-Ok.claim in
    subst (λ (d : Declared). IsAsked (declared_waits d) claim) c.declared.view_is
    (IsAsked-read s c.args.text.now claim c.declared.invariant c.in-Ok.ensures.answer)
