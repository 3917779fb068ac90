use Rattle.wq_cert.specs.Certificate.{certificate}
use Rattle.wq_commands.proofs.CheckLemmas.{NamesItems-answered}
use Rattle.wq_commands.proofs.checking.check_certificate.Goals as goal

pub print_check-requires : goal.print_check-requires
print_check-requires g c =
    NamesItems-answered (record { table = c.declared.inside.table; partition = c.declared.inside.groups })
    c.declared.invariant
    (certificate c.args.claim.now) c.in_ok-answer.answer c.in_ok-answer.ensures.answer
