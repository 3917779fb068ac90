use Rattle.wq_cert.proofs.ReadRanges.{IsRunOf-made_of}
use Rattle.wq_commands.proofs.replaying.replay_on.Goals as goal

pub replay_run-requires-clause-few : goal.replay_run-requires-clause-few
replay_run-requires-clause-few g c =
    (IsRunOf-made_of c.declared.inside.table.names c.declared.inside.table.waits c.args.text.now _
    c.in-Ok.read.steps.items c.in-Ok.ensures.run).few
