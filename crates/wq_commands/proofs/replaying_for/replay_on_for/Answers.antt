use Rattle.wq_cert.proofs.ReadRanges.{IsRunOf-made_of}
use Rattle.wq_commands.proofs.replaying_for.replay_on_for.Goals as goal

pub replay_named-requires-clause-few : goal.replay_named-requires-clause-few
replay_named-requires-clause-few g c =
    (IsRunOf-made_of c.declared.inside.table.names c.declared.inside.table.waits c.args.text.now _
    c.in-Ok.read.steps.items c.in-Ok.ensures.run).few
