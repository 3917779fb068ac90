use Rattle.std.proofs.Common.{map, subst}
use Rattle.wq_repair_command.specs.Repairing.{RepairsText}
use Rattle.wq_changes.proofs.voice.say_repair.Goals as goal

pub say_read-requires : goal.say_read-requires
say_read-requires g c =
    let s = c.args.declared.now in
    let names = map (λ n. n.now) c.args.names.now in
    let (end, out, finds) = c.requires in
    (end, out, subst (λ f. RepairsText names s c.args.texts.now.second f end out) c.in-Read.is finds)
