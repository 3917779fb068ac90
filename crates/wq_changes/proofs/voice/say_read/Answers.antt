use Rattle.std.proofs.Common.{map, subst}
use Rattle.wq_commands.specs.declared.found.Found.TheVariants.{Read}
use Rattle.wq_repair_command.specs.Repairing.{RepairsText}
use Rattle.wq_repair_command.proofs.FoundRepairs.{IsFound-text}
use Rattle.wq_changes.proofs.voice.say_read.Goals as goal

pub assigned_of-assigned-requires : goal.assigned_of-assigned-requires
assigned_of-assigned-requires g c =
    let s = c.args.declared.now in
    let names = map (λ n. n.now) c.args.names.now in
    let text = c.args.texts.now.second in
    let (end, out, finds) = c.requires in
    let found = IsFound-text names s text c.in-Some.repairing end out
    (subst (λ o. RepairsText names s text (Read o) end out) c.in-Some.is finds) in
    (text, found.read)

pub say_answer-requires-clause-read : goal.say_answer-requires-clause-read
say_answer-requires-clause-read g c =
    let s = c.args.declared.now in
    let names = map (λ n. n.now) c.args.names.now in
    let text = c.args.texts.now.second in
    let (end, out, finds) = c.requires in
    let found = IsFound-text names s text c.in-Some.repairing end out
    (subst (λ o. RepairsText names s text (Read o) end out) c.in-Some.is finds) in
    rw (c.second.ensures, c.assigned_of-assigned.ensures) found.read

pub say_answer-requires-clause-answer : goal.say_answer-requires-clause-answer
say_answer-requires-clause-answer g c =
    let s = c.args.declared.now in
    let names = map (λ n. n.now) c.args.names.now in
    let text = c.args.texts.now.second in
    let (end, out, finds) = c.requires in
    let found = IsFound-text names s text c.in-Some.repairing end out
    (subst (λ o. RepairsText names s text (Read o) end out) c.in-Some.is finds) in
    (found.moving, rw c.assigned_of-assigned.ensures found.answers)
