use Rattle.wq_hang_command.proofs.Taking.{HangsText-read}
use Rattle.wq_hang_command.proofs.saying.say_hang.Goals as goal

pub assigned_of-assigned-requires : goal.assigned_of-assigned-requires
assigned_of-assigned-requires g c =
    let found = rw c.in-Read.is at c.requires in
    let text = c.args.texts.now.second in
    (text, (HangsText-read c.args.declared.now text c.in-Read.hanging found.0 found.1 found.2).0)

pub say_answer-requires-clause-read : goal.say_answer-requires-clause-read
say_answer-requires-clause-read g c =
    let found = rw c.in-Read.is at c.requires in
    rw c.assigned_of-assigned.ensures
    (HangsText-read c.args.declared.now c.args.texts.now.second c.in-Read.hanging found.0 found.1 found.2).0

pub say_answer-requires-clause-answer : goal.say_answer-requires-clause-answer
say_answer-requires-clause-answer g c =
    let found = rw c.in-Read.is at c.requires in
    rw c.assigned_of-assigned.ensures
    (HangsText-read c.args.declared.now c.args.texts.now.second c.in-Read.hanging found.0 found.1 found.2).1
