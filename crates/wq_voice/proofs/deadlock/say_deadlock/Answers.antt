use Rattle.wq_voice.proofs.WasRead.{JudgesText-read}
use Rattle.wq_voice.proofs.deadlock.say_deadlock.Goals as goal

pub assigned_of-assigned-requires : goal.assigned_of-assigned-requires
assigned_of-assigned-requires g c =
    let judged = rw c.in-Read.is at c.requires in
    let text = c.args.texts.now.second in
    (text, (JudgesText-read c.args.declared.now text c.in-Read.verdict judged.0 judged.1 judged.2).0)

pub say_verdict-requires-clause-read : goal.say_verdict-requires-clause-read
say_verdict-requires-clause-read g c =
    let judged = rw c.in-Read.is at c.requires in
    rw c.assigned_of-assigned.ensures
    (JudgesText-read c.args.declared.now c.args.texts.now.second c.in-Read.verdict judged.0 judged.1 judged.2).0

pub say_verdict-requires-clause-hang : goal.say_verdict-requires-clause-hang
say_verdict-requires-clause-hang g c =
    let judged = rw c.in-Read.is at c.requires in
    rw c.assigned_of-assigned.ensures
    (JudgesText-read c.args.declared.now c.args.texts.now.second c.in-Read.verdict judged.0 judged.1 judged.2).1

pub returns-in-Read : goal.returns-in-Read
returns-in-Read g c = rw c.in-Read.is (rw c.assigned_of-assigned.ensures at c.say_verdict.ensures)
