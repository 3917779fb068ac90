use Rattle.wq_voice.proofs.WasRead.{ReplaysTexts-read}
use Rattle.wq_voice.proofs.replay.say_replay.Goals as goal

pub assigned_of-assigned-requires : goal.assigned_of-assigned-requires
assigned_of-assigned-requires g c =
    let r = rw c.in-Read.is at c.requires in
    let texts = c.args.texts.now in
    (texts.second, (ReplaysTexts-read c.args.declared.now texts.second texts.third c.in-Read.replayed r.0 r.1 r.2).0)

pub say_replayed-requires-clause-read : goal.say_replayed-requires-clause-read
say_replayed-requires-clause-read g c =
    let r = rw c.in-Read.is at c.requires in
    let texts = c.args.texts.now in
    rw c.assigned_of-assigned.ensures
    (ReplaysTexts-read c.args.declared.now texts.second texts.third c.in-Read.replayed r.0 r.1 r.2).0

pub say_replayed-requires-clause-run : goal.say_replayed-requires-clause-run
say_replayed-requires-clause-run g c =
    let r = rw c.in-Read.is at c.requires in
    let texts = c.args.texts.now in
    rw c.assigned_of-assigned.ensures
    (ReplaysTexts-read c.args.declared.now texts.second texts.third c.in-Read.replayed r.0 r.1 r.2).1

pub returns-in-Read : goal.returns-in-Read
returns-in-Read g c = rw c.in-Read.is (rw c.assigned_of-assigned.ensures at c.say_replayed.ensures)
