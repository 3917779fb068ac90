use Rattle.std.proofs.Common.{◌++◌, map, take}
use Rattle.wq_voice.specs.Reasons.{and_lead, lead_for, AddsSaid}
use Rattle.wq_voice.specs.Waits.{words_of}
use Rattle.wq_voice.proofs.subject.put_further.Given as goal

-- the blocks of the waits so far were added
abbrev pub invariant-loop-hop : goal.invariant-loop-hop
invariant-loop-hop g l =
    AddsSaid l.subject.declaration.file.now
    (map (λ h. lead_for and_lead h ++ words_of l.subject.wording l.subject.assigned.now.declared
    l.subject.assigned.now.workqueues (map (λ n. n.now) l.subject.names.now) h)
    (take l.hop-index l.hops))
    l.fn.out.items l.out.items
