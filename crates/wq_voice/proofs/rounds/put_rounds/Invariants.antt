use Rattle.std.proofs.Common.{◌≡◌, map, take}
use Rattle.wq_core.specs.Workqueues.{wiring_of}
use Rattle.wq_groups.specs.DeclaredGroups.{declared_waits}
use Rattle.wq_voice.specs.Components.{AddsRounds}
use Rattle.wq_voice.specs.Waits.{words_of}
use Rattle.wq_voice.proofs.rounds.put_rounds.Given as goal

-- the rounds of the components so far were added
abbrev pub invariant-loop-arcs : goal.invariant-loop-arcs
invariant-loop-arcs g l =
    (l.rounds ≡ wiring_of (declared_waits l.subject.assigned.now.declared) l.subject.assigned.now.workqueues)
    × AddsRounds l.subject.declaration.file.now
    (λ h. words_of l.subject.wording l.subject.assigned.now.declared l.subject.assigned.now.workqueues
    (map (λ n. n.now) l.subject.names.now) h)
    l.subject.assigned.now.declared l.subject.assigned.now.workqueues
    (map (λ v. v.items) (take l.arcs-index l.components))
    l.fn.out.items l.out.items
