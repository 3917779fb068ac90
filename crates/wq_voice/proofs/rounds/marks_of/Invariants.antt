use Rattle.std.proofs.Common.{◌≡◌, ◌<◌, ℕ, length, take, slice_index_or, false}
use Rattle.wq_voice.specs.Components.{begins_on}
use Rattle.wq_voice.proofs.rounds.marks_of.Given as goal

-- the workqueues of the flushes so far
abbrev pub invariant-loop-arc : goal.invariant-loop-arc
invariant-loop-arc g l = record {
  len : length l.marks.items ≡ l.assigned.workqueues.assignment.lanes;
  marked : (q : ℕ) → q < l.assigned.workqueues.assignment.lanes → slice_index_or l.marks.items q false
      ≡ begins_on l.assigned.declared l.assigned.workqueues (take l.arc-index l.arcs) q;
}
