use Rattle.std.proofs.Common.{◌≡◌}
use Rattle.std.specs.Prelude.{find, not}
use Rattle.std.specs.VecDeque.Iter.{deque_iter_rest}
use Rattle.wq_core.specs.declared.entry.Entry.{Entry}
use Rattle.wq_core.specs.State.{is_running, next_of}
use Rattle.wq_core.proofs.lane.Lane.next.Given as goal

abbrev pub invariant-loop-entry : goal.invariant-loop-entry
invariant-loop-entry g l = find (λ (e : Entry). not (is_running l.self.lane e.item)) (deque_iter_rest l.entry-iterator) ≡ next_of l.self.lane
