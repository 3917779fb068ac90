use Rattle.std.proofs.Common.{◌≡◌, ◌<◌, ◌+◌, sum_by}
use Rattle.std.specs.List.{All}
use Rattle.std.specs.VecDeque.Iter.{deque_iter_rest}
use Rattle.wq_core.specs.declared.entry.Entry.{Entry}
use Rattle.wq_core.specs.Wiring.{items}
use Rattle.wq_core.specs.State.{lane_at}
use Rattle.wq_core.specs.Work.{whole_work}
use Rattle.wq_core.proofs.machine.Core.pending_work.Given as goal

abbrev pub invariant-loop-entry : goal.invariant-loop-entry
invariant-loop-entry g l = record {
  so_far :
      l.work + sum_by (λ (e : Entry). whole_work l.self.wiring e.item) (deque_iter_rest l.entry-iterator)
      ≡ sum_by (λ (e : Entry). whole_work l.self.wiring e.item) (lane_at l.self.state l.fn.q).pending;
  rest : All (λ (e : Entry). e.item < items l.self.wiring) (deque_iter_rest l.entry-iterator);
}
