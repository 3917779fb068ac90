use Rattle.std.proofs.Common.{◌≡◌, ℕ, ◌<◌, true, length}
use Rattle.wq_cert.proofs.PartLanes.{is_whole_at}
use Rattle.wq_cert.proofs.noted_workqueues.are_whole.Given as goal

-- no item so far splits its group
abbrev pub invariant-loop-group : goal.invariant-loop-group
invariant-loop-group g l =
    (i : ℕ) → i < length l.yielded → is_whole_at l.stood l.lane_of_group l.groups.group_of i ≡ true
