-- Work left: the most steps that rescuers and helpers can still make of what is queued and what runs.
use Rattle.std.specs.Prelude.{ℕ, ◌+◌, ◌-◌, ◌*◌, length, sum_by, Option, Some, None}
use Rattle.wq_core.specs.declared.entry.Entry.{Entry}
use Rattle.wq_core.specs.declared.entry.Waiting.{Waiting}
use Rattle.wq_core.specs.declared.entry.Running.{Running}
use Rattle.wq_core.specs.declared.step.HelpStep.{HelpStep}
use Rattle.wq_core.specs.declared.step.HelpStep.TheVariants.{Start as DoStart, Wait as DoWait, WaitAll as DoWaitAll}
use Rattle.wq_core.specs.declared.step.HelpStep.TheVariants.{Over as DoOver, OverAll as DoOverAll, Finish as DoFinish}
use Rattle.wq_core.specs.Wiring.{Wiring, declared_by}
use Rattle.wq_core.specs.State.{Lane, State, run_by}

-- an execution of item i: a start, a finish, and for each declared flush a wait and its end
abbrev pub whole_work : Wiring → ℕ → ℕ
whole_work w i = 2 + 2 * length (declared_by w i)

-- how many of its waits are over, if it has made this many
abbrev pub waits_over : ℕ → Option Waiting → ℕ
waits_over made None = made
waits_over made (Some flush) = made - 1

-- what is left of a running entry: all of it except its start, the waits that it has
-- made, and the ends of those that are over
abbrev pub running_work : Wiring → Option Running → ℕ
running_work w None = 0
running_work w (Some r) = whole_work w r.entry.item - (1 + r.made + waits_over r.made r.waiting)

-- what is left on a lane
abbrev pub lane_work : Wiring → Lane → ℕ
lane_work w lane = sum_by (λ (e : Entry). whole_work w e.item) lane.pending
    + (running_work w lane.running + sum_by (running_work w) lane.helping)

-- what is left on all lanes
abbrev pub work_left : Wiring → State → ℕ
work_left w s = sum_by (lane_work w) s.lanes

-- how much less is left after what a context of the lane does: one step, or all that is left of what it finishes
abbrev pub deed_work : Wiring → Lane → ℕ → HelpStep → ℕ
deed_work w lane c (DoStart i) = 1
deed_work w lane c (DoWait b) = 1
deed_work w lane c (DoWaitAll b) = 1
deed_work w lane c (DoOver b) = 1
deed_work w lane c (DoOverAll b) = 1
deed_work w lane c (DoFinish i) = running_work w (run_by lane c)
