use Rattle.std.proofs.Common.{ℕ, ◌<◌}
use Rattle.wq_deadlock.specs.Stuck.{IsKnown}
use Rattle.wq_deadlock.proofs.KnownStuck.{KnowsStuck}
use Rattle.wq_deadlock.proofs.Onward.{IsPlaying, play_left}
use Rattle.wq_deadlock.proofs.playing.play.Given as goal

abbrev pub invariant-loop-q : goal.invariant-loop-q
invariant-loop-q g l = record {
  playing : IsPlaying l.fn.core l.core l.steps.items;
  stuck : KnowsStuck l.core.wiring l.core.state l.stuck;
  known : (p : ℕ) → p < l.q → IsKnown l.stuck p;
}

abbrev pub decreases-loop-q : goal.decreases-loop-q
decreases-loop-q g l = play_left l.core l.lanes l.q
