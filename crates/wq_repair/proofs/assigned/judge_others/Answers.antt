use Rattle.std.proofs.Common.{subst}
use Rattle.std.specs.Prelude.{IfOk}
use Rattle.wq_groups.specs.DeclaredGroups.{declared_waits}
use Rattle.wq_core.specs.Assigned.{Assigned}
use Rattle.wq_deadlock.specs.Judging.{IsJudged}
use Rattle.wq_repair.proofs.assigned.judge_others.Goals as goal

pub returns : goal.returns
returns g c =
    subst (λ (b : Assigned). IfOk c.judge.result (IsJudged (declared_waits b.declared) b.workqueues))
    c.with_workqueues-others.ensures c.judge.ensures.verdict
