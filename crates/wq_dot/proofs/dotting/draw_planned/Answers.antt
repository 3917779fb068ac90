use Rattle.std.proofs.Common.{length, map, sym, ap, subst, ◌∙◌}
use Rattle.std.specs.Prelude.{IfOk}
use Rattle.wq_core.specs.Workqueues.{Workqueues}
use Rattle.wq_plan.specs.Solve.{IsPlanned}
use Rattle.wq_groups.specs.DeclaredGroups.{declared_waits}
use Rattle.wq_core.specs.Assigned.{Assigned}
use Rattle.wq_dot.specs.Dotting.{DrawsPlan}
use Rattle.wq_dot.proofs.dotting.draw_planned.Goals as goal

pub new-assigned-requires : goal.new-assigned-requires
new-assigned-requires g c =
    ap (λ (ws : Workqueues). length ws.assignment.lane_of_group) c.new-workqueues.ensures ∙ c.requires.plan.one_each

pub draw_plan-requires-clause-planned : goal.draw_plan-requires-clause-planned
draw_plan-requires-clause-planned g c =
    let made =
    c.new-assigned.ensures
    ∙ ap (λ (ws : Workqueues). record { declared = c.args.declared.now; workqueues = ws }) c.new-workqueues.ensures in
    subst (λ (a : Assigned). IsPlanned (declared_waits a.declared) a.workqueues.assignment c.args.chain.now) (sym made)
    c.requires

pub draw_plan-requires-clause-rescued : goal.draw_plan-requires-clause-rescued
draw_plan-requires-clause-rescued g c =
    ap (λ (a : Assigned). a.workqueues.bare) c.new-assigned.ensures
    ∙ ap (λ (ws : Workqueues). ws.bare) c.new-workqueues.ensures ∙ c.new.ensures.items

pub returns : goal.returns
returns g c =
    subst (λ (a : Assigned). IfOk c.draw_plan.result
    (λ text. DrawsPlan a.declared (map (λ v. v.now) c.args.comments.now) text.items)) c.new-assigned.ensures
    c.draw_plan.ensures
