use Rattle.std.proofs.Common.{◌≡◌, ◌↔◌, length, ap, subst, ◌∙◌}
use Rattle.std.proofs.lemmas.List.FromFn.{length-range_with_len}
use Rattle.wq_groups.specs.Assignment.{Assignment}
use Rattle.wq_groups.specs.Declaration.{declaration_of}
use Rattle.wq_core.specs.Wiring.{wiring, own_lanes}
use Rattle.wq_core.specs.Deadlock.{DeadlocksBy}
use Rattle.wq_checker.specs.declared.run.RunEnd.TheVariants.{Deadlock}
use Rattle.wq_checker.proofs.RunEndLemmas.{EndsAs-deadlocks}
use Rattle.wq_checker.proofs.checking.deadlocks.Goals as goal

pub check_run-requires-clause-assigned : goal.check_run-requires-clause-assigned
check_run-requires-clause-assigned g c = ap (λ (a : Assignment). length a.lane_of_group) c.in_ok-assignment.ensures ∙ length-range_with_len 0 c.len.result ∙ c.len.ensures.len

pub returns : goal.returns
returns g c =
    let d = declaration_of c.args.table.now c.args.groups.now in
    let a = c.in_ok-assignment.assignment in
    let steps = c.args.steps.now in
    let same : a ≡ own_lanes c.args.groups.now.groups = c.in_ok-assignment.ensures ∙ ap own_lanes c.len.ensures.len in
    let is : (c.in_ok-end.end ≡ Deadlock) ↔ DeadlocksBy (wiring d (own_lanes d.groups)) steps =
    subst (λ (b : Assignment). (c.in_ok-end.end ≡ Deadlock) ↔ DeadlocksBy (wiring d b) steps) same (EndsAs-deadlocks (wiring d a) steps c.in_ok-end.end c.in_ok-end.ensures.end) in
    ((λ e. is.0 (c.is_deadlock.ensures.0 e)), (λ h. c.is_deadlock.ensures.1 (is.1 h)))
