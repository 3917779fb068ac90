use Rattle.std.proofs.Common.{◌≡◌, ℕ, List, map, ◌∙◌, sym, ap, subst, arith}
use Rattle.std.proofs.lemmas.Result.{IfOk-weaker}
use Rattle.wq_groups.specs.Assignment.{item_lanes}
use Rattle.wq_graph.specs.Graph.{group_graph}
use Rattle.wq_cert.specs.PlanText.{plan_text}
use Rattle.wq_plan.specs.Plan.{chain_of_plan}
use Rattle.wq_plan.specs.Solve.{IsPlanned}
use Rattle.wq_groups.specs.DeclaredGroups.{declared_waits, Declared}
use Rattle.wq_commands.specs.Answer.{ends_of}
use Rattle.wq_commands.proofs.AnswerLemmas.{ArePrintable-planned}
use Rattle.wq_commands.proofs.answer.text_of_plan.Goals as goal

pub plan_text-requires-clause-few : goal.plan_text-requires-clause-few
plan_text-requires-clause-few g c =
    let s : Declared = record { table = c.declared.inside.table; partition = c.declared.inside.groups } in
    let planned = subst (λ (d : Declared). IsPlanned (declared_waits d) c.args.assignment.now c.args.chain.now)
    (sym c.declared.view_is) c.requires.planned in
    let chain = c.deref.ensures.value ∙ c.in_ok-chain.ensures in
    omega (
      arith,
      (ArePrintable-planned s c.args.assignment.now c.args.chain.now _ c.declared.invariant planned
          chain).few,
    )

pub plan_text-requires-clause-items : goal.plan_text-requires-clause-items
plan_text-requires-clause-items g c =
    let s : Declared = record { table = c.declared.inside.table; partition = c.declared.inside.groups } in
    let planned = subst (λ (d : Declared). IsPlanned (declared_waits d) c.args.assignment.now c.args.chain.now)
    (sym c.declared.view_is) c.requires.planned in
    let chain = c.deref.ensures.value ∙ c.in_ok-chain.ensures in
    (ArePrintable-planned s c.args.assignment.now c.args.chain.now _ c.declared.invariant planned chain).items

pub returns : goal.returns
returns g c =
    let s = c.args.declared.now in
    let a = c.args.assignment.now in
    let arcs : c.deref.result.now ≡ map ends_of (chain_of_plan (declared_waits s) a.lane_of_group) =
    c.deref.ensures.value ∙ c.in_ok-chain.ensures ∙ ap (map ends_of) c.requires.planned.longest in
    IfOk-weaker c.plan_text.result _ _ (λ text printed. printed
    ∙ ap (λ (d : Declared). plan_text d.table.names a.lanes (item_lanes a d.partition.group_of) c.deref.result.now)
    c.declared.view_is
    ∙ ap (λ (l : List (ℕ × ℕ)). plan_text s.table.names a.lanes (item_lanes a s.partition.group_of) l) arcs)
    c.plan_text.ensures
