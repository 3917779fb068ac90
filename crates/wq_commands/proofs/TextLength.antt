-- How long a printed text and its lines can be at most.
use Rattle.std.proofs.Common.{◌≡◌, ℕ, ◌≤◌, List, length, map, Some, refl, ◌∙◌, arith}
use Rattle.std.specs.List.{All}
use Rattle.std.proofs.lemmas.List.{length-map}
use Rattle.wq_text.specs.Lines.{lines_of}
use Rattle.wq_text.proofs.LimitLaws.{IsShort}
use Rattle.wq_groups.specs.Assignment.{Assignment, group_lane, item_lanes}
use Rattle.wq_graph.specs.declared.arc.WaitArc.{WaitArc}
use Rattle.wq_graph.specs.Graph.{group_graph}
use Rattle.wq_levels.specs.Walks.{IsWalkedCircle}
use Rattle.wq_plan.specs.Plan.{IsPlan, chain_of_plan}
use Rattle.wq_plan.proofs.Plans.{IsPlan-lanes}
use Rattle.wq_core.specs.declared.step.Step.{Step}
use Rattle.wq_core.specs.Wiring.{wiring, own_lanes}
use Rattle.wq_core.specs.Deadlock.{DeadlocksBy}
use Rattle.wq_cert.proofs.PrintedCircles.{IsShort-circle}
use Rattle.wq_cert.proofs.PrintedPlans.{length-plan_text-most, IsShort-plan}
use Rattle.wq_cert.proofs.TextLength.{length-circle_text}
use Rattle.wq_deadlock.specs.CircleRun.{IsCircleRun}
use Rattle.wq_groups.specs.DeclaredGroups.{declared_waits, Declared}
use Rattle.wq_commands.specs.Answer.{ends_of, text_of_plan, text_of_circle}
use Rattle.wq_commands.proofs.AnswerLemmas.{IsSound, IsDeclaration-sound, ArePrintable, ArePrintable-plan, IsWalkedCircle-short, ArePrintable-walked}
use Rattle.wq_commands.proofs.CircleRuns.{DeadlocksBy-own_lanes, IsAssignmentOf-own_lanes}
use Rattle.wq_commands.proofs.NamedSteps.{IsStepOf-deadlock, length-deadlock}

module _ (s : Declared) (sound : IsSound s) where
  -- ---- a plan of what a text declares

  module _ (a : Assignment) (plan : IsPlan (declared_waits s) a) where
    abbrev chain : List (ℕ × ℕ)
    chain = map ends_of (chain_of_plan (declared_waits s) a.lane_of_group)

    arcs : ArePrintable s.table chain
    arcs = ArePrintable-plan s a sound plan

    few : a.lanes ≤ 4096
    few =
        let is = IsDeclaration-sound s sound in
        let lanes : a.lanes ≤ s.partition.groups = IsPlan-lanes (declared_waits s) is a plan in
        omega (arith, lanes, is.partition.few_groups, is.partition.few_items)

    one_each : length (item_lanes a s.partition.group_of) ≡ length s.table.names
    one_each = length-map s.partition.group_of (group_lane a) ∙ sound.one_group_each

    pub length-planned : length (text_of_plan s a) ≤ 8388608
    length-planned = length-plan_text-most s.table sound.table a.lanes (item_lanes a s.partition.group_of) chain one_each few arcs.few

    pub IsShort-planned : All (IsShort 524288) (lines_of (text_of_plan s a))
    IsShort-planned = IsShort-plan s.table sound.table a.lanes (item_lanes a s.partition.group_of) chain one_each few arcs.few arcs.items

  -- ---- a circle of it with its run

  module _ (circle : List WaitArc) (steps : List Step) (walked : IsWalkedCircle (group_graph (declared_waits s)) circle)
      (is_run : IsCircleRun (wiring (declared_waits s) (own_lanes s.partition.groups)) circle steps) where
    ends : ArePrintable s.table (map ends_of circle)
    ends = ArePrintable-walked s circle (map ends_of circle) sound walked refl

    deadlocks : DeadlocksBy (wiring (declared_waits s) (own_lanes s.partition.groups)) steps
    deadlocks = DeadlocksBy-own_lanes s sound circle steps walked is_run

    pub few_lines : (length circle ≤ 4096) × (length steps ≤ 45056)
    few_lines = (IsWalkedCircle-short s circle sound walked, length-deadlock s sound (own_lanes s.partition.groups) (IsAssignmentOf-own_lanes s sound) steps deadlocks)

    pub length-circled : length (text_of_circle s circle steps) ≤ 8388608
    length-circled =
        let few : length steps ≤ 65536 = omega (arith, length-deadlock s sound (own_lanes s.partition.groups) (IsAssignmentOf-own_lanes s sound) steps deadlocks) in
        length-circle_text s.table.names sound.table.named (map ends_of circle) (Some steps) ends.few (IsStepOf-deadlock s sound (own_lanes s.partition.groups) (IsAssignmentOf-own_lanes s sound) steps deadlocks) few

    pub IsShort-circled : All (IsShort 524288) (lines_of (text_of_circle s circle steps))
    IsShort-circled = IsShort-circle s.table sound.table (map ends_of circle) (Some steps) ends.few ends.items (IsStepOf-deadlock s sound (own_lanes s.partition.groups) (IsAssignmentOf-own_lanes s sound) steps deadlocks) length-circled
