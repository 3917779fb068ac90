-- A circle of groups that need a rescuer is one of groups: it can be printed, and has a run in which each group has its own lane.
use Rattle.std.proofs.Common.{◌≡◌, ℕ, ◌≤◌, List, length, map, get_or, slice_index, refl, arith}
use Rattle.std.specs.List.{All}
use Rattle.std.proofs.lemmas.List.Elements.{All-contains}
use Rattle.std.proofs.lemmas.List.FromFn.{length-map-range_with_len}
use Rattle.wq_groups.specs.Declaration.{Declaration, IsDeclaration}
use Rattle.wq_graph.specs.declared.arc.WaitArc.{WaitArc}
use Rattle.wq_graph.specs.Graph.{IsArc, arcs_at, arcs_from, group_graph, without}
use Rattle.wq_graph.proofs.Graphs.{AreArcsFrom-group_graph}
use Rattle.wq_graph.proofs.LeavingOut.{length-without, Contains-without}
use Rattle.wq_levels.specs.Walks.{LeadsRound}
use Rattle.wq_levels.proofs.OneCircle.{IsWalkedCircle-few}
use Rattle.wq_levels.proofs.Walks.{LeadsRound-walked}
use Rattle.wq_core.specs.declared.step.Step.{Step}
use Rattle.wq_core.specs.Wiring.{wiring, own_lanes}
use Rattle.wq_core.specs.Deadlock.{DeadlocksBy}
use Rattle.wq_core.specs.Workqueues.{Workqueues}
use Rattle.wq_deadlock.specs.CircleRun.{IsCircleRun}
use Rattle.wq_deadlock.proofs.CircleRuns.{DeadlocksBy-groups}
use Rattle.wq_repair.specs.Repair.{IsNeededCircle}
use Rattle.wq_groups.specs.DeclaredGroups.{declared_waits, Declared}
use Rattle.wq_commands.specs.Answer.{ends_of}
use Rattle.wq_commands.proofs.AnswerLemmas.{IsSound, IsDeclaration-sound, ArePrintable, printable}

module _ (s : Declared) (sound : IsSound s) (old : Workqueues) (circle : List WaitArc) (needed : IsNeededCircle (declared_waits s) old circle) where
  abbrev d : Declaration
  d = declared_waits s

  is : IsDeclaration d
  is = IsDeclaration-sound s sound

  abbrev graph : List (List WaitArc)
  graph = without needed.out (group_graph d)

  -- its arcs are those of all groups, and lead round
  pub LeadsRound-needed : LeadsRound (group_graph d) circle
  LeadsRound-needed =
      let round = LeadsRound-walked graph circle needed.walked in
      record {
        some = round.some;
        left = round.left;
        one_each = round.one_each;
        leaves = λ k e fits.
            let v = slice_index round.left k in
            (Contains-without needed.out (group_graph d) v (get_or circle k e) (round.leaves k e fits)).2;
        joined = round.joined;
        closes = round.closes;
        once = round.once;
      }

  pub DeadlocksBy-needed : (steps : List Step) → IsCircleRun (wiring d (own_lanes s.partition.groups)) circle steps
      → DeadlocksBy (wiring d (own_lanes s.partition.groups)) steps
  DeadlocksBy-needed = DeadlocksBy-groups d is circle LeadsRound-needed

  -- each arc is that of a declared flush
  declared : All (IsArc d.waits d.group_of) circle
  declared k e fits =
      let v = slice_index LeadsRound-needed.left k in
      (All-contains (λ (a : WaitArc). IsArc d.waits d.group_of a × (slice_index d.group_of a.src ≡ v))
      (arcs_at (group_graph d) v) (get_or circle k e) (AreArcsFrom-group_graph d is v).declared
      (LeadsRound-needed.leaves k e fits)).0

  short : length circle ≤ 4096
  short =
      let few : length circle ≤ length graph = IsWalkedCircle-few graph circle needed.walked in
      omega (arith, few, length-without needed.out (group_graph d), length-map-range_with_len (arcs_from d.waits d.group_of) 0 d.groups, is.partition.few_groups, is.partition.few_items)

  pub ArePrintable-needed : (ends : List (ℕ × ℕ)) → ends ≡ map ends_of circle → ArePrintable s.table ends
  ArePrintable-needed ends same = printable s circle ends sound short declared same
