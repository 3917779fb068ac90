-- The flushes of a circle of groups: few, and each of an item.
use Rattle.std.proofs.Common.{◌≡◌, ◌<◌, Bool, List, length, get_or, arith}
use Rattle.std.proofs.lemmas.List.Elements.{All-contains}
use Rattle.std.proofs.lemmas.List.FromFn.{length-map-range_with_len}
use Rattle.wq_items.specs.Table.{ItemWaits}
use Rattle.wq_items.proofs.Tables.{ItemWaits-below}
use Rattle.wq_groups.specs.Declaration.{Declaration, IsDeclaration}
use Rattle.wq_graph.specs.declared.arc.WaitArc.{WaitArc}
use Rattle.wq_graph.specs.Graph.{arcs_at, arcs_from, group_graph, without, IsArc}
use Rattle.wq_graph.proofs.Arcs.{src-below}
use Rattle.wq_graph.proofs.Graphs.{AreArcsFrom-group_graph}
use Rattle.wq_graph.proofs.LeavingOut.{Contains-without, length-without}
use Rattle.wq_levels.specs.Walks.{IsWalkedCircle, LeadsRound}
use Rattle.wq_levels.proofs.Walks.{LeadsRound-walked}
use Rattle.wq_levels.proofs.OneCircle.{IsWalkedCircle-few}
use Rattle.wq_circles.specs.ComponentsText.{AreBetween}

module _ (d : Declaration) (declaration : IsDeclaration d) where
  joins : (b : WaitArc) → IsArc d.waits d.group_of b → (b.src < length d.group_of) × (b.dst < length d.group_of)
  joins b arc =
      let t = arc.declared in
      let waits : ItemWaits d.waits b.src b.dst = (t.0, t.1, t.2, t.3, t.4.0) in
      (omega (arith, src-below d.waits d.group_of b arc, declaration.one_list_each), ItemWaits-below (length d.group_of) d.waits declaration.targets_are_items b.src b.dst waits)

  pub AreBetween-walked : (out : List Bool) (circle : List WaitArc) → IsWalkedCircle (without out (group_graph d)) circle → AreBetween (length d.group_of) circle
  AreBetween-walked out circle walked =
      let round : LeadsRound (without out (group_graph d)) circle = LeadsRound-walked (without out (group_graph d)) circle walked in
      let few = IsWalkedCircle-few (without out (group_graph d)) circle walked in (
        omega (arith, few, length-without out (group_graph d), length-map-range_with_len (arcs_from d.waits d.group_of) 0 d.groups, declaration.partition.few_groups, declaration.partition.few_items),
        λ k e within.
            let v = get_or round.left k 0 in
            let there = Contains-without out (group_graph d) v (get_or circle k e) (round.leaves k e within) in
            let own = All-contains (λ (b : WaitArc). IsArc d.waits d.group_of b × (get_or d.group_of b.src 0 ≡ v)) (arcs_at (group_graph d) v) (get_or circle k e) (AreArcsFrom-group_graph d declaration v).declared there.2 in
            joins (get_or circle k e) own.0,
      )
