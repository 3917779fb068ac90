-- What it means that a wait graph is ranked.
use Rattle.std.specs.Prelude.{List, length}
use Rattle.wq_items.specs.Chain.{HasCircle}
use Rattle.wq_graph.specs.declared.arc.WaitArc.{WaitArc}
use Rattle.wq_graph.specs.Graph.{HasArc}
use Rattle.wq_levels.specs.declared.ranked.Ranked.{Ranked}
use Rattle.wq_levels.specs.declared.ranked.Ranked.TheVariants as ranked
use Rattle.wq_levels.specs.Ranks.{AreRanks}
use Rattle.wq_levels.specs.Walks.{IsWalkedCircle}

-- the rank of each vertex if there is no circle, or else the circle of the walk
abbrev pub IsRanking : {A : Type 0} → List (List WaitArc) → Ranked A → Type 0
IsRanking graph (ranked.Ranks ranks) = AreRanks graph ranks.items × (¬ HasCircle (HasArc graph) (length graph))
IsRanking graph (ranked.Circle circle) = IsWalkedCircle graph circle.items
