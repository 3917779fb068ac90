-- Which unsure flushes have to be so, so that as many workqueues are needed as for all flushes.
use Rattle.std.specs.Prelude.{ℕ, List, map}
use Rattle.wq_groups.specs.Declaration.{Declaration}
use Rattle.wq_groups.specs.Assignment.{Assignment}
use Rattle.wq_graph.specs.declared.arc.WaitArc.{WaitArc}
use Rattle.wq_plan.specs.Plan.{chain_of_plan}
use Rattle.wq_plan.specs.LongestChain.{unsure_arcs}

-- the places of the unsure flushes along the chain that is printed for a plan
abbrev pub chain_doubts : Declaration → Assignment → List ℕ
chain_doubts d plan = map (λ (arc : WaitArc). arc.place) (unsure_arcs d (chain_of_plan d plan.lane_of_group))
