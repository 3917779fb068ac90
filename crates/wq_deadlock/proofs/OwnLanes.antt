-- The assignment in which each group has a lane of its own.
use Rattle.std.proofs.Common.{◌≡◌, ℕ, ◌+◌, ◌<◌, List, length, get_or, ap, ◌∙◌, arith}
use Rattle.std.specs.List.{range_with_len}
use Rattle.std.proofs.lemmas.List.{length-map, get_or-map, ext_get_or}
use Rattle.std.proofs.lemmas.List.FromFn.{length-range_with_len, get_or-range_with_len}
use Rattle.wq_groups.specs.Declaration.{Declaration, IsDeclaration}
use Rattle.wq_groups.specs.Assignment.{Assignment, IsAssignment, group_lane, item_lanes}
use Rattle.wq_graph.specs.Graph.{graph_of, group_graph, lane_graph}
use Rattle.wq_items.proofs.Lists.{range_with_len-below}
use Rattle.wq_core.specs.Wiring.{own_lanes}

pub IsAssignment-own_lanes : (n : ℕ) → IsAssignment n (own_lanes n)
IsAssignment-own_lanes n = record { one_each = length-range_with_len 0 n; within = range_with_len-below n }

-- an assignment with these lanes is that one
pub same_own_lanes : (a : Assignment) (n : ℕ) → a.lanes ≡ n → a.lane_of_group ≡ range_with_len 0 n → a ≡ own_lanes n
same_own_lanes a n lanes groups =
    ap (λ (m : ℕ). record { lanes = m; lane_of_group = a.lane_of_group }) lanes ∙ ap (λ (l : List ℕ). record { lanes = n; lane_of_group = l }) groups

-- its lanes are the groups
item_lanes-own_lanes : (d : Declaration) → IsDeclaration d → item_lanes (own_lanes d.groups) d.group_of ≡ d.group_of
item_lanes-own_lanes d declaration =
    let size : length (item_lanes (own_lanes d.groups) d.group_of) ≡ length d.group_of = length-map d.group_of (group_lane (own_lanes d.groups)) in
    ext_get_or 0 (item_lanes (own_lanes d.groups) d.group_of) d.group_of size (λ i fits.
    let item : i < length d.group_of = omega arith in
    let group : get_or d.group_of i 0 < d.groups = declaration.partition.within i 0 item in
    let own : get_or (range_with_len 0 d.groups) (get_or d.group_of i 0) 0 ≡ 0 + get_or d.group_of i 0 = get_or-range_with_len 0 d.groups (get_or d.group_of i 0) 0 group in
    get_or-map (group_lane (own_lanes d.groups)) d.group_of i 0 0 item ∙ omega (arith, own)
    )

pub lane_graph-own_lanes : (d : Declaration) → IsDeclaration d → lane_graph d (own_lanes d.groups) ≡ group_graph d
lane_graph-own_lanes d declaration = ap (λ (vertex_of : List ℕ). graph_of d.waits vertex_of d.groups) (item_lanes-own_lanes d declaration)
