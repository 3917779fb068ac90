-- A plan gives each group a workqueue, its lane: the number of groups on the longest
-- chain that begins at it, minus one.
use Rattle.std.specs.Prelude.{◌≡◌, ℕ, zero, suc, ◌+◌, ◌-◌, ◌<◌, ◌==◌, ◌&&◌, if◌then◌else◌, Bool, List, [], ◌∷◌, length}
use Rattle.std.specs.Prelude.{map, filter, max, min, Option, slice_index}
use Rattle.std.specs.List.{fold, find, range_with_len}
use Rattle.wq_items.specs.Readings.{is_among, unsure_places}
use Rattle.std.specs.Option.{option_map_or}
use Rattle.wq_items.specs.Chain.{IsRank}
use Rattle.wq_groups.specs.Declaration.{Declaration, GroupWaits}
use Rattle.wq_groups.specs.Assignment.{Assignment, group_lane}
use Rattle.wq_graph.specs.declared.arc.WaitArc.{WaitArc}
use Rattle.wq_graph.specs.Graph.{arcs_at, group_graph}

-- how many lanes there are: the greatest plus one, or 0 if there is no group
abbrev pub lanes_of : List ℕ → ℕ
lanes_of lane = fold (λ most l. max most (l + 1)) 0 lane

-- one lane for each group: the number of groups on a longest chain that begins there, minus one; and the number of
-- lanes is the greatest of these plus one, or 0 if there is no group
pub record IsPlan (d : Declaration) (a : Assignment) : Type 0 where
  pub one_each : length a.lane_of_group ≡ d.groups
  pub ranks : (g : ℕ) → g < d.groups → IsRank (GroupWaits d) g (group_lane a g)
  pub count : a.lanes ≡ lanes_of a.lane_of_group

-- the least of these numbers, or 0 if there is none
abbrev pub least_of : List ℕ → ℕ
least_of [] = 0
least_of (n ∷ ns) = fold min n ns

-- the fewest unsure flushes on a chain from a vertex down to lane 0, given how many lanes are below the vertex's and
-- which places have unsure flushes
abbrev pub least_doubts : (ℕ → Bool) → List (List WaitArc) → List ℕ → ℕ → ℕ → ℕ
least_doubts unsure graph lane zero v = 0
least_doubts unsure graph lane (suc below) v =
    least_of
    (map (λ (a : WaitArc). least_doubts unsure graph lane below a.head + (if unsure a.place then 1 else 0))
    (filter (λ (a : WaitArc). slice_index lane a.head == below) (arcs_at graph v)))

-- the arc leads from a vertex to one of the lane that has `below` lanes below it, on a chain with as few unsure flushes
-- as possible
abbrev pub leads_best : (ℕ → Bool) → List (List WaitArc) → List ℕ → ℕ → ℕ → WaitArc → Bool
leads_best unsure graph lane below v a =
    (slice_index lane a.head == below)
    && (least_doubts unsure graph lane below a.head + (if unsure a.place then 1 else 0)
    == least_doubts unsure graph lane (suc below) v)

-- the arcs from a vertex down to lane 0, given how many lanes are below the vertex's, with as few unsure flushes as
-- possible: each is the first such arc, in order of place; the list ends early if no arc leads one lane down, which
-- never happens in a plan
abbrev pub chain_from : (ℕ → Bool) → List (List WaitArc) → List ℕ → ℕ → ℕ → List WaitArc
chain_from unsure graph lane zero v = []
chain_from unsure graph lane (suc below) v =
    option_map_or (λ (a : WaitArc). a
    ∷ chain_from unsure graph lane below a.head)
    (find (leads_best unsure graph lane below v) (arcs_at graph v)) []

-- the vertices on the last lane
abbrev pub last_vertices : List ℕ → List ℕ
last_vertices lane = filter (λ v. slice_index lane v + 1 == lanes_of lane) (range_with_len 0 (length lane))

-- the vertex on the last lane from which a chain leads down with as few unsure flushes as possible, the lowest-numbered
-- one if there are several; none if there is no vertex
abbrev pub first_vertex : (ℕ → Bool) → List (List WaitArc) → List ℕ → Option ℕ
first_vertex unsure graph lane =
    find (λ v. least_doubts unsure graph lane (lanes_of lane - 1) v
    == least_of (map (least_doubts unsure graph lane (lanes_of lane - 1)) (last_vertices lane)))
    (last_vertices lane)

-- the arcs of a longest chain with as few unsure flushes as possible, from the lowest-numbered vertex on the last lane
-- from which there is one; none if there is no vertex
abbrev pub chain_of : (ℕ → Bool) → List (List WaitArc) → List ℕ → List WaitArc
chain_of unsure graph lane =
    option_map_or (λ first.
    chain_from unsure graph lane (lanes_of lane - 1) first) (first_vertex unsure graph lane) []

-- the chain of a declaration under an assignment of its groups
abbrev pub chain_of_plan : Declaration → List ℕ → List WaitArc
chain_of_plan d lane = chain_of (is_among (unsure_places d.waits)) (group_graph d) lane
