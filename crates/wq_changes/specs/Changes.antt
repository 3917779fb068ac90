-- Which changes there are: all of them, each once, in the order in which they are said.
use Rattle.std.specs.Prelude.{ℕ, ◌<◌, ◌==◌, ◌&&◌, ◌++◌, ⊤, not, Bool, false, List, filter, map, slice_index_or}
use Rattle.std.specs.List.{list_any, range_with_len}
use Rattle.wq_core.specs.Workqueues.{Workqueues}
use Rattle.wq_repair.specs.Changes.{lane_in}
use Rattle.wq_changes.specs.declared.change.Change.{Change}
use Rattle.wq_changes.specs.declared.change.Change.TheVariants as change

-- group g is on a lane of another number
abbrev pub has_moved : Workqueues → Workqueues → ℕ → Bool
has_moved old new g = not (lane_in new g == lane_in old g)

-- group g is on lane q, and was
abbrev pub stays_on : Workqueues → Workqueues → ℕ → ℕ → Bool
stays_on old new q g = (lane_in old g == q) && (lane_in new g == q)

-- lane q has no rescuer
abbrev pub is_bare : Workqueues → ℕ → Bool
is_bare ws q = slice_index_or ws.bare q false

-- lane q is given a rescuer: it had none, has one now, and one of the groups has stayed on it
abbrev pub is_given : ℕ → Workqueues → Workqueues → ℕ → Bool
is_given groups old new q =
    (is_bare old q && not (is_bare new q)) && list_any (stays_on old new q) (range_with_len 0 groups)

-- the lanes that are given a rescuer, and the groups that are on another lane, each by number
abbrev pub changes_of : ℕ → Workqueues → Workqueues → List Change
changes_of groups old new =
    map (λ q. change.Given q) (filter (is_given groups old new) (range_with_len 0 old.assignment.lanes))
    ++ map (λ g. change.Moved g) (filter (has_moved old new) (range_with_len 0 groups))

-- a change of a group below this number, or of a lane
abbrev pub IsOf : ℕ → Change → Type 0
IsOf groups (change.Moved g) = g < groups
IsOf groups (change.Given q) = ⊤
