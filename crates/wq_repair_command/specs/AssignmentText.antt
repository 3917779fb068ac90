-- Assignment texts: workqueues with their items, of which some may have no rescuer, and with the names that they have.
use Rattle.std.specs.Prelude.{ℕ, Bool, false, cond, List, [], ◌∷◌, ◌++◌, map, flat_map, slice_index_or, codes, decimal}
use Rattle.std.specs.List.{range_with_len}
use Rattle.wq_items.specs.Table.{items_at}
use Rattle.wq_groups.specs.Assignment.{item_lanes}
use Rattle.wq_groups.specs.Partition.{Partition}
use Rattle.wq_core.specs.Workqueues.{Workqueues}
use Rattle.wq_text.specs.LineText.{spaced}
use Rattle.wq_cert.specs.PlanText.{name_of}

-- the first word of the line of a workqueue: it has no rescuer, or it has one
abbrev pub keyword : Bool → List ℕ
keyword bare = cond bare (codes "norescuer") (codes "wq")

-- the words of a line: `wq Q NAME..` or `norescuer Q NAME..`, with a workqueue's number and its items
abbrev pub lane_words : List (List ℕ) → ℕ → Bool → List ℕ → List (List ℕ)
lane_words names q bare items = keyword bare ∷ decimal q ∷ map (name_of names) items

-- how the name of a workqueue stands behind the words of its line: after two spaces, `#` and a space. Nothing stands
-- there if it has no name
abbrev pub name_comment : List ℕ → List ℕ
name_comment [] = []
name_comment (b ∷ name) = codes "  #" ++ spaced (b ∷ name)

-- the line of a workqueue with this number, these items and this name
abbrev pub named_line : List (List ℕ) → ℕ → Bool → List ℕ → List ℕ → List ℕ
named_line names q bare items name =
    keyword bare ++ (flat_map spaced (decimal q ∷ map (name_of names) items) ++ (name_comment name ++ (10 ∷ [])))

-- the line of workqueue q, with its items in declaration order
abbrev pub workqueue_text : List (List ℕ) → List ℕ → List Bool → List (List ℕ) → ℕ → List ℕ
workqueue_text names lane_of_item bare called q =
    named_line names q (slice_index_or bare q false) (items_at lane_of_item q) (slice_index_or called q [])

-- the text of workqueues of a declaration's groups, from workqueue 0 on; the names are those of the workqueues
abbrev pub assignment_text : List (List ℕ) → Partition → Workqueues → List (List ℕ) → List ℕ
assignment_text names p ws called =
    flat_map (workqueue_text names (item_lanes ws.assignment p.group_of) ws.bare called)
    (range_with_len 0 ws.assignment.lanes)
