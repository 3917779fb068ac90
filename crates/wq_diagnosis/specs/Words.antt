-- Words for items and workqueues.
use Rattle.std.specs.Prelude.{◌==◌, if◌then◌else◌, ℕ, List, [], decimal, length, slice_index_or}
use Rattle.wq_groups.specs.Assignment.{item_lane}
use Rattle.wq_core.specs.Workqueues.{Workqueues}
use Rattle.wq_cert.specs.PlanText.{name_of}
use Rattle.wq_groups.specs.DeclaredGroups.{Declared}
use Rattle.wq_names.specs.Messages.{a_workqueue, an_item, its_name}

-- the name of a workqueue as it is written after its number, if it has a name
abbrev pub name_words : List ℕ → List ℕ
name_words name = if length name == 0 then [] else its_name name

-- a workqueue: `workqueue Q (NAME)`, or `workqueue Q` if it has no name
abbrev pub workqueue_words : List (List ℕ) → ℕ → List ℕ
workqueue_words names q = a_workqueue (decimal q) (name_words (slice_index_or names q []))

-- the workqueue of item i
abbrev pub workqueue_of : Declared → Workqueues → ℕ → ℕ
workqueue_of s ws i = item_lane ws.assignment s.partition.group_of i

-- an item
abbrev pub item_words : Declared → ℕ → List ℕ
item_words s i = an_item (name_of s.table.names i)
