-- The words of changes.
use Rattle.std.specs.Prelude.{ℕ, ◌-◌, nat_lt, if◌then◌else◌, List, decimal, length, slice_index}
use Rattle.wq_items.specs.Table.{items_at}
use Rattle.wq_core.specs.Workqueues.{Workqueues}
use Rattle.wq_groups.specs.DeclaredGroups.{Declared}
use Rattle.wq_names.specs.Messages.{a_new_one, if_it_stayed, if_it_stayed_if, is_given, moves, which_is_given}
use Rattle.wq_names.specs.Messages.{with_more, without_one, without_one_if}
use Rattle.wq_repair.specs.Changes.{lane_in}
use Rattle.wq_voice.specs.Reasons.{Lead}
use Rattle.wq_voice.specs.Words.{item_words, workqueue_words}
use Rattle.wq_changes.specs.declared.change.Change.{Change}
use Rattle.wq_changes.specs.declared.change.Change.TheVariants as change
use Rattle.wq_changes.specs.Changes.{is_bare}

-- the first item of group g
abbrev pub first_item : Declared → ℕ → ℕ
first_item s g = slice_index (items_at s.partition.group_of g) 0

-- how many items group g has
abbrev pub size_of : Declared → ℕ → ℕ
size_of s g = length (items_at s.partition.group_of g)

-- group g: its first item, and how many move with that one
abbrev pub group_words : Declared → ℕ → List ℕ
group_words s g =
    if nat_lt 1 (size_of s g) then with_more (item_words s (first_item s g)) (decimal (size_of s g - 1))
    else item_words s (first_item s g)

-- to which lane a group moves, and what is new about it
abbrev pub place_words : List (List ℕ) → Workqueues → ℕ → List ℕ
place_words names old q =
    if nat_lt q old.assignment.lanes
    then (if is_bare old q then which_is_given (workqueue_words names q) else workqueue_words names q)
    else a_new_one (workqueue_words names q)

-- a change: a lane is given a rescuer, or a group moves from one lane to another
abbrev pub change_words : Declared → List (List ℕ) → Workqueues → Workqueues → Change → List ℕ
change_words s names old new (change.Given q) = is_given (workqueue_words names q)
change_words s names old new (change.Moved g) =
    moves (group_words s g) (workqueue_words names (lane_in old g)) (place_words names old (lane_in new g))

-- before the waits by which workqueues hang without this change
abbrev pub lead_of : Change → Lead
lead_of (change.Given q) = (without_one, without_one_if)
lead_of (change.Moved g) = (if_it_stayed, if_it_stayed_if)
