-- The words of waits that hold one another up: which item waits, for what, and why that makes no progress.
use Rattle.std.specs.Prelude.{◌==◌, if◌then◌else◌, ℕ, List, cond}
use Rattle.wq_core.specs.Workqueues.{Workqueues}
use Rattle.wq_deadlock.specs.Judging.{is_on_bare}
use Rattle.wq_hang.specs.declared.hop.Hop.{Hop}
use Rattle.wq_groups.specs.DeclaredGroups.{Declared}
use Rattle.wq_names.specs.Messages.{group_waits_for_all, group_waits_for_all_of_its_own, group_waits_for_behind}
use Rattle.wq_names.specs.Messages.{group_waits_for_behind_it, group_waits_for_itself, group_waits_for_next}
use Rattle.wq_names.specs.Messages.{has_no_rescuer, waits_for_all, waits_for_all_of_bare, waits_for_all_of_its_own}
use Rattle.wq_names.specs.Messages.{waits_for_bare, waits_for_behind, waits_for_behind_it, waits_for_itself}
use Rattle.wq_names.specs.Messages.{waits_for_next}
use Rattle.wq_diagnosis.specs.Words.{item_words, workqueue_of, workqueue_words}
use Rattle.wq_voice.specs.declared.waits.Wording.{Wording}
use Rattle.wq_voice.specs.declared.waits.Wording.TheVariants.{OfGroups, OnWorkqueues}

-- ---- on workqueues with these names

-- the workqueue of item i
abbrev pub home_words : Declared → Workqueues → List (List ℕ) → ℕ → List ℕ
home_words s ws names i = workqueue_words names (workqueue_of s ws i)

-- the workqueue of item i has no rescuer
abbrev pub bare_words : Declared → Workqueues → List (List ℕ) → ℕ → List ℕ
bare_words s ws names i = has_no_rescuer (home_words s ws names i)

-- an item waits for one on a workqueue without a rescuer, or for this whole workqueue
abbrev pub to_bare_words : Declared → Workqueues → List (List ℕ) → Hop → List ℕ
to_bare_words s ws names h =
    cond h.flush.whole
    (waits_for_all_of_bare (item_words s h.item) (home_words s ws names h.item) (item_words s h.flush.item)
    (home_words s ws names h.flush.item))
    (waits_for_bare (item_words s h.item) (home_words s ws names h.item) (item_words s h.flush.item)
    (home_words s ws names h.flush.item))

-- an item waits for a whole workqueue, on which an item waits
abbrev pub to_all_words : Declared → Workqueues → List (List ℕ) → Hop → List ℕ
to_all_words s ws names h =
    if h.next == h.item then waits_for_all_of_its_own (item_words s h.item) (home_words s ws names h.item)
    else waits_for_all (item_words s h.item) (home_words s ws names h.item) (home_words s ws names h.flush.item)
    (item_words s h.next)

-- an item waits for an item that waits, too
abbrev pub to_next_words : Declared → Workqueues → List (List ℕ) → Hop → List ℕ
to_next_words s ws names h =
    if h.next == h.item then waits_for_itself (item_words s h.item) (home_words s ws names h.item)
    else waits_for_next (item_words s h.item) (home_words s ws names h.item) (item_words s h.flush.item)
    (home_words s ws names h.flush.item)

-- an item waits for one behind the one that waits
abbrev pub to_behind_words : Declared → Workqueues → List (List ℕ) → Hop → List ℕ
to_behind_words s ws names h =
    if h.next == h.item
    then waits_for_behind_it (item_words s h.item) (home_words s ws names h.item) (item_words s h.flush.item)
    else waits_for_behind (item_words s h.item) (home_words s ws names h.item) (item_words s h.flush.item)
    (item_words s h.next) (home_words s ws names h.flush.item)

-- which item waits, and for what: for all of a workqueue, or for the item that waits next, or for an item that is
-- queued behind that one
abbrev pub wait_words : Declared → Workqueues → List (List ℕ) → Hop → List ℕ
wait_words s ws names h =
    if is_on_bare ws s.partition.group_of h.flush.item then to_bare_words s ws names h
    else if h.flush.whole then to_all_words s ws names h
    else if h.flush.item == h.next then to_next_words s ws names h
    else to_behind_words s ws names h

-- ---- of groups, whatever their workqueues

-- an item waits for a whole workqueue, on which an item waits
abbrev pub group_to_all_words : Declared → Hop → List ℕ
group_to_all_words s h =
    if h.next == h.item then group_waits_for_all_of_its_own (item_words s h.item)
    else group_waits_for_all (item_words s h.item) (item_words s h.flush.item) (item_words s h.next)

-- an item waits for an item that waits, too
abbrev pub group_to_next_words : Declared → Hop → List ℕ
group_to_next_words s h =
    if h.next == h.item then group_waits_for_itself (item_words s h.item)
    else group_waits_for_next (item_words s h.item) (item_words s h.flush.item)

-- an item waits for one behind the one that waits, since both are `ordered`
abbrev pub group_to_behind_words : Declared → Hop → List ℕ
group_to_behind_words s h =
    if h.next == h.item then group_waits_for_behind_it (item_words s h.item) (item_words s h.flush.item)
    else group_waits_for_behind (item_words s h.item) (item_words s h.flush.item) (item_words s h.next)

-- which group waits, and for what
abbrev pub group_wait_words : Declared → Hop → List ℕ
group_wait_words s h =
    if h.flush.whole then group_to_all_words s h
    else if h.flush.item == h.next then group_to_next_words s h
    else group_to_behind_words s h

-- ---- either

-- the words of a wait in this wording
abbrev pub words_of : Wording → Declared → Workqueues → List (List ℕ) → Hop → List ℕ
words_of OnWorkqueues s ws names h = wait_words s ws names h
words_of OfGroups s ws names h = group_wait_words s h
