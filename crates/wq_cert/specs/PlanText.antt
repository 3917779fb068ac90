-- Plan texts: the workqueues with their items, and a waiting chain. A chain is given as the list of its arcs, each a
-- pair of an item and the target that it flushes.
use Rattle.std.specs.Prelude.{ℕ, ◌+◌, ◌==◌, List, [], ◌∷◌, ◌++◌, length, map, flat_map, slice_index_or, codes, decimal}
use Rattle.std.specs.Prelude.{if◌then◌else◌}
use Rattle.std.specs.List.{range_with_len}
use Rattle.wq_items.specs.Table.{items_at}
use Rattle.wq_text.specs.LineText.{line_text}

-- the name of an item
abbrev pub name_of : List (List ℕ) → ℕ → List ℕ
name_of names i = slice_index_or names i []

-- `plan K`
abbrev pub plan_line : ℕ → List (List ℕ)
plan_line lanes = codes "plan" ∷ decimal lanes ∷ []

-- `wq Q NAME..`, with a workqueue's number and its items
abbrev pub workqueue_line : List (List ℕ) → ℕ × List ℕ → List (List ℕ)
workqueue_line names workqueue = codes "wq" ∷ decimal workqueue.0 ∷ map (name_of names) workqueue.1

-- the line of workqueue q, with its items in declaration order
abbrev pub wq_line : List (List ℕ) → List ℕ → ℕ → List (List ℕ)
wq_line names lane_of_item q = workqueue_line names (q, items_at lane_of_item q)

-- `chain N`: how many groups the chain of these arcs has, one more than there are arcs, or 0 if there is no workqueue
abbrev pub chain_line : ℕ → List (ℕ × ℕ) → List (List ℕ)
chain_line lanes arcs = codes "chain" ∷ decimal (if lanes == 0 then 0 else length arcs + 1) ∷ []

-- `arc NAME TARGET`, with the names of the arc's item and target
abbrev pub arc_line : List (List ℕ) → ℕ × ℕ → List (List ℕ)
arc_line names arc = codes "arc" ∷ name_of names arc.0 ∷ name_of names arc.1 ∷ []

-- the lines of a plan text, as words: `plan`, a `wq` line for each workqueue,
-- `chain`, an `arc` line for each arc of the chain
abbrev pub plan_lines : List (List ℕ) → ℕ → List ℕ → List (ℕ × ℕ) → List (List (List ℕ))
plan_lines names lanes lane_of_item arcs =
    plan_line lanes
    ∷ (map (wq_line names lane_of_item) (range_with_len 0 lanes)
    ++ (chain_line lanes arcs ∷ map (arc_line names) arcs))

-- the plan text
abbrev pub plan_text : List (List ℕ) → ℕ → List ℕ → List (ℕ × ℕ) → List ℕ
plan_text names lanes lane_of_item arcs = flat_map line_text (plan_lines names lanes lane_of_item arcs)
