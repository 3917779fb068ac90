-- What `run` prints of a plan that was run.
use Rattle.std.specs.Prelude.{ℕ, List, [], ◌∷◌, ◌++◌, length, map, flat_map, codes, decimal}
use Rattle.std.specs.List.{range_with_len}
use Rattle.wq_groups.specs.Assignment.{Assignment, item_lane}
use Rattle.wq_counts.specs.declared.kind.Kind.{Kind}
use Rattle.wq_counts.specs.declared.kind.Kind.TheVariants.{Queue, Cancel, Finish}
use Rattle.wq_text.specs.LineText.{line_text}
use Rattle.wq_cert.specs.PlanText.{name_of}
use Rattle.wq_groups.specs.DeclaredGroups.{Declared}

-- `workqueues K`
abbrev pub workqueues_line : ℕ → List (List ℕ)
workqueues_line lanes = codes "workqueues" ∷ decimal lanes ∷ []

-- `queued N cancelled N finished N`: how many of its queueings were accepted, how many of its entries were removed, and
-- how many ran; `count` gives the number of each kind
abbrev pub kind_count_words : (Kind → ℕ) → List (List ℕ)
kind_count_words count =
    codes "queued" ∷ decimal (count Queue) ∷ codes "cancelled" ∷ decimal (count Cancel) ∷ codes "finished"
    ∷ decimal (count Finish) ∷ []

-- `item NAME wq Q queued N cancelled N finished N`: item i, its workqueue and its counts
abbrev pub item_line : Declared → Assignment → (ℕ → Kind → ℕ) → ℕ → List (List ℕ)
item_line s a count i =
    codes "item" ∷ name_of s.table.names i ∷ codes "wq" ∷ decimal (item_lane a s.partition.group_of i)
    ∷ kind_count_words (count i)

-- `faults N`: how many executions ended with a fault of their body
abbrev pub faults_line : ℕ → List (List ℕ)
faults_line faults = codes "faults" ∷ decimal faults ∷ []

-- the lines, as words: `workqueues`, an `item` line for each item, `faults`
abbrev pub report_lines : Declared → Assignment → (ℕ → Kind → ℕ) → ℕ → List (List (List ℕ))
report_lines s a count faults =
    workqueues_line a.lanes
    ∷ (map (item_line s a count) (range_with_len 0 (length s.table.names)) ++ (faults_line faults ∷ []))

-- the text of these lines
abbrev pub report_text : Declared → Assignment → (ℕ → Kind → ℕ) → ℕ → List ℕ
report_text s a count faults = flat_map line_text (report_lines s a count faults)
