-- Reading workqueues that stay as they are: an assignment in which items may be missing, or the first fault. The rules
-- are those of "Planning around workqueues" in docs/FORMAT.md. Within a line they are those of an assignment.
use Rattle.std.specs.Prelude.{ℕ, ◌+◌, ◌||◌, not, nat_lt, if◌then◌else◌, Bool, false, List, [], length, map}
use Rattle.std.specs.Prelude.{slice_index, Result, Ok, Err, codes, Option}
use Rattle.std.specs.List.{list_all, concat, count_by, range_with_len}
use Rattle.wq_items.specs.Building.{and_then}
use Rattle.wq_groups.specs.Partition.{Partition}
use Rattle.wq_groups.specs.Assignment.{max_lanes}
use Rattle.wq_fixed.specs.Fixed.{Fixed, has_none}
use Rattle.wq_cert.specs.declared.fault.CertError.{CertError}
use Rattle.wq_cert.specs.declared.fault.CertError.TheVariants.{GroupSplit, NumberOutOfRange}
use Rattle.wq_cert.specs.Lines.{CertLine}
use Rattle.wq_cert.specs.Noted.{lanes_with}
use Rattle.wq_cert.specs.Reading.{and_read, next_line, at_end, count_reading, next_workqueues, all_workqueues}
use Rattle.wq_cert.specs.Reading.{stands_in, holds_member, chain_reading, begins_plan, as_wq, is_bare_line}
use Rattle.wq_cert.specs.Texts.{text_reading}

-- item i is on one of these workqueues if an item of its group is
abbrev pub is_with_its_group : List ℕ → List (List ℕ) → ℕ → Bool
is_with_its_group group_of workqueues i =
    stands_in (concat workqueues) i || not (holds_member group_of (concat workqueues) (slice_index group_of i))

-- the lanes of the groups that are on these workqueues, if each of them is whole there, and the workqueues and the
-- other groups aren't too many together; either is a fault at no line
abbrev pub part_lanes : Partition → List (List ℕ) → Result (List (Option ℕ)) CertError
part_lanes p workqueues =
    if not (list_all (is_with_its_group p.group_of workqueues) (range_with_len 0 (length p.group_of)))
    then Err (GroupSplit 0)
    else (if nat_lt max_lanes (length workqueues + count_by has_none (lanes_with p workqueues))
    then Err (NumberOutOfRange 0)
    else Ok (lanes_with p workqueues))

-- a whole plan text, in which no workqueue is bare
abbrev pub fixed_plan_reading : List (List ℕ) → Partition → List CertLine → Result Fixed CertError
fixed_plan_reading names p lines =
    and_read (λ n behind_plan.
    and_read (λ workqueues rest.
    and_then (λ lanes.
    and_then (λ _. Ok (record { lane_of_group = lanes; bare = map (λ _. false) workqueues }))
    (chain_reading names rest))
    (part_lanes p workqueues))
    (next_workqueues names p.group_of n [] behind_plan))
    (next_line (count_reading (codes "plan")) lines)

-- `wq` and `norescuer` lines, which are read alike; the workqueues of `norescuer` lines are bare
abbrev pub fixed_lines_reading : List (List ℕ) → Partition → List CertLine → Result Fixed CertError
fixed_lines_reading names p lines =
    and_read (λ workqueues rest.
    and_then (λ lanes. at_end (record { lane_of_group = lanes; bare = map is_bare_line lines }) rest)
    (part_lanes p workqueues))
    (all_workqueues names p.group_of [] (map as_wq lines))

-- a whole plan text if the first word is `plan`, else lines of workqueues alone
abbrev pub fixed_reading : List (List ℕ) → Partition → List CertLine → Result Fixed CertError
fixed_reading names p lines =
    if begins_plan lines then fixed_plan_reading names p lines else fixed_lines_reading names p lines

-- what the text of fixed workqueues says
abbrev pub fixed_of_text : List (List ℕ) → Partition → List ℕ → Result Fixed CertError
fixed_of_text names p text = text_reading (fixed_reading names p) text
