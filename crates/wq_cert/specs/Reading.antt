-- Reading: what the lines of a certificate say, or the first fault. Within a line, that is the first row of "Refusals
-- of certificates" in docs/FORMAT.md that applies: the form (40), the numbers (43), an item that is on a workqueue
-- already (41), a group that is split (42). An item that is on no workqueue is a fault at no line (41), judged after
-- the last `wq` line.
use Rattle.std.specs.Prelude.{ℕ, zero, suc, ◌-◌, ◌==◌, ◌||◌, not, nat_le, nat_lt, if◌then◌else◌, Bool, true, false}
use Rattle.std.specs.Prelude.{List, [], ◌∷◌, ◌++◌, length, map, slice_index, unwrap_or, Option, Some, None, Result, Ok}
use Rattle.std.specs.Prelude.{Err, ok_or, bytes_eq, codes}
use Rattle.std.specs.List.{list_any, list_all, concat, position, range_with_len}
use Rattle.wq_items.specs.Building.{and_then}
use Rattle.wq_groups.specs.Partition.{Partition}
use Rattle.wq_groups.specs.Assignment.{Assignment, max_lanes}
use Rattle.wq_core.specs.Workqueues.{Workqueues, all_rescued}
use Rattle.wq_core.specs.declared.step.Step.{Step}
use Rattle.wq_core.specs.declared.step.Step.TheVariants.{Start, Wait, Over, WaitAll, OverAll, Finish, Help}
use Rattle.wq_cert.specs.declared.fault.CertError.{CertError}
use Rattle.wq_cert.specs.declared.fault.CertError.TheVariants.{BadCertLine, NotAllItems, GroupSplit, NumberOutOfRange}
use Rattle.wq_cert.specs.Certificate.{PlanCertificate, CircleCertificate, Certificate, OfPlan, OfCircle}
use Rattle.wq_cert.specs.Lines.{CertLine}
use Rattle.wq_cert.specs.Forms.{begins_with, count_form, wq_form, arc_form, step_form}

-- ---- one thing after the other

-- a value that is read, and the lines after it; or the first fault
abbrev pub Read : Type 0 → Type 0
Read V = Result (V × List CertLine) CertError

-- what follows a value and the lines after it
abbrev pub and_read : {V W : Type 0} → (V → List CertLine → Result W CertError) → Read V → Result W CertError
and_read {V} next r = and_then (λ (p : V × List CertLine). next p.0 p.1) r

-- the next line, read in this way; a text that ends before it ends too early, which is a fault at no line
abbrev pub next_line : {V : Type 0} → (CertLine → Result V CertError) → List CertLine → Read V
next_line read [] = Err (BadCertLine 0)
next_line read (line ∷ lines) = and_then (λ v. Ok (v, lines)) (read line)

-- this many lines, each read in this way
abbrev pub next_lines : {V : Type 0} → (CertLine → Result V CertError) → ℕ → List CertLine → Read (List V)
next_lines read zero lines = Ok ([], lines)
next_lines read (suc n) lines =
    and_read (λ v rest. and_read (λ vs after. Ok (v ∷ vs, after)) (next_lines read n rest)) (next_line read lines)

-- a value that no line follows
abbrev pub at_end : {V : Type 0} → V → List CertLine → Result V CertError
at_end v [] = Ok v
at_end v (line ∷ lines) = Err (BadCertLine line.no)

-- ---- lines

-- how many workqueues, groups or arcs a line may count
abbrev pub max_count : ℕ
max_count = 4096

-- `KEYWORD N`, where N is such a count
abbrev pub count_reading : List ℕ → CertLine → Result ℕ CertError
count_reading keyword line =
    and_then (λ n. if nat_lt max_count n then Err (NumberOutOfRange line.no) else Ok n)
    (ok_or (count_form keyword line.words) (BadCertLine line.no))

-- `arc NAME TARGET`
abbrev pub arc_reading : List (List ℕ) → CertLine → Result (ℕ × ℕ) CertError
arc_reading names line = ok_or (arc_form names line.words) (BadCertLine line.no)

-- the step names a workqueue above 4,095
abbrev pub names_far_lane : Step → Bool
names_far_lane (Start q i) = nat_lt 4095 q
names_far_lane (Wait q b) = nat_lt 4095 q
names_far_lane (Over q b) = nat_lt 4095 q
names_far_lane (WaitAll q b) = nat_lt 4095 q
names_far_lane (OverAll q b) = nat_lt 4095 q
names_far_lane (Finish q i) = nat_lt 4095 q
names_far_lane (Help q h deed) = nat_lt 4095 q
names_far_lane _ = false

-- the step that the line with this number says, if it says one and names no workqueue above 4,095
abbrev pub step_in_range : ℕ → Option Step → Result Step CertError
step_in_range n step =
    and_then (λ found. if names_far_lane found then Err (NumberOutOfRange n) else Ok found) (ok_or step (BadCertLine n))

-- a step
abbrev pub step_reading : List (List ℕ) → CertLine → Result Step CertError
step_reading names line = step_in_range line.no (step_form names line.words)

-- ---- workqueues

-- item i is in the list
abbrev pub stands_in : List ℕ → ℕ → Bool
stands_in items i = list_any (λ j. i == j) items

-- an item of the second list is in it twice, or is in the first one
abbrev pub has_stood : List ℕ → List ℕ → Bool
has_stood before [] = false
has_stood before (i ∷ items) = stands_in before i || has_stood (before ++ (i ∷ [])) items

-- an item of the list is in group g
abbrev pub holds_member : List ℕ → List ℕ → ℕ → Bool
holds_member group_of items g = list_any (λ i. slice_index group_of i == g) items

-- an item of the second list shares its group with one of the first; judged only if the two have no item in common
abbrev pub splits_group : List ℕ → List ℕ → List ℕ → Bool
splits_group group_of before items = list_any (λ i. holds_member group_of before (slice_index group_of i)) items

-- `wq Q NAME..`, where Q is the place of the workqueue, below 4,096: the items
abbrev pub wq_items : List (List ℕ) → ℕ → CertLine → Result (List ℕ) CertError
wq_items names place line =
    and_then (λ (p : ℕ × List ℕ). if not (p.0 == place) || nat_le max_lanes place then Err (NumberOutOfRange line.no)
    else Ok p.1)
    (ok_or (wq_form names line.words) (BadCertLine line.no))

-- the items on line n, given those on the lines before it: none of them is there already or in a group that is
abbrev pub fresh_items : List ℕ → List ℕ → ℕ → List ℕ → Result (List ℕ) CertError
fresh_items group_of before n items =
    if has_stood before items then Err (NotAllItems n)
    else (if splits_group group_of before items then Err (GroupSplit n) else Ok items)

-- the items on the next workqueue, given those on the workqueues before it. The form of a line is judged first, then
-- its number, which must be its place and below 4,096, then items that are there already, then groups that are split
abbrev pub wq_reading : List (List ℕ) → List ℕ → List (List ℕ) → CertLine → Result (List ℕ) CertError
wq_reading names group_of workqueues line =
    and_then (λ items. fresh_items group_of (concat workqueues) line.no items) (wq_items names (length workqueues) line)

-- this many workqueues after these
abbrev pub next_workqueues : List (List ℕ) → List ℕ → ℕ → List (List ℕ) → List CertLine → Read (List (List ℕ))
next_workqueues names group_of zero workqueues lines = Ok (workqueues, lines)
next_workqueues names group_of (suc n) workqueues lines =
    and_read (λ items rest.
    next_workqueues names group_of n (workqueues ++ (items ∷ [])) rest)
    (next_line (wq_reading names group_of workqueues) lines)

-- all workqueues after these: they end before the first line with another first word
abbrev pub all_workqueues : List (List ℕ) → List ℕ → List (List ℕ) → List CertLine → Read (List (List ℕ))
all_workqueues names group_of workqueues [] = Ok (workqueues, [])
all_workqueues names group_of workqueues (line ∷ lines) =
    if begins_with (codes "wq") line.words
    then and_then (λ items.
    all_workqueues names group_of (workqueues ++ (items ∷ [])) lines) (wq_reading names group_of workqueues line)
    else Ok (workqueues, line ∷ lines)

-- each of this many items is on a workqueue
abbrev pub hold_all : ℕ → List (List ℕ) → Bool
hold_all items workqueues = list_all (stands_in (concat workqueues)) (range_with_len 0 items)

-- the first workqueue that holds a member of group g, if one does
abbrev pub workqueue_with : List ℕ → List (List ℕ) → ℕ → Option ℕ
workqueue_with group_of workqueues g = position (λ items. holds_member group_of items g) workqueues

-- the workqueue of a group that has a member: the one that holds a member of it
abbrev pub workqueue_of_group : List ℕ → List (List ℕ) → ℕ → ℕ
workqueue_of_group group_of workqueues g = unwrap_or (workqueue_with group_of workqueues g) 0

-- the workqueues as an assignment
abbrev pub assignment_of : Partition → List (List ℕ) → Assignment
assignment_of p workqueues =
    record {
      lanes = length workqueues;
      lane_of_group = map (workqueue_of_group p.group_of workqueues) (range_with_len 0 p.groups);
    }

-- the assignment, if each item is on a workqueue; one that is on none is a fault at no line
abbrev pub whole_assignment : Partition → List (List ℕ) → Result Assignment CertError
whole_assignment p workqueues =
    if hold_all (length p.group_of) workqueues then Ok (assignment_of p workqueues) else Err (NotAllItems 0)

-- ---- texts

-- `chain N`, and N - 1 arcs, or none if N is 0: N and the arcs
abbrev pub chain_reading : List (List ℕ) → List CertLine → Result (ℕ × List (ℕ × ℕ)) CertError
chain_reading names lines =
    and_read (λ n behind_chain.
    and_read (λ arcs rest. at_end (n, arcs) rest) (next_lines (arc_reading names) (n - 1) behind_chain))
    (next_line (count_reading (codes "chain")) lines)

-- this many workqueues as an assignment
abbrev pub counted_assignment : List (List ℕ) → Partition → ℕ → List CertLine → Read Assignment
counted_assignment names p lanes lines =
    and_read (λ workqueues rest.
    and_then (λ assignment. Ok (assignment, rest)) (whole_assignment p workqueues))
    (next_workqueues names p.group_of lanes [] lines)

-- `plan K`, K workqueues, and a chain
abbrev pub plan_reading : List (List ℕ) → Partition → List CertLine → Result PlanCertificate CertError
plan_reading names p lines =
    and_read (λ lanes behind_plan.
    and_read (λ assignment behind_workqueues.
    and_then (λ (chain : ℕ × List (ℕ × ℕ)). Ok (record { assignment = assignment; length = chain.0; arcs = chain.1 }))
    (chain_reading names behind_workqueues))
    (counted_assignment names p lanes behind_plan))
    (next_line (count_reading (codes "plan")) lines)

-- `run M`, where M may be any number, and M steps
abbrev pub run_reading : List (List ℕ) → List CertLine → Result (List Step) CertError
run_reading names lines =
    and_read (λ m behind_run.
    and_read (λ steps rest. at_end steps rest)
    (next_lines (step_reading names) m behind_run))
    (next_line (λ line. ok_or (count_form (codes "run") line.words) (BadCertLine line.no)) lines)

-- the run after a circle, if there is one
abbrev pub run_after : List (List ℕ) → List CertLine → Result (Option (List Step)) CertError
run_after names [] = Ok None
run_after names (line ∷ lines) = and_then (λ steps. Ok (Some steps)) (run_reading names (line ∷ lines))

-- `circle N`, where N isn't 0
abbrev pub circle_count_reading : CertLine → Result ℕ CertError
circle_count_reading line =
    and_then (λ n. if n == 0 then Err (NumberOutOfRange line.no) else Ok n) (count_reading (codes "circle") line)

-- `circle N`, N arcs, and perhaps a run
abbrev pub circle_reading : List (List ℕ) → List CertLine → Result CircleCertificate CertError
circle_reading names lines =
    and_read (λ n behind_circle.
    and_read (λ arcs rest. and_then (λ steps. Ok (record { arcs = arcs; steps = steps })) (run_after names rest))
    (next_lines (arc_reading names) n behind_circle))
    (next_line circle_count_reading lines)

-- an answer: the text of a plan or of a circle, by its first word
abbrev pub answer_reading : List (List ℕ) → Partition → List CertLine → Result Certificate CertError
answer_reading names p [] = Err (BadCertLine 0)
answer_reading names p (line ∷ lines) =
    if begins_with (codes "circle") line.words
    then and_then (λ circle. Ok (OfCircle circle)) (circle_reading names (line ∷ lines))
    else and_then (λ plan. Ok (OfPlan plan)) (plan_reading names p (line ∷ lines))

-- an assignment by only `wq` lines
abbrev pub workqueues_reading : List (List ℕ) → Partition → List CertLine → Result Assignment CertError
workqueues_reading names p lines =
    and_read (λ workqueues rest. and_then (λ assignment. at_end assignment rest) (whole_assignment p workqueues))
    (all_workqueues names p.group_of [] lines)

-- whether the first word of all is `plan`
abbrev pub begins_plan : List CertLine → Bool
begins_plan [] = false
begins_plan (line ∷ lines) = begins_with (codes "plan") line.words

-- an assignment: a whole plan text if the first word is `plan`, else `wq` lines
abbrev pub assignment_reading : List (List ℕ) → Partition → List CertLine → Result Assignment CertError
assignment_reading names p lines =
    if begins_plan lines then and_then (λ (plan : PlanCertificate). Ok plan.assignment) (plan_reading names p lines)
    else workqueues_reading names p lines

-- ---- workqueues of which some may have no rescuer

-- the word, but `wq` for `norescuer` if the flag is set
abbrev pub wq_word : Bool → List ℕ → List ℕ
wq_word false word = word
wq_word true word = if bytes_eq word (codes "norescuer") then codes "wq" else word

-- the words, where `norescuer` as the first of them is read as `wq` if the flag is set
abbrev pub with_wq : Bool → List (List ℕ) → List (List ℕ)
with_wq bare [] = []
with_wq bare (word ∷ words) = wq_word bare word ∷ words

-- a line, with `wq` in place of `norescuer`
abbrev pub as_wq : CertLine → CertLine
as_wq line = record line { words = with_wq true line.words }

-- the line of a workqueue without a rescuer
abbrev pub is_bare_line : CertLine → Bool
is_bare_line line = begins_with (codes "norescuer") line.words

-- workqueues: a whole plan text if the first word is `plan`; otherwise `wq` and `norescuer` lines, each of which is
-- read like a `wq` line, but the workqueues of `norescuer` lines have no rescuer
abbrev pub lanes_reading : List (List ℕ) → Partition → List CertLine → Result Workqueues CertError
lanes_reading names p lines =
    if begins_plan lines
    then and_then (λ (plan : PlanCertificate). Ok (all_rescued plan.assignment)) (plan_reading names p lines)
    else and_then (λ (a : Assignment). Ok (record { assignment = a; bare = map is_bare_line lines }))
    (workqueues_reading names p (map as_wq lines))
