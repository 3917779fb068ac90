-- Counting: how many rows there are of an item or a lane, of a kind and with an answer.
--
-- Every row is counted except those of starts, which no seat counts. A row of a helper's step counts as that of the
-- same step of the rescuer. A row of a wait, or of its end, counts for the item that is waited for or, if a whole lane
-- is waited for, for the item that names the lane. A caller's ask about a whole lane, and the end of its wait, count
-- for the lane. Counts stand in slots: slot n holds those of item n and those of lane n.
use Rattle.std.specs.Prelude.{◌≡◌, ℕ, ◌+◌, ◌*◌, ◌<◌, ◌==◌, ◌&&◌, Option, Some, None, option_map, is_some, Bool, true}
use Rattle.std.specs.Prelude.{false, List, length, slice_index, slice_set}
use Rattle.std.specs.List.{All, count_by}
use Rattle.wq_core.specs.declared.step.HelpStep.{HelpStep}
use Rattle.wq_core.specs.declared.step.HelpStep.TheVariants.{Start as DoStart, Wait as DoWait, WaitAll as DoWaitAll}
use Rattle.wq_core.specs.declared.step.HelpStep.TheVariants.{Over as DoOver, OverAll as DoOverAll, Finish as DoFinish}
use Rattle.wq_core.specs.Rules.{deed_item}
use Rattle.wq_rows.specs.declared.event.Event.{Event}
use Rattle.wq_rows.specs.declared.event.Event.TheVariants.{Queue, Cancel, Start, Wait, Over, Finish, Ask, Told, WaitAll}
use Rattle.wq_rows.specs.declared.event.Event.TheVariants.{OverAll, AskLane, ToldLane, Help}
use Rattle.wq_rows.specs.declared.event.Row.{Row}
use Rattle.wq_rows.specs.Packing.{item_in, lane_in}
use Rattle.wq_counts.specs.declared.kind.Kind.{Kind}
use Rattle.wq_counts.specs.declared.kind.Kind.TheVariants.{Queue as QueueKind, Cancel as CancelKind, Wait as WaitKind}
use Rattle.wq_counts.specs.declared.kind.Kind.TheVariants.{Over as OverKind, Ask as AskKind, Told as ToldKind}
use Rattle.wq_counts.specs.declared.kind.Kind.TheVariants.{Finish as FinishKind, WaitAll as WaitAllKind}
use Rattle.wq_counts.specs.declared.kind.Kind.TheVariants.{OverAll as OverAllKind}
use Rattle.wq_counts.specs.declared.kind.LaneKind.{LaneKind}
use Rattle.wq_counts.specs.declared.kind.LaneKind.TheVariants.{Ask as AskLaneKind, Told as ToldLaneKind}

-- ---- kinds

-- the kind of a helper's step, if it is counted: that of the rescuer's step
abbrev pub help_kind_in : HelpStep → Option Kind
help_kind_in (DoStart i) = None
help_kind_in (DoWait b) = Some WaitKind
help_kind_in (DoWaitAll b) = Some WaitAllKind
help_kind_in (DoOver b) = Some OverKind
help_kind_in (DoOverAll b) = Some OverAllKind
help_kind_in (DoFinish i) = Some FinishKind

-- the kind of an event, if it is counted for its item
abbrev pub kind_in : Event → Option Kind
kind_in (Queue i) = Some QueueKind
kind_in (Cancel i) = Some CancelKind
kind_in (Wait q b) = Some WaitKind
kind_in (Over q b) = Some OverKind
kind_in (Finish q i) = Some FinishKind
kind_in (Ask i) = Some AskKind
kind_in (Told i) = Some ToldKind
kind_in (WaitAll q b) = Some WaitAllKind
kind_in (OverAll q b) = Some OverAllKind
kind_in (Help q h step) = help_kind_in step
kind_in _ = None

-- the kind of an event, if it is counted for its lane
abbrev pub lane_kind_in : Event → Option LaneKind
lane_kind_in (AskLane q) = Some AskLaneKind
lane_kind_in (ToldLane q) = Some ToldLaneKind
lane_kind_in _ = None

-- the kind of a wait: for an item, or for a whole lane
abbrev pub wait_kind : Bool → Kind
wait_kind false = WaitKind
wait_kind true = WaitAllKind

-- the kind of the end of a wait: for an item, or for a whole lane
abbrev pub over_kind : Bool → Kind
over_kind false = OverKind
over_kind true = OverAllKind

-- kinds of an item in order, from 0
abbrev pub kind_place : Kind → ℕ
kind_place QueueKind = 0
kind_place CancelKind = 1
kind_place WaitKind = 2
kind_place OverKind = 3
kind_place AskKind = 4
kind_place ToldKind = 5
kind_place FinishKind = 6
kind_place WaitAllKind = 7
kind_place OverAllKind = 8

-- kinds of a lane in order, from 9: after the 9 kinds of an item
abbrev pub lane_kind_place : LaneKind → ℕ
lane_kind_place AskLaneKind = 9
lane_kind_place ToldLaneKind = 10

-- answers in order, from 0
abbrev pub answer_place : Bool → ℕ
answer_place false = 0
answer_place true = 1

-- ---- counts and their places

-- how many counts there are for each slot: one for each kind and answer
abbrev pub counts_each : ℕ
counts_each = 22

-- counts for this many slots, each 0 or more
abbrev pub HasCountsOf : ℕ → List ℕ → Type 0
HasCountsOf slots counts = length counts ≡ counts_each * slots

-- where the count of an item, a kind and an answer is
abbrev pub place : ℕ → Kind → Bool → ℕ
place i kind said = counts_each * i + (2 * kind_place kind + answer_place said)

-- where the count of a lane, a kind and an answer is
abbrev pub lane_place : ℕ → LaneKind → Bool → ℕ
lane_place q kind said = counts_each * q + (2 * lane_kind_place kind + answer_place said)

-- where a row of this step of a helper with this answer is counted, if it is
abbrev pub help_place : HelpStep → Bool → Option ℕ
help_place step said = option_map (λ kind. place (deed_item step) kind said) (help_kind_in step)

-- where a row of this event with this answer is counted, if it is
abbrev pub counted_place : Event → Bool → Option ℕ
counted_place (Queue i) said = Some (place i QueueKind said)
counted_place (Cancel i) said = Some (place i CancelKind said)
counted_place (Start q i) said = None
counted_place (Wait q b) said = Some (place b WaitKind said)
counted_place (Over q b) said = Some (place b OverKind said)
counted_place (Finish q i) said = Some (place i FinishKind said)
counted_place (Ask i) said = Some (place i AskKind said)
counted_place (Told i) said = Some (place i ToldKind said)
counted_place (WaitAll q b) said = Some (place b WaitAllKind said)
counted_place (OverAll q b) said = Some (place b OverAllKind said)
counted_place (AskLane q) said = Some (lane_place q AskLaneKind said)
counted_place (ToldLane q) said = Some (lane_place q ToldLaneKind said)
counted_place (Help q h step) said = help_place step said

-- the slot of an event
abbrev pub slot_in : Event → ℕ
slot_in (Queue i) = i
slot_in (Cancel i) = i
slot_in (Start q i) = i
slot_in (Wait q b) = b
slot_in (Over q b) = b
slot_in (Finish q i) = i
slot_in (Ask i) = i
slot_in (Told i) = i
slot_in (WaitAll q b) = b
slot_in (OverAll q b) = b
slot_in (AskLane q) = q
slot_in (ToldLane q) = q
slot_in (Help q h step) = deed_item step

-- a row of this event is counted
abbrev pub is_counted : Event → Bool
is_counted (Start q i) = false
is_counted (Help q h step) = is_some (help_kind_in step)
is_counted _ = true

-- the count of an item, a kind and an answer
abbrev pub made : List ℕ → ℕ → Kind → Bool → ℕ
made counts i kind said = slice_index counts (place i kind said)

-- the count of a lane, a kind and an answer
abbrev pub made_lane : List ℕ → ℕ → LaneKind → Bool → ℕ
made_lane counts q kind said = slice_index counts (lane_place q kind said)

-- the count of the asks about a lane with this answer
abbrev pub asked_lane : List ℕ → ℕ → Bool → ℕ
asked_lane counts q said = made_lane counts q AskLaneKind said

-- the count of the waits of callers for a lane that are over; their rows always say yes
abbrev pub told_lane : List ℕ → ℕ → ℕ
told_lane counts q = made_lane counts q ToldLaneKind true

-- ---- one more row

-- the counts with one more at a place
abbrev pub raised_at : List ℕ → ℕ → List ℕ
raised_at counts p = slice_set counts p (slice_index counts p + 1)

-- the counts with one more of an item, a kind and an answer
abbrev pub raised : List ℕ → ℕ → Kind → Bool → List ℕ
raised counts i kind said = raised_at counts (place i kind said)

-- the counts with one more of a lane, a kind and an answer
abbrev pub raised_lane : List ℕ → ℕ → LaneKind → Bool → List ℕ
raised_lane counts q kind said = raised_at counts (lane_place q kind said)

-- the counts with one more ask about a lane, with this answer
abbrev pub raised_asked : List ℕ → ℕ → Bool → List ℕ
raised_asked counts q said = raised_lane counts q AskLaneKind said

-- the counts with one more wait of a caller for a lane that is over
abbrev pub raised_told : List ℕ → ℕ → List ℕ
raised_told counts q = raised_lane counts q ToldLaneKind true

-- the counts with one more at a place, if there is one
abbrev pub raised_where : List ℕ → Option ℕ → List ℕ
raised_where counts None = counts
raised_where counts (Some p) = raised_at counts p

-- the counts after one more row of this event with this answer; a start isn't counted
abbrev pub noted_as : List ℕ → Event → Bool → List ℕ
noted_as counts event said = raised_where counts (counted_place event said)

-- the counts after one more row
abbrev pub noted : List ℕ → Row → List ℕ
noted counts row = noted_as counts row.event row.yes

-- ---- tallies: how many rows there are

-- the row is of this kind of an item
abbrev pub has_kind : Option Kind → Kind → Bool
has_kind None kind = false
has_kind (Some one) kind = kind_place one == kind_place kind

-- the row is of this kind of a lane
abbrev pub has_lane_kind : Option LaneKind → LaneKind → Bool
has_lane_kind None kind = false
has_lane_kind (Some one) kind = lane_kind_place one == lane_kind_place kind

-- the row is of this item and kind, with this answer
abbrev pub is_of : ℕ → Kind → Bool → Row → Bool
is_of i kind said row =
    has_kind (kind_in row.event) kind && ((item_in row.event == i) && (answer_place row.yes == answer_place said))

-- the row is of this lane and kind, with this answer
abbrev pub is_of_lane : ℕ → LaneKind → Bool → Row → Bool
is_of_lane q kind said row =
    has_lane_kind (lane_kind_in row.event) kind
    && ((lane_in row.event == q) && (answer_place row.yes == answer_place said))

-- how many of these rows are of this item and kind, with this answer
abbrev pub tally : List Row → ℕ → Kind → Bool → ℕ
tally rows i kind said = count_by (is_of i kind said) rows

-- how many of these rows are of this lane and kind, with this answer
abbrev pub tally_lane : List Row → ℕ → LaneKind → Bool → ℕ
tally_lane rows q kind said = count_by (is_of_lane q kind said) rows

-- how many of these rows are counted
abbrev pub counted_rows : List Row → ℕ
counted_rows rows = count_by (λ (row : Row). is_counted row.event) rows

-- the place is this one, if there is one
abbrev pub is_at : Option ℕ → ℕ → Bool
is_at None p = false
is_at (Some own) p = own == p

-- the row is counted at this place
abbrev pub raises : ℕ → Row → Bool
raises p row = is_at (counted_place row.event row.yes) p

-- the counts of this many slots are the tallies of the rows: each place has the number of rows that are counted there
abbrev pub AreTallies : ℕ → List Row → List ℕ → Type 0
AreTallies slots rows counts = (p : ℕ) → p < counts_each * slots → slice_index counts p ≡ count_by (raises p) rows

-- each counted row is of one of this many slots
abbrev pub AreRowsOf : ℕ → List Row → Type 0
AreRowsOf slots rows = All (λ (row : Row). is_counted row.event ≡ true → slot_in row.event < slots) rows
