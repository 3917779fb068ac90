-- Packing: the 12 bytes that hold a row.
--
-- Byte 0 is the kind of the event; byte 1 is 1 if the answer is yes, else 0; bytes 2 and 3 are the item, bytes 4 and 5
-- the lane, byte 6 the helper, each 0 if the event has none; byte 7 is 0; bytes 8 to 11 are the number. Numbers are
-- little-endian.
use Rattle.std.specs.Prelude.{◌≡◌, ℕ, ◌<◌, ◌≤◌, ◌^◌, ⊤, Bool, true, false, IsTrue, List, ◌∷◌, ◌++◌}
use Rattle.std.specs.Int.{w16, w32, to_le_bytes}
use Rattle.std.specs.List.{flat_map}
use Rattle.wq_core.specs.declared.step.HelpStep.{HelpStep}
use Rattle.wq_core.specs.declared.step.HelpStep.TheVariants.{Start as DoStart, Wait as DoWait, WaitAll as DoWaitAll}
use Rattle.wq_core.specs.declared.step.HelpStep.TheVariants.{Over as DoOver, OverAll as DoOverAll, Finish as DoFinish}
use Rattle.wq_core.specs.Wiring.{max_helpers}
use Rattle.wq_core.specs.Rules.{deed_item}
use Rattle.wq_rows.specs.declared.event.Event.{Event}
use Rattle.wq_rows.specs.declared.event.Event.TheVariants.{Queue, Cancel, Start, Wait, Over, Finish, Ask, Told, WaitAll}
use Rattle.wq_rows.specs.declared.event.Event.TheVariants.{OverAll, AskLane, ToldLane, Help}
use Rattle.wq_rows.specs.declared.event.Row.{Row}

-- the number of the kind of a helper's step: that of the rescuer's step
abbrev pub help_kind : HelpStep → ℕ
help_kind (DoStart item) = 3
help_kind (DoWait target) = 4
help_kind (DoWaitAll target) = 9
help_kind (DoOver target) = 5
help_kind (DoOverAll target) = 10
help_kind (DoFinish item) = 6

-- the number of the kind of an event
abbrev pub kind_of : Event → ℕ
kind_of (Queue item) = 1
kind_of (Cancel item) = 2
kind_of (Start lane item) = 3
kind_of (Wait lane target) = 4
kind_of (Over lane target) = 5
kind_of (Finish lane item) = 6
kind_of (Ask item) = 7
kind_of (Told item) = 8
kind_of (WaitAll lane target) = 9
kind_of (OverAll lane target) = 10
kind_of (AskLane lane) = 11
kind_of (ToldLane lane) = 12
kind_of (Help lane helper step) = help_kind step

-- the item of an event, or 0 if it has none; for a wait and its end, the target of the wait
abbrev pub item_in : Event → ℕ
item_in (Queue item) = item
item_in (Cancel item) = item
item_in (Start lane item) = item
item_in (Wait lane target) = target
item_in (Over lane target) = target
item_in (Finish lane item) = item
item_in (Ask item) = item
item_in (Told item) = item
item_in (WaitAll lane target) = target
item_in (OverAll lane target) = target
item_in (Help lane helper step) = deed_item step
item_in _ = 0

-- the lane of an event, or 0 if it has none
abbrev pub lane_in : Event → ℕ
lane_in (Start lane item) = lane
lane_in (Wait lane target) = lane
lane_in (Over lane target) = lane
lane_in (Finish lane item) = lane
lane_in (WaitAll lane target) = lane
lane_in (OverAll lane target) = lane
lane_in (AskLane lane) = lane
lane_in (ToldLane lane) = lane
lane_in (Help lane helper step) = lane
lane_in _ = 0

-- the number of the helper that made the step of an event, or 0 if none did
abbrev pub helper_in : Event → ℕ
helper_in (Help lane helper step) = helper
helper_in _ = 0

-- 1 if the answer is yes, else 0
abbrev pub answer_byte : Bool → ℕ
answer_byte true = 1
answer_byte false = 0

-- the 12 bytes that hold a row
abbrev pub packed : Row → List ℕ
packed row =
    kind_of row.event ∷ answer_byte row.yes
    ∷ (to_le_bytes w16 (item_in row.event)
    ++ (to_le_bytes w16 (lane_in row.event) ++ (helper_in row.event ∷ 0 ∷ to_le_bytes w32 row.number)))

-- the bytes that hold some rows, one after the other
abbrev pub packed_rows : List Row → List ℕ
packed_rows rows = flat_map packed rows

-- the number of a helper: 1 to 8
abbrev pub IsHelperNumber : ℕ → Type 0
IsHelperNumber helper = (0 < helper) × (helper ≤ max_helpers)

-- if a helper made the step of the event, the helper has such a number
abbrev pub HasHelperNumber : Event → Type 0
HasHelperNumber (Help lane helper step) = IsHelperNumber helper
HasHelperNumber _ = ⊤

-- a helper's step may have this answer, as the rescuer's may
abbrev pub HelpMayAnswer : HelpStep → Bool → Type 0
HelpMayAnswer (DoStart item) said = IsTrue said
HelpMayAnswer (DoOver target) said = IsTrue said
HelpMayAnswer (DoOverAll target) said = IsTrue said
HelpMayAnswer (DoFinish item) said = IsTrue said
HelpMayAnswer _ said = ⊤

-- such an event may have this answer: events that can't fail always have yes, and a helper has a number from 1 to 8
abbrev pub MayAnswer : Event → Bool → Type 0
MayAnswer (Start lane item) said = IsTrue said
MayAnswer (Over lane target) said = IsTrue said
MayAnswer (Finish lane item) said = IsTrue said
MayAnswer (Told item) said = IsTrue said
MayAnswer (OverAll lane target) said = IsTrue said
MayAnswer (ToldLane lane) said = IsTrue said
MayAnswer (Help lane helper step) said = IsHelperNumber helper × HelpMayAnswer step said
MayAnswer _ said = ⊤

-- the row may be packed: its event may have its answer
abbrev pub IsPackable : Row → Type 0
IsPackable row = MayAnswer row.event row.yes

-- the numbers of a row fit the bytes that hold them
pub record IsRowInRange (row : Row) : Type 0 where
  pub item : item_in row.event < 2 ^ 16
  pub lane : lane_in row.event < 2 ^ 16
  pub helper : HasHelperNumber row.event
  pub number : row.number < 2 ^ 32

-- these bytes hold this row
pub record IsPackedRow (bytes : List ℕ) (row : Row) : Type 0 where
  pub packable : IsPackable row
  pub in_range : IsRowInRange row
  pub holds : packed row ≡ bytes
