-- What is said of unsure flushes: whether they matter, and which make no difference.
use Rattle.std.specs.Prelude.{◌≡◌, ◌==◌, ◌&&◌, if◌then◌else◌, ℕ, Bool, true, false, not, List, [], ◌∷◌, ◌++◌}
use Rattle.std.specs.Prelude.{Option, Some}
use Rattle.std.specs.Prelude.{length, map, filter, flat_map, decimal, unwrap_or}
use Rattle.std.specs.List.{range_with_len}
use Rattle.wq_items.specs.declared.target.Target.{Target}
use Rattle.wq_items.specs.Readings.{is_among, unsure_places}
use Rattle.wq_items.specs.Table.{flush_count}
use Rattle.wq_core.specs.Workqueues.{Workqueues}
use Rattle.wq_graph.specs.declared.arc.WaitArc.{WaitArc}
use Rattle.wq_deadlock.specs.Judging.{bare_waits}
use Rattle.wq_hang.specs.declared.hop.Hop.{Hop}
use Rattle.wq_hang.specs.Walk.{needs}
use Rattle.wq_circles.specs.Components.{AreComponents}
use Rattle.wq_cert.specs.Part.{has_unsure}
use Rattle.wq_names.specs.Messages.{arent_decided, hangs_for_sure}
use Rattle.wq_names.specs.Messages.{isnt_decided, make_no_difference, makes_no_difference}
use Rattle.wq_names.specs.Messages.{on_these, safe_whatever, safe_whatever_one, to_a_plan, unsure_line, unsure_lines}
use Rattle.wq_groups.specs.DeclaredGroups.{declared_waits, Declared}
use Rattle.wq_diagnosis.specs.Diagnosis.{shown_lines}
use Rattle.wq_diagnosis.specs.Refused.{NotesNoItem}
use Rattle.wq_voice.specs.Components.{GivesReasons}
use Rattle.wq_voice.specs.Note.{NotesBare, listed}
use Rattle.wq_voice.specs.Reasons.{AreSaid, can_hang_lead, told}
use Rattle.wq_voice.specs.declared.waits.Wording.{Wording}
use Rattle.wq_voice.specs.declared.waits.Wording.TheVariants.{OfGroups, OnWorkqueues}

-- how many flushes are unsure
abbrev pub unsure_count : List (List Target) → ℕ
unsure_count waits = length (unsure_places waits)

-- a number of unsure lines, in words
abbrev pub all_words : ℕ → List ℕ
all_words n = if n == 1 then unsure_line else unsure_lines (decimal n)

-- a note, and below it what else is said; just that if there is no note
abbrev pub above : List ℕ → Option (List ℕ) → Option (List ℕ)
above [] said = said
above (byte ∷ note) said = Some ((byte ∷ note) ++ unwrap_or said [])

-- ---- beside `safe`

-- beside `safe`: it holds whatever this many unsure flushes turn out to be
abbrev pub safe_words : List ℕ → ℕ → List ℕ
safe_words file n = if n == 1 then safe_whatever_one file else safe_whatever file (decimal n)

-- `safe_words` as a line; nothing if no flush is unsure
abbrev pub safe_note : List ℕ → Declared → List ℕ
safe_note file s =
    if unsure_count s.table.waits == 0 then [] else shown_lines (safe_words file (unsure_count s.table.waits) ∷ [])

-- what is said beside `safe` of workqueues with this text: that note, and then which items are on workqueues without a
-- rescuer
abbrev pub NotesSafe : List ℕ → List ℕ → List ℕ → Declared → Workqueues → Option (List ℕ) → Type 0
NotesSafe first second lanes s ws said =
    (rest : Option (List ℕ)) × NotesBare first second lanes s ws rest × (said ≡ above (safe_note first s) rest)

-- the note beside `safe` if each group has a workqueue of its own
abbrev pub NotesSafeGroups : List ℕ → Declared → Option (List ℕ) → Type 0
NotesSafeGroups first s said =
    (rest : Option (List ℕ)) × NotesNoItem first s rest × (said ≡ above (safe_note first s) rest)

-- ---- flushes that make no difference

-- the flush at this place is unsure, and `circles` doesn't print it: it is neither in one of these components nor among
-- these flushes to no rescuer
abbrev pub is_idle : List (List Target) → List (List WaitArc) → List WaitArc → ℕ → Bool
is_idle waits components bare place =
    is_among (unsure_places waits) place
    && not (is_among (map (λ (a : WaitArc). a.place) (flat_map (λ arcs. arcs) components ++ bare)) place)

-- the places of the flushes that `is_idle` marks
abbrev pub idle_places : List (List Target) → List (List WaitArc) → List WaitArc → List ℕ
idle_places waits components bare = filter (is_idle waits components bare) (range_with_len 0 (flush_count waits))

-- the note that the unsure lines with these numbers make no difference there; nothing if there are no such lines
abbrev pub no_difference_note : List ℕ → List ℕ → ℕ → List ℕ → List ℕ
no_difference_note file place all [] = []
no_difference_note file place all (line ∷ []) =
    shown_lines (makes_no_difference file (all_words all) place (decimal line) ∷ [])
no_difference_note file place all (line ∷ other ∷ more) =
    shown_lines
    (make_no_difference file (decimal (length (line ∷ other ∷ more))) (all_words all) place
    (listed (map decimal (line ∷ other ∷ more)))
    ∷ [])

-- this note, of as many lines as there are unsure flushes that make no difference
abbrev pub IsNoDifference : List ℕ → List ℕ → Declared → List (List WaitArc) → List WaitArc → List ℕ → Type 0
IsNoDifference file place s components bare note =
    (lines : List ℕ) × (length lines ≡ length (idle_places s.table.waits components bare))
    × (note ≡ no_difference_note file place (unsure_count s.table.waits) lines)

-- the note on the unsure flushes that make no difference on these workqueues
abbrev pub MakeNoDifference : List ℕ → Declared → Workqueues → List ℕ → Type 0
MakeNoDifference file s ws note =
    (components : List (List WaitArc)) × AreComponents (declared_waits s) ws components
    × IsNoDifference file on_these s components (bare_waits (declared_waits s) ws) note

-- what they make no difference to: these workqueues, or, if no workqueues are named, whether there is a plan
abbrev pub idle_place : Wording → List ℕ
idle_place OnWorkqueues = on_these
idle_place OfGroups = to_a_plan

-- the words of this file: how the workqueues of each of these components can hang; then the flush to no rescuer; and
-- behind that, which unsure flushes make no difference there
abbrev pub TellsComponents : List ℕ → List ℕ → (Hop → List ℕ) → Declared → Workqueues → List (List WaitArc)
    → List WaitArc → List ℕ → Type 0
TellsComponents file place words s ws components waits text =
    (reasons : List ℕ) × (note : List ℕ) × (text ≡ reasons ++ note)
    × GivesReasons file words s ws components waits reasons
    × IsNoDifference file place s components waits note

-- ---- beside a run

-- the words that this many waits aren't decided
abbrev pub undecided_words : List ℕ → ℕ → List ℕ
undecided_words file n = if n == 1 then isnt_decided file else arent_decided file (decimal n)

-- `undecided_words` as a line
abbrev pub undecided_note : List ℕ → ℕ → List ℕ
undecided_note file n = shown_lines (undecided_words file n ∷ [])

-- the notes beside a run that needs these unsure flushes. If there are none, that it hangs for sure; else how many
-- aren't decided, and which unsure flushes make no difference
abbrev pub AreNotesOf : List ℕ → Declared → Workqueues → List ℕ → List ℕ → Type 0
AreNotesOf file s ws [] notes = notes ≡ shown_lines (hangs_for_sure file ∷ [])
AreNotesOf file s ws (place ∷ kept) notes =
    (idle : List ℕ) × MakeNoDifference file s ws idle
    × (notes ≡ undecided_note file (length (place ∷ kept)) ++ idle)

-- `AreNotesOf` for the waits of a run; nothing if no flush is unsure
abbrev pub AreHangNotes : Bool → List ℕ → Declared → Workqueues → List Hop → List ℕ → Type 0
AreHangNotes false file s ws hops notes = notes ≡ []
AreHangNotes true file s ws hops notes = AreNotesOf file s ws (needs hops) notes

-- what is said in this file: the waits of a walk, and behind them these notes
abbrev pub TellsHang : List ℕ → (Hop → List ℕ) → Declared → Workqueues → List Hop → List ℕ → Type 0
TellsHang file words s ws hops text =
    (reason : List ℕ) × (notes : List ℕ) × (text ≡ reason ++ notes)
    × AreSaid file (told can_hang_lead words hops) reason
    × AreHangNotes (has_unsure s.table.waits) file s ws hops notes
