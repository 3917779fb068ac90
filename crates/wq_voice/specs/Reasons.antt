-- What is said if workqueues can hang: by which waits, one after another.
use Rattle.std.specs.Prelude.{◌≡◌, ℕ, if◌then◌else◌, List, [], ◌∷◌, ◌++◌, Option, Some, None, MatchResult, map}
use Rattle.wq_groups.specs.Declaration.{Declaration}
use Rattle.wq_core.specs.declared.step.Step.{Step}
use Rattle.wq_core.specs.Wiring.{own_lanes}
use Rattle.wq_core.specs.Workqueues.{Workqueues, all_rescued, wiring_of}
use Rattle.wq_core.specs.Deadlock.{IsSafe}
use Rattle.wq_hang.specs.declared.hop.Hop.{Hop}
use Rattle.wq_hang.specs.Answer.{IsHangOf}
use Rattle.wq_cert.specs.Texts.{workqueues_of_text}
use Rattle.wq_names.specs.Messages.{and_further, and_further_if, at_place, can_hang, can_hang_if}
use Rattle.wq_names.specs.Messages.{can_hang_on_any, can_hang_on_any_if}
use Rattle.wq_names.specs.Names.{names_of}
use Rattle.wq_groups.specs.DeclaredGroups.{declared_waits, Declared}
use Rattle.wq_findings.specs.Shown.{place_text}
use Rattle.wq_diagnosis.specs.Diagnosis.{IsPlain, shown_lines}
use Rattle.wq_voice.specs.Waits.{words_of}
use Rattle.wq_voice.specs.declared.waits.Wording.TheVariants.{OfGroups, OnWorkqueues}

-- ---- blocks of lines

-- a first line without the number of an answer: the file, the place in it, and what there is to say
abbrev pub plain_head : List ℕ → List ℕ → List ℕ → List ℕ
plain_head file place what = at_place file (place_text place) what

-- lines of which the first has this file, a line and a column of it, and says this; and they are plain
pub record IsSaidOf (file what text : List ℕ) : Type 0 where
  pub line : ℕ
  pub column : ℕ
  pub more : List (List ℕ)
  pub lines : text ≡ shown_lines (plain_head file (line ∷ column ∷ []) what ∷ more)
  pub plain : IsPlain text

-- a block of lines for each of these, in their order: it begins with the name of the file, and says the words
abbrev pub AreSaid : List ℕ → List (List ℕ) → List ℕ → Type 0
AreSaid file [] text = text ≡ []
AreSaid file (what ∷ more) text =
    (block : List ℕ) × (rest : List ℕ) × (text ≡ block ++ rest) × IsSaidOf file what block × AreSaid file more rest

-- the blocks of `AreSaid` were added to a text
abbrev pub AddsSaid : List ℕ → List (List ℕ) → List ℕ → List ℕ → Type 0
AddsSaid file whats old new = (added : List ℕ) × (new ≡ old ++ added) × AreSaid file whats added

-- ---- walks

-- what stands before a wait: words before a sure flush, and words before an unsure one
abbrev pub Lead : Type 0
Lead = List ℕ × List ℕ

-- the words that come before this wait
abbrev pub lead_for : Lead → Hop → List ℕ
lead_for lead h = if h.flush.unsure then lead.1 else lead.0

-- before the first wait of workqueues that can hang
abbrev pub can_hang_lead : Lead
can_hang_lead = (can_hang, can_hang_if)

-- the words before a wait of groups, on any workqueues
abbrev pub can_hang_on_any_lead : Lead
can_hang_on_any_lead = (can_hang_on_any, can_hang_on_any_if)

-- before each further wait
abbrev pub and_lead : Lead
and_lead = (and_further, and_further_if)

-- what is said of the waits of a walk, one after another, with this before the first one
abbrev pub told : Lead → (Hop → List ℕ) → List Hop → List (List ℕ)
told lead words [] = []
told lead words (h ∷ hops) = (lead_for lead h ++ words h) ∷ map (λ (g : Hop). lead_for and_lead g ++ words g) hops

-- how these workqueues hang soonest, said in this file: the waits of a walk whose run is a shortest of all that end
-- stuck; nothing is said if no run does
abbrev pub GivesReason : List ℕ → Lead → (Hop → List ℕ) → Declaration → Workqueues → Option (List ℕ) → Type 0
GivesReason file lead words d ws None = IsSafe (wiring_of d ws)
GivesReason file lead words d ws (Some text) =
    (hops : List Hop) × (steps : List Step) × IsHangOf d ws hops steps × AreSaid file (told lead words hops) text

-- `GivesReason` of workqueues with this text, in words of workqueues
abbrev pub GivesReasonOn : List ℕ → List ℕ → Declared → Workqueues → Option (List ℕ) → Type 0
GivesReasonOn first lanes s ws said =
    GivesReason first can_hang_lead (λ h. words_of OnWorkqueues s ws (names_of lanes) h) (declared_waits s) ws said

-- `GivesReasonOn` of the workqueues in this text; nothing if the text is refused
abbrev pub GivesReasonOf : List ℕ → List ℕ → Declared → Option (List ℕ) → Type 0
GivesReasonOf first lanes s said =
    MatchResult (workqueues_of_text s.table.names s.partition lanes)
    (λ ws. GivesReasonOn first lanes s ws said) (λ _. said ≡ None)

-- `GivesReason` if each group has a workqueue of its own, in words of groups
abbrev pub GivesReasonOfGroups : List ℕ → Declared → Option (List ℕ) → Type 0
GivesReasonOfGroups first s said =
    let ws = all_rescued (own_lanes s.partition.groups) in
    GivesReason first can_hang_on_any_lead (λ h. words_of OfGroups s ws [] h) (declared_waits s) ws said
