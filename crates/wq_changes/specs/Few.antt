-- What is said if too few items may move: the workqueues of the run that is printed, and how they hang soonest.
use Rattle.std.specs.Prelude.{◌≡◌, ℕ, List, [], ◌∷◌, ◌++◌, Option, unwrap_or}
use Rattle.wq_core.specs.Workqueues.{Workqueues}
use Rattle.wq_groups.specs.DeclaredGroups.{declared_waits, Declared}
use Rattle.wq_diagnosis.specs.Diagnosis.{shown_lines}
use Rattle.wq_repair_command.specs.AssignmentText.{assignment_text}
use Rattle.wq_names.specs.Messages.{names_are_too_few}
use Rattle.wq_voice.specs.Reasons.{GivesReason, can_hang_lead}
use Rattle.wq_voice.specs.Waits.{words_of}
use Rattle.wq_voice.specs.declared.waits.Wording.TheVariants.{OnWorkqueues}

-- that too few items may move
abbrev pub few_line : List ℕ → List ℕ
few_line file = shown_lines (names_are_too_few file ∷ [])

-- that too few items may move, the lines of these workqueues, and how they hang soonest
pub record TellsFew (first second : List ℕ) (s : Declared) (names : List (List ℕ)) (start : Workqueues)
    (text : List ℕ) : Type 0 where
  pub said : Option (List ℕ)
  pub reason : GivesReason first can_hang_lead (λ h. words_of OnWorkqueues s start names h) (declared_waits s) start
      said
  pub is : text ≡ (few_line second ++ assignment_text s.table.names s.partition start names) ++ unwrap_or said []
