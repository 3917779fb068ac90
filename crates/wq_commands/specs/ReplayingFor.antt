-- The answer to a declaration, an assignment, a run and the names of items that must go on: how the run ends.
use Rattle.std.specs.Prelude.{◌≡◌, ℕ, List, MatchResult, Option, Some, option_map}
use Rattle.wq_core.specs.declared.step.Step.{Step}
use Rattle.wq_core.specs.Workqueues.{Workqueues}
use Rattle.wq_text.specs.LineText.{line_text}
use Rattle.wq_cert.specs.Part.{made_of}
use Rattle.wq_cert.specs.Texts.{workqueues_of_text, cert_refusal}
use Rattle.wq_checker.specs.declared.run.RunEnd.{RunEnd}
use Rattle.wq_checker.specs.RunEnds.{EndsFor}
use Rattle.wq_commands.specs.declared.end.End.{End}
use Rattle.wq_commands.specs.declared.found.Found.{Found}
use Rattle.wq_commands.specs.declared.found.Found.TheVariants.{Read}
use Rattle.wq_commands.specs.declared.found.Which.TheVariants.{Certificate as SecondText, Run}
use Rattle.wq_commands.specs.declared.replaying_for.ReplayedFor.{ReplayedFor}
use Rattle.wq_groups.specs.DeclaredGroups.{Declared}
use Rattle.wq_commands.specs.Answer.{PrintsRefusal}
use Rattle.wq_commands.specs.Declaration.{declaration}
use Rattle.wq_commands.specs.Found.{AnswersIn}
use Rattle.wq_commands.specs.Named.{items_with_names, FindsNamed, IfNamed}
use Rattle.wq_commands.specs.Replaying.{replay_end, replay_words, wiring_read}

-- how these steps end where these items must go on is printed, in the reading that keeps these unsure flushes, or of
-- all flushes
pub record AnswersReplayFor (s : Declared) (ws : Workqueues) (kept : Option (List ℕ)) (steps : List Step)
    (named : List ℕ) (end : End) (out : List ℕ) : Type 0 where
  pub run_end : RunEnd
  pub ends : EndsFor (wiring_read s ws kept) named steps run_end
  pub status : end ≡ replay_end run_end
  pub printed : out ≡ line_text (replay_words run_end)

-- the answer to a run under an assignment of a declaration: its refusal comes before that of a name
abbrev pub ReplaysAssignedFor : Declared → Workqueues → List (List ℕ) → List ℕ → End → List ℕ → Type 0
ReplaysAssignedFor s ws names text end out =
    MatchResult (made_of s.table.names s.table.waits text)
    (λ run. IfNamed (items_with_names s.table.names names) (AnswersReplayFor s ws run.0 run.1) end out)
    (λ fault. PrintsRefusal (cert_refusal fault) end out)

-- the answer to an assignment of a declaration and a run
abbrev pub ReplaysDeclaredFor : Declared → List (List ℕ) → List ℕ → List ℕ → End → List ℕ → Type 0
ReplaysDeclaredFor s names assigned text end out =
    MatchResult (workqueues_of_text s.table.names s.partition assigned)
    (λ ws. ReplaysAssignedFor s ws names text end out)
    (λ fault. PrintsRefusal (cert_refusal fault) end out)

-- the answer to the texts of a declaration, an assignment and a run; if any is refused, the refusal of the first such
-- text is printed
abbrev pub ReplaysRunFor : List (List ℕ) → List ℕ → List ℕ → List ℕ → End → List ℕ → Type 0
ReplaysRunFor names declared assigned text end out =
    MatchResult (declaration declared) (λ s. ReplaysDeclaredFor s names assigned text end out)
    (λ r. PrintsRefusal r end out)

-- ---- what is found, of which the answer is printed

-- how these steps end where these items must go on is found, and printed
pub record FindsEndFor {A : Type 0} (s : Declared) (ws : Workqueues) (kept : Option (List ℕ)) (steps : List Step)
    (named : List ℕ) (found : Found (Option (ReplayedFor A))) (end : End) (out : List ℕ) : Type 0 where
  pub replayed : ReplayedFor A
  pub is : found ≡ Read (Some replayed)
  pub workqueues : replayed.replayed.workqueues ≡ ws
  pub named_items : replayed.named.items ≡ named
  pub keeps : option_map (λ places. places.items) replayed.replayed.kept ≡ kept
  pub made : replayed.replayed.steps.items ≡ steps
  pub ends : EndsFor (wiring_read s ws kept) named steps replayed.replayed.end
  pub status : end ≡ replay_end replayed.replayed.end
  pub printed : out ≡ line_text (replay_words replayed.replayed.end)

-- how the run with this text ends on these workqueues where the items with these names must go on
abbrev pub ReplaysOnFor : {A : Type 0} → Declared → Workqueues → List (List ℕ) → List ℕ → Found (Option (ReplayedFor A))
    → End → List ℕ → Type 0
ReplaysOnFor s ws names text = AnswersIn Run (made_of s.table.names s.table.waits text)
    (λ run. FindsNamed (items_with_names s.table.names names) (FindsEndFor s ws run.0 run.1))

-- `replay` with names: how the run with the second of these texts ends on the workqueues with the first
abbrev pub ReplaysTextsFor : {A : Type 0} → Declared → List (List ℕ) → List ℕ → List ℕ
    → Found (Option (ReplayedFor A)) → End → List ℕ → Type 0
ReplaysTextsFor s names assigned text =
    AnswersIn SecondText (workqueues_of_text s.table.names s.partition assigned) (λ ws. ReplaysOnFor s ws names text)
