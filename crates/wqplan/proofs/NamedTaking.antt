-- From what `replay` finds to what it answers where items must go on, and from the bytes that are kept to the texts.
use Rattle.std.proofs.Common.{ℕ, ◌+◌, List, Option, Result}
use Rattle.std.specs.Prelude.{take}
use Rattle.wq_text.specs.Refusal.{Refusal}
use Rattle.wq_core.specs.declared.step.Step.{Step}
use Rattle.wq_core.specs.Workqueues.{Workqueues}
use Rattle.wq_cert.specs.Part.{made_of}
use Rattle.wq_cert.specs.Texts.{cert_refusal, max_certificate, workqueues_of_text}
use Rattle.wq_circles.proofs.FoundFor.{FindsNamed-answer}
use Rattle.wq_meter.specs.Shell.{Given, kept}
use Rattle.wq_commands.specs.declared.end.End.{End}
use Rattle.wq_commands.specs.declared.found.Found.{Found}
use Rattle.wq_commands.specs.declared.found.Which.TheVariants.{Certificate as SecondText, Run}
use Rattle.wq_commands.specs.declared.replaying_for.ReplayedFor.{ReplayedFor}
use Rattle.wq_groups.specs.DeclaredGroups.{Declared}
use Rattle.wq_commands.specs.Answer.{PrintsRefusal}
use Rattle.wq_commands.specs.Commands.{three_texts}
use Rattle.wq_commands.specs.Named.{items_with_names, FindsNamed, IfNamed}
use Rattle.wq_commands.specs.ReplayingFor.{AnswersReplayFor, FindsEndFor, ReplaysAssignedFor, ReplaysDeclaredFor}
use Rattle.wq_commands.specs.ReplayingFor.{ReplaysOnFor, ReplaysRunFor, ReplaysTextsFor}
use Rattle.wq_commands.specs.Shell.{AnswersTexts}
use Rattle.wq_commands.proofs.FoundLemmas.{AnswersIn-match, AnswersTexts-match}
use Rattle.wq_commands.proofs.InputLemmas.{run-kept}

module _ {A : Type 0} (s : Declared) (names : List (List ℕ)) where
  replay_named : (ws : Workqueues) (run : Option (List ℕ) × List Step) (named : List ℕ)
      (found : Found (Option (ReplayedFor A))) (end : End) (out : List ℕ)
      → FindsEndFor s ws run.0 run.1 named found end out → AnswersReplayFor s ws run.0 run.1 named end out
  replay_named ws run named found end out h =
      record { run_end = h.replayed.replayed.end; ends = h.ends; status = h.status; printed = h.printed }

  replay_declared : (lanes text : List ℕ) (found : Found (Option (ReplayedFor A))) (end : End) (out : List ℕ)
      → ReplaysTextsFor s names lanes text found end out → ReplaysDeclaredFor s names lanes text end out
  replay_declared lanes text found end out =
      AnswersIn-match SecondText (workqueues_of_text s.table.names s.partition lanes)
      (λ ws. ReplaysOnFor s ws names text) (λ ws. ReplaysAssignedFor s ws names text) found end out
      (λ ws. AnswersIn-match Run (made_of s.table.names s.table.waits text)
      (λ (run : Option (List ℕ) × List Step).
      FindsNamed (items_with_names s.table.names names) (FindsEndFor s ws run.0 run.1))
      (λ (run : Option (List ℕ) × List Step).
      IfNamed (items_with_names s.table.names names) (AnswersReplayFor s ws run.0 run.1)) found end out
      (λ run. FindsNamed-answer (items_with_names s.table.names names) (FindsEndFor s ws run.0 run.1)
      (AnswersReplayFor s ws run.0 run.1) found end out (λ named. replay_named ws run named found end out)))

-- what is past a limit changes no answer
pub replay_for-kept : {A : Type 0} (names : List (List ℕ)) (texts : Given)
    (found : Result (Found (Option (ReplayedFor A))) Refusal) (end : End) (out : List ℕ)
    → AnswersTexts (λ s t (f : Found (Option (ReplayedFor A))) e o. ReplaysTextsFor s names t.second t.third f e o)
    (kept three_texts texts) found end out
    → ReplaysRunFor names texts.first texts.second texts.third end out
replay_for-kept {A} names texts found end out h =
    let lanes = take (max_certificate + 1) texts.second in
    let text = take (max_certificate + 1) texts.third in
    run-kept
    (λ s ws run. IfNamed (items_with_names s.table.names names) (AnswersReplayFor s ws run.0 run.1) end out)
    (λ fault. PrintsRefusal (cert_refusal fault) end out) (λ fault. PrintsRefusal (cert_refusal fault) end out)
    (λ r. PrintsRefusal r end out) texts.first texts.second texts.third
    (AnswersTexts-match
    (λ s t (f : Found (Option (ReplayedFor A))) e o. ReplaysTextsFor s names t.second t.third f e o)
    (λ s. ReplaysDeclaredFor s names lanes text) (kept three_texts texts) found end out
    (λ s f. replay_declared s names lanes text f end out) h)
