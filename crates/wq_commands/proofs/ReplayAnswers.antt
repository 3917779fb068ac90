-- A declaration, an assignment and a run have one answer.
use Rattle.std.proofs.Common.{◌≡◌, ℕ, List, Option, refl, sym, ap, ◌∙◌}
use Rattle.wq_core.specs.declared.step.Step.{Step}
use Rattle.wq_core.specs.Workqueues.{Workqueues}
use Rattle.wq_text.specs.LineText.{line_text}
use Rattle.wq_cert.specs.Part.{made_of}
use Rattle.wq_cert.specs.Texts.{workqueues_of_text, cert_refusal}
use Rattle.wq_checker.specs.declared.run.RunEnd.{RunEnd}
use Rattle.wq_checker.proofs.OneAnswer.{one_end}
use Rattle.wq_checker.proofs.RunsDecided.{an_end}
use Rattle.wq_commands.specs.declared.end.End.{End}
use Rattle.wq_groups.specs.DeclaredGroups.{Declared}
use Rattle.wq_commands.specs.Answer.{PrintsRefusal}
use Rattle.wq_commands.specs.Declaration.{declaration}
use Rattle.wq_commands.specs.Replaying.{wiring_read, replay_words, replay_end, AnswersReplay, ReplaysAssigned}
use Rattle.wq_commands.specs.Replaying.{ReplaysDeclared, ReplaysRun}
use Rattle.wq_commands.proofs.Refusals.{MatchResult-unique, MatchResult-exist, PrintsRefusal-unique, PrintsRefusal-exist}

AnswersReplay-unique : (s : Declared) (a : Workqueues) (kept : Option (List ℕ)) (steps : List Step) (end other : End)
    (out printed : List ℕ) → AnswersReplay s a kept steps end out → AnswersReplay s a kept steps other printed
    → (end ≡ other) × (out ≡ printed)
AnswersReplay-unique s a kept steps end other out printed one two =
    let same : one.run_end ≡ two.run_end =
    one_end (wiring_read s a kept) steps one.run_end two.run_end one.ends two.ends in
    (one.status ∙ ap replay_end same ∙ sym two.status, one.printed ∙ ap (λ (e : RunEnd). line_text (replay_words e)) same ∙ sym two.printed)

AnswersReplay-exist : (s : Declared) (a : Workqueues) (kept : Option (List ℕ)) (steps : List Step) → (end : End)
    × (out : List ℕ) × AnswersReplay s a kept steps end out
AnswersReplay-exist s a kept steps =
    let ended = an_end (wiring_read s a kept) steps in
    (replay_end ended.0, line_text (replay_words ended.0), record { run_end = ended.0; ends = ended.1; status = refl; printed = refl })

module _ (steps : List ℕ) where
  ReplaysAssigned-unique : (s : Declared) (a : Workqueues) (end other : End) (out printed : List ℕ) → ReplaysAssigned s a steps end out → ReplaysAssigned s a steps other printed
      → (end ≡ other) × (out ≡ printed)
  ReplaysAssigned-unique s a end other out printed =
      MatchResult-unique (made_of s.table.names s.table.waits steps)
      (λ (run : Option (List ℕ) × List Step). AnswersReplay s a run.0 run.1)
      (λ fault. PrintsRefusal (cert_refusal fault)) end other out printed
      (λ run read. AnswersReplay-unique s a run.0 run.1 end other out printed)
      (λ fault. PrintsRefusal-unique (cert_refusal fault) end other out printed)

  ReplaysAssigned-exist : (s : Declared) (a : Workqueues) → (end : End) × (out : List ℕ) × ReplaysAssigned s a steps end out
  ReplaysAssigned-exist s a =
      MatchResult-exist (made_of s.table.names s.table.waits steps)
      (λ (run : Option (List ℕ) × List Step). AnswersReplay s a run.0 run.1)
      (λ fault. PrintsRefusal (cert_refusal fault)) (λ run read. AnswersReplay-exist s a run.0 run.1)
      (λ fault. PrintsRefusal-exist (cert_refusal fault))

  module _ (lanes : List ℕ) where
    ReplaysDeclared-unique : (s : Declared) (end other : End) (out printed : List ℕ) → ReplaysDeclared s lanes steps end out → ReplaysDeclared s lanes steps other printed
        → (end ≡ other) × (out ≡ printed)
    ReplaysDeclared-unique s end other out printed =
        MatchResult-unique (workqueues_of_text s.table.names s.partition lanes) (λ a. ReplaysAssigned s a steps) (λ fault. PrintsRefusal (cert_refusal fault)) end other out printed
        (λ a read. ReplaysAssigned-unique s a end other out printed) (λ fault. PrintsRefusal-unique (cert_refusal fault) end other out printed)

    ReplaysDeclared-exist : (s : Declared) → (end : End) × (out : List ℕ) × ReplaysDeclared s lanes steps end out
    ReplaysDeclared-exist s =
        MatchResult-exist (workqueues_of_text s.table.names s.partition lanes) (λ a. ReplaysAssigned s a steps) (λ fault. PrintsRefusal (cert_refusal fault)) (λ a read. ReplaysAssigned-exist s a)
        (λ fault. PrintsRefusal-exist (cert_refusal fault))

pub ReplaysRun-unique : (text lanes steps : List ℕ) (end other : End) (out printed : List ℕ) → ReplaysRun text lanes steps end out → ReplaysRun text lanes steps other printed → (end ≡ other) × (out ≡ printed)
ReplaysRun-unique text lanes steps end other out printed =
    MatchResult-unique (declaration text) (λ s. ReplaysDeclared s lanes steps) PrintsRefusal end other out printed
    (λ s declared. ReplaysDeclared-unique steps lanes s end other out printed) (λ r. PrintsRefusal-unique r end other out printed)

pub ReplaysRun-exist : (text lanes steps : List ℕ) → (end : End) × (out : List ℕ) × ReplaysRun text lanes steps end out
ReplaysRun-exist text lanes steps =
    MatchResult-exist (declaration text) (λ s. ReplaysDeclared s lanes steps) PrintsRefusal (λ s declared. ReplaysDeclared-exist steps lanes s) PrintsRefusal-exist
