-- `run` was carried out on its files: so it ended, and so much is said of it.
use Rattle.std.proofs.Common.{◌≡◌, ◌≢◌, ◌+◌, ℕ, List, Option, Some, Result, Err, subst, sym, take}
use Rattle.std.proofs.lemmas.Result.{IfOk-weaker}
use Rattle.std.specs.Prelude.{IfErr, IfOk}
use Rattle.clap.specs.Words.{Text}
use Rattle.wq_text.specs.Refusal.{Refusal}
use Rattle.wq_meter.specs.Input.{IsInput}
use Rattle.wq_meter.specs.Meter.{Meter, WritesPrefix, WritesWhole, count_after}
use Rattle.wq_meter.specs.Shell.{Given, Tells, kept}
use Rattle.wq_meter.specs.declared.fault.Fault.TheVariants.{Write}
use Rattle.wq_meter.specs.declared.stopped.Stopped.{Stopped}
use Rattle.wq_meter.specs.declared.stopped.Stopped.TheVariants.{Faulted}
use Rattle.wq_commands.specs.Commands.{one_text}
use Rattle.wq_commands.specs.Declaration.{max_declaration}
use Rattle.wq_commands.specs.Shell.{SaysOfTexts}
use Rattle.wq_commands.specs.declared.end.End.{End}
use Rattle.wq_diagnosis.specs.Refused.{Diagnoses}
use Rattle.wq_run.specs.Fault.{end_or_stop}
use Rattle.wq_run.specs.Run.{IsAnsweredByRun, only}
use Rattle.wq_run.specs.Running.{RunsPlan, SaysRun}
use Rattle.wq_run.specs.declared.fault.CommandFault.{CommandFault}
use Rattle.wq_run.specs.declared.fault.RunStop.{RunStop}
use Rattle.wqplan.specs.CommandLine.{Asked, Behind, helpers, helpers_asked, run_asked}
use Rattle.wqplan.specs.Ended.{EndedBy, EndsAsAsked}
use Rattle.wqplan.specs.Files.{HaveTexts}
use Rattle.wqplan.specs.Told.{IsToldAsAsked, Names, SaysOn, names_of_files}
use Rattle.wqplan.specs.declared.command_line.Files.{Files}
use Rattle.wqplan.specs.declared.commands.Verb.{Verb}
use Rattle.wqplan.specs.declared.commands.Verb.TheVariants.{Run}
use Rattle.wqplan.proofs.AskedLemmas.{Tells-weaker}
use Rattle.wqplan.proofs.EndedLemmas.{EndedBy-weaker, of_run, run_ended_by}

-- ---- on what a reader had

module _ (Holds : Text → List ℕ → Type 0) (Input : List ℕ → Type 0) (files : Files Text) (count : ℕ) {R : Type 0}
    (remaining : R → Option (List ℕ)) (reader read : Meter R)
    (have : (text : List ℕ) → IsInput (remaining reader.device) text
    → HaveTexts Holds Input one_text files (only text))
    {W : Type 0} (contents : W → Option (List ℕ)) (old new : Meter W) {E : Type 0} (told : E → Option (List ℕ))
    (teller told_by : Meter E) (ended : Result End (Stopped RunStop)) (result : Result End CommandFault)
    (is : result ≡ end_or_stop ended) where
  -- what a voice with these names says of what was found
  abbrev pub By : Names → Given → Result End Refusal → Option (List ℕ) → Type 0
  By m t found =
      SaysOfTexts (λ s _ end said. SaysRun m.declaration s end said)
      (λ _ r words. Diagnoses m.declaration (Some r) words)
      t found

  module _ (n : Names) where
    abbrev pub Answered : End → Type 0
    Answered end =
        IsAnsweredByRun count remaining reader read end (WritesWhole contents old new)
        (λ t found. Tells told teller told_by (By n t found))

    ends : (end : End) {IsWritten : List ℕ → Type 0} {IsTold : Given → Result End Refusal → Type 0}
        (h : IsAnsweredByRun count remaining reader read end IsWritten IsTold)
        → EndsAsAsked Holds Input (run_asked files count) end h.out
    ends end h = (only h.text, have h.text h.given.input, h.answer)

    pub run_ended : IfOk ended Answered
        → (ended ≡ Err (Faulted Write) → (end : End)
        × IsAnsweredByRun count remaining reader read end (WritesPrefix contents old new) (λ _ _. told_by ≡ teller))
        → IfErr ended (λ stopped. stopped ≢ Faulted Write → new ≡ old)
        → (ended ≡ Err (Faulted Write) → new.failures ≡ count_after old.failures 1)
        → (ended ≢ Err (Faulted Write) → new.failures ≡ old.failures)
        → EndedBy contents old new (EndsAsAsked Holds Input (run_asked files count)) result
    run_ended answered prefix =
        run_ended_by contents old new (EndsAsAsked Holds Input (run_asked files count)) ended result is
        (IfOk-weaker ended Answered
        (λ end. (out : List ℕ) × EndsAsAsked Holds Input (run_asked files count) end out × WritesWhole contents old
        new out)
        (λ end h. (h.out, ends end h, h.written)) answered)
        (λ failed. let h = prefix failed in (h.0, h.1.out, ends h.0 h.1, h.1.written))

    module _ (A : Type 0) (named : n ≡ names_of_files files) where
      abbrev pub TellsRun : End → Type 0
      TellsRun end =
          IsToldAsAsked A Holds Input (run_asked files count) end (WritesWhole contents old new)
          (Tells told teller told_by)

      told_so : (end : End) → Answered end → TellsRun end
      told_so end h = record {
        texts = only h.text;
        have = have h.text h.given.input;
        out = h.out;
        answer = h.answer;
        written = h.written;
        told = Tells-weaker told teller told_by (By n (only (take (max_declaration + 1) h.text)) h.found)
            (SaysOn A (names_of_files files) Run files (helpers count) (kept one_text (only h.text)) end h.out)
            (λ said s. (
              h.found,
              h.finds,
              subst (λ m. By m (only (take (max_declaration + 1) h.text)) h.found said) named s,
            )) h.told;
      }

      pub run_told : IfOk ended Answered → IfOk result TellsRun
      run_told answered = of_run ended result is TellsRun (IfOk-weaker ended Answered TellsRun told_so answered)

-- ---- `run` as it is asked for

-- `run` with this many helpers is what is asked for
module _ (Holds : Text → List ℕ → Type 0) (Input : List ℕ → Type 0) (files : Files Text) (behind : Behind)
    (v : Verb) (is : v ≡ Run) (count : ℕ) (same : count ≡ helpers_asked behind) {W : Type 0}
    (contents : W → Option (List ℕ)) (old new : Meter W) where
  abbrev pub running : Verb → Asked
  running w = record { verb = w; files = files; behind = behind }

  pub asked_ended : (result : Result End CommandFault)
      → EndedBy contents old new (EndsAsAsked Holds Input (run_asked files count)) result
      → EndedBy contents old new (EndsAsAsked Holds Input (running v)) result
  asked_ended result h =
      subst (λ w. EndedBy contents old new (EndsAsAsked Holds Input (running w)) result) (sym is)
      (EndedBy-weaker contents old new (EndsAsAsked Holds Input (run_asked files count))
      (EndsAsAsked Holds Input (running Run))
      (λ end out h. (h.0, h.1, subst (λ m. RunsPlan m h.0.first end out) same h.2)) result h)

  module _ (A : Type 0) {E : Type 0} (told : E → Option (List ℕ)) (teller told_by : Meter E) where
    asked_so : (end : End)
        → IsToldAsAsked A Holds Input (run_asked files count) end (WritesWhole contents old new)
        (Tells told teller told_by)
        → IsToldAsAsked A Holds Input (running Run) end (WritesWhole contents old new) (Tells told teller told_by)
    asked_so end h = record {
      texts = h.texts;
      have = h.have;
      out = h.out;
      answer = subst (λ m. RunsPlan m h.texts.first end h.out) same h.answer;
      written = h.written;
      told = Tells-weaker told teller told_by
          (SaysOn A (names_of_files files) Run files (helpers count) (kept one_text h.texts) end h.out)
          (SaysOn A (names_of_files files) Run files behind (kept one_text h.texts) end h.out)
          (λ said s. subst (λ m. SaysOn A (names_of_files files) Run files (helpers m) (kept one_text h.texts) end
          h.out said)
          same s) h.told;
    }

    pub asked_told : (result : Result End CommandFault)
        → IfOk result (λ end. IsToldAsAsked A Holds Input (run_asked files count) end (WritesWhole contents old new)
        (Tells told teller told_by))
        → IfOk result (λ end. IsToldAsAsked A Holds Input (running v) end (WritesWhole contents old new)
        (Tells told teller told_by))
    asked_told result h =
        subst (λ w. IfOk result (λ end. IsToldAsAsked A Holds Input (running w) end (WritesWhole contents old new)
        (Tells told teller told_by))) (sym is)
        (IfOk-weaker result
        (λ end. IsToldAsAsked A Holds Input (run_asked files count) end (WritesWhole contents old new)
        (Tells told teller told_by))
        (λ end. IsToldAsAsked A Holds Input (running Run) end (WritesWhole contents old new)
        (Tells told teller told_by))
        asked_so h)
