-- What is answered to the bytes that came is the answer to the text that a reader had.
use Rattle.std.proofs.Common.{◌≡◌, ◌≢◌, List, ℕ, Option, Result, Ok, Err, inl, inr, subst, ap, ◌∙◌}
use Rattle.std.specs.Prelude.{IfErr, IfOk, MatchResult}
use Rattle.std.specs.Result.{IsErrAnd}
use Rattle.wq_text.specs.Refusal.{Refusal}
use Rattle.wq_meter.specs.Meter.{Meter}
use Rattle.wq_meter.specs.Input.{HasGivenBytes}
use Rattle.wq_meter.specs.Shell.{Given, Tells}
use Rattle.wq_commands.specs.Shell.{SaysOfTexts}
use Rattle.wq_meter.specs.declared.fault.Fault.TheVariants.{Write}
use Rattle.wq_meter.specs.declared.stopped.Stopped.{Stopped}
use Rattle.wq_meter.specs.declared.stopped.Stopped.TheVariants.{Faulted, Unanswered}
use Rattle.wq_meter.specs.Stopped.{IfUnanswered}
use Rattle.wq_commands.specs.declared.end.End.{End}
use Rattle.wq_commands.specs.Answer.{PrintsRefusal}
use Rattle.wq_groups.specs.DeclaredGroups.{Declared}
use Rattle.wq_commands.specs.Declaration.{declaration, max_declaration}
use Rattle.wq_commands.proofs.AnswerLemmas.{declaration-take}
use Rattle.wq_commands.proofs.FoundLemmas.{AnswersTexts-match}
use Rattle.wq_run.specs.declared.fault.RunStop.{RunStop}
use Rattle.wq_run.specs.declared.fault.RunStop.TheVariants as stop
use Rattle.wq_run.specs.Fault.{Stops}
use Rattle.wq_run.specs.Run.{IsAnsweredByRun, IsRunnableInput, only}
use Rattle.wq_run.specs.Running.{FindsRun, HasRuntime, IsRunnable, RunsPlan, RunsDeclared, RunsTexts}

module _ (helpers : ℕ) (one other : List ℕ) (declared : declaration one ≡ declaration other) where
  pub RunsPlan-same : (end : End) (out : List ℕ) → RunsPlan helpers one end out → RunsPlan helpers other end out
  RunsPlan-same end out runs = subst (λ (d : Result Declared Refusal). MatchResult d (λ s. RunsDeclared helpers s end out) (λ r. PrintsRefusal r end out)) declared runs

  IsRunnable-same : IsRunnable one → IsRunnable other
  IsRunnable-same runnable = subst (λ (d : Result Declared Refusal). MatchResult d HasRuntime (λ r. ⊥)) declared runnable

module _ {R : Type 0} (helpers : ℕ) {remaining : R → Option (List ℕ)} {old new : Meter R} {bytes : List ℕ} (came : HasGivenBytes remaining old new max_declaration bytes)
    (texts : Given) (is : texts ≡ only bytes) where
  declared_same : declaration bytes ≡ declaration came.given.text
  declared_same = ap declaration came.prefix ∙ declaration-take came.given.text

  pub IsAnsweredByRun-read : (found : Result End Refusal) (end : End) (IsWritten : List ℕ → Type 0)
      (IsTold : Given → Result End Refusal → Type 0) (out : List ℕ)
      → RunsTexts helpers texts found end out → IsWritten out → IsTold texts found
      → IsAnsweredByRun helpers remaining old new end IsWritten IsTold
  IsAnsweredByRun-read found end IsWritten IsTold out runs written told =
      let of_bytes = subst (λ (t : Given). RunsTexts helpers t found end out) is runs in record {
        text = came.given.text;
        given = came.given.gives;
        found = found;
        out = out;
        finds = subst (λ (read : List ℕ). RunsTexts helpers (only read) found end out) came.prefix of_bytes;
        answer = RunsPlan-same helpers bytes came.given.text declared_same end out
            (AnswersTexts-match (λ s _ f e o. FindsRun helpers s f e o) (RunsDeclared helpers) (only bytes) found end
            out (λ s f h. h.1) of_bytes);
        written = written;
        told = subst (λ (read : List ℕ). IsTold (only read) found) came.prefix
            (subst (λ (t : Given). IsTold t found) is told);
      }

  IsRunnableInput-read : IsRunnable texts.first → IsRunnableInput remaining old new
  IsRunnableInput-read runnable = record {
    text = came.given.text;
    given = came.given.gives;
    runnable = IsRunnable-same helpers bytes came.given.text declared_same (subst (λ (t : Given). IsRunnable t.first) is runnable);
  }

  Stops-read : (why : RunStop) → Stops (IsRunnable texts.first) why → Stops (IsRunnableInput remaining old new) why
  Stops-read stop.OutOfMemory stops = tt
  Stops-read stop.Thread stops = IsRunnableInput-read stops
  Stops-read stop.Tally stops = IsRunnableInput-read stops

  pub IfUnanswered-read : (stopped : Stopped RunStop) → IfUnanswered (Stops (IsRunnable texts.first)) stopped → IfUnanswered (Stops (IsRunnableInput remaining old new)) stopped
  IfUnanswered-read (Faulted fault) h = tt
  IfUnanswered-read (Unanswered why) h = Stops-read why h

-- what holds of the reason why there is no answer
pub unanswered_for : {T S : Type 0} (ended : Result T (Stopped S)) (why : S) (P : S → Type 0) → ended ≡ Err (Unanswered why) → IfErr ended (IfUnanswered P) → P why
unanswered_for {T} {S} ended why P is h = subst (λ (r : Result T (Stopped S)). IfErr r (IfUnanswered P)) is h

-- nothing is written without an answer
pub unwritten_for : {T S : Type 0} (ended : Result T (Stopped S)) (why : S) (P : Type 0) → ended ≡ Err (Unanswered why)
    → IfErr ended (λ stopped. stopped ≢ Faulted Write → P) → P
unwritten_for {T} {S} ended why P is h = subst (λ (r : Result T (Stopped S)). IfErr r (λ stopped. stopped ≢ Faulted Write → P)) is h (λ same. cc)

-- what holds of the end holds of how it ended
pub ended_as : {T E : Type 0} (ended : Result T E) (end : T) → ended ≡ Ok end → (P : T → Type 0) → IfOk ended P → P end
ended_as {T} {E} ended end is P h = subst (λ (r : Result T E). IfOk r P) is h

-- what holds after any other error holds
pub not_by : {T E : Type 0} (ended : Result T E) (Other : E → Type 0) (P : Type 0) → IsErrAnd ended Other
    → IfErr ended (λ e. Other e → P) → P
not_by (Ok x) Other P other h = absurd other
not_by (Err e) Other P other h = h other

-- what is said of what was found is said of the texts
pub told_of_texts : {W F : Type 0} (contents : W → Option (List ℕ)) (old new : Meter W) (texts : Given) (s : Declared)
    → declaration texts.first ≡ Ok s → (Says : Declared → Given → F → Option (List ℕ) → Type 0)
    (Refuses : Given → Refusal → Option (List ℕ) → Type 0) (found : F) → Tells contents old new (Says s texts found)
    → Tells contents old new (SaysOfTexts Says Refuses texts (Ok found))
told_of_texts contents old new texts s is Says Refuses found (inl same) = inl same
told_of_texts contents old new texts s is Says Refuses found (inr h) = inr (h.0, (s, is, h.1), h.2)
