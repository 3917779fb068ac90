-- How a command ended that was carried out on readers.
use Rattle.std.proofs.Common.{◌≡◌, ◌≢◌, ℕ, List, Option, Result, Ok, Err, ap, refl, subst, sym}
use Rattle.std.specs.Prelude.{IfErr, IfOk}
use Rattle.wq_text.specs.Refusal.{Refusal}
use Rattle.wq_meter.specs.Meter.{Meter, WritesPrefix, WritesWhole, count_after}
use Rattle.wq_meter.specs.Shell.{Given}
use Rattle.wq_meter.specs.declared.fault.Fault.{Fault}
use Rattle.wq_meter.specs.declared.fault.Fault.TheVariants.{Memory, Read, Write}
use Rattle.wq_meter.specs.declared.stopped.Stopped.{Stopped}
use Rattle.wq_meter.specs.declared.stopped.Stopped.TheVariants.{Faulted, Unanswered}
use Rattle.wq_meter.specs.declared.texts.Limits.{Limits}
use Rattle.wq_groups.specs.DeclaredGroups.{Declared}
use Rattle.wq_commands.specs.Shell.{AnswersTexts, IsAnswered}
use Rattle.wq_commands.specs.declared.end.End.{End}
use Rattle.wq_explain.specs.declared.explain.Explained.{Explained}
use Rattle.wq_explain.specs.Explaining.{explained_end, explained_text}
use Rattle.wq_run.specs.declared.fault.CommandFault.{CommandFault}
use Rattle.wq_run.specs.declared.fault.CommandFault.TheVariants.{Common, Tally, Thread}
use Rattle.wq_run.specs.declared.fault.RunStop.{RunStop}
use Rattle.wq_run.specs.declared.fault.RunStop.TheVariants as stop
use Rattle.wq_run.specs.Fault.{end_or_stop}
use Rattle.wqplan.specs.Ended.{EndedBy, EndsExplain}
use Rattle.wqplan.specs.Files.{EndsIn}
use Rattle.wqplan.specs.Status.{end_or_common, explain_end, explained_or_common}

-- only this is a fault of writing
abbrev pub IsWrite : Fault → Type 0
IsWrite Memory = ⊥
IsWrite Read = ⊥
IsWrite Write = Unit {0}

abbrev pub IsFaultedWrite : Stopped RunStop → Type 0
IsFaultedWrite (Faulted fault) = IsWrite fault
IsFaultedWrite (Unanswered why) = ⊥

-- only this is an end
abbrev pub IsEnd : {T E : Type 0} → Result T E → Type 0
IsEnd (Ok end) = Unit {0}
IsEnd (Err fault) = ⊥

-- what holds of the end of a command holds of how it ended
pub of_end : (ended : Result End Fault) (result : Result End CommandFault) → result ≡ end_or_common ended
    → (P : End → Type 0) → IfOk ended P → IfOk result P
of_end (Ok end) result is P h = subst (λ (r : Result End CommandFault). IfOk r P) (sym is) h
of_end (Err fault) result is P h = subst (λ (r : Result End CommandFault). IfOk r P) (sym is) tt

pub of_run : (ended : Result End (Stopped RunStop)) (result : Result End CommandFault) → result ≡ end_or_stop ended
    → (P : End → Type 0) → IfOk ended P → IfOk result P
of_run (Ok end) result is P h = subst (λ (r : Result End CommandFault). IfOk r P) (sym is) h
of_run (Err (Faulted fault)) result is P h = subst (λ (r : Result End CommandFault). IfOk r P) (sym is) tt
of_run (Err (Unanswered why)) result is P h = subst (λ (r : Result End CommandFault). IfOk r P) (sym is) tt

-- ---- a command that ended so ended otherwise, too

module _ {W : Type 0} (contents : W → Option (List ℕ)) (old new : Meter W) (Ends Others : End → List ℕ → Type 0)
    (f : (end : End) (out : List ℕ) → Ends end out → Others end out) where
  pub EndedBy-weaker : (result : Result End CommandFault) → EndedBy contents old new Ends result
      → EndedBy contents old new Others result
  EndedBy-weaker (Ok end) h = (h.0, f end h.0 h.1, h.2, h.3)
  EndedBy-weaker (Err (Common Write)) h = (h.0, h.1, f h.0 h.1 h.2, h.3, h.4)
  EndedBy-weaker (Err (Common Read)) h = h
  EndedBy-weaker (Err (Common Memory)) h = h
  EndedBy-weaker (Err Thread) h = h
  EndedBy-weaker (Err Tally) h = h

-- ---- a command that answers its texts

-- what readers had is what is known of them otherwise
pub IsAnswered-from : {F : Type 0} {limits : Limits} {From To : Given → Type 0}
    {Answers : Given → Result F Refusal → List ℕ → Type 0} {IsWritten : List ℕ → Type 0}
    {IsTold : Given → Result F Refusal → Type 0} → ((t : Given) → From t → To t)
    → IsAnswered limits From Answers IsWritten IsTold → IsAnswered limits To Answers IsWritten IsTold
IsAnswered-from f h = record {
  texts = h.texts;
  from = f h.texts h.from;
  found = h.found;
  out = h.out;
  answer = h.answer;
  written = h.written;
  told = h.told;
}

module _ {W F : Type 0} (contents : W → Option (List ℕ)) (old new : Meter W) (limits : Limits)
    (Have : Given → Type 0) (Answers : Declared → Given → F → End → List ℕ → Type 0)
    (IsTold IsUntold : Given → Result F Refusal → Type 0) where
  -- what is known of a command that was carried out
  abbrev pub Whole : End → Type 0
  Whole end =
      IsAnswered limits Have (λ texts found out. AnswersTexts Answers texts found end out)
      (WritesWhole contents old new) IsTold

  abbrev pub Part : Type 0
  Part = (end : End)
      × IsAnswered limits Have (λ texts found out. AnswersTexts Answers texts found end out)
      (WritesPrefix contents old new) IsUntold

  of_fault : (ended : Result End Fault) → IfOk ended Whole → (ended ≡ Err Write → Part)
      → IfErr ended (λ fault. fault ≢ Write → new ≡ old)
      → (ended ≡ Err Write → new.failures ≡ count_after old.failures 1)
      → (ended ≢ Err Write → new.failures ≡ old.failures)
      → EndedBy contents old new (EndsIn Have limits Answers) (end_or_common ended)
  of_fault (Ok end) whole part untouched failed not_failed = (
    whole.out,
    (whole.texts, whole.from, whole.found, whole.answer),
    whole.written,
    not_failed (λ same. subst IsEnd same tt),
  )
  of_fault (Err Write) whole part untouched failed not_failed =
      let h = part refl in
      (h.0, h.1.out, (h.1.texts, h.1.from, h.1.found, h.1.answer), h.1.written, failed refl)
  of_fault (Err Read) whole part untouched failed not_failed = untouched (λ same. subst IsWrite (sym same) tt)
  of_fault (Err Memory) whole part untouched failed not_failed = untouched (λ same. subst IsWrite (sym same) tt)

  pub ended_by : (ended : Result End Fault) (result : Result End CommandFault)
      → result ≡ end_or_common ended → IfOk ended Whole
      → (ended ≡ Err Write → Part) → IfErr ended (λ fault. fault ≢ Write → new ≡ old)
      → (ended ≡ Err Write → new.failures ≡ count_after old.failures 1)
      → (ended ≢ Err Write → new.failures ≡ old.failures)
      → EndedBy contents old new (EndsIn Have limits Answers) result
  ended_by ended result is whole part untouched failed not_failed =
      subst (EndedBy contents old new (EndsIn Have limits Answers)) (sym is)
      (of_fault ended whole part untouched failed not_failed)

-- ---- `run`

module _ {W : Type 0} (contents : W → Option (List ℕ)) (old new : Meter W) (Ends : End → List ℕ → Type 0) where
  of_stopped : (ended : Result End (Stopped RunStop))
      → IfOk ended (λ end. (out : List ℕ) × Ends end out × WritesWhole contents old new out)
      → (ended ≡ Err (Faulted Write) → (end : End) × (out : List ℕ) × Ends end out × WritesPrefix contents old new out)
      → IfErr ended (λ stopped. stopped ≢ Faulted Write → new ≡ old)
      → (ended ≡ Err (Faulted Write) → new.failures ≡ count_after old.failures 1)
      → (ended ≢ Err (Faulted Write) → new.failures ≡ old.failures)
      → EndedBy contents old new Ends (end_or_stop ended)
  of_stopped (Ok end) whole part untouched failed not_failed =
      (whole.0, whole.1, whole.2, not_failed (λ same. subst IsEnd same tt))
  of_stopped (Err (Faulted Write)) whole part untouched failed not_failed =
      let h = part refl in (h.0, h.1, h.2, h.3, failed refl)
  of_stopped (Err (Faulted Read)) whole part untouched failed not_failed =
      untouched (λ same. subst IsFaultedWrite (sym same) tt)
  of_stopped (Err (Faulted Memory)) whole part untouched failed not_failed =
      untouched (λ same. subst IsFaultedWrite (sym same) tt)
  of_stopped (Err (Unanswered stop.OutOfMemory)) whole part untouched failed not_failed =
      untouched (λ same. subst IsFaultedWrite (sym same) tt)
  of_stopped (Err (Unanswered stop.Thread)) whole part untouched failed not_failed =
      untouched (λ same. subst IsFaultedWrite (sym same) tt)
  of_stopped (Err (Unanswered stop.Tally)) whole part untouched failed not_failed =
      untouched (λ same. subst IsFaultedWrite (sym same) tt)

  pub run_ended_by : (ended : Result End (Stopped RunStop)) (result : Result End CommandFault)
      → result ≡ end_or_stop ended
      → IfOk ended (λ end. (out : List ℕ) × Ends end out × WritesWhole contents old new out)
      → (ended ≡ Err (Faulted Write) → (end : End) × (out : List ℕ) × Ends end out × WritesPrefix contents old new out)
      → IfErr ended (λ stopped. stopped ≢ Faulted Write → new ≡ old)
      → (ended ≡ Err (Faulted Write) → new.failures ≡ count_after old.failures 1)
      → (ended ≢ Err (Faulted Write) → new.failures ≡ old.failures)
      → EndedBy contents old new Ends result
  run_ended_by ended result is whole part untouched failed not_failed =
      subst (EndedBy contents old new Ends) (sym is) (of_stopped ended whole part untouched failed not_failed)

-- ---- `explain`, which reads nothing

module _ {W : Type 0} (contents : W → Option (List ℕ)) (old new : Meter W) (code : Option (List ℕ)) where
  of_explained : (ended : Result Explained Fault) → IfOk ended (λ e. e ≡ explained_end code)
      → IfOk ended (λ _. WritesWhole contents old new (explained_text code))
      → (ended ≡ Err Write → WritesPrefix contents old new (explained_text code)) → (ended ≡ Err Memory → new ≡ old)
      → ended ≢ Err Read
      → (ended ≡ Err Write → new.failures ≡ count_after old.failures 1)
      → (ended ≢ Err Write → new.failures ≡ old.failures)
      → EndedBy contents old new (EndsExplain code) (explained_or_common ended)
  of_explained (Ok e) is whole part untouched never failed not_failed =
      (explained_text code, (ap explain_end is, refl), whole, not_failed (λ same. subst IsEnd same tt))
  of_explained (Err Write) is whole part untouched never failed not_failed =
      (explain_end (explained_end code), explained_text code, (refl, refl), part refl, failed refl)
  of_explained (Err Read) is whole part untouched never failed not_failed = absurd (never refl)
  of_explained (Err Memory) is whole part untouched never failed not_failed = untouched refl

  pub explain_ended_by : (ended : Result Explained Fault) (result : Result End CommandFault)
      → result ≡ explained_or_common ended
      → IfOk ended (λ e. e ≡ explained_end code) → IfOk ended (λ _. WritesWhole contents old new (explained_text code))
      → (ended ≡ Err Write → WritesPrefix contents old new (explained_text code)) → (ended ≡ Err Memory → new ≡ old)
      → ended ≢ Err Read
      → (ended ≡ Err Write → new.failures ≡ count_after old.failures 1)
      → (ended ≢ Err Write → new.failures ≡ old.failures)
      → EndedBy contents old new (EndsExplain code) result
  explain_ended_by ended result same is whole part untouched never failed not_failed =
      subst (EndedBy contents old new (EndsExplain code)) (sym same)
      (of_explained ended is whole part untouched never failed not_failed)
