-- Seeds that are drawn, files that are opened, and what follows for the ends of a command.
use Rattle.std.proofs.Common.{◌≡◌, ◌≢◌, ◌⊎◌, ℕ, List, Option, Some, None, Result, Ok, Err, inl, inr, refl}
use Rattle.std.proofs.Common.{sym, subst, arith}
use Rattle.std.proofs.lemmas.List.Elements.{All-contains}
use Rattle.std.specs.List.{Contains}
use Rattle.wq_meter.specs.declared.fault.Fault.{Fault}
use Rattle.wq_meter.specs.declared.fault.Fault.TheVariants.{Memory, Read, Write}
use Rattle.wq_meter.specs.declared.stopped.Stopped.{Stopped}
use Rattle.wq_meter.specs.declared.stopped.Stopped.TheVariants.{Faulted, Unanswered}
use Rattle.wq_commands.specs.declared.end.End.{End}
use Rattle.wq_explain.specs.declared.explain.Explained.{Explained}
use Rattle.wq_run.specs.declared.fault.CommandFault.{CommandFault}
use Rattle.wq_run.specs.declared.fault.CommandFault.TheVariants.{Common, Tally, Thread}
use Rattle.wq_run.specs.declared.fault.RunStop.{RunStop}
use Rattle.wq_run.specs.declared.fault.RunStop.TheVariants as stop
use Rattle.wq_run.specs.Fault.{end_or_stop}
use Rattle.clap.specs.Words.{Text}
use Rattle.wqplan.specs.Cause.{EndsAlone, EndsBy, EndsReady, IsCaused, IsOpened, IsReady, MayFail, MayStart}
use Rattle.wqplan.specs.CommandLine.{Asked, files_of, listed, opened_by}
use Rattle.wqplan.specs.Ended.{limits_of}
use Rattle.wqplan.specs.Status.{end_or_common, explained_or_common}
use Rattle.wqplan.specs.declared.command_line.Files.{Files}
use Rattle.wqplan.specs.declared.commands.Verb.{Verb}
use Rattle.wqplan.specs.declared.commands.Verb.TheVariants.{Explain, Run}

module _ {F : Type 0} (Seeds : Option ℕ → Type 0) (Opens : Text → Option F → Type 0) where
  -- ---- ends

  module _ (files : List Text) (ready : IsReady Seeds Opens files) (Fails : Type 0) where
    caused : (ended : Result End Fault) → (ended ≡ Err Read → Fails)
        → EndsReady Seeds Opens files Fails ⊥ (end_or_common ended)
    caused (Ok end) may_fail = ready
    caused (Err Read) may_fail = inr (ready, may_fail refl)
    caused (Err Write) may_fail = ready
    caused (Err Memory) may_fail = ready

    -- the fault is `fault read` only if a read may have failed
    pub caused_by : (ended : Result End Fault) (result : Result End CommandFault) → result ≡ end_or_common ended
        → (ended ≡ Err Read → Fails) → EndsReady Seeds Opens files Fails ⊥ result
    caused_by ended result is may_fail =
        subst (EndsReady Seeds Opens files Fails ⊥) (sym is) (caused ended may_fail)

    run_caused : (ended : Result End (Stopped RunStop)) → (ended ≡ Err (Faulted Read) → Fails)
        → EndsReady Seeds Opens files Fails (Unit {0}) (end_or_stop ended)
    run_caused (Ok end) may_fail = ready
    run_caused (Err (Faulted Read)) may_fail = inr (ready, may_fail refl)
    run_caused (Err (Faulted Write)) may_fail = ready
    run_caused (Err (Faulted Memory)) may_fail = ready
    run_caused (Err (Unanswered stop.OutOfMemory)) may_fail = ready
    run_caused (Err (Unanswered stop.Thread)) may_fail = (ready, tt)
    run_caused (Err (Unanswered stop.Tally)) may_fail = (ready, tt)

    pub run_caused_by : (ended : Result End (Stopped RunStop)) (result : Result End CommandFault)
        → result ≡ end_or_stop ended → (ended ≡ Err (Faulted Read) → Fails)
        → EndsReady Seeds Opens files Fails (Unit {0}) result
    run_caused_by ended result is may_fail =
        subst (EndsReady Seeds Opens files Fails (Unit {0})) (sym is) (run_caused ended may_fail)

  -- a file that never opens leaves only a fault of reading
  pub never_opened : (files : List Text) (Fails Starts : Type 0) (result : Result End CommandFault)
      → EndsReady Seeds Opens files Fails Starts result
      → (path : Text) → Contains files path → ((file : F) → ¬ Opens path (Some file)) → result ≡ Err (Common Read)
  never_opened files Fails Starts (Ok end) ready path contains never =
      let opened = All-contains (IsOpened Opens) files path ready.1 contains in absurd (never opened.0 opened.1)
  never_opened files Fails Starts (Err (Common Read)) unready path contains never = refl
  never_opened files Fails Starts (Err (Common Write)) ready path contains never =
      let opened = All-contains (IsOpened Opens) files path ready.1 contains in absurd (never opened.0 opened.1)
  never_opened files Fails Starts (Err (Common Memory)) ready path contains never =
      let opened = All-contains (IsOpened Opens) files path ready.1 contains in absurd (never opened.0 opened.1)
  never_opened files Fails Starts (Err Thread) ready path contains never =
      let opened = All-contains (IsOpened Opens) files path ready.0.1 contains in absurd (never opened.0 opened.1)
  never_opened files Fails Starts (Err Tally) ready path contains never =
      let opened = All-contains (IsOpened Opens) files path ready.0.1 contains in absurd (never opened.0 opened.1)

  -- so does a seed that is never drawn
  pub never_drawn : (files : List Text) (Fails Starts : Type 0) (result : Result End CommandFault)
      → EndsReady Seeds Opens files Fails Starts result
      → ((seed : ℕ) → ¬ Seeds (Some seed)) → result ≡ Err (Common Read)
  never_drawn files Fails Starts (Ok end) ready never = absurd (never ready.0.0 ready.0.1)
  never_drawn files Fails Starts (Err (Common Read)) unready never = refl
  never_drawn files Fails Starts (Err (Common Write)) ready never = absurd (never ready.0.0 ready.0.1)
  never_drawn files Fails Starts (Err (Common Memory)) ready never = absurd (never ready.0.0 ready.0.1)
  never_drawn files Fails Starts (Err Thread) ready never = absurd (never ready.0.0.0 ready.0.0.1)
  never_drawn files Fails Starts (Err Tally) ready never = absurd (never ready.0.0.0 ready.0.0.1)

  -- ---- what is asked for

  module _ (InputFailed : Type 0) (result : Result End CommandFault) where
    unopened : (verb : Verb) (files : Files Text) → EndsBy Seeds Opens InputFailed verb files result → (path : Text)
        → Contains (opened_by verb files) path → ((file : F) → ¬ Opens path (Some file))
        → result ≡ Err (Common Read)
    unopened Explain files = λ alone path contains never. absurd (omega (arith, contains.1))
    unopened verb files =
        never_opened (listed files) (MayFail InputFailed (limits_of verb files) files) (MayStart verb) result

    pub caused_file : (asked : Asked) → IsCaused Seeds Opens InputFailed asked result → (path : Text)
        → Contains (files_of asked) path → ((file : F) → ¬ Opens path (Some file))
        → result ≡ Err (Common Read)
    caused_file asked = unopened asked.verb asked.files

    -- a command that has no seed ends with `fault read`
    pub unseeded : (verb : Verb) (files : Files Text) → verb ≢ Explain → Seeds None
        → EndsBy Seeds Opens InputFailed verb files (Err (Common Read))
    unseeded Explain files other none = absurd (other refl)
    unseeded verb files other none = inl (inl none)

    undrawn : (verb : Verb) (files : Files Text) → EndsBy Seeds Opens InputFailed verb files result
        → verb ≢ Explain → ((seed : ℕ) → ¬ Seeds (Some seed)) → result ≡ Err (Common Read)
    undrawn Explain files = λ caused other never. absurd (other refl)
    undrawn verb files =
        λ caused other.
        never_drawn (listed files) (MayFail InputFailed (limits_of verb files) files) (MayStart verb) result caused

    pub caused_seed : (asked : Asked) → IsCaused Seeds Opens InputFailed asked result
        → asked.verb ≢ Explain → ((seed : ℕ) → ¬ Seeds (Some seed)) → result ≡ Err (Common Read)
    caused_seed asked = undrawn asked.verb asked.files

  not_started : (files : List Text) (Fails : Type 0) (result : Result End CommandFault)
      → EndsReady Seeds Opens files Fails ⊥ result → (result ≡ Err Thread) ⊎ (result ≡ Err Tally) → ⊥
  not_started files Fails (Ok end) caused (inl is) = cc
  not_started files Fails (Ok end) caused (inr is) = cc
  not_started files Fails (Err (Common fault)) caused (inl is) = cc
  not_started files Fails (Err (Common fault)) caused (inr is) = cc
  not_started files Fails (Err Thread) caused is = caused.1
  not_started files Fails (Err Tally) caused is = caused.1

  not_alone : (result : Result End CommandFault) → EndsAlone result → (result ≡ Err Thread) ⊎ (result ≡ Err Tally) → ⊥
  not_alone (Ok end) caused (inl is) = cc
  not_alone (Ok end) caused (inr is) = cc
  not_alone (Err (Common fault)) caused (inl is) = cc
  not_alone (Err (Common fault)) caused (inr is) = cc
  not_alone (Err Thread) caused is = caused
  not_alone (Err Tally) caused is = caused

  module _ (InputFailed : Type 0) (result : Result End CommandFault) where
    run_only : (verb : Verb) (files : Files Text) → EndsBy Seeds Opens InputFailed verb files result
        → (result ≡ Err Thread) ⊎ (result ≡ Err Tally) → verb ≡ Run
    run_only Run files caused is = refl
    run_only Explain files caused is = absurd (not_alone result caused is)
    run_only verb files caused is =
        absurd (not_started (listed files) (MayFail InputFailed (limits_of verb files) files) result caused is)

    pub only_run : (asked : Asked) → IsCaused Seeds Opens InputFailed asked result
        → (result ≡ Err Thread) ⊎ (result ≡ Err Tally) → asked.verb ≡ Run
    only_run asked = run_only asked.verb asked.files

-- `explain` reads nothing and starts no threads
alone : (ended : Result Explained Fault) → ended ≢ Err Read → EndsAlone (explained_or_common ended)
alone (Ok e) never = tt
alone (Err Memory) never = tt
alone (Err Read) never = absurd (never refl)
alone (Err Write) never = tt

pub alone_by : (ended : Result Explained Fault) (result : Result End CommandFault) → result ≡ explained_or_common ended
    → ended ≢ Err Read → EndsAlone result
alone_by ended result is never = subst EndsAlone (sym is) (alone ended never)
