-- What the program promises follows from how it ends.
use Rattle.std.proofs.Common.{◌≡◌, Bool, false, true, ℕ, List, [], ◌∷◌, Option, Result, Ok, Err, subst}
use Rattle.std.specs.Prelude.{IfOk}
use Rattle.clap.specs.Words.{Text}
use Rattle.wq_meter.specs.Meter.{Meter, WritesWhole}
use Rattle.wq_meter.specs.Shell.{Given}
use Rattle.wq_commands.specs.declared.end.End.{End}
use Rattle.wq_commands.specs.declared.end.End.TheVariants.{Good}
use Rattle.wq_commands.specs.Checking.{Checks}
use Rattle.wq_around_command.specs.Checking.{ChecksAround}
use Rattle.wq_around_command.proofs.Promised.{KeepsAround-plans, YesIsTrueAround-checks}
use Rattle.wq_commands.proofs.PromiseLemmas.{KeepsPromise-answers, YesIsTrue-checks}
use Rattle.wq_circles.proofs.HeldPromised.{KeepsHeldCircles-answers}
use Rattle.wq_circles.proofs.Promised.{KeepsCircles-answers, KeepsOwnCircles-answers}
use Rattle.wq_commands.proofs.VerdictPromises.{KeepsVerdict-judges}
use Rattle.wq_hang_command.proofs.HoldPromised.{KeepsHold-holds}
use Rattle.wq_hang_command.proofs.Promised.{KeepsHang-hangs}
use Rattle.wq_run.specs.declared.fault.CommandFault.{CommandFault}
use Rattle.wqplan.specs.CommandLine.{Asked, Behind, names_asked}
use Rattle.wqplan.specs.Ended.{EndedBy, EndsAsAsked, EndsCheck, EndsCircles, EndsHang, EndsOn, EndsPlan, has_second}
use Rattle.wqplan.specs.Ended.{has_third}
use Rattle.wqplan.specs.Promised.{Keeps, KeepsAllCircles, KeepsAllHangs, KeepsAnyPlan, KeepsYes, PromisesAsAsked}
use Rattle.wqplan.specs.declared.command_line.Files.{Files}
use Rattle.wqplan.specs.declared.commands.Verb.{Verb}
use Rattle.wqplan.specs.declared.commands.Verb.TheVariants.{Check, Circles, Deadlock, Hang, Plan}

module _ (end : End) (out : List ℕ) where
  of_circles : (assigned : Bool) (names : List Text) (texts : Given) → EndsCircles assigned names texts end out
      → KeepsAllCircles assigned names texts end out
  of_circles false names texts h = KeepsOwnCircles-answers texts.first end out h
  of_circles true [] texts h = KeepsCircles-answers texts.first texts.second end out h
  of_circles true (name ∷ names) texts h =
      KeepsHeldCircles-answers (name ∷ names) texts.first texts.second end out h

  of_hang : (names : List Text) (texts : Given) → EndsHang names texts end out → KeepsAllHangs names texts end out
  of_hang [] texts h = KeepsHang-hangs texts.first texts.second end out h
  of_hang (name ∷ names) texts h = KeepsHold-holds (name ∷ names) texts.first texts.second end out h

  of_plan : (around : Bool) (texts : Given) → EndsPlan around texts end out → KeepsAnyPlan around texts end out
  of_plan false texts h = KeepsPromise-answers texts.first end out h
  of_plan true texts h = KeepsAround-plans texts.first texts.second end out h

  of_check : (around : Bool) (texts : Given) → EndsCheck around texts end out → end ≡ Good → KeepsYes around texts out
  of_check false texts h is =
      YesIsTrue-checks texts.first texts.second out (subst (λ e. Checks texts.first texts.second e out) is h)
  of_check true texts h is =
      YesIsTrueAround-checks texts.first texts.second texts.third out
      (subst (λ e. ChecksAround texts.first texts.second texts.third e out) is h)

  Keeps-ends : (verb : Verb) (files : Files Text) (behind : Behind) (texts : Given)
      → EndsOn verb files behind texts end out → Keeps verb files behind texts end out
  Keeps-ends Plan files behind texts h = of_plan (has_second files) texts h
  Keeps-ends Check files behind texts h = of_check (has_third files) texts h
  Keeps-ends Deadlock files behind texts h = KeepsVerdict-judges texts.first texts.second end out h
  Keeps-ends Hang files behind texts h = of_hang (names_asked behind) texts h
  Keeps-ends Circles files behind texts h = of_circles (has_second files) (names_asked behind) texts h
  Keeps-ends verb files behind texts h = tt

-- a command that has ended promises this
module _ {W : Type 0} (contents : W → Option (List ℕ)) (old new : Meter W) (Holds : Text → List ℕ → Type 0)
    (Input : List ℕ → Type 0) (asked : Asked) where
  pub promised_by : (result : Result End CommandFault) → EndedBy contents old new (EndsAsAsked Holds Input asked) result
      → IfOk result (λ end. (out : List ℕ) × PromisesAsAsked Holds Input asked end out
      × WritesWhole contents old new out)
  promised_by (Ok end) h =
      let ends = h.1 in (
        h.0,
        (ends.0, ends.1, ends.2, Keeps-ends end h.0 asked.verb asked.files asked.behind ends.0 ends.2),
        h.2,
      )
  promised_by (Err fault) h = tt
