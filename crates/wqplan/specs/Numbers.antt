-- All numbers that the program prints.
use Rattle.std.specs.Prelude.{ℕ}
use Rattle.wq_checker.specs.declared.around.NoAround.{NoAround}
use Rattle.wq_checker.specs.CodesAround.{no_around_code}
use Rattle.wq_held.specs.Errors.{new_code}
use Rattle.wq_held.specs.declared.fault.NewError.TheVariants.{TooManyLanes}
use Rattle.wq_commands.specs.Numbers.{IsPrinted}

-- the number of a refused text or of a `no`, also of one around fixed workqueues; or the number of a plan that `run`
-- refuses because it has more workqueues than a runtime may have
pub data IsPrintedByProgram : ℕ → Type 0 where
  of_text : {code : ℕ} → IsPrinted code → IsPrintedByProgram code
  of_around : (reason : NoAround) → IsPrintedByProgram (no_around_code reason)
  of_plan : IsPrintedByProgram (new_code TooManyLanes)
