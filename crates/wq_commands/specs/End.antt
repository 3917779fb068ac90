-- What each end of a run tells the process that started it.
use Rattle.std.specs.Prelude.{ℕ}
use Rattle.wq_commands.specs.declared.end.End.{End}
use Rattle.wq_commands.specs.declared.end.End.TheVariants.{Good, Bad, Refused}

-- the exit status of the process: 0 if the answer is good, 1 if it is bad, 2 if the input was refused
abbrev pub exit_status : End → ℕ
exit_status Good = 0
exit_status Bad = 1
exit_status Refused = 2
