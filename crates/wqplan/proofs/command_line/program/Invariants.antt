use Rattle.std.proofs.Common.{◌≡◌, take}
use Rattle.std.specs.Prelude.{fold}
use Rattle.clap.specs.Words.{app_of}
use Rattle.wqplan.specs.Commands.{verbs}
use Rattle.wqplan.specs.CommandLine.{bare, with_command}
use Rattle.wqplan.proofs.command_line.program.Given as goal

-- it has the commands so far
abbrev pub invariant-loop-verb : goal.invariant-loop-verb
invariant-loop-verb l =
    (l.verb-items ≡ verbs) × (app_of l.program ≡ fold with_command bare (take l.verb-index l.verb-items))
