use Rattle.std.proofs.Common.{◌≡◌, drop}
use Rattle.std.specs.Prelude.{find}
use Rattle.std.specs.Str.{bytes_eq}
use Rattle.wqplan.specs.Commands.{command_name, verb_named, verbs}
use Rattle.wqplan.proofs.commands.Verb.named.Given as goal

-- the command is none of the earlier ones
abbrev pub invariant-loop-verb : goal.invariant-loop-verb
invariant-loop-verb l =
    (l.verb-items ≡ verbs)
    × (find (λ verb. bytes_eq (command_name verb) l.name) (drop l.verb-index l.verb-items) ≡ verb_named l.name)
