use Rattle.wq_groups.specs.Declaration.{declaration_of}
use Rattle.wq_checker.specs.Falling.{Falls}
use Rattle.wq_checker.specs.Searching.{FindsFirst, OfItemsBelow}
use Rattle.wq_checker.proofs.falling.first_not_falling.Given as goal

abbrev pub invariant-loop-number : goal.invariant-loop-number
invariant-loop-number g l = FindsFirst (Falls (declaration_of l.table l.groups) l.assignment)
    (OfItemsBelow (declaration_of l.table l.groups) l.number) l.least
