use Rattle.wq_groups.specs.Declaration.{declaration_of}
use Rattle.wq_checker.specs.Searching.{FindsFirst, OfItemsBelow}
use Rattle.wq_checker.specs.SearchingAround.{ItemsFall}
use Rattle.wq_checker.proofs.checking_around.first_not_falling.Given as goal

abbrev pub invariant-loop-number : goal.invariant-loop-number
invariant-loop-number g l =
    FindsFirst (ItemsFall (declaration_of l.table l.groups) l.assignment l.bare l.places)
    (OfItemsBelow (declaration_of l.table l.groups) l.number) l.least
