use Rattle.std.proofs.Common.{ℕ, ◌<◌, get_or}
use Rattle.wq_items.specs.declared.target.Target.{Target}
use Rattle.wq_items.specs.Table.{targets_of}
use Rattle.wq_groups.specs.Declaration.{declaration_of}
use Rattle.wq_checker.specs.SearchingAround.{ItemsFall}
use Rattle.wq_checker.proofs.checking_around.first_of_item.Given as goal

abbrev pub invariant-loop-target : goal.invariant-loop-target
invariant-loop-target g l =
    (k : ℕ) (e : Target) → k < l.target-index
    → ItemsFall (declaration_of l.table l.groups) l.assignment l.bare l.places l.item
    (get_or (targets_of l.table.waits l.item) k e).item
