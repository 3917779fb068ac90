use Rattle.std.proofs.Common.{◌≡◌, ℕ}
use Rattle.std.specs.List.{AllByRecursion}
use Rattle.wq_decl.specs.declared.directive.Directive.{Directive}
use Rattle.wq_decl.specs.Reading.{HasNames}
use Rattle.wq_items.specs.Building.{table_after, table_of}
use Rattle.wq_items.proofs.ReadLemmas.{Made}
use Rattle.wq_items.proofs.table.ItemTable.read_seeded.Given as goal

-- the directives before those that are left made the table so far, and with those that are left it gives what all give
abbrev pub invariant-loop-line : goal.invariant-loop-line
invariant-loop-line g l =
    Made l.table l.line-iterator l.view × (table_after l.table l.line-iterator ≡ table_of l.view) × AllByRecursion (λ (d : ℕ × Directive). HasNames d.1) l.line-iterator
