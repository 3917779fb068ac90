-- The `ordered` lines among directives.
use Rattle.std.proofs.Common.{ℕ, List, [], ◌∷◌}
use Rattle.std.specs.List.{AllByRecursion}
use Rattle.wq_text.specs.Words.{WordView}
use Rattle.wq_decl.specs.declared.directive.Directive.{Directive}
use Rattle.wq_decl.specs.declared.directive.Directive.TheVariants.{Item, Flush, FlushWq, Unsure, Ordered}
use Rattle.wq_decl.specs.Reading.{ordered_lines, HasNames}

-- the words on them are names
pub HasNames-ordered_lines : (ds : List (ℕ × Directive)) → AllByRecursion (λ (d : ℕ × Directive). HasNames d.1) ds → AllByRecursion (λ (l : ℕ × List WordView). HasNames (Ordered l.1)) (ordered_lines ds)
HasNames-ordered_lines [] h = tt
HasNames-ordered_lines ((n, Item name) ∷ ds) h = HasNames-ordered_lines ds h.1
HasNames-ordered_lines ((n, Flush name targets) ∷ ds) h = HasNames-ordered_lines ds h.1
HasNames-ordered_lines ((n, FlushWq name target) ∷ ds) h = HasNames-ordered_lines ds h.1
HasNames-ordered_lines ((n, Unsure name target whole) ∷ ds) h = HasNames-ordered_lines ds h.1
HasNames-ordered_lines ((n, Ordered names) ∷ ds) h = (h.0, HasNames-ordered_lines ds h.1)
