-- Stops: which pass was refused memory, if the answer is that memory ran out.
use Rattle.std.proofs.Common.{◌≡◌, List, ℕ, Ok, refl, inr}
use Rattle.wq_decl.specs.declared.directive.Directive.{Directive}
use Rattle.wq_items.specs.declared.fault.ItemError.{ItemError}
use Rattle.wq_items.specs.declared.fault.ItemError.TheVariants as items
use Rattle.wq_items.specs.FirstFault.{RanOut}
use Rattle.wq_items.specs.Table.{Table}
use Rattle.wq_items.specs.Building.{table_of}
use Rattle.wq_groups.specs.declared.fault.GroupError.{GroupError}
use Rattle.wq_groups.specs.declared.fault.GroupError.TheVariants as groups
use Rattle.wq_groups.specs.OutOfMemory.{RanOutOfGroups, RanOutReading}
use Rattle.wq_commands.specs.Stop.{item_stop, group_stop}
use Rattle.wq_commands.specs.declared.declaration.Stop.TheVariants.{OutOfMemory}

-- the pass over the items was refused memory, if its fault stops the reading in this way
pub ran_out_of_items : (e : ItemError) (ds : List (ℕ × Directive)) → (e ≡ items.OutOfMemory → RanOut ds) → item_stop e ≡ OutOfMemory → RanOut ds
ran_out_of_items items.OutOfMemory ds ran stop = ran refl
ran_out_of_items (items.ItemTwice line) ds ran stop = cc
ran_out_of_items (items.UnknownItem line) ds ran stop = cc
ran_out_of_items (items.TooManyItems line) ds ran stop = cc
ran_out_of_items (items.TooManyFlushes line) ds ran stop = cc

-- the pass over the groups was refused memory, if its fault stops the reading in this way
pub ran_out_of_groups : (e : GroupError) (ds : List (ℕ × Directive)) (t : Table) → table_of ds ≡ Ok t
    → (e ≡ groups.OutOfMemory → RanOutOfGroups ds t.names) → group_stop e ≡ OutOfMemory → RanOutReading ds
ran_out_of_groups groups.OutOfMemory ds t made ran stop = inr (t, made, ran refl)
ran_out_of_groups (groups.GroupedTwice line) ds t made ran stop = cc
