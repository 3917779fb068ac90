-- What a call returns in place of a declaration.
use Rattle.std.specs.Prelude.{◌≡◌, Result, Err}
use Rattle.wq_text.specs.Refusal.{Refusal}
use Rattle.wq_items.specs.declared.fault.ItemError.{ItemError}
use Rattle.wq_items.specs.declared.fault.ItemError.TheVariants as items
use Rattle.wq_items.specs.Building.{item_refusal}
use Rattle.wq_groups.specs.declared.fault.GroupError.{GroupError}
use Rattle.wq_groups.specs.declared.fault.GroupError.TheVariants as groups
use Rattle.wq_groups.specs.Grouping.{group_refusal}
use Rattle.wq_groups.specs.DeclaredGroups.{Declared}
use Rattle.wq_commands.specs.declared.declaration.Stop.{Stop}
use Rattle.wq_commands.specs.declared.declaration.Stop.TheVariants.{Refused, OutOfMemory}

-- a refusal with this number and line, or out of memory, which says nothing about the text
abbrev pub StopsAt : Stop → Result Declared Refusal → Type 0
StopsAt (Refused code line) declared = declared ≡ Err (record { code = code; line = line })
StopsAt OutOfMemory declared = Unit {0}

-- a fault of the third pass, or out of memory
abbrev pub item_stop : ItemError → Stop
item_stop items.OutOfMemory = OutOfMemory
item_stop (items.ItemTwice line) = Refused (item_refusal (items.ItemTwice line)).code line
item_stop (items.UnknownItem line) = Refused (item_refusal (items.UnknownItem line)).code line
item_stop (items.TooManyItems line) = Refused (item_refusal (items.TooManyItems line)).code line
item_stop (items.TooManyFlushes line) = Refused (item_refusal (items.TooManyFlushes line)).code line

-- a fault of the fourth pass, or out of memory
abbrev pub group_stop : GroupError → Stop
group_stop groups.OutOfMemory = OutOfMemory
group_stop (groups.GroupedTwice line) = Refused (group_refusal (groups.GroupedTwice line)).code line
