use Rattle.std.proofs.Common.{◌≡◌, ◌++◌, map, take}
use Rattle.std.specs.Prelude.{flat_map}
use Rattle.wq_text.specs.LineText.{spaced}
use Rattle.wq_cert.specs.PlanText.{name_of}
use Rattle.wq_repair_command.proofs.assignment.put_items.Given as goal

-- the names of the items so far
abbrev pub invariant-loop-item : goal.invariant-loop-item
invariant-loop-item g l = l.out.items ≡ l.fn.out.items ++ flat_map spaced (map (name_of l.table.names) (take l.item-index l.items))
