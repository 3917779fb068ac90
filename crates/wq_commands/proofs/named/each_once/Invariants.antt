use Rattle.std.proofs.Common.{◌≡◌, take}
use Rattle.std.specs.Prelude.{filter}
use Rattle.std.specs.List.{range_with_len}
use Rattle.wq_cert.specs.Noted.{marks}
use Rattle.wq_cert.specs.Reading.{stands_in}
use Rattle.wq_commands.proofs.named.each_once.Given as goal

abbrev pub invariant-loop-item : goal.invariant-loop-item
invariant-loop-item g l = l.are_there.items ≡ marks l.count (take l.item-index l.items)

abbrev pub invariant-loop-i : goal.invariant-loop-i
invariant-loop-i g l = l.list.items ≡ filter (stands_in l.items) (range_with_len 0 l.i)
