use Rattle.std.proofs.Common.{◌-◌, length}
use Rattle.std.specs.Int.Bits.{bit_and}
use Rattle.wq_items.specs.Hashing.{names_of, keys_of}
use Rattle.wq_items.proofs.ByKeyLemmas.{Leads}
use Rattle.wq_items.proofs.names.look_up.Given as goal

abbrev pub invariant-loop-end : goal.invariant-loop-end
invariant-loop-end g l =
    let most = length l.places.lasts.items - 1 in
    Leads (names_of l.names) (keys_of most l.names) l.wanted.bytes.now (bit_and l.wanted.hash most) l.end

abbrev pub decreases-loop-end : goal.decreases-loop-end
decreases-loop-end g l = l.end
