use Rattle.std.proofs.Common.{◌≡◌, take, length, true}
use Rattle.std.specs.List.{list_all}
use Rattle.wq_decl.specs.Names.{is_name_byte}
use Rattle.wq_decl.proofs.reading.are_name_bytes.Given as goal

-- the bytes passed over may stand in a name
abbrev pub invariant-loop-rest : goal.invariant-loop-rest
invariant-loop-rest l = list_all is_name_byte l.word ≡ list_all is_name_byte l.rest

abbrev pub decreases-loop-rest : goal.decreases-loop-rest
decreases-loop-rest l = length l.rest

-- and so may those of the last three
abbrev pub invariant-loop-byte : goal.invariant-loop-byte
invariant-loop-byte l = list_all is_name_byte (take l.byte-index l.byte-items) ≡ true
