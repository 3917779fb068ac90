use Rattle.std.proofs.Common.{◌≡◌}
use Rattle.wq_decl.specs.Names.{are_names}
use Rattle.wq_decl.proofs.reading.are_names.Given as goal

-- the words passed over are names
abbrev pub invariant-loop-word : goal.invariant-loop-word
invariant-loop-word l = are_names l.word-iterator ≡ are_names l.fn.words
