use Rattle.std.proofs.Common.{◌≡◌, drop, map}
use Rattle.wq_voice.specs.Unknown.{first_unknown}
use Rattle.wq_voice.proofs.unknown.first_unknown.Given as goal

-- none so far
abbrev pub invariant-loop-name : goal.invariant-loop-name
invariant-loop-name g l = first_unknown l.table.names (map (λ n. n.now) (drop l.name-index l.names)) ≡ first_unknown l.table.names (map (λ n. n.now) l.names)
