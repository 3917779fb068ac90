use Rattle.std.proofs.Common.{◌≡◌, ◌++◌, map, replicate}
use Rattle.wq_dot.proofs.comments.put_comments.Given as goal

-- the text was added this many times
abbrev pub invariant-loop : goal.invariant-loop
invariant-loop g l = map (λ c. c.now) l.comments.items ≡ map (λ c. c.now) l.initial.comments.items ++ replicate l.counter l.comment
