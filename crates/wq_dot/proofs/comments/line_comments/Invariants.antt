use Rattle.std.proofs.Common.{◌≡◌, ◌++◌, map}
use Rattle.std.specs.Prelude.{flat_map}
use Rattle.wq_dot.specs.Tooltips.{line_comments}
use Rattle.wq_dot.proofs.comments.line_comments.Given as goal

-- the comments so far, and the comments of the lines that are left
abbrev pub invariant-loop-line : goal.invariant-loop-line
invariant-loop-line g l = map (λ c. c.now) l.comments.items ++ flat_map line_comments l.line-iterator ≡ flat_map line_comments l.fn.lines
