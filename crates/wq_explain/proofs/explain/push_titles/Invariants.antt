-- The titles of the rows so far come after what was there.
use Rattle.std.proofs.Common.{◌≡◌, ◌++◌, map, take}
use Rattle.wq_explain.specs.Explaining.{row_of, titles}
use Rattle.wq_explain.proofs.explain.push_titles.Given as goal

abbrev pub invariant-loop-row : goal.invariant-loop-row
invariant-loop-row g l = l.text.items ≡ l.fn.text.items ++ titles (map row_of (take l.row-index l.rows))
