use Rattle.std.proofs.Common.{◌≡◌, ◌≤◌, length}
use Rattle.wq_text.specs.Lines.{lines_of}
use Rattle.wq_items.proofs.AtOnceLemmas.{SoFar, OrdersSoFar}
use Rattle.wq_items.proofs.at_once.read_at_once.Given as goal

-- the lines before those that are left have no fault and made the table, and the `ordered` lines among them were counted
abbrev pub invariant-loop-line : goal.invariant-loop-line
invariant-loop-line g l = record {
  made : SoFar l.parts l.seen.any l.lines (lines_of l.text);
  ordered : OrdersSoFar l.seen.any l.seen.lines l.seen.count l.lines (lines_of l.text);
  at : l.here ≡ l.lines;
}

abbrev pub decreases-loop-line : goal.decreases-loop-line
decreases-loop-line g l = length l.lines

-- the same after some plain lines
abbrev pub invariant-plain : goal.invariant-plain
invariant-plain g l = record {
  made : SoFar l.parts l.seen.any l.lines (lines_of l.text);
  ordered : OrdersSoFar l.seen.any l.seen.lines l.seen.count l.lines (lines_of l.text);
  fewer : length l.lines ≤ length l.initial.lines;
}

abbrev pub decreases-plain : goal.decreases-plain
decreases-plain g l = length l.lines
