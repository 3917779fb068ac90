-- How the lines of a drawing are told apart, and which flushes are red.
use Rattle.std.specs.Prelude.{ℕ, ◌⊎◌, ◌||◌, Bool, List, bytes_eq, codes, take}
use Rattle.wq_groups.specs.Declaration.{Declaration}
use Rattle.wq_graph.specs.declared.arc.WaitArc.{WaitArc}
use Rattle.wq_core.specs.Workqueues.{Workqueues}
use Rattle.wq_deadlock.specs.Judging.{bare_waits}
use Rattle.wq_circles.specs.Flushes.{HasFlush, IsInComponents}
use Rattle.wq_dot.specs.Drawing.{member_line, single_line}

-- whether this is the line of an item, in a group of one or of several
abbrev pub is_line_of : List (List ℕ) → ℕ → List ℕ → Bool
is_line_of names i line = bytes_eq (single_line names i) line || bytes_eq (member_line names i) line

-- whether this is an arrow: no other line begins like this
abbrev pub is_arrow : List ℕ → Bool
is_arrow line = bytes_eq (take 3 line) (codes "  \"")

-- the flush of this arc is in one of these components, or leads from a workqueue
-- that has a rescuer to one that has none
abbrev pub IsRed : Declaration → Workqueues → List (List WaitArc) → WaitArc → Type 0
IsRed d ws components b = IsInComponents components b ⊎ HasFlush b (bare_waits d ws)
