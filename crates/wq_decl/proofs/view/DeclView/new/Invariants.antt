use Rattle.std.proofs.Common.{◌≡◌, ◌||◌}
use Rattle.wq_text.specs.Lines.{lines_of}
use Rattle.wq_decl.specs.Reading.{directives, first_fault, has_ordered}
use Rattle.wq_decl.proofs.view.DeclView.new.Given as goal

-- the first fault of the lines that are left is that of them all, and an `ordered` line was passed over or is left where there is one
abbrev pub invariant-loop-line : goal.invariant-loop-line
invariant-loop-line l = record {
  same_fault : first_fault l.line-iterator ≡ first_fault (lines_of l.text);
  same_order : (l.orders || has_ordered (directives l.line-iterator)) ≡ has_ordered (directives (lines_of l.text));
}
