use Rattle.std.proofs.Common.{◌≡◌}
use Rattle.wq_groups.specs.Declaration.{declaration_of}
use Rattle.wq_checker.specs.Chains.{before_from}
use Rattle.wq_checker.proofs.Breaks.{JoinUpTo}
use Rattle.wq_checker.proofs.chains.first_break.Given as goal

abbrev pub invariant-loop-arc : goal.invariant-loop-arc
invariant-loop-arc g l = record {
  counted : l.at ≡ l.arc-index;
  behind : l.before ≡ before_from l.fn.first l.arcs l.arc-index;
  joined : JoinUpTo (declaration_of l.table l.groups) (before_from l.fn.first l.arcs) l.arcs l.arc-index;
}
