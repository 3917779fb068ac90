use Rattle.std.proofs.Common.{inl, arith}
use Rattle.wq_groups.specs.DeclaredGroups.{declared_waits}
use Rattle.wq_repair.proofs.Answered.{CoversRescued-needed}
use Rattle.wq_repair.proofs.wider.wider_scope.Goals as goal

pub scope_of-requires-clause-named : goal.scope_of-requires-clause-named
scope_of-requires-clause-named g c = (c.args.names.now, c.in_ok-named.ensures)

pub returns : goal.returns
returns g c =
    c.in_ok-scope.ensures.scope c.args.names.now c.in_ok-named.ensures (λ k below rescued.
    (c.in_ok-all.ensures.exactly k (omega (arith, below, c.requires.needed.one_each))).1 (inl
    (CoversRescued-needed (declared_waits c.args.assigned.now.declared) c.args.assigned.now.workqueues c.args.names.now
    c.args.needed.now c.requires.needed k below rescued)))
