use Rattle.std.proofs.Common.{arith}
use Rattle.wq_groups.specs.Declaration.{declaration_of}
use Rattle.wq_groups.proofs.Declarations.{IsDeclaration-of}
use Rattle.wq_deadlock.proofs.RankedLanes.{IsSafe-ranked, IsSafe-walked}
use Rattle.wq_deadlock.proofs.safety.is_safe.Goals as goal

pub returns-in-Ranks-clause-safe : goal.returns-in-Ranks-clause-safe
returns-in-Ranks-clause-safe g c =
    let t = c.args.table.now in
    let p = c.args.groups.now in
    let a = c.args.assignment.now in
    let is = IsDeclaration-of t p c.len-2.ensures.table c.len.ensures.partition c.requires.grouped in
    let ranking = rw (c.in-Ranks.is, c.in_ok-graph.ensures.graph) at c.in_ok-rank.ensures.ranking in
    IsSafe-ranked (declaration_of t p) a is (record { one_each = c.requires.assigned; within = c.lanes.ensures.within }) (omega (arith, c.lanes.ensures.lanes, c.lanes.ensures.few)) c.in-Ranks.field-0.items ranking.0

pub returns-clause-safe : goal.returns-clause-safe
returns-clause-safe g c =
    let t = c.args.table.now in
    let p = c.args.groups.now in
    let a = c.args.assignment.now in
    let is = IsDeclaration-of t p c.len-2.ensures.table c.len.ensures.partition c.requires.grouped in
    let walked = rw (c.in-Circle.is, c.in_ok-graph.ensures.graph) at c.in_ok-rank.ensures.ranking in
    IsSafe-walked (declaration_of t p) a is (record { one_each = c.requires.assigned; within = c.lanes.ensures.within }) c.in-Circle.field-0.items walked
