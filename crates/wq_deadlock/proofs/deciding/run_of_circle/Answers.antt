use Rattle.std.proofs.Common.{◌≤◌, arith}
use Rattle.wq_groups.specs.Assignment.{IsAssignment}
use Rattle.wq_groups.specs.Declaration.{declaration_of}
use Rattle.wq_groups.proofs.Declarations.{IsDeclaration-of}
use Rattle.wq_deadlock.proofs.CircleRuns.{IsRun-flushing_items}
use Rattle.wq_deadlock.proofs.Verdicts.{length-flushing_items}
use Rattle.wq_deadlock.proofs.deciding.run_of_circle.Goals as goal

pub make_all-requires-clause-run : goal.make_all-requires-clause-run
make_all-requires-clause-run g c =
    let t = c.args.table.now in
    let p = c.args.groups.now in
    let a = c.args.assignment.now in
    let d = declaration_of t p in
    let is = IsDeclaration-of t p c.len-2.ensures.table c.len.ensures.partition c.requires.grouped in
    let assigned : IsAssignment p.groups a =
    record { one_each = c.requires.assigned; within = c.lanes.ensures.within } in
    let run = IsRun-flushing_items d a is assigned c.args.circle.now c.requires.round in
    rw (c.as_slice-2.ensures.value, c.in_ok-steps.ensures, c.as_slice.ensures.value, c.in_ok-first.ensures, c.in_ok-core.ensures.machine) run

pub make_all-requires-clause-numbers : goal.make_all-requires-clause-numbers
make_all-requires-clause-numbers g c =
    let t = c.args.table.now in
    let p = c.args.groups.now in
    let a = c.args.assignment.now in
    let d = declaration_of t p in
    let is = IsDeclaration-of t p c.len-2.ensures.table c.len.ensures.partition c.requires.grouped in
    let assigned : IsAssignment p.groups a =
    record { one_each = c.requires.assigned; within = c.lanes.ensures.within } in
    let lanes : a.lanes ≤ 4096 = omega (arith, c.lanes.ensures.lanes, c.lanes.ensures.few) in
    let few = length-flushing_items d a is assigned lanes c.args.circle.now c.requires.round in
    rw (c.as_slice-2.ensures.value, c.in_ok-steps.ensures, c.as_slice.ensures.value, c.in_ok-first.ensures, c.in_ok-core.ensures.machine) (omega (arith, few))
