use Rattle.std.proofs.Common.{map, length, Ok, sym, ap, ◌∙◌, rules}
use Rattle.wq_fixed.specs.Fixed.{Fixed}
use Rattle.wq_cert.specs.Lines.{cert_line}
use Rattle.wq_cert.proofs.FixedRead.{fixed_plan-bare, fixed_plan-all}
use Rattle.wq_cert.proofs.PartLanes.{IsFixed-part, length-part}
use Rattle.wq_cert.proofs.fixed_reading.read_fixed_plan.Goals as goal

pub new-requires : goal.new-requires
new-requires g c =
    let names = c.args.table.now.names in
    let p = c.args.groups.now in
    let read = c.in_ok-workqueues.ensures.workqueues in
    let lanes = c.in_ok-lane_of_group.lane_of_group.items in
    let part = c.in_ok-lane_of_group.ensures.lanes read.workqueues read.noted in
    let unset = c.in_ok-bare.ensures.items_if_clones_equal (λ y e. search rules) in
    IsFixed-part p read.workqueues lanes c.in_ok-bare.bare.items part
    (fixed_plan-bare names p (map cert_line c.args.lines) (cert_line c.in-Some.first) (map cert_line c.next.new.self)
    (ap (map cert_line) c.in-Some.ensures.steps) c.in_ok-count.count c.in_ok-count.ensures read.workqueues
    (map cert_line c.read_next_workqueues.new.lines) read.read c.in_ok-bare.bare.items unset)

pub returns-clause-fixed : goal.returns-clause-fixed
returns-clause-fixed g c =
    let names = c.args.table.now.names in
    let p = c.args.groups.now in
    let read = c.in_ok-workqueues.ensures.workqueues in
    let lanes = c.in_ok-lane_of_group.lane_of_group.items in
    let part = c.in_ok-lane_of_group.ensures.lanes read.workqueues read.noted in
    let unset = c.in_ok-bare.ensures.items_if_clones_equal (λ y e. search rules) in
    fixed_plan-all names p (map cert_line c.args.lines) (cert_line c.in-Some.first) (map cert_line c.next.new.self)
    (ap (map cert_line) c.in-Some.ensures.steps) c.in_ok-count.count c.in_ok-count.ensures read.workqueues
    (map cert_line c.read_next_workqueues.new.lines) read.read lanes part
    (c.in_ok-read_chain.field-0.0, c.in_ok-read_chain.field-0.1.items) c.in_ok-bare.bare.items
    c.in_ok-read_chain.ensures.chain unset
    ∙ ap (λ (f : Fixed). Ok f) (sym c.new.ensures)

pub returns-clause-groups : goal.returns-clause-groups
returns-clause-groups g c =
    let read = c.in_ok-workqueues.ensures.workqueues in
    ap (λ (f : Fixed). length f.lane_of_group) c.new.ensures
    ∙ length-part c.args.groups.now read.workqueues c.in_ok-lane_of_group.lane_of_group.items
    (c.in_ok-lane_of_group.ensures.lanes read.workqueues read.noted)
