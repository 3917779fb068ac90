use Rattle.std.proofs.Common.{◌≡◌, List, [], None, Ok, length, map, sym, ap, subst, ◌∙◌, arith, rules}
use Rattle.std.proofs.lemmas.List.{length-map}
use Rattle.wq_text.specs.Lines.{LineView}
use Rattle.wq_fixed.specs.Fixed.{Fixed}
use Rattle.wq_cert.specs.FixedReading.{fixed_lines_reading}
use Rattle.wq_cert.specs.Lines.{CertLine, cert_line}
use Rattle.wq_cert.specs.Reading.{all_workqueues, as_wq, is_bare_line}
use Rattle.wq_cert.specs.Texts.{IsCertFaultOf}
use Rattle.wq_cert.proofs.FixedRead.{fixed_lines-short, fixed_lines-part, fixed_lines-after, fixed_lines-all}
use Rattle.wq_cert.proofs.FixedRead.{fixed_lines-bare}
use Rattle.wq_cert.proofs.PartLanes.{IsFixed-part, length-part}
use Rattle.wq_cert.proofs.SaidLines.{said_lines-true}
use Rattle.wq_cert.proofs.fixed_reading.read_fixed_lines.Goals as goal

pub returns-in_err-workqueues-clause-fault : goal.returns-in_err-workqueues-clause-fault
returns-in_err-workqueues-clause-fault g c =
    let names = c.args.table.now.names in
    let p = c.args.groups.now in
    let said = said_lines-true c.lines.result
    ∙ ap (λ (ls : List LineView). map as_wq (map cert_line ls)) c.lines.ensures in
    let e = c.in_err-workqueues.field-0.0 in
    let fault : IsCertFaultOf e (fixed_lines_reading names p (map cert_line c.args.view.now)) =
    fixed_lines-short names p (map cert_line c.args.view.now) e
    (subst (λ (ls : List CertLine). IsCertFaultOf e (all_workqueues names p.group_of [] ls)) said
    c.in_err-workqueues.ensures.fault) in
    search (rules, fault)

pub returns-in_err-lane_of_group-clause-fault : goal.returns-in_err-lane_of_group-clause-fault
returns-in_err-lane_of_group-clause-fault g c =
    let names = c.args.table.now.names in
    let p = c.args.groups.now in
    let said = said_lines-true c.lines.result
    ∙ ap (λ (ls : List LineView). map as_wq (map cert_line ls)) c.lines.ensures in
    let all = c.in_ok-workqueues.ensures.workqueues in
    let read =
    subst (λ (ls : List CertLine). all_workqueues names p.group_of [] ls ≡ Ok (all.workqueues, all.rest)) said
    all.read in
    let e = c.in_err-lane_of_group.field-0.0 in
    let fault : IsCertFaultOf e (fixed_lines_reading names p (map cert_line c.args.view.now)) =
    fixed_lines-part names p (map cert_line c.args.view.now) all.workqueues all.rest read e
    (c.in_err-lane_of_group.ensures.fault all.workqueues all.noted) in
    search (rules, fault)

pub returns-in-Some-clause-fault : goal.returns-in-Some-clause-fault
returns-in-Some-clause-fault g c =
    let names = c.args.table.now.names in
    let p = c.args.groups.now in
    let said = said_lines-true c.lines.result
    ∙ ap (λ (ls : List LineView). map as_wq (map cert_line ls)) c.lines.ensures in
    let all = c.in_ok-workqueues.ensures.workqueues in
    let read =
    subst (λ (ls : List CertLine). all_workqueues names p.group_of [] ls ≡ Ok (all.workqueues, all.rest)) said
    all.read in
    fixed_lines-after names p (map cert_line c.args.view.now) all.workqueues all.rest read
    c.in_ok-lane_of_group.lane_of_group.items (c.in_ok-lane_of_group.ensures.lanes all.workqueues all.noted)
    c.in-Some.line (sym c.in-Some.is ∙ all.line)

pub new-requires : goal.new-requires
new-requires g c =
    let names = c.args.table.now.names in
    let p = c.args.groups.now in
    let said = said_lines-true c.lines.result
    ∙ ap (λ (ls : List LineView). map as_wq (map cert_line ls)) c.lines.ensures in
    let all = c.in_ok-workqueues.ensures.workqueues in
    let read =
    subst (λ (ls : List CertLine). all_workqueues names p.group_of [] ls ≡ Ok (all.workqueues, all.rest)) said
    all.read in
    let none : c.in_ok-workqueues.after ≡ None = search (rules, c.in_default.is) in
    let views = c.lines-2.result in
    IsFixed-part p all.workqueues c.in_ok-lane_of_group.lane_of_group.items c.in_ok-bare.bare.items
    (c.in_ok-lane_of_group.ensures.lanes all.workqueues all.noted)
    (omega (
      arith,
      ap length c.in_ok-bare.ensures,
      length-map (map cert_line views) is_bare_line,
      length-map views cert_line,
      ap length c.lines-2.ensures,
      length-map c.args.view.now cert_line,
      fixed_lines-bare names p (map cert_line c.args.view.now) all.workqueues all.rest read (sym none ∙ all.line),
    ))

pub returns-clause-fixed : goal.returns-clause-fixed
returns-clause-fixed g c =
    let names = c.args.table.now.names in
    let p = c.args.groups.now in
    let said = said_lines-true c.lines.result
    ∙ ap (λ (ls : List LineView). map as_wq (map cert_line ls)) c.lines.ensures in
    let all = c.in_ok-workqueues.ensures.workqueues in
    let read =
    subst (λ (ls : List CertLine). all_workqueues names p.group_of [] ls ≡ Ok (all.workqueues, all.rest)) said
    all.read in
    let none : c.in_ok-workqueues.after ≡ None = search (rules, c.in_default.is) in
    fixed_lines-all names p (map cert_line c.args.view.now) all.workqueues all.rest read
    c.in_ok-lane_of_group.lane_of_group.items (c.in_ok-lane_of_group.ensures.lanes all.workqueues all.noted)
    c.in_ok-bare.bare.items (sym none ∙ all.line)
    (c.in_ok-bare.ensures ∙ ap (λ (ls : List LineView). map is_bare_line (map cert_line ls)) c.lines-2.ensures)
    ∙ ap (λ (f : Fixed). Ok f) (sym c.new.ensures)

pub returns-clause-groups : goal.returns-clause-groups
returns-clause-groups g c =
    let all = c.in_ok-workqueues.ensures.workqueues in
    ap (λ (f : Fixed). length f.lane_of_group) c.new.ensures
    ∙ length-part c.args.groups.now all.workqueues c.in_ok-lane_of_group.lane_of_group.items
    (c.in_ok-lane_of_group.ensures.lanes all.workqueues all.noted)
