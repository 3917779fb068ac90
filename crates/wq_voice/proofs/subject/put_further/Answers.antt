use Rattle.std.proofs.Common.{List, ◌++◌, map, subst}
use Rattle.std.proofs.lemmas.List.{take_all}
use Rattle.wq_hang.specs.declared.hop.Hop.{Hop}
use Rattle.wq_groups.specs.DeclaredGroups.{Declared}
use Rattle.wq_voice.specs.Reasons.{and_lead, lead_for, AddsSaid}
use Rattle.wq_voice.specs.Waits.{words_of}
use Rattle.wq_voice.proofs.Blocks.{AddsSaid-none, AddsSaid-next}
use Rattle.wq_voice.proofs.subject.put_further.Goals as goal

pub loop-hop-init : goal.loop-hop-init
loop-hop-init g c = AddsSaid-none c.args.subject.now.declaration.file.now c.args.out.now.items

pub loop-hop-preserved : goal.loop-hop-preserved
loop-hop-preserved g c =
    let subject = c.args.subject.now in
    let s : Declared = subject.assigned.now.declared in
    AddsSaid-next subject.declaration.file.now
    (λ (h : Hop). lead_for and_lead h ++ words_of subject.wording s subject.assigned.now.workqueues
    (map (λ n. n.now) subject.names.now) h)
    c.args.hops.now c.loop-hop.hop-index c.hop-item.result c.args.out.now.items c.loop-hop.out.items c.put_wait.new.out.items
    c.loop-hop-test.true c.hop-item.is c.loop-hop.invariant (rw c.and_further.ensures at c.in_ok-put_wait.ensures)

pub returns : goal.returns
returns g c =
    let subject = c.args.subject.now in
    let s : Declared = subject.assigned.now.declared in
    subst (λ (hops : List Hop). AddsSaid subject.declaration.file.now
    (map (λ (h : Hop). lead_for and_lead h ++ words_of subject.wording s subject.assigned.now.workqueues
    (map (λ n. n.now) subject.names.now) h) hops) c.args.out.now.items c.loop-hop.out.items)
    (take_all c.loop-hop.hop-index c.args.hops.now c.loop-hop-test.false) c.loop-hop.invariant
