use Rattle.std.proofs.Common.{map, arith}
use Rattle.std.proofs.lemmas.Result.{on_ok_weaker}
use Rattle.wq_hang.specs.declared.hop.Hop.{Hop}
use Rattle.wq_groups.specs.DeclaredGroups.{Declared}
use Rattle.wq_voice.specs.Waits.{words_of}
use Rattle.wq_voice.proofs.Blocks.{AddsSaid-told}
use Rattle.wq_voice.proofs.subject.put_walk.Goals as goal

pub returns-in_ok-put_wait-in-len1-up : goal.returns-in_ok-put_wait-in-len1-up
returns-in_ok-put_wait-in-len1-up g c =
    let subject = c.args.subject.now in
    let s : Declared = subject.assigned.now.declared in
    on_ok_weaker c.put_further.result (λ more.
    AddsSaid-told subject.declaration.file.now c.args.lead.now
    (λ (h : Hop). words_of subject.wording s subject.assigned.now.workqueues (map (λ n. n.now) subject.names.now) h)
    c.args.hops.now c.first-item.result c.args.out.now.items c.put_wait.new.out.items c.put_further.new.out.items
    (omega (arith, c.in-len1-up.len_at_least)) c.first-item.is c.in_ok-put_wait-in-len1-up.ensures more) c.put_further.ensures
