use Rattle.wq_groups.specs.Declaration.{IsDeclaration, declaration_of}
use Rattle.wq_groups.proofs.Declarations.{IsDeclaration-of}
use Rattle.wq_voice.proofs.Walked.{hang_items, hang_targets}
use Rattle.wq_voice.proofs.reason.of_hops.Goals as goal

pub put_walk-requires-clause-items : goal.put_walk-requires-clause-items
put_walk-requires-clause-items g c =
    let t = c.args.subject.now.assigned.now.declared.table in
    let p = c.args.subject.now.assigned.now.declared.partition in
    let ws = c.args.subject.now.assigned.now.workqueues in
    let sound = c.table-table.ensures.assigned.declared in
    let declaration : IsDeclaration (declaration_of t p) = IsDeclaration-of t p sound.table sound.partition
    sound.one_group_each in
    hang_items (declaration_of t p) ws declaration c.args.hops.now c.requires.hang.0 c.requires.hang.1

pub put_walk-requires-clause-targets : goal.put_walk-requires-clause-targets
put_walk-requires-clause-targets g c =
    let t = c.args.subject.now.assigned.now.declared.table in
    let p = c.args.subject.now.assigned.now.declared.partition in
    let ws = c.args.subject.now.assigned.now.workqueues in
    let sound = c.table-table.ensures.assigned.declared in
    let declaration : IsDeclaration (declaration_of t p) = IsDeclaration-of t p sound.table sound.partition
    sound.one_group_each in
    hang_targets (declaration_of t p) ws declaration c.args.hops.now c.requires.hang.0 c.requires.hang.1
