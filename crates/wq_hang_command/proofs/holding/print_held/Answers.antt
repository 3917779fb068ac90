use Rattle.wq_groups.specs.Declaration.{declaration_of}
use Rattle.wq_hang.specs.AnswerFor.{IsHeldBy}
use Rattle.wq_hang_command.proofs.holding.print_held.Goals as goal

pub hold_text-requires : goal.hold_text-requires
hold_text-requires g c =
    let s = c.args.assigned.now.declared in
    let named = c.args.named.now in
    let item = c.in-HeldUp.field-0 in
    let held : IsHeldBy (declaration_of s.table s.partition) c.args.assigned.now.workqueues named item
    c.in-HeldUp.hops.items c.in-HeldUp.steps.items = rw c.in-HeldUp.is at c.requires in
    (named, item, rw (c.deref.ensures.value, c.deref-in-HeldUp.ensures.value) held)
