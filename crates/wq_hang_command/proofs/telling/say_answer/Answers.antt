use Rattle.std.proofs.Common.{refl}
use Rattle.wq_groups.specs.Declaration.{declaration_of}
use Rattle.wq_hang.specs.AnswerFor.{IsHeldBy}
use Rattle.wq_hang_command.proofs.telling.say_answer.Goals as goal

pub say_held-requires-clause-held : goal.say_held-requires-clause-held
say_held-requires-clause-held g c =
    let s = c.args.assigned.now.declared in
    let steps = c.in-HeldUp.field-2.items in
    let held : IsHeldBy (declaration_of s.table s.partition) c.args.assigned.now.workqueues c.args.named.now
    c.in-HeldUp.item c.in-HeldUp.hops.items steps = rw c.in-HeldUp.is at c.requires.answer in
    (steps, rw c.deref.ensures.value held)

pub returns-in_ok-said-in-HeldUp : goal.returns-in_ok-said-in-HeldUp
returns-in_ok-said-in-HeldUp g c =
    let said = rw (c.deref.ensures.value, c.second.ensures) at c.in_ok-said-in-HeldUp.ensures in
    rw c.in-HeldUp.is (c.in_ok-said-in-HeldUp.said.items, refl, said)
