use Rattle.std.proofs.Common.{List, map, subst}
use Rattle.wq_groups.specs.Declaration.{declaration_of}
use Rattle.wq_groups.specs.DeclaredGroups.{Declared}
use Rattle.wq_hang.specs.declared.hop.Hop.{Hop}
use Rattle.wq_hang.specs.AnswerFor.{IsHeldBy}
use Rattle.wq_names.specs.Names.{names_of}
use Rattle.wq_voice.specs.Held.{TellsWalk}
use Rattle.wq_voice.proofs.held.of_answer.Goals as goal

pub say_waits-requires-clause-held : goal.say_waits-requires-clause-held
say_waits-requires-clause-held g c =
    let s : Declared = c.args.assigned.now.declared in
    let d = declaration_of s.table s.partition in
    let ws = c.args.assigned.now.workqueues in
    let named = c.args.named.now in
    let steps = c.in-HeldUp.field-2.items in
    let held : IsHeldBy d ws named c.in-HeldUp.item c.in-HeldUp.hops.items steps =
    rw c.in-HeldUp.is at c.requires.answer in
    (named, steps, rw c.deref.ensures.value held)

pub returns-in_ok-said-in-HeldUp : goal.returns-in_ok-said-in-HeldUp
returns-in_ok-said-in-HeldUp g c =
    let s : Declared = c.args.assigned.now.declared in
    let d = declaration_of s.table s.partition in
    let ws = c.args.assigned.now.workqueues in
    let x = c.in-HeldUp.item in
    let steps = c.in-HeldUp.field-2.items in
    let held : IsHeldBy d ws c.args.named.now x c.in-HeldUp.hops.items steps =
    rw c.in-HeldUp.is at c.requires.answer in (
      x,
      c.in-HeldUp.hops.items,
      steps,
      held,
      subst (λ (hops : List Hop). TellsWalk c.args.declaration.file.now c.args.assignment.file.now s ws
          (names_of c.args.assignment.text.now) x hops c.in_ok-said-in-HeldUp.said.items) c.deref.ensures.value
          c.in_ok-said-in-HeldUp.ensures,
    )
