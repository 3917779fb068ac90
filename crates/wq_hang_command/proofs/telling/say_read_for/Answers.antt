use Rattle.std.proofs.Common.{map, subst}
use Rattle.wq_commands.specs.declared.found.Found.TheVariants.{Read}
use Rattle.wq_hang_command.specs.Holding.{HoldsText}
use Rattle.wq_hang_command.proofs.HoldTaking.{HoldsText-read}
use Rattle.wq_hang_command.proofs.telling.say_read_for.Goals as goal

pub assigned_of-assigned-requires : goal.assigned_of-assigned-requires
assigned_of-assigned-requires g c =
    let s = c.args.declared.now in
    let names = map (λ n. n.now) c.args.names.now in
    let (end, out, finds) = c.requires in
    let found = HoldsText-read s names c.args.texts.now.second c.in-Some.holding end out
    (subst (λ o. HoldsText s names c.args.texts.now.second (Read o) end out) c.in-Some.is finds) in
    (c.args.texts.now.second, found.read)

pub say_answer-requires-clause-read : goal.say_answer-requires-clause-read
say_answer-requires-clause-read g c =
    let s = c.args.declared.now in
    let names = map (λ n. n.now) c.args.names.now in
    let (end, out, finds) = c.requires in
    let found = HoldsText-read s names c.args.texts.now.second c.in-Some.holding end out
    (subst (λ o. HoldsText s names c.args.texts.now.second (Read o) end out) c.in-Some.is finds) in
    rw c.assigned_of-assigned.ensures found.read

pub say_answer-requires-clause-named : goal.say_answer-requires-clause-named
say_answer-requires-clause-named g c =
    let s = c.args.declared.now in
    let names = map (λ n. n.now) c.args.names.now in
    let (end, out, finds) = c.requires in
    let found = HoldsText-read s names c.args.texts.now.second c.in-Some.holding end out
    (subst (λ o. HoldsText s names c.args.texts.now.second (Read o) end out) c.in-Some.is finds) in
    rw (c.assigned_of-assigned.ensures, c.as_slice.ensures.value) found.within

pub say_answer-requires-clause-answer : goal.say_answer-requires-clause-answer
say_answer-requires-clause-answer g c =
    let s = c.args.declared.now in
    let names = map (λ n. n.now) c.args.names.now in
    let (end, out, finds) = c.requires in
    let found = HoldsText-read s names c.args.texts.now.second c.in-Some.holding end out
    (subst (λ o. HoldsText s names c.args.texts.now.second (Read o) end out) c.in-Some.is finds) in
    rw (c.assigned_of-assigned.ensures, c.as_slice.ensures.value) found.answer

pub returns-in-Some : goal.returns-in-Some
returns-in-Some g c =
    rw c.in-Some.is (rw (c.assigned_of-assigned.ensures, c.as_slice.ensures.value) at c.say_answer.ensures)
