use Rattle.std.proofs.Common.{List, refl, subst, sym}
use Rattle.wq_groups.specs.DeclaredGroups.{declared_waits}
use Rattle.wq_hang.specs.declared.hop.Hop.{Hop}
use Rattle.wq_hang.specs.Answer.{IsHangOf}
use Rattle.wq_voice.proofs.deadlock.say_walk.Goals as goal

pub say_hops-requires-clause-hang : goal.say_hops-requires-clause-hang
say_hops-requires-clause-hang g c =
    let d = declared_waits c.args.assigned.now.declared in
    let ws = c.args.assigned.now.workqueues in
    let found = rw c.in-Some.is at c.requires.hang in
    (found.0, subst (λ (hops : List Hop). IsHangOf d ws hops found.0) (sym c.as_slice.ensures.value) found.1)

pub returns-in_ok-said-in-Some : goal.returns-in_ok-said-in-Some
returns-in_ok-said-in-Some g c =
    let said = rw (c.as_slice.ensures.value, c.second.ensures) at c.in_ok-said-in-Some.ensures in
    rw c.in-Some.is (c.in_ok-said-in-Some.said.items, refl, said)
