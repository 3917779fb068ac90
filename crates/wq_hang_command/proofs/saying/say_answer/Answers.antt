use Rattle.std.proofs.Common.{refl}
use Rattle.wq_hang_command.proofs.saying.say_answer.Goals as goal

pub returns-in_ok-said-in-Hang : goal.returns-in_ok-said-in-Hang
returns-in_ok-said-in-Hang g c =
    let said = rw (c.deref.ensures.value, c.second.ensures) at c.in_ok-said-in-Hang.ensures in
    rw c.in-Hang.is (c.in_ok-said-in-Hang.said.items, refl, said)
