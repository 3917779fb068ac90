use Rattle.std.proofs.Common.{subst}
use Rattle.wq_commands.specs.declared.found.Found.TheVariants.{Read}
use Rattle.wq_around_command.specs.Planning.{PlansText}
use Rattle.wq_around_command.proofs.Taking.{PlansText-around}
use Rattle.wq_around_command.proofs.saying.say_planned.Goals as goal

pub say_around-requires : goal.say_around-requires
say_around-requires g c =
    let s = c.args.declared.now in
    let text = c.args.texts.now.second in
    let (end, out, plans) = c.requires in
    let found = PlansText-around s text c.in-Around.start c.in-Around.around end out
    (subst (λ p. PlansText s text (Read p) end out) c.in-Around.is plans) in
    record { read = found.0; groups = found.1 }
