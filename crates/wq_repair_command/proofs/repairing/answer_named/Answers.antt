use Rattle.std.proofs.Common.{◌<◌, length, sym, ap, subst, map, ◌∙◌}
use Rattle.std.specs.Prelude.{option_map}
use Rattle.std.specs.List.{All}
use Rattle.wq_groups.specs.DeclaredGroups.{Declared}
use Rattle.wq_repair_command.specs.Movers.{movers}
use Rattle.wq_repair_command.proofs.Named.{movers-below}
use Rattle.wq_repair_command.proofs.repairing.answer_named.Goals as goal

pub answer_moving-answer-requires-clause-moving : goal.answer_moving-answer-requires-clause-moving
answer_moving-answer-requires-clause-moving g c =
    let names = c.args.declared.now.table.names in
    let given = map (λ n. n.now) c.args.names.now in
    subst (All (λ i. i < length names)) (sym c.as_slice.ensures.value)
    (movers-below names given c.in-Some.moving.items
    (ap (λ (d : Declared). movers d.table.names given) (sym c.declared.view_is) ∙ sym c.in_ok-moving.ensures
    ∙ ap (option_map (λ v. v.items)) c.in-Some.is))
