use Rattle.std.proofs.Common.{ap, ap₂, ◌∙◌}
use Rattle.wq_items.specs.Table.{Table}
use Rattle.wq_groups.specs.Partition.{Partition}
use Rattle.wq_groups.specs.DeclaredGroups.{Declared, reading_with_names}
use Rattle.wq_groups.proofs.declaration.Declaration.reading.Goals as goal

pub returns : goal.returns
returns g c =
    let of : Table → Partition → Declared = λ t p. record { table = t; partition = p } in
    c.new.ensures ∙ ap₂ of c.in_ok-table.ensures c.in_ok-groups.ensures
    ∙ ap (λ (s : Declared). reading_with_names s c.args.kept.now) c.self.view_is
