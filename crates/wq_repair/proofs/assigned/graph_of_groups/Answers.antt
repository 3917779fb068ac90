use Rattle.std.proofs.Common.{◌≡◌, length, sym, ap, subst, ◌∙◌}
use Rattle.std.specs.Prelude.{IfOk}
use Rattle.wq_items.specs.Table.{Table}
use Rattle.wq_groups.specs.Declaration.{declaration_of}
use Rattle.wq_groups.specs.Partition.{Partition}
use Rattle.wq_graph.specs.Graph.{group_graph}
use Rattle.wq_repair.proofs.assigned.graph_of_groups.Goals as goal

pub of_groups-requires : goal.of_groups-requires
of_groups-requires g c =
    ap (λ (p : Partition). length p.group_of) c.groups.ensures.is ∙ c.groups.ensures.assigned.declared.one_group_each
    ∙ sym (ap (λ (t : Table). length t.names) c.table.ensures.is)

pub returns : goal.returns
returns g c =
    subst (λ (t : Table). IfOk c.of_groups.result (λ graph. graph ≡ group_graph
    (declaration_of t c.args.assigned.now.declared.partition))) c.table.ensures.is
    (subst (λ (p : Partition). IfOk c.of_groups.result (λ graph. graph ≡ group_graph
    (declaration_of c.table.result.now p))) c.groups.ensures.is c.of_groups.ensures.graph)
