use Rattle.std.proofs.Common.{sym, subst}
use Rattle.wq_items.specs.Table.{Table, IsTable}
use Rattle.wq_items.proofs.AtOnceLemmas.{whole_added}
use Rattle.wq_items.proofs.at_once.Parts.take_one.Goals as goal

pub returns-clause-names : goal.returns-clause-names
returns-clause-names g c =
    let parts = c.self.inside in
    let t : Table = record { names = parts.names; spans = parts.spans.items; waits = parts.waits } in
    whole_added t (subst IsTable (sym c.self.view_is) c.requires) c.push_one.result parts.waits c.push_one.new.waits
    c.args.kind c.args.name c.args.target c.len-place.result c.push_one.ensures.added
