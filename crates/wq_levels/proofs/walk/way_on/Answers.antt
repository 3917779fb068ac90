use Rattle.std.proofs.Common.{◌∙◌, subst}
use Rattle.wq_graph.specs.declared.arc.WaitArc.{WaitArc}
use Rattle.wq_levels.specs.Walks.{IsWayOn}
use Rattle.wq_levels.proofs.First.{IsSome-copied, same_copied}
use Rattle.wq_levels.proofs.WaysOn.{IsWayOn-find}
use Rattle.wq_levels.proofs.walk.way_on.Goals as goal

pub unwrap-requires : goal.unwrap-requires
unwrap-requires g c =
    let found = IsWayOn-find c.args.graph.now c.args.ranks.now c.vertices.ensures.graph c.requires.marked c.args.vertex c.requires.remains in
    let was = rw (c.arcs.ensures, c.vertices.ensures.vertices) at c.first_to_rank.ensures in
    IsSome-copied c.first_to_rank.result found.0 (was ∙ found.1)

pub returns : goal.returns
returns g c =
    let found = IsWayOn-find c.args.graph.now c.args.ranks.now c.vertices.ensures.graph c.requires.marked c.args.vertex c.requires.remains in
    let was = rw (c.arcs.ensures, c.vertices.ensures.vertices) at c.first_to_rank.ensures in
    let same = same_copied c.first_to_rank.result c.unwrap.result found.0 c.unwrap.ensures (was ∙ found.1) in
    subst (λ (a : WaitArc). IsWayOn c.args.graph.now c.args.vertex a) same found.2
