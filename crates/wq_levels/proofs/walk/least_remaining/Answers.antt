use Rattle.std.proofs.Common.{sym, ◌∙◌, subst, refl}
use Rattle.std.proofs.lemmas.Option.{same_Some}
use Rattle.wq_levels.specs.Walks.{IsLeastRemaining}
use Rattle.wq_levels.proofs.WaysOn.{IsLeastRemaining-position}
use Rattle.wq_levels.proofs.walk.least_remaining.Goals as goal

pub unwrap-requires : goal.unwrap-requires
unwrap-requires g c =
    let found = IsLeastRemaining-position c.args.graph.now c.args.ranks.now c.requires in
    rw (c.first_of_rank.ensures, c.vertices.ensures.vertices, found.1) refl

pub returns : goal.returns
returns g c =
    let graph = c.args.graph.now in
    let found = IsLeastRemaining-position graph c.args.ranks.now c.requires in
    let was = rw (c.vertices.ensures.vertices, found.1) at c.first_of_rank.ensures in
    let same = same_Some found.0 c.unwrap.result (sym was ∙ c.unwrap.ensures) in
    subst (λ v. IsLeastRemaining graph v) same found.2
