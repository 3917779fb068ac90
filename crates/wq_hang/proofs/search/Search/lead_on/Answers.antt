use Rattle.std.proofs.Common.{List, ℕ, get_or, [], length, ◌+◌, ◌∙◌, true, ap, arith}
use Rattle.std.proofs.lemmas.List.Elements.{Contains-get_or}
use Rattle.wq_hang.specs.Search.{Reach, hop_to}
use Rattle.wq_hang.proofs.Sizes.{AsLarge-reach}
use Rattle.wq_hang.proofs.search.Search.lead_on.Goals as goal
use Rattle.wq_hang.proofs.search.Search.lead_on.Goals.{then-cost-most+in_ok-reach, else-cost-most}

pub reach_lane-requires-clause-on : goal.reach_lane-requires-clause-on
reach_lane-requires-clause-on g c k d lt =
    let on : List ℕ = get_or c.args.on.now c.get.result [] in
    let item = (c.requires.on.within c.get.result (get_or on k d) (Contains-get_or on k d lt)).0 in
    let large = AsLarge-reach true (c.args.cost + c.unsure_part.result + 3) c.args.self.now
    (hop_to c.args.item c.args.flush.now c.args.flush.now.item) in
    elim c.if-cost-most.branch [
      | then-cost-most+in_ok-reach v ↦ omega (
        arith,
        item,
        c.requires.one_each,
        ap (λ (r : Reach). length r.costs) (v.self-is ∙ v.in_ok-reach.ensures),
        large.one_each,
      )
      | else-cost-most v ↦ omega (arith, item, c.requires.one_each, ap (λ (r : Reach). length r.costs) v.self-is)
    ]
