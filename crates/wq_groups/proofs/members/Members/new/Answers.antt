use Rattle.std.proofs.Common.{rules, ℕ, List, map, ◌∙◌}
use Rattle.std.proofs.lemmas.List.{map-id}
use Rattle.wq_buckets.specs.Places.{buckets_of}
use Rattle.wq_buckets.proofs.Cutting.{map-agree}
use Rattle.wq_groups.proofs.members.Members.new.Goals as goal

pub returns-clause-members : goal.returns-clause-members
returns-clause-members g c =
    let members = buckets_of c.args.group_of.now c.args.groups in
    c.in_ok-items.ensures.sorted (λ p. p) (λ p x lt post. search rules)
    ∙ map-agree (map (λ (p : ℕ). p)) (λ (l : List ℕ). l) map-id members
    ∙ map-id members
