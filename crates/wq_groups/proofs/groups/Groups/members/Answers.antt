use Rattle.std.proofs.Common.{◌≡◌, ◌<◌, ℕ, List, [], length, get_or, ap, ◌∙◌, arith}
use Rattle.std.proofs.lemmas.List.FromFn.{get_or-map-range_with_len}
use Rattle.wq_items.specs.Table.{items_at}
use Rattle.wq_groups.specs.Partition.{Partition}
use Rattle.wq_groups.proofs.groups.Groups.members.Goals as goal

pub returns : goal.returns
returns g c =
    let s = c.self.inside in
    let group = c.args.group in
    let at : c.get.result ≡ group = c.get.ensures in
    let within : group < length s.members = omega (arith, c.requires, ap (λ (p : Partition). p.groups) c.self.view_is) in
    c.get-2.ensures
    ∙ ap (λ (n : ℕ). get_or s.members n []) at
    ∙ ap (λ (ms : List (List ℕ)). get_or ms group []) c.self.invariant.1
    ∙ get_or-map-range_with_len (items_at s.group_of.items) 0 (length s.members) group group [] within (omega arith)
    ∙ ap (λ (p : Partition). items_at p.group_of group) c.self.view_is
