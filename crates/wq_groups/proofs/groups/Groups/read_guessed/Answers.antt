use Rattle.std.proofs.Common.{◌≡◌, ◌<◌, ℕ, List, Ok, length, map, sym, ap, subst, ◌∙◌, arith}
use Rattle.std.specs.List.{All, range_with_len}
use Rattle.std.proofs.lemmas.List.FromFn.{length-map-range_with_len}
use Rattle.wq_items.specs.Table.{items_at}
use Rattle.wq_groups.specs.Partition.{Partition, IsPartition}
use Rattle.wq_groups.proofs.Partitions.{IsPartition-partition_of, groups_of-none}
use Rattle.wq_groups.proofs.FirstLists.{few-firsts, AreHeads-firsts, headed-firsts}
use Rattle.wq_groups.proofs.groups.Groups.read_guessed.Goals as goal

pub number-requires-clause-few : goal.number-requires-clause-few
number-requires-clause-few g c = few-firsts c.args.view.now c.args.table.now c.as_slice.result.now c.requires (c.as_slice.ensures.value ∙ c.in_ok-first.ensures.first)

pub number-requires-clause-heads : goal.number-requires-clause-heads
number-requires-clause-heads g c = AreHeads-firsts c.args.view.now c.args.table.now.names c.as_slice.result.now (c.as_slice.ensures.value ∙ c.in_ok-first.ensures.first) c.in_ok-first.ensures.once

pub new-requires-clause-within : goal.new-requires-clause-within
new-requires-clause-within g c =
    let numbered = c.in_ok-group_of.ensures.groups ∙ headed-firsts c.args.view.now c.args.table.now.names c.as_slice.result.now (c.as_slice.ensures.value ∙ c.in_ok-first.ensures.first) c.in_ok-first.ensures.once in
    let whole = subst IsPartition (sym numbered) (IsPartition-partition_of c.args.view.now c.args.table.now c.requires c.in_ok-first.ensures.once) in
    subst (All (λ group. group < c.in_ok-group_of.groups)) (sym c.as_slice-2.ensures.value) whole.within

pub new-requires-clause-few : goal.new-requires-clause-few
new-requires-clause-few g c =
    let numbered = c.in_ok-group_of.ensures.groups ∙ headed-firsts c.args.view.now c.args.table.now.names c.as_slice.result.now (c.as_slice.ensures.value ∙ c.in_ok-first.ensures.first) c.in_ok-first.ensures.once in
    let whole = subst IsPartition (sym numbered) (IsPartition-partition_of c.args.view.now c.args.table.now c.requires c.in_ok-first.ensures.once) in
    omega (arith, ap length c.as_slice-2.ensures.value, whole.few_items)

pub invariant_of-result : goal.invariant_of-result
invariant_of-result g c =
    let numbered = c.in_ok-group_of.ensures.groups ∙ headed-firsts c.args.view.now c.args.table.now.names c.as_slice.result.now (c.as_slice.ensures.value ∙ c.in_ok-first.ensures.first) c.in_ok-first.ensures.once in
    let whole = subst IsPartition (sym numbered) (IsPartition-partition_of c.args.view.now c.args.table.now c.requires c.in_ok-first.ensures.once) in
    let group_of = c.in_ok-group_of.group_of.items in
    let groups = c.in_ok-group_of.groups in
    let count : length c.in_ok-members.members ≡ groups = ap length c.in_ok-members.ensures.members ∙ length-map-range_with_len (items_at c.as_slice-2.result.now) 0 groups in (
      subst (λ (n : ℕ). IsPartition (record { group_of = group_of; groups = n })) (sym count) whole,
      c.in_ok-members.ensures.members
          ∙ ap (λ (l : List ℕ). map (items_at l) (range_with_len 0 groups)) c.as_slice-2.ensures.value
          ∙ ap (λ (n : ℕ). map (items_at group_of) (range_with_len 0 n)) (sym count),
    )

pub returns-clause-groups : goal.returns-clause-groups
returns-clause-groups g c =
    let numbered = c.in_ok-group_of.ensures.groups ∙ headed-firsts c.args.view.now c.args.table.now.names c.as_slice.result.now (c.as_slice.ensures.value ∙ c.in_ok-first.ensures.first) c.in_ok-first.ensures.once in
    let group_of = c.in_ok-group_of.group_of.items in
    let groups = c.in_ok-group_of.groups in
    let count : length c.in_ok-members.members ≡ groups = ap length c.in_ok-members.ensures.members ∙ length-map-range_with_len (items_at c.as_slice-2.result.now) 0 groups in
    groups_of-none c.args.view.now c.args.table.now.names c.in_ok-first.ensures.once
    ∙ ap (λ (p : Partition). Ok p) (sym numbered)
    ∙ ap (λ (n : ℕ). Ok (record { group_of = group_of; groups = n })) (sym count)
