use Rattle.std.proofs.Common.{◌≡◌, ℕ, ◌<◌, get_or, length, sym, ap, subst, ◌∙◌, arith}
use Rattle.std.proofs.lemmas.List.{get_or_default}
use Rattle.std.proofs.lemmas.Option.{get_or_from_slice_get}
use Rattle.wq_groups.specs.Partition.{Partition}
use Rattle.wq_repair.specs.Changes.{HasName}
use Rattle.wq_repair.specs.Marks.{Marks}
use Rattle.wq_repair.proofs.Marks.{SomeBelow, Marks-one_more, Marks-as}
use Rattle.wq_repair.proofs.named.named_groups.Goals as goal

pub loop-item-preserved : goal.loop-item-preserved
loop-item-preserved g c =
    let group_of = c.groups-groups.result.now.group_of in
    let names = c.args.names.now in
    let i = c.loop-item.item-index in
    let read : get_or names i 0 ≡ c.item-item.result = get_or_default names i 0 c.item-item.result c.loop-item-test.true
    ∙ sym c.item-item.is in
    let same : c.of.result ≡ c.from-in-loop-item.result = omega (arith, c.get.ensures, c.from-in-loop-item.ensures) in
    let here : get_or group_of (get_or names i 0) 0 ≡ c.from-in-loop-item.result =
    ap (λ (k : ℕ). get_or group_of k 0) read ∙ get_or_from_slice_get group_of c.item-item.result c.of.result 0
    c.of.ensures.group ∙ same in
    let below : c.from-in-loop-item.result < c.groups-groups.result.now.groups = omega
    (arith, c.of.ensures.within, same) in
    Marks-one_more (λ (m k : ℕ). get_or group_of (get_or names m 0) 0 ≡ k) c.groups-groups.result.now.groups i
    c.from-in-loop-item.result c.loop-item.named.items (λ k is. sym is ∙ here) here below c.loop-item.invariant

pub returns : goal.returns
returns g c =
    let group_of = c.groups-groups.result.now.group_of in
    let names = c.args.names.now in
    let i = c.loop-item.item-index in
    subst (λ (p : Partition). Marks (HasName p.group_of names) p.groups c.loop-item.named.items)
    c.groups-groups.ensures.is
    (Marks-as (SomeBelow (λ (m k : ℕ). get_or group_of (get_or names m 0) 0 ≡ k) i) (HasName group_of names)
    c.groups-groups.result.now.groups c.loop-item.named.items
    (λ k lt. (
      λ some.
          let within : some.0 < length names = omega (arith, some.1, c.loop-item.auto.item-index-end) in (
            some.0,
            get_or names some.0 0,
            within,
            sym (get_or_default names some.0 0 (get_or names some.0 0) within),
            some.2,
          ),
      λ any. (
        any.0,
        omega (arith, any.2, c.loop-item-test.false),
        ap (λ (m : ℕ). get_or group_of m 0) (get_or_default names any.0 0 any.1 any.2 ∙ any.3) ∙ any.4,
      ),
    )) c.loop-item.invariant)
