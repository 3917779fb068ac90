use Rattle.std.proofs.Common.{◌≡◌, ◌<◌, ◌-◌, ltb, Some, inl, get_or, sym, subst, rules}
use Rattle.std.specs.Prelude.{slice_get}
use Rattle.std.proofs.lemmas.List.Sorted.{IsPartitionPoint-from_clause, IsPartitionedBy-ltb}
use Rattle.wq_core.specs.declared.entry.Entry.{Entry}
use Rattle.wq_core.specs.State.{IsUnfinishedOn}
use Rattle.wq_core.specs.Held.{HeldLane, IsRising}
use Rattle.wq_core.proofs.Rising.{Reach, IsNonDecreasingBy-rising, before_mark, first-no_less}
use Rattle.wq_core.proofs.Unfinished.{busy-none_found}
use Rattle.wq_core.proofs.lane.Lane.last_below.Goals as goal

pub returns-then-below-gt0-clause-some : goal.returns-then-below-gt0-clause-some
returns-then-below-gt0-clause-some g c =
    let ps = c.self.inside.pending.items in
    let mark = c.args.mark in
    let k = c.partition_point-below.result in
    let rising : IsRising ps = subst (λ (h : HeldLane). IsRising h.lane.pending) (sym c.self.view_is) c.requires in
    let point : Reach ps mark k = IsPartitionPoint-from_clause (λ (f : Entry). ltb f.number mark) ps k c.partition_point-below.ensures.partitioned (IsPartitionedBy-ltb (λ (f : Entry). f.number) ps mark (IsNonDecreasingBy-rising ps rising)) (λ a r q k. search rules) in
    let last = c.index.result.now in
    let before = before_mark ps mark k last point c.if-below-gt0.true in
    let unfinished = subst (λ (h : HeldLane). IsUnfinishedOn h.lane (get_or ps (k - 1) last)) c.self.view_is (inl before.0) in
    subst (λ (e : Entry). IsUnfinishedOn c.args.self.now.lane e × (e.number < mark)) (sym c.index.ensures) (unfinished, before.1)

pub returns-clause-none : goal.returns-clause-none
returns-clause-none g c =
    let mark = c.args.mark in
    let ps = c.self.inside.pending.items in
    let k = c.partition_point-below.result in
    let rising : IsRising ps = subst (λ (h : HeldLane). IsRising h.lane.pending) (sym c.self.view_is) c.requires in
    let point : Reach ps mark k = IsPartitionPoint-from_clause (λ (f : Entry). ltb f.number mark) ps k c.partition_point-below.ensures.partitioned (IsPartitionedBy-ltb (λ (f : Entry). f.number) ps mark (IsNonDecreasingBy-rising ps rising)) (λ a r q k. search rules) in
    let low = subst (λ (h : HeldLane). (e : Entry) → slice_get h.lane.pending 0 ≡ Some e → ¬ (e.number < mark)) c.self.view_is (first-no_less ps mark k point c.if-below-gt0.false) in
    busy-none_found c.args.self.now.lane mark c.requires low c.running_below.result c.running_below.ensures.none
