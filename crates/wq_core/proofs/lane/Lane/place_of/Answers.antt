use Rattle.std.proofs.Common.{◌≡◌, ltb, Some, sym, subst, ◌∙◌, rules}
use Rattle.std.specs.Prelude.{Contains, slice_get}
use Rattle.std.proofs.lemmas.List.Sorted.{IsPartitionPoint-from_clause, IsPartitionedBy-ltb}
use Rattle.wq_core.specs.declared.entry.Entry.{Entry}
use Rattle.wq_core.specs.Held.{HeldLane, IsRising}
use Rattle.wq_core.proofs.Rising.{IsNonDecreasingBy-rising}
use Rattle.wq_core.proofs.Places.{first-is, placed-is}
use Rattle.wq_core.proofs.lane.Lane.place_of.Goals as goal

pub returns-then-first-entry : goal.returns-then-first-entry
returns-then-first-entry g c =
    first-is c.args.self.now.lane.pending c.args.entry.now c.in-Some.first c.requires.rising c.requires.pending (sym c.first.ensures ∙ c.in-Some.is) c.if-first-entry.true

pub returns : goal.returns
returns g c =
    let ps = c.self.inside.pending.items in
    let e = c.args.entry.now in
    let rising : IsRising ps = subst (λ (h : HeldLane). IsRising h.lane.pending) (sym c.self.view_is) c.requires.rising in
    let pending : Contains ps e = subst (λ (h : HeldLane). Contains h.lane.pending e) (sym c.self.view_is) c.requires.pending in
    let point = IsPartitionPoint-from_clause (λ (f : Entry). ltb f.number e.number) ps c.partition_point.result c.partition_point.ensures.partitioned (IsPartitionedBy-ltb (λ (f : Entry). f.number) ps e.number (IsNonDecreasingBy-rising ps rising)) (λ a r q k. search rules) in
    subst (λ (h : HeldLane). slice_get h.lane.pending c.partition_point.result ≡ Some e) c.self.view_is (placed-is ps e c.partition_point.result rising point pending)
