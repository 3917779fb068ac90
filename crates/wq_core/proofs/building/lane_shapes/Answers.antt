use Rattle.std.proofs.Common.{ℕ, ◌∙◌, length, true, ap, sym, refl, arith}
use Rattle.std.proofs.lemmas.List.FromFn.{length-map-range_with_len}
use Rattle.wq_items.specs.Table.{items_at}
use Rattle.wq_core.proofs.Parts.{shape_before, group-read, small-group, big-group}
use Rattle.wq_core.proofs.building.lane_shapes.Goals as goal
use Rattle.wq_core.proofs.building.lane_shapes.Goals.{then-members-gt1, else-members-gt1}

pub index_mut-requires : goal.index_mut-requires
index_mut-requires g c =
    let a = c.args.assignment.now in
    let p = c.args.groups.now in
    let k = c.loop-number.number in
    let read = group-read a c.new-group.result k c.from.result c.lane.result c.new-group.ensures c.lane.ensures (c.from.ensures ∙ c.get.ensures) c.lanes.ensures.within in
    let count = ap length c.loop-number.invariant ∙ length-map-range_with_len (shape_before a p c.args.lane_of_item.now a.lanes k) 0 a.lanes in
    omega (arith, read.1, count, c.loop-number.shapes.ok)

pub loop-number-preserved : goal.loop-number-preserved
loop-number-preserved g c =
    let a = c.args.assignment.now in
    let p = c.args.groups.now in
    let of = c.args.lane_of_item.now in
    let k = c.loop-number.number in
    let size = ap (λ (n : ℕ). length (items_at p.group_of n)) (sym c.new-group.ensures) ∙ ap length (sym c.members.ensures) in
    elim c.if-members-gt1.branch [
      | then-members-gt1 w ↦ (
          let read = group-read a c.new-group.result k w.from.result w.lane.result c.new-group.ensures w.lane.ensures (w.from.ensures ∙ w.get.ensures) c.lanes.ensures.within in
          ap (λ v. v.items) w.shapes-is ∙ big-group a p of a.lanes k (length c.members.result.now) w.from.result c.loop-number.shapes.items w.index_mut.result.now (record { items = w.index_mut.result.now.items; ordered = true }) size w.if-members-gt1.true read.0 read.1 w.index_mut.ensures.value refl c.loop-number.invariant
          )
      | else-members-gt1 w ↦ ap (λ v. v.items) w.shapes-is ∙ small-group a p of a.lanes k (length c.members.result.now) c.loop-number.shapes.items size w.if-members-gt1.false c.loop-number.invariant
    ]
