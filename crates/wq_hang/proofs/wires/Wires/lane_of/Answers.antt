use Rattle.std.proofs.Common.{◌<◌, ℕ, List, length, get_or, ap, ◌∙◌, arith}
use Rattle.std.proofs.lemmas.List.{get_or_default}
use Rattle.wq_core.specs.Wiring.{Wiring, items, lane_of}
use Rattle.wq_hang.proofs.wires.Wires.lane_of.Goals as goal

pub index-requires : goal.index-requires
index-requires g c =
    omega (
      arith,
      c.from.ensures,
      c.get.ensures,
      c.requires,
      ap items c.self.view_is,
      c.self.invariant.one_lane_each,
    )

pub returns-clause-lane : goal.returns-clause-lane
returns-clause-lane g c =
    let lanes : List ℕ = c.self.inside.lane_of_item.items in
    let below : c.from.result < length lanes =
    omega (
      arith,
      c.from.ensures,
      c.get.ensures,
      c.requires,
      ap items c.self.view_is,
      c.self.invariant.one_lane_each,
    ) in
    c.new.ensures ∙ c.index.ensures ∙ get_or_default lanes c.from.result c.index.result.now 0 below
    ∙ ap (λ (k : ℕ). get_or lanes k 0) (c.from.ensures ∙ c.get.ensures)
    ∙ ap (λ (w : Wiring). lane_of w c.args.item) c.self.view_is

pub returns-clause-within : goal.returns-clause-within
returns-clause-within g c =
    let lanes : List ℕ = c.self.inside.lane_of_item.items in
    let below : c.from.result < length lanes =
    omega (
      arith,
      c.from.ensures,
      c.get.ensures,
      c.requires,
      ap items c.self.view_is,
      c.self.invariant.one_lane_each,
    ) in
    omega (
      arith,
      c.new.ensures,
      c.index.ensures,
      c.self.invariant.within c.from.result c.index.result.now below,
      ap (λ (w : Wiring). w.lanes) c.self.view_is,
    )
