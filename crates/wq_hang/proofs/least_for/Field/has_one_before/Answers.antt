use Rattle.std.proofs.Common.{◌≡◌, ◌≢◌, ◌+◌, ◌<◌, inl, inr, ℕ, eqb, List, [], length, get_or, take, sym, ap, subst, ◌∙◌}
use Rattle.std.proofs.Common.{arith}
use Rattle.std.specs.Prelude.{Contains, slice_index, slice_index_or}
use Rattle.std.proofs.lemmas.Bool.{eqb-true, not-false}
use Rattle.std.proofs.lemmas.List.Elements.{Contains-get_or}
use Rattle.wq_core.specs.Wiring.{items, lane_of}
use Rattle.wq_hang.specs.EndsFor.{Field}
use Rattle.wq_hang.proofs.Taken.{contains_more, contains_all}
use Rattle.wq_hang.proofs.least_for.Field.has_one_before.Goals as goal
use Rattle.wq_hang.proofs.least_for.Field.has_one_before.Goals.{else-ne-via-then-ne+else-cost, else-ne-via-else-ne}

pub overflow_cast-other : goal.overflow_cast-other
overflow_cast-other g c =
    let others : List ℕ = c.places-other-items.result.now in
    let q : ℕ = c.get-lane.result in
    let x : ℕ = get_or others c.loop-other.other-index 0 in
    let there : Contains (slice_index_or c.self.inside.on.now q []) x =
    subst (λ (l : List ℕ). Contains l x) c.places-other-items.ensures
    (Contains-get_or others c.loop-other.other-index 0 c.loop-other-test.true) in
    omega (
      arith,
      (c.self.invariant.items_on.within q x there).0,
      c.items-items.ensures.items,
      c.items-items.ensures.few,
    )

pub cost-requires : goal.cost-requires
cost-requires g c =
    let others : List ℕ = c.places-other-items.result.now in
    let q : ℕ = c.get-lane.result in
    let x : ℕ = get_or others c.loop-other.other-index 0 in
    let there : Contains (slice_index_or c.self.inside.on.now q []) x =
    subst (λ (l : List ℕ). Contains l x) c.places-other-items.ensures
    (Contains-get_or others c.loop-other.other-index 0 c.loop-other-test.true) in
    omega (
      arith,
      c.new-other.ensures,
      (c.self.invariant.items_on.within q x there).0,
      c.self.invariant.ways.reach.one_each,
    )

pub loop-other-preserved : goal.loop-other-preserved
loop-other-preserved g c = λ i there other one.
    let x : ℕ = c.new-other.result in
    elim (contains_more c.places-other-items.result.now c.loop-other.other-index 0 i c.loop-other-test.true there) [
      | inl before ↦ c.loop-other.invariant i before other one
      | inr same ↦ (
          let is : x ≡ i = c.new-other.ensures ∙ same in
          elim c.else-ne.branch [
            | else-ne-via-then-ne+else-cost v ↦
                v.if-cost.false (v.cost.ensures ∙ ap (slice_index c.self.inside.ways.now.costs) is ∙ one)
            | else-ne-via-else-ne v ↦ other (sym is
                ∙ eqb-true x c.args.item (not-false (eqb x c.args.item) (sym c.ne.ensures ∙ v.if-ne.false)))
          ]
          )
    ]

pub returns : goal.returns
returns g c = λ is i below other same.
    let w = c.self.inside.waits.now in
    let on = c.self.inside.on.now in
    let wiring = ap (λ (f : Field). f.wiring) c.self.view_is in
    let q : ℕ = c.get-lane.result in
    let lane : q ≡ lane_of w c.args.item = c.get-lane.ensures ∙ c.lane_of.ensures.lane in
    let i_lane : lane_of w i ≡ q =
    ap (λ v. lane_of v i) wiring ∙ same ∙ ap (λ v. lane_of v c.args.item) (sym wiring) ∙ sym lane in
    let there : Contains (slice_index_or on (lane_of w i) []) i =
    c.self.invariant.items_on.all i (omega (arith, below, ap items wiring)) in
    let here : Contains c.places-other-items.result.now i =
    subst (λ (l : List ℕ). Contains l i)
    (ap (λ (p : ℕ). slice_index_or on p []) i_lane ∙ sym c.places-other-items.ensures) there in
    λ one. c.loop-other.invariant i
    (contains_all c.places-other-items.result.now c.loop-other.other-index i c.loop-other-test.false here) other
    (ap (λ (f : Field). slice_index f.ways.costs i) c.self.view_is ∙ one)
