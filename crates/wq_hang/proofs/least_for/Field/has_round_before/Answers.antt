use Rattle.std.proofs.Common.{◌≡◌, ◌≢◌, ◌+◌, ◌<◌, inl, inr, ℕ, eqb, List, [], length, get_or, take, sym, ap, subst, ◌∙◌}
use Rattle.std.proofs.Common.{arith, false, Option, None, Some}
use Rattle.std.specs.Prelude.{Contains, slice_index, slice_index_or, is_some, IfNone}
use Rattle.std.proofs.lemmas.Bool.{eqb-true, false≢true, not-false}
use Rattle.std.proofs.lemmas.List.Elements.{Contains-get_or}
use Rattle.wq_core.specs.Wiring.{Wiring, HasRescuer, items, lane_of}
use Rattle.wq_hang.specs.EndsFor.{Field}
use Rattle.wq_hang.specs.Search.{AreBounds, IsNoBetter}
use Rattle.wq_hang.proofs.Taken.{contains_more, contains_all}
use Rattle.wq_hang.proofs.least_for.Field.has_round_before.Goals as goal
use Rattle.wq_hang.proofs.least_for.Field.has_round_before.Goals.{
  then-ne+then-cost+in_ok-found+else-is_some,
  else-ne,
  else-ne-via-then-ne+else-cost,
  else-ne-via-else-ne,
}

from_none : {A : Type 0} (o : Option A) (P : Type 0) → is_some o ≡ false → IfNone o P → P
from_none None P is none = none
from_none (Some x) P is none = absurd (false≢true (sym is))

pub overflow_cast-other : goal.overflow_cast-other
overflow_cast-other g c =
    let others : List ℕ = c.places-other-items.result.now in
    let q : ℕ = c.get-lane.result in
    let x : ℕ = get_or others c.loop-other.other-index 0 in
    let there : Contains (slice_index_or c.self.inside.on.now q []) x =
    subst (λ (l : List ℕ). Contains l x) c.places-other-items.ensures
    (Contains-get_or others c.loop-other.other-index 0 c.loop-other-test.true) in
    omega (
      arith,
      (c.self.invariant.items_on.within q x there).0,
      c.items-items.ensures.items,
      c.items-items.ensures.few,
    )

pub loop-other-preserved : goal.loop-other-preserved
loop-other-preserved g c = λ i there other one.
    let x : ℕ = c.new-other.result in
    elim (contains_more c.places-other-items.result.now c.loop-other.other-index 0 i c.loop-other-test.true there) [
      | inl before ↦ c.loop-other.invariant i before other one
      | inr same ↦ (
          let is : x ≡ i = c.new-other.ensures ∙ same in
          elim c.if-ne.branch [
            | then-ne+then-cost+in_ok-found+else-is_some v ↦
                subst (λ (k : ℕ). IsNoBetter c.self.inside.waits.now k c.args.limit) is
                (from_none v.in_ok-found.found (IsNoBetter c.self.inside.waits.now x c.args.limit)
                (sym v.is_some.ensures ∙ v.if-is_some.false) v.in_ok-found.ensures.none)
            | else-ne v ↦ elim v.else-ne.branch [
              | else-ne-via-then-ne+else-cost o ↦ absurd (o.if-cost.false
                  (o.cost.ensures ∙ ap (slice_index c.self.inside.ways.now.costs) is ∙ one))
              | else-ne-via-else-ne o ↦ absurd (other (sym is
                  ∙ eqb-true x c.args.item (not-false (eqb x c.args.item) (sym c.ne.ensures ∙ o.if-ne.false))))
            ]
          ]
          )
    ]

pub cost-requires : goal.cost-requires
cost-requires g c =
    let others : List ℕ = c.places-other-items.result.now in
    let q : ℕ = c.get-lane.result in
    let x : ℕ = get_or others c.loop-other.other-index 0 in
    let there : Contains (slice_index_or c.self.inside.on.now q []) x =
    subst (λ (l : List ℕ). Contains l x) c.places-other-items.ensures
    (Contains-get_or others c.loop-other.other-index 0 c.loop-other-test.true) in
    omega (
      arith,
      c.new-other.ensures,
      (c.self.invariant.items_on.within q x there).0,
      c.self.invariant.ways.reach.one_each,
    )

pub better_round-requires-clause-on : goal.better_round-requires-clause-on
better_round-requires-clause-on g c = c.self.invariant.items_on

pub better_round-requires-clause-first : goal.better_round-requires-clause-first
better_round-requires-clause-first g c =
    let others : List ℕ = c.places-other-items.result.now in
    let q : ℕ = c.get-lane.result in
    let x : ℕ = get_or others c.loop-other.other-index 0 in
    let there : Contains (slice_index_or c.self.inside.on.now q []) x =
    subst (λ (l : List ℕ). Contains l x) c.places-other-items.ensures
    (Contains-get_or others c.loop-other.other-index 0 c.loop-other-test.true) in
    omega (arith, c.new-other.ensures, (c.self.invariant.items_on.within q x there).0)

pub better_round-requires-clause-one_each : goal.better_round-requires-clause-one_each
better_round-requires-clause-one_each g c =
    c.requires.one_each ∙ ap (λ (f : Field). f.wiring.lanes) (sym c.self.view_is)

pub better_round-requires-clause-bounds : goal.better_round-requires-clause-bounds
better_round-requires-clause-bounds g c =
    let w = c.self.inside.waits.now in
    let bounds : List ℕ = c.args.bounds.now in
    let t : ℕ = c.args.item in
    let others : List ℕ = c.places-other-items.result.now in
    let q : ℕ = c.get-lane.result in
    let x : ℕ = get_or others c.loop-other.other-index 0 in
    let there : Contains (slice_index_or c.self.inside.on.now q []) x =
    subst (λ (l : List ℕ). Contains l x) c.places-other-items.ensures
    (Contains-get_or others c.loop-other.other-index 0 c.loop-other-test.true) in
    let lane : lane_of w c.new-other.result ≡ lane_of w t =
    ap (lane_of w) c.new-other.ensures ∙ (c.self.invariant.items_on.within q x there).1
    ∙ c.get-lane.ensures ∙ c.lane_of.ensures.lane in
    subst (λ (v : Wiring). (i : ℕ) → lane_of v i ≡ lane_of v t → HasRescuer v (lane_of v i) → AreBounds v bounds i)
    (ap (λ (f : Field). f.wiring) (sym c.self.view_is)) c.requires.bounds c.new-other.result lane

pub returns : goal.returns
returns g c = λ is i below other same one.
    let w = c.self.inside.waits.now in
    let on = c.self.inside.on.now in
    let wiring = ap (λ (f : Field). f.wiring) c.self.view_is in
    let q : ℕ = c.get-lane.result in
    let lane : q ≡ lane_of w c.args.item = c.get-lane.ensures ∙ c.lane_of.ensures.lane in
    let i_lane : lane_of w i ≡ q =
    ap (λ v. lane_of v i) wiring ∙ same ∙ ap (λ v. lane_of v c.args.item) (sym wiring) ∙ sym lane in
    let there : Contains (slice_index_or on (lane_of w i) []) i =
    c.self.invariant.items_on.all i (omega (arith, below, ap items wiring)) in
    let here : Contains c.places-other-items.result.now i =
    subst (λ (l : List ℕ). Contains l i)
    (ap (λ (p : ℕ). slice_index_or on p []) i_lane ∙ sym c.places-other-items.ensures) there in
    subst (λ (v : Wiring). IsNoBetter v i c.args.limit) wiring (c.loop-other.invariant i
    (contains_all c.places-other-items.result.now c.loop-other.other-index i c.loop-other-test.false here) other
    (ap (λ (f : Field). slice_index f.ways.costs i) c.self.view_is ∙ one))
