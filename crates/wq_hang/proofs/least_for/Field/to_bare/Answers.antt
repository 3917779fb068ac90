use Rattle.std.proofs.Common.{◌≡◌, ◌+◌, ◌<◌, ◌≤◌, ◌⊎◌, inl, inr, ℕ, List, [], Some, None, length, get_or, take, refl}
use Rattle.std.proofs.Common.{sym, ap}
use Rattle.std.proofs.Common.{subst, ◌∙◌, arith, true, false}
use Rattle.std.specs.Prelude.{Contains, slice_index}
use Rattle.std.proofs.lemmas.Bool.{both_ways, false≢true}
use Rattle.wq_items.specs.declared.target.Target.{Target}
use Rattle.wq_core.specs.Wiring.{HasRescuer, items, lane_of, declared_by}
use Rattle.wq_hang.specs.declared.hop.Hop.{Hop}
use Rattle.wq_hang.specs.declared.least_for.End.TheVariants as end
use Rattle.wq_hang.specs.Walk.{IsToBare, max_walk_cost}
use Rattle.wq_hang.specs.Search.{hop_to, step}
use Rattle.wq_hang.specs.EndsFor.{Field, EndsBare, IsBest, NoneBare}
use Rattle.wq_hang.proofs.Declared.{declared-item, declared-target}
use Rattle.wq_hang.proofs.FlushesSoFar.{IsBefore, before_first, before_more, before_all}
use Rattle.wq_hang.proofs.EndsFound.{field_of, IsBest-is, IsBest-none, IsBest-bare, NoneBareOf, NoneBareOf-next}
use Rattle.wq_hang.proofs.EndsFound.{NoneBareOf-fewer}
use Rattle.wq_hang.proofs.least_for.Field.to_bare.Goals as goal
use Rattle.wq_hang.proofs.least_for.Field.to_bare.Goals.{
  then-all-best+then-not-has_rescuer,
  else-all-best,
  else-all-best-via-then-all-best+else-not-has_rescuer,
  else-all-best-via-else-all-best,
}

pub loop-i-init : goal.loop-i-init
loop-i-init g c =
    let f : Field = field_of c.self.inside.waits.now c.self.inside.starts.now c.self.inside.ways.now
    c.self.inside.pending.now in
    (IsBest-none f, λ h is lt. absurd (omega (arith, lt)))

pub cost-cost-requires : goal.cost-cost-requires
cost-cost-requires g c =
    omega (
      arith,
      c.new-item.ensures,
      c.loop-i-test.true,
      c.items-i-end.ensures.items,
      c.self.invariant.ways.reach.one_each,
    )

pub cost_to_wait-all-requires : goal.cost_to_wait-all-requires
cost_to_wait-all-requires g c =
    omega (arith, c.cost-cost.ensures, c.self.invariant.ways.reach.capped c.new-item.result)

pub loop-flush-init : goal.loop-flush-init
loop-flush-init g c =
    let f : Field = field_of c.self.inside.waits.now c.self.inside.starts.now c.self.inside.ways.now
    c.self.inside.pending.now in
    let i : ℕ = c.loop-i.i in (
      c.loop-i.invariant.0,
      NoneBareOf-fewer f (λ j t. j < i) (IsBefore i []) c.loop-i.best.cost (before_first i) c.loop-i.invariant.1,
    )

pub loop-flush-preserved : goal.loop-flush-preserved
loop-flush-preserved g c =
    let w = c.self.inside.waits.now in
    let f : Field = field_of w c.self.inside.starts.now c.self.inside.ways.now c.self.inside.pending.now in
    let i : ℕ = c.loop-i.i in
    let t : Target = c.flush-item.result in
    let flushes : List Target = c.flushes-flush-items.result.now in
    let k : ℕ = c.loop-flush.flush-index in
    let old = c.loop-flush.best in
    let all : ℕ = c.cost_to_wait-all.result + 1 in
    let either : (j : ℕ) (u : Target) → IsBefore i (take (k + 1) flushes) j u
    → IsBefore i (take k flushes) j u ⊎ ((j ≡ i) × (u ≡ t)) =
    before_more i k flushes t c.loop-flush-test.true c.flush-item.is in
    let cost = c.cost-cost.ensures ∙ ap (λ (j : ℕ). slice_index f.ways.costs j) c.new-item.ensures in
    elim c.if-all-best.branch [
      | then-all-best+then-not-has_rescuer v ↦ (
          let here : Contains flushes t = (k, c.loop-flush-test.true, sym c.flush-item.is) in
          let declared : Contains (declared_by w i) t =
          subst (λ (l : List Target). Contains l t)
          (c.flushes-flush-items.ensures ∙ ap (declared_by w) c.new-item.ensures) here in
          let bare : ¬ HasRescuer w (lane_of w t.item) = λ has.
          false≢true (sym v.if-not-has_rescuer.true
          ∙ v.has_rescuer.ensures.1 (subst (HasRescuer w) (sym v.lane_of.ensures.lane) has)) in
          let low : slice_index f.ways.costs i < max_walk_cost = omega (
            arith,
            cost,
            c.cost_to_wait-all.ensures,
            v.if-all-best.true,
            c.loop-flush.invariant.0.most,
          ) in
          let rescuer : HasRescuer w (lane_of w i) = c.self.invariant.ways.reach.rescuer i (omega (
            arith,
            c.loop-i-test.true,
            c.items-i-end.ensures.items,
          )) low in
          let h : Hop = hop_to i t t.item in
          let to : IsToBare w h =
          record { hop = record { declared = declared; rescuer = rescuer }; bare = bare; next = refl } in
          let found = IsBest-bare f all h (to, omega (arith, cost, c.cost_to_wait-all.ensures))
          (omega (arith, v.if-all-best.true, c.loop-flush.invariant.0.most)) in
          let now : ℕ = v.becomes.new.self.cost in
          let is_now : now ≡ all = v.becomes.ensures.cost in
          let ends = v.becomes.ensures.end ∙ ap (λ (j : ℕ). Some (end.Bare (hop_to j t t.item))) c.new-item.ensures in
          rw v.best-is (
            IsBest-is f all now (Some (end.Bare h)) v.becomes.new.self.end is_now ends found,
            NoneBareOf-next f (IsBefore i (take k flushes)) (IsBefore i (take (k + 1) flushes)) old.cost now i t
                (omega (arith, is_now, v.if-all-best.true)) c.loop-flush.invariant.1
                (λ to_bare. omega (arith, is_now, cost, c.cost_to_wait-all.ensures)) either,
          )
          )
      | else-all-best v ↦ (
          let none : (¬ HasRescuer w (lane_of w t.item)) → old.cost ≤ slice_index f.ways.costs i + step t + 1 = λ bare.
          elim v.else-all-best.branch [
            | else-all-best-via-then-all-best+else-not-has_rescuer o ↦ absurd (bare (subst (HasRescuer w)
                o.lane_of.ensures.lane (o.has_rescuer.ensures.0 o.if-not-has_rescuer.false)))
            | else-all-best-via-else-all-best o ↦ omega (
              arith,
              cost,
              c.cost_to_wait-all.ensures,
              o.if-all-best.false,
            )
          ] in
          rw v.best-is (
            c.loop-flush.invariant.0,
            NoneBareOf-next f (IsBefore i (take k flushes)) (IsBefore i (take (k + 1) flushes)) old.cost old.cost i t
                (omega arith) c.loop-flush.invariant.1 none either,
          )
          )
    ]

pub loop-i-preserved : goal.loop-i-preserved
loop-i-preserved g c =
    let f : Field = field_of c.self.inside.waits.now c.self.inside.starts.now c.self.inside.ways.now
    c.self.inside.pending.now in
    let i : ℕ = c.loop-i.i in
    let k : ℕ = c.loop-flush.flush-index in
    let flushes : List Target = c.flushes-flush-items.result.now in
    let are : flushes ≡ declared_by f.wiring i =
    c.flushes-flush-items.ensures ∙ ap (declared_by f.wiring) c.new-item.ensures in (
      c.loop-flush.invariant.0,
      λ h is lt. c.loop-flush.invariant.1 h is
          (before_all f.wiring i k flushes are c.loop-flush-test.false h.item h.flush is.hop.declared lt),
    )

pub returns : goal.returns
returns g c =
    let f : Field = field_of c.self.inside.waits.now c.self.inside.starts.now c.self.inside.ways.now
    c.self.inside.pending.now in
    let best = c.loop-i.best in
    record {
      best = subst (λ (k : Field). IsBest k best.cost best.end) c.self.view_is c.loop-i.invariant.0;
      bare = subst (λ (k : Field). NoneBare k best.cost) c.self.view_is (λ h is. c.loop-i.invariant.1 h is (omega (
        arith,
        declared-item f.wiring h.item h.flush is.hop.declared,
        c.loop-i-test.false,
        c.items-i-end.ensures.items,
      )));
    }
