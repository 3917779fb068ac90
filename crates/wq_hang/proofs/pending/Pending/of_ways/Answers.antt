use Rattle.std.proofs.Common.{◌≡◌, ◌+◌, ◌<◌, ◌≤◌, ◌⊎◌, inl, inr, ℕ, List, [], length, get_or, replicate, set, take, sym}
use Rattle.std.proofs.Common.{ap}
use Rattle.std.proofs.Common.{subst, ◌∙◌, arith, true, false}
use Rattle.std.specs.Prelude.{Contains, slice_index}
use Rattle.std.proofs.lemmas.Bool.{cases_lt, both_ways, false≢true}
use Rattle.std.proofs.lemmas.List.{take_all}
use Rattle.wq_items.specs.declared.target.Target.{Target}
use Rattle.wq_core.specs.Wiring.{HasRescuer, items, lane_of, declared_by}
use Rattle.wq_hang.specs.Search.{step}
use Rattle.wq_hang.specs.WaysFor.{PendingFound, WaitsAlone, ArePending, wait_alone}
use Rattle.wq_hang.proofs.Declared.{declared-target}
use Rattle.wq_hang.proofs.Taken.{contains_more, contains_back}
use Rattle.wq_hang.proofs.FlushesSoFar.{IsBefore, before_first, before_more, before_all}
use Rattle.wq_hang.proofs.Awaited.{AreAwaited, AreAwaited-none, AreAwaited-weaker, AreAwaited-wait, ArePending-none}
use Rattle.wq_hang.proofs.Awaited.{ArePending-start}
use Rattle.wq_hang.proofs.pending.Pending.of_ways.Goals as goal
use Rattle.wq_hang.proofs.pending.Pending.of_ways.Goals.{
  then-not-flush+then-has_rescuer,
  else-not-flush,
  else-not-flush-via-then-not-flush+else-has_rescuer,
  else-not-flush-via-else-not-flush,
  then-cost-limit+else-loop-flush-test,
  else-cost-limit,
}

pub loop-i-init : goal.loop-i-init
loop-i-init g c =
    AreAwaited-none c.args.waits.now c.args.limit c.args.ways.now (λ j t. j < 0) c.in_ok-pending.pending
    c.requires.low.0
    (c.in_ok-pending.ensures.costs ∙ ap (λ (n : ℕ). replicate n c.args.limit) c.items.ensures.items)
    (c.in_ok-pending.ensures.by ∙ c.items.ensures.items) (λ j t lt. omega (arith, lt))

pub cost-cost-requires : goal.cost-cost-requires
cost-cost-requires g c =
    omega (arith, c.new-item.ensures, c.loop-i-test.true, c.items-i-end.ensures.items, c.requires.one_each)

pub loop-flush-init : goal.loop-flush-init
loop-flush-init g c =
    let i : ℕ = c.loop-i.i in
    AreAwaited-weaker c.args.waits.now c.args.limit c.args.ways.now (λ j t. j < i) (IsBefore i []) c.loop-i.pending
    (λ j t waits is. before_first i j t is) c.loop-i.invariant

pub reach-requires-clause-costs : goal.reach-requires-clause-costs
reach-requires-clause-costs g c =
    let t : Target = c.flush-item.result in
    let here : Contains c.flushes-flush-items.result.now t =
    (c.loop-flush.flush-index, c.loop-flush-test.true, sym c.flush-item.is) in
    omega (
      arith,
      declared-target c.args.waits.now c.new-item.result t c.items.ensures.wiring
          (subst (λ (l : List Target). Contains l t) c.flushes-flush-items.ensures here),
      c.loop-flush.invariant.one_each,
    )

pub reach-requires-clause-by : goal.reach-requires-clause-by
reach-requires-clause-by g c =
    let t : Target = c.flush-item.result in
    let here : Contains c.flushes-flush-items.result.now t =
    (c.loop-flush.flush-index, c.loop-flush-test.true, sym c.flush-item.is) in
    omega (
      arith,
      declared-target c.args.waits.now c.new-item.result t c.items.ensures.wiring
          (subst (λ (l : List Target). Contains l t) c.flushes-flush-items.ensures here),
      c.loop-flush.invariant.by_each,
    )

pub loop-flush-preserved : goal.loop-flush-preserved
loop-flush-preserved g c =
    let w = c.args.waits.now in
    let s = c.args.ways.now in
    let limit = c.args.limit in
    let i : ℕ = c.loop-i.i in
    let t : Target = c.flush-item.result in
    let flushes : List Target = c.flushes-flush-items.result.now in
    let k : ℕ = c.loop-flush.flush-index in
    let old : PendingFound = c.loop-flush.pending in
    let either : (j : ℕ) (u : Target) → IsBefore i (take (k + 1) flushes) j u
    → IsBefore i (take k flushes) j u ⊎ ((j ≡ i) × (u ≡ t)) =
    before_more i k flushes t c.loop-flush-test.true c.flush-item.is in
    elim c.if-not-flush.branch [
      | then-not-flush+then-has_rescuer v ↦ (
          let here : Contains flushes t = (k, c.loop-flush-test.true, sym c.flush-item.is) in
          let declared : Contains (declared_by w i) t =
          subst (λ (l : List Target). Contains l t)
          (c.flushes-flush-items.ensures ∙ ap (declared_by w) c.new-item.ensures) here in
          let cost = c.cost-cost.ensures ∙ ap (λ (j : ℕ). slice_index s.costs j) c.new-item.ensures in
          let waits : WaitsAlone w limit s i t = record {
            item = omega (arith, c.loop-i-test.true, c.items-i-end.ensures.items);
            reached = omega (arith, cost, c.if-cost-limit.true);
            declared = declared;
            alone = v.if-not-flush.true;
            rescuer = subst (HasRescuer w) v.lane_of.ensures.lane (v.has_rescuer.ensures.0 v.if-has_rescuer.true);
          } in
          let made =
          v.pending-is
          ∙ v.reach.ensures
          ∙ ap (λ (j : ℕ). wait_alone v.cost_to_wait.result old j t) c.new-item.ensures in
          subst (AreAwaited w limit s (IsBefore i (take (k + 1) flushes))) (sym made)
          (AreAwaited-wait w limit s (IsBefore i (take k flushes)) (IsBefore i (take (k + 1) flushes)) old i
          v.cost_to_wait.result t c.loop-flush.invariant waits
          (declared-target w i t c.items.ensures.wiring declared) (omega (arith, v.cost_to_wait.ensures, cost)) either)
          )
      | else-not-flush v ↦ (
          let no_wait : ¬ WaitsAlone w limit s i t = λ waits. elim v.else-not-flush.branch [
            | else-not-flush-via-then-not-flush+else-has_rescuer o ↦
                false≢true (sym o.if-has_rescuer.false
                ∙ o.has_rescuer.ensures.1 (subst (HasRescuer w) (sym o.lane_of.ensures.lane) waits.rescuer))
            | else-not-flush-via-else-not-flush o ↦ both_ways t.whole waits.alone o.if-not-flush.false
          ] in
          subst (AreAwaited w limit s (IsBefore i (take (k + 1) flushes))) (sym v.pending-is)
          (AreAwaited-weaker w limit s (IsBefore i (take k flushes)) (IsBefore i (take (k + 1) flushes)) old
          (λ j u waits is. elim (either j u is) [
            | inl before ↦ before
            | inr it ↦ absurd (no_wait (subst (λ (x : Target). WaitsAlone w limit s i x) it.1
                (subst (λ (n : ℕ). WaitsAlone w limit s n u) it.0 waits)))
          ]) c.loop-flush.invariant)
          )
    ]

pub loop-i-preserved : goal.loop-i-preserved
loop-i-preserved g c =
    let w = c.args.waits.now in
    let s = c.args.ways.now in
    let limit = c.args.limit in
    let i : ℕ = c.loop-i.i in
    let cost = c.cost-cost.ensures ∙ ap (λ (j : ℕ). slice_index s.costs j) c.new-item.ensures in
    elim c.if-cost-limit.branch [
      | then-cost-limit+else-loop-flush-test v ↦ (
          let flushes : List Target = v.flushes-flush-items.result.now in
          let k : ℕ = v.loop-flush.flush-index in
          let are : flushes ≡ declared_by w i =
          v.flushes-flush-items.ensures ∙ ap (declared_by w) c.new-item.ensures in
          subst (AreAwaited w limit s (λ j t. j < i + 1)) (sym v.pending-is)
          (AreAwaited-weaker w limit s (IsBefore i (take k flushes)) (λ j t. j < i + 1) v.loop-flush.pending
          (λ j t waits is. before_all w i k flushes are v.loop-flush-test.false j t waits.declared is)
          v.loop-flush.invariant)
          )
      | else-cost-limit v ↦
          subst (AreAwaited w limit s (λ j t. j < i + 1)) (sym v.pending-is)
          (AreAwaited-weaker w limit s (λ j t. j < i) (λ j t. j < i + 1) c.loop-i.pending
          (λ j t waits is. elim (cases_lt j i) [
            | inl before ↦ before
            | inr last ↦ (
                let same : j ≡ i = omega (arith, last, is) in
                absurd (omega (
                  arith,
                  waits.reached,
                  cost,
                  v.if-cost-limit.false,
                  ap (λ (n : ℕ). slice_index s.costs n) same,
                ))
                )
          ]) c.loop-i.invariant)
    ]

pub loop-item-init : goal.loop-item-init
loop-item-init g c =
    let w = c.args.waits.now in
    let s = c.args.ways.now in
    subst (ArePending w [] c.args.limit s) (sym c.pending.view_is) (ArePending-none w c.args.limit s c.loop-i.pending
    (AreAwaited-weaker w c.args.limit s (λ j t. j < c.loop-i.i) (λ j t. j < items w) c.loop-i.pending
    (λ j t waits is. omega (arith, is, c.loop-i-test.false, c.items-i-end.ensures.items)) c.loop-i.invariant))

pub index_mut-requires : goal.index_mut-requires
index_mut-requires g c =
    let i : ℕ = c.item-item.result in
    omega (
      arith,
      c.from.ensures,
      c.get.ensures,
      c.item-item.is,
      c.requires.starts c.loop-item.item-index i c.loop-item-test.true,
      c.loop-item.invariant.one_each,
    )

pub loop-item-preserved : goal.loop-item-preserved
loop-item-preserved g c =
    let w = c.args.waits.now in
    let starts = c.args.starts.now in
    let k : ℕ = c.loop-item.item-index in
    let i : ℕ = c.item-item.result in
    let old : PendingFound =
    record { costs = c.loop-item.pending-inside.costs.items; by = c.loop-item.pending-inside.by.items } in
    let is : c.from.result ≡ i = c.from.ensures ∙ c.get.ensures in
    let below : i < items w = omega (
      arith,
      c.item-item.is,
      c.requires.starts k i c.loop-item-test.true,
    ) in
    let either : (j : ℕ) → Contains (take (k + 1) starts) j → Contains (take k starts) j ⊎ (i ≡ j) = λ j there.
    elim (contains_more starts k i j c.loop-item-test.true there) [
      | inl before ↦ inl before
      | inr same ↦ inr (c.item-item.is ∙ same)
    ] in
    let back : (j : ℕ) → Contains (take k starts) j ⊎ (i ≡ j) → Contains (take (k + 1) starts) j = λ j there.
    contains_back starts k i j c.loop-item-test.true (elim there [
      | inl before ↦ inl before
      | inr same ↦ inr (sym c.item-item.is ∙ same)
    ]) in
    subst (λ (n : ℕ). ArePending w (take (k + 1) starts) c.args.limit c.args.ways.now
    (record { costs = set old.costs n 0; by = old.by })) (sym is)
    (ArePending-start w c.args.limit c.args.ways.now (take k starts) (take (k + 1) starts) old i c.loop-item.invariant
    below either back)

pub returns : goal.returns
returns g c =
    subst (λ (l : List ℕ). ArePending c.args.waits.now l c.args.limit c.args.ways.now
    (record { costs = c.loop-item.pending-inside.costs.items; by = c.loop-item.pending-inside.by.items }))
    (take_all c.loop-item.item-index c.args.starts.now c.loop-item-test.false) c.loop-item.invariant
