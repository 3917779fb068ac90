use Rattle.std.proofs.Common.{◌≡◌, ◌+◌, ◌<◌, ◌⊎◌, inl, inr, ℕ, List, [], length, get_or, replicate, set, take, refl}
use Rattle.std.proofs.Common.{sym, ap, subst, ◌∙◌}
use Rattle.std.proofs.Common.{false, arith, rules}
use Rattle.std.specs.Prelude.{Contains, slice_index}
use Rattle.std.proofs.lemmas.Bool.{cases_lt, both_ways}
use Rattle.std.proofs.lemmas.List.{get_or-set_same, get_or_default, length-set, length-replicate}
use Rattle.wq_items.specs.declared.target.Target.{Target}
use Rattle.wq_core.specs.Wiring.{items, declared_by}
use Rattle.wq_hang.proofs.Declared.{declared-item, declared-target}
use Rattle.wq_hang.proofs.FlushesSoFar.{IsBefore, before_first, before_more, before_all}
use Rattle.wq_hang.proofs.Awaited.{AreLatestOf, AreLatestOf-none, AreLatestOf-weaker, AreLatestOf-next, AreLatest-all}
use Rattle.wq_hang.proofs.Awaited.{set_rises}
use Rattle.wq_hang.proofs.pending.latest.Goals as goal
use Rattle.wq_hang.proofs.pending.latest.Goals.{
  then-not-flush+then-cost-index,
  else-not-flush,
  else-not-flush-via-then-not-flush+else-cost-index,
  else-not-flush-via-else-not-flush,
  then-cost-limit+else-loop-flush-test,
  else-cost-limit,
}

pub loop-i-init : goal.loop-i-init
loop-i-init g c =
    let w = c.args.waits.now in
    let made : c.in_ok-latest.latest.items ≡ replicate c.items.result 0 =
    c.in_ok-latest.ensures.items_if_clones_equal (λ y e. search rules) in
    AreLatestOf-none w c.args.limit c.args.ways.now.costs (λ j t. j < 0) c.in_ok-latest.latest.items
    (ap (λ (l : List ℕ). length l) made ∙ length-replicate c.items.result 0 ∙ c.items.ensures.items)
    (λ j t lt. omega (arith, lt))

pub cost-cost-requires : goal.cost-cost-requires
cost-cost-requires g c =
    omega (arith, c.new-item.ensures, c.loop-i-test.true, c.items-i-end.ensures.items, c.requires.one_each)

pub loop-flush-init : goal.loop-flush-init
loop-flush-init g c =
    let i : ℕ = c.loop-i.i in
    AreLatestOf-weaker c.args.waits.now c.args.limit c.args.ways.now.costs (λ j t. j < i) (IsBefore i [])
    c.loop-i.latest.items (λ h hop alone low is. before_first i h.item h.flush is) c.loop-i.invariant

pub loop-flush-preserved : goal.loop-flush-preserved
loop-flush-preserved g c =
    let w = c.args.waits.now in
    let limit = c.args.limit in
    let costs = c.args.ways.now.costs in
    let i : ℕ = c.loop-i.i in
    let t : Target = c.flush-item.result in
    let flushes : List Target = c.flushes-flush-items.result.now in
    let k : ℕ = c.loop-flush.flush-index in
    let old : List ℕ = c.loop-flush.latest.items in
    let p : ℕ = c.from-at.result in
    let n : ℕ = c.cost-cost.result + 1 in
    let either : (j : ℕ) (u : Target) → IsBefore i (take (k + 1) flushes) j u
    → IsBefore i (take k flushes) j u ⊎ ((j ≡ i) × (u ≡ t)) =
    before_more i k flushes t c.loop-flush-test.true c.flush-item.is in
    let here : Contains flushes t = (k, c.loop-flush-test.true, sym c.flush-item.is) in
    let declared : Contains (declared_by w i) t =
    subst (λ (l : List Target). Contains l t)
    (c.flushes-flush-items.ensures ∙ ap (declared_by w) c.new-item.ensures) here in
    let below : t.item < items w = declared-target w i t c.items.ensures.wiring declared in
    let at : p ≡ t.item = c.from-at.ensures ∙ c.get.ensures in
    let within : p < length old = omega (arith, at, below, c.loop-flush.invariant.one_each) in
    let cost = c.cost-cost.ensures ∙ ap (λ (j : ℕ). slice_index costs j) c.new-item.ensures in
    elim c.if-not-flush.branch [
      | then-not-flush+then-cost-index v ↦ (
          let read : v.index.result.now ≡ slice_index old p =
          v.index.ensures ∙ get_or_default old p v.index.result.now 0 within in
          let stands : get_or (set old p n) t.item 0 ≡ n =
          subst (λ (q : ℕ). get_or (set old p n) q 0 ≡ n) at (get_or-set_same old p n 0 within) in
          subst (AreLatestOf w limit costs (IsBefore i (take (k + 1) flushes))) (sym (ap (λ x. x.items) v.latest-is))
          (AreLatestOf-next w limit costs (IsBefore i (take k flushes)) (IsBefore i (take (k + 1) flushes)) old
          (set old p n) i t c.loop-flush.invariant (length-set old p n)
          (set_rises old p n (omega (arith, read, v.if-cost-index.true))) (omega (arith, cost, stands)) either)
          )
      | else-not-flush v ↦
          subst (λ x. AreLatestOf w limit costs (IsBefore i (take (k + 1) flushes)) x.items) (sym v.latest-is)
          (elim v.else-not-flush.branch [
            | else-not-flush-via-then-not-flush+else-cost-index o ↦ (
                let read : o.index.result.now ≡ slice_index old p =
                o.index.ensures ∙ get_or_default old p o.index.result.now 0 within in
                AreLatestOf-next w limit costs (IsBefore i (take k flushes)) (IsBefore i (take (k + 1) flushes)) old
                old i t c.loop-flush.invariant refl (λ j. omega arith) (omega (
                  arith,
                  cost,
                  read,
                  o.if-cost-index.false,
                  ap (λ (q : ℕ). slice_index old q) at,
                )) either
                )
            | else-not-flush-via-else-not-flush o ↦
                AreLatestOf-weaker w limit costs (IsBefore i (take k flushes)) (IsBefore i (take (k + 1) flushes)) old
                (λ h hop alone low is. elim (either h.item h.flush is) [
                  | inl before ↦ before
                  | inr it ↦ absurd (both_ways t.whole (ap (λ (x : Target). x.whole) (sym it.1) ∙ alone)
                      o.if-not-flush.false)
                ]) c.loop-flush.invariant
          ])
    ]

pub loop-i-preserved : goal.loop-i-preserved
loop-i-preserved g c =
    let w = c.args.waits.now in
    let limit = c.args.limit in
    let costs = c.args.ways.now.costs in
    let i : ℕ = c.loop-i.i in
    let cost = c.cost-cost.ensures ∙ ap (λ (j : ℕ). slice_index costs j) c.new-item.ensures in
    elim c.if-cost-limit.branch [
      | then-cost-limit+else-loop-flush-test v ↦ (
          let flushes : List Target = v.flushes-flush-items.result.now in
          let k : ℕ = v.loop-flush.flush-index in
          let are : flushes ≡ declared_by w i =
          v.flushes-flush-items.ensures ∙ ap (declared_by w) c.new-item.ensures in
          subst (λ x. AreLatestOf w limit costs (λ j t. j < i + 1) x.items) (sym v.latest-is)
          (AreLatestOf-weaker w limit costs (IsBefore i (take k flushes)) (λ j t. j < i + 1) v.loop-flush.latest.items
          (λ h hop alone low is. before_all w i k flushes are v.loop-flush-test.false h.item h.flush hop.declared is)
          v.loop-flush.invariant)
          )
      | else-cost-limit v ↦
          subst (λ x. AreLatestOf w limit costs (λ j t. j < i + 1) x.items) (sym v.latest-is)
          (AreLatestOf-weaker w limit costs (λ j t. j < i) (λ j t. j < i + 1) c.loop-i.latest.items
          (λ h hop alone low is. elim (cases_lt h.item i) [
            | inl before ↦ before
            | inr last ↦ (
                let same : h.item ≡ i = omega (arith, last, is) in
                absurd (omega (
                  arith,
                  low,
                  cost,
                  v.if-cost-limit.false,
                  ap (λ (n : ℕ). slice_index costs n) same,
                ))
                )
          ]) c.loop-i.invariant)
    ]

pub returns : goal.returns
returns g c =
    let w = c.args.waits.now in
    let limit = c.args.limit in
    let costs = c.args.ways.now.costs in
    let latest = c.loop-i.latest.items in
    record {
      len = c.loop-i.invariant.one_each;
      latest = AreLatest-all w limit costs latest
          (AreLatestOf-weaker w limit costs (λ j t. j < c.loop-i.i) (λ j t. j < items w) latest
          (λ h hop alone low is. omega (arith, is, c.loop-i-test.false, c.items-i-end.ensures.items))
          c.loop-i.invariant)
          (λ h hop. declared-item w h.item h.flush hop.declared);
    }
