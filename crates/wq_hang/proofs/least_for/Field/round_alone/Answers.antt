use Rattle.std.proofs.Common.{◌≡◌, ◌+◌, ◌<◌, ◌≤◌, ◌⊎◌, inl, inr, ℕ, List, [], ◌∷◌, ◌++◌, Some, None, Option, length}
use Rattle.std.proofs.Common.{get_or, take, refl}
use Rattle.std.proofs.Common.{eqb, sym, ap, subst, ◌∙◌, arith, true, false}
use Rattle.std.specs.Prelude.{Contains, slice_index}
use Rattle.std.specs.List.{All}
use Rattle.std.proofs.lemmas.Bool.{cases_lt, both_ways, eqb-true, eq-eqb}
use Rattle.std.proofs.lemmas.List.Elements.{All-nil, All-cons}
use Rattle.wq_items.specs.declared.target.Target.{Target}
use Rattle.wq_core.specs.Wiring.{HasRescuer, items, lane_of, declared_by}
use Rattle.wq_hang.specs.declared.hop.Hop.{Hop}
use Rattle.wq_hang.specs.Walk.{IsHop}
use Rattle.wq_hang.specs.Search.{hop_to, step}
use Rattle.wq_hang.specs.WaysFor.{IsWay}
use Rattle.wq_hang.specs.EndsFor.{Field, IsRoundAlone, first_or}
use Rattle.wq_hang.proofs.Declared.{declared-item, declared-target}
use Rattle.wq_hang.proofs.FlushesSoFar.{IsBefore, before_first, before_more, before_all}
use Rattle.wq_hang.proofs.LastHops.{ClosesAlone, IsClosing, IsClosingOf, IsClosingOf-none, IsClosingOf-kept}
use Rattle.wq_hang.proofs.LastHops.{closing_found, closing_none, IsClosingOf-less, IsRoundAlone-closed, alone_least}
use Rattle.wq_hang.proofs.BestFound.{first_of_way}
use Rattle.wq_hang.proofs.least_for.Field.round_alone.Goals as goal
use Rattle.wq_hang.proofs.least_for.Field.round_alone.Goals.{
  then-not-flush+then-eq+then-cost_to_wait-least,
  else-not-flush,
  else-not-flush-via-then-not-flush+then-eq+else-cost_to_wait-least,
  else-not-flush-via-then-not-flush+else-eq,
  else-not-flush-via-else-not-flush,
  then-cost-least+else-loop-flush-test,
  else-cost-least,
}

pub search_ways-requires-clause-on : goal.search_ways-requires-clause-on
search_ways-requires-clause-on g c = c.self.invariant.items_on

pub search_ways-requires-clause-starts : goal.search_ways-requires-clause-starts
search_ways-requires-clause-starts g c =
    let w = c.self.inside.waits.now in
    let i : ℕ = c.args.item in
    let wiring = ap (λ (f : Field). f.wiring) c.self.view_is in
    All-cons (λ j. (j < items w) × HasRescuer w (lane_of w j)) i [] (
      omega (arith, c.requires.item, ap items wiring),
      subst (λ v. HasRescuer v (lane_of v i)) (sym wiring) c.requires.rescuer,
    ) (All-nil (λ j. (j < items w) × HasRescuer w (lane_of w j)))

pub loop-i-init : goal.loop-i-init
loop-i-init g c =
    IsClosingOf-none c.self.inside.waits.now c.args.item c.args.limit c.search_ways.new.search (λ j t. j < 0)
    (λ j t lt. omega (arith, lt))

pub cost-cost-requires : goal.cost-cost-requires
cost-cost-requires g c =
    omega (
      arith,
      c.new-waiting.ensures,
      c.loop-i-test.true,
      c.items-i-end.ensures.items,
      c.in_ok-search_ways.ensures.reach.one_each,
    )

pub loop-flush-init : goal.loop-flush-init
loop-flush-init g c =
    let i : ℕ = c.loop-i.i in
    IsClosingOf-kept c.self.inside.waits.now c.args.item c.args.limit c.search_ways.new.search (λ j t. j < i)
    (IsBefore i []) c.loop-i.least c.loop-i.last c.loop-i.invariant
    (λ h closes is. inl (before_first i h.item h.flush is))

pub loop-flush-preserved : goal.loop-flush-preserved
loop-flush-preserved g c =
    let w = c.self.inside.waits.now in
    let item : ℕ = c.args.item in
    let limit : ℕ = c.args.limit in
    let s = c.search_ways.new.search in
    let i : ℕ = c.loop-i.i in
    let t : Target = c.flush-item.result in
    let flushes : List Target = c.flushes-flush-items.result.now in
    let k : ℕ = c.loop-flush.flush-index in
    let either : (j : ℕ) (u : Target) → IsBefore i (take (k + 1) flushes) j u
    → IsBefore i (take k flushes) j u ⊎ ((j ≡ i) × (u ≡ t)) =
    before_more i k flushes t c.loop-flush-test.true c.flush-item.is in
    let cost = c.cost-cost.ensures ∙ ap (λ (j : ℕ). slice_index s.costs j) c.new-waiting.ensures in
    elim c.if-not-flush.branch [
      | then-not-flush+then-eq+then-cost_to_wait-least v ↦ (
          let here : Contains flushes t = (k, c.loop-flush-test.true, sym c.flush-item.is) in
          let declared : Contains (declared_by w i) t =
          subst (λ (l : List Target). Contains l t)
          (c.flushes-flush-items.ensures ∙ ap (declared_by w) c.new-waiting.ensures) here in
          let rescuer : HasRescuer w (lane_of w i) = c.in_ok-search_ways.ensures.reach.rescuer i
          (omega (arith, c.loop-i-test.true, c.items-i-end.ensures.items))
          (omega (arith, cost, c.if-cost-least.true, c.loop-i.invariant.low)) in
          let h : Hop = hop_to i t item in
          let closes : ClosesAlone w item h = record {
            hop = record { declared = declared; rescuer = rescuer };
            waits_for = eqb-true t.item item (sym v.eq.ensures ∙ v.if-eq.true);
            alone = v.if-not-flush.true;
          } in
          let now : ℕ = v.cost_to_wait-least.result in
          let last_is = v.last-is ∙ ap (λ (j : ℕ). Some (hop_to j t item)) c.new-waiting.ensures in
          let less : now < c.loop-flush.least = omega (
            arith,
            v.cost_to_wait.ensures,
            v.cost_to_wait-least.ensures,
            v.if-cost_to_wait-least.true,
          ) in
          subst (λ (n : ℕ). IsClosingOf w item limit s (IsBefore i (take (k + 1) flushes)) n c.if-not-flush.last)
          (sym v.least-is)
          (subst (λ (o : Option Hop). IsClosingOf w item limit s (IsBefore i (take (k + 1) flushes)) now o)
          (sym last_is)
          (IsClosingOf-less w item limit s (IsBefore i (take k flushes)) (IsBefore i (take (k + 1) flushes))
          c.loop-flush.least now c.loop-flush.last h c.loop-flush.invariant closes
          (omega (arith, v.cost_to_wait-least.ensures, cost)) less either))
          )
      | else-not-flush v ↦
          subst (λ (n : ℕ). IsClosingOf w item limit s (IsBefore i (take (k + 1) flushes)) n c.if-not-flush.last)
          (sym v.least-is)
          (subst (λ (o : Option Hop). IsClosingOf w item limit s (IsBefore i (take (k + 1) flushes))
          c.loop-flush.least o) (sym v.last-is)
          (IsClosingOf-kept w item limit s (IsBefore i (take k flushes)) (IsBefore i (take (k + 1) flushes))
          c.loop-flush.least c.loop-flush.last c.loop-flush.invariant (λ h closes is. elim (either h.item h.flush is) [
            | inl before ↦ inl before
            | inr it ↦ elim v.else-not-flush.branch [
              | else-not-flush-via-then-not-flush+then-eq+else-cost_to_wait-least o ↦ inr (omega (
                arith,
                o.if-cost_to_wait-least.false,
                o.cost_to_wait.ensures,
                cost,
                ap (λ (j : ℕ). slice_index s.costs j) it.0,
                ap step it.1,
              ))
              | else-not-flush-via-then-not-flush+else-eq o ↦ absurd (both_ways (eqb t.item item)
                  (sym o.eq.ensures ∙ o.if-eq.false)
                  (eq-eqb t.item item (ap (λ (x : Target). x.item) (sym it.1) ∙ closes.waits_for)))
              | else-not-flush-via-else-not-flush o ↦ absurd (both_ways t.whole
                  (ap (λ (x : Target). x.whole) (sym it.1) ∙ closes.alone) o.if-not-flush.false)
            ]
          ])))
    ]

pub loop-i-preserved : goal.loop-i-preserved
loop-i-preserved g c =
    let w = c.self.inside.waits.now in
    let item : ℕ = c.args.item in
    let limit : ℕ = c.args.limit in
    let s = c.search_ways.new.search in
    let i : ℕ = c.loop-i.i in
    let cost = c.cost-cost.ensures ∙ ap (λ (j : ℕ). slice_index s.costs j) c.new-waiting.ensures in
    elim c.if-cost-least.branch [
      | then-cost-least+else-loop-flush-test v ↦ (
          let flushes : List Target = v.flushes-flush-items.result.now in
          let k : ℕ = v.loop-flush.flush-index in
          let are : flushes ≡ declared_by w i =
          v.flushes-flush-items.ensures ∙ ap (declared_by w) c.new-waiting.ensures in
          subst (λ (n : ℕ). IsClosingOf w item limit s (λ j t. j < i + 1) n c.if-cost-least.last) (sym v.least-is)
          (subst (λ (o : Option Hop). IsClosingOf w item limit s (λ j t. j < i + 1) v.loop-flush.least o)
          (sym v.last-is)
          (IsClosingOf-kept w item limit s (IsBefore i (take k flushes)) (λ j t. j < i + 1) v.loop-flush.least
          v.loop-flush.last v.loop-flush.invariant (λ h closes is. inl (before_all w i k flushes are
          v.loop-flush-test.false h.item h.flush closes.hop.declared is))))
          )
      | else-cost-least v ↦
          subst (λ (n : ℕ). IsClosingOf w item limit s (λ j t. j < i + 1) n c.if-cost-least.last) (sym v.least-is)
          (subst (λ (o : Option Hop). IsClosingOf w item limit s (λ j t. j < i + 1) c.loop-i.least o) (sym v.last-is)
          (IsClosingOf-kept w item limit s (λ j t. j < i) (λ j t. j < i + 1) c.loop-i.least c.loop-i.last
          c.loop-i.invariant (λ h closes is. elim (cases_lt h.item i) [
            | inl before ↦ inl before
            | inr last ↦ (
                let same : h.item ≡ i = omega (arith, last, is) in
                inr (omega (
                  arith,
                  v.if-cost-least.false,
                  cost,
                  ap (λ (j : ℕ). slice_index s.costs j) same,
                ))
                )
          ])))
    ]

pub way_to-requires-clause-item : goal.way_to-requires-clause-item
way_to-requires-clause-item g c =
    let w = c.self.inside.waits.now in
    let h : Hop = c.in-Some.last in
    let found = closing_found w c.args.item c.args.limit c.search_ways.new.search c.loop-i.least c.loop-i.last h
    c.loop-i.invariant.found c.in-Some.is in
    declared-item w h.item h.flush found.0.hop.declared

pub way_to-requires-clause-one_each : goal.way_to-requires-clause-one_each
way_to-requires-clause-one_each g c = c.in_ok-search_ways.ensures.reach.one_each

pub way_to-requires-clause-by_each : goal.way_to-requires-clause-by_each
way_to-requires-clause-by_each g c = c.in_ok-search_ways.ensures.reach.by_each

pub way_to-requires-clause-reached : goal.way_to-requires-clause-reached
way_to-requires-clause-reached g c =
    let w = c.self.inside.waits.now in
    let h : Hop = c.in-Some.last in
    let found = closing_found w c.args.item c.args.limit c.search_ways.new.search c.loop-i.least c.loop-i.last h
    c.loop-i.invariant.found c.in-Some.is in (
      c.args.item ∷ [],
      c.args.limit,
      c.in_ok-search_ways.ensures.reach,
      omega (arith, found.1, found.2),
    )

pub returns-in_ok-push-in-Some-clause-some : goal.returns-in_ok-push-in-Some-clause-some
returns-in_ok-push-in-Some-clause-some g c =
    let w = c.self.inside.waits.now in
    let wiring = ap (λ (f : Field). f.wiring) c.self.view_is in
    let t : ℕ = c.args.item in
    let s = c.search_ways.new.search in
    let h : Hop = c.in-Some.last in
    let way : List Hop = c.in_ok-hops-in-Some.hops.items in
    let found = closing_found w t c.args.limit s c.loop-i.least c.loop-i.last h c.loop-i.invariant.found c.in-Some.is in
    let is : IsWay w (t ∷ []) s h.item way =
    c.in_ok-hops-in-Some.ensures (t ∷ []) c.args.limit c.in_ok-search_ways.ensures.reach
    (omega (arith, found.1, found.2)) in
    let closed = IsRoundAlone-closed w t s h way found.0 is c.first_or-last.result (λ first path.
    c.first_or-last.ensures ∙ ap (first_or h.item) c.as_slice.ensures.value ∙ first_of_way w first h.item way path) in (
      found.2,
      closed.0,
      subst (λ v. IsRoundAlone v t c.push.new.self.items closed.0) wiring
          (subst (λ (l : List Hop). IsRoundAlone w t l closed.0) (sym c.in_ok-push-in-Some.ensures.items) closed.1),
      omega (arith, closed.2, found.1),
    )

pub returns-in_ok-push-in-Some-clause-least : goal.returns-in_ok-push-in-Some-clause-least
returns-in_ok-push-in-Some-clause-least g c = λ hops cost is.
    let w = c.self.inside.waits.now in
    let wiring = ap (λ (f : Field). f.wiring) c.self.view_is in
    let t : ℕ = c.args.item in
    let s = c.search_ways.new.search in
    let i : ℕ = c.loop-i.i in
    alone_least w t c.args.limit s c.in_ok-search_ways.ensures (λ j u. j < i) c.loop-i.least c.loop-i.last
    c.loop-i.invariant (λ h hop. omega (
      arith,
      declared-item w h.item h.flush hop.declared,
      c.loop-i-test.false,
      c.items-i-end.ensures.items,
    )) hops cost (subst (λ v. IsRoundAlone v t hops cost) (sym wiring) is)

pub returns-in-None-clause-none : goal.returns-in-None-clause-none
returns-in-None-clause-none g c = λ hops cost is.
    let w = c.self.inside.waits.now in
    let wiring = ap (λ (f : Field). f.wiring) c.self.view_is in
    let t : ℕ = c.args.item in
    let s = c.search_ways.new.search in
    let i : ℕ = c.loop-i.i in
    let least = alone_least w t c.args.limit s c.in_ok-search_ways.ensures (λ j u. j < i) c.loop-i.least c.loop-i.last
    c.loop-i.invariant (λ h hop. omega (
      arith,
      declared-item w h.item h.flush hop.declared,
      c.loop-i-test.false,
      c.items-i-end.ensures.items,
    )) hops cost (subst (λ v. IsRoundAlone v t hops cost) (sym wiring) is) in
    omega (
      arith,
      least,
      closing_none w t c.args.limit s c.loop-i.least c.loop-i.last c.loop-i.invariant.found c.in-None.is,
    )
