use Rattle.std.proofs.Common.{◌<◌, ◌≤◌, inl, refl, List, sym, ap, subst, arith}
use Rattle.std.specs.Prelude.{flat_map, length}
use Rattle.std.specs.List.{All}
use Rattle.std.proofs.lemmas.List.Elements.{All-weaker}
use Rattle.wq_core.specs.Wiring.{items}
use Rattle.wq_hang.specs.declared.hop.Hop.{Hop}
use Rattle.wq_hang.specs.Walk.{target_beside}
use Rattle.wq_hang.specs.Search.{ArePassed, IsLeastRound, hops_cost}
use Rattle.wq_hang.specs.EndsFor.{Field, IsField, IsBelowRounds}
use Rattle.wq_hang.proofs.EndsFound.{IsBelowRounds-hop}
use Rattle.wq_hang.proofs.LeastFound.{walk_items}
use Rattle.wq_hang.proofs.least_for.Field.least_of_others.Goals as goal

pub may_be_better-requires : goal.may_be_better-requires
may_be_better-requires g c =
    let f = c.args.self.now in
    let field : IsField c.self.inside.on.now f = subst (IsField c.self.inside.on.now) c.self.view_is c.self.invariant in
    record {
      few = All-weaker (λ i. i < items f.wiring) (λ i. i < length f.ways.costs)
          (λ i below. omega (arith, below, field.ways.reach.one_each)) c.args.others.now c.requires.others;
      low = omega arith;
    }

pub least_round-requires-clause-on : goal.least_round-requires-clause-on
least_round-requires-clause-on g c = c.self.invariant.items_on

pub least_round-requires-clause-items : goal.least_round-requires-clause-items
least_round-requires-clause-items g c =
    subst (λ (f : Field). All (λ i. i < items f.wiring) c.args.passed.now) (sym c.self.view_is) c.requires.items

pub least_round-requires-clause-passed : goal.least_round-requires-clause-passed
least_round-requires-clause-passed g c =
    subst (λ (f : Field). ArePassed f.wiring c.args.passed.now) (sym c.self.view_is) c.requires.passed

pub least_round-requires-clause-low : goal.least_round-requires-clause-low
least_round-requires-clause-low g c = c.requires.best.most

pub nearest-item-requires-clause-items : goal.nearest-item-requires-clause-items
nearest-item-requires-clause-items g c =
    let w = c.self.inside.waits.now in
    let hops = c.in-Some.hops.items in
    let least : IsLeastRound w c.args.best.now.cost hops = rw c.in-Some.is at c.in_ok-found.ensures.some in
    subst (λ (f : Field). All (λ (h : Hop). h.item < items f.wiring) c.as_slice.result.now) c.self.view_is
    (subst (λ (l : List Hop). All (λ (h : Hop). h.item < items w) l) (sym c.as_slice.ensures.value)
    (walk_items w hops (flat_map target_beside hops) (inl (least.round, refl))))

pub returns-then-not-may_be_better-clause-least : goal.returns-then-not-may_be_better-clause-least
returns-then-not-may_be_better-clause-least g c = (IsBelowRounds-hop c.args.self.now.wiring, omega arith)

pub returns-in_ok-look_from_one-in-Some-clause-least : goal.returns-in_ok-look_from_one-in-Some-clause-least
returns-in_ok-look_from_one-in-Some-clause-least g c =
    let w = c.self.inside.waits.now in
    let hops = c.in-Some.hops.items in
    let least : IsLeastRound w c.args.best.now.cost hops = rw c.in-Some.is at c.in_ok-found.ensures.some in
    let low : c.hops_cost.result ≤ hops_cost hops =
    omega (arith, c.hops_cost.ensures, ap hops_cost c.as_slice-in-Some.ensures.value) in (
      subst (λ (f : Field). IsBelowRounds f.wiring c.hops_cost.result) c.self.view_is
          (λ others round. omega (arith, low, least.least others round)),
      omega (arith, low, least.less, c.requires.best.most),
    )

pub returns-in-None-clause-least : goal.returns-in-None-clause-least
returns-in-None-clause-least g c = (
  subst (λ (f : Field). IsBelowRounds f.wiring c.args.best.now.cost) c.self.view_is
      (rw c.in-None.is at c.in_ok-found.ensures.none),
  c.requires.best.most,
)
