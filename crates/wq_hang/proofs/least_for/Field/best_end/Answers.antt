use Rattle.std.proofs.Common.{ℕ, List, length, ap, sym, subst, ◌∙◌}
use Rattle.std.specs.Prelude.{Contains}
use Rattle.wq_core.specs.Wiring.{items}
use Rattle.wq_hang.specs.WaysFor.{AreNear, AreLatest}
use Rattle.wq_hang.specs.EndsFor.{Field}
use Rattle.wq_hang.specs.Walk.{max_walk_cost}
use Rattle.wq_hang.proofs.BestFound.{IsBestEnd-all}
use Rattle.wq_hang.proofs.least_for.Field.best_end.Goals as goal

pub by_cost-requires : goal.by_cost-requires
by_cost-requires g c = c.self.invariant.ways.reach.one_each

pub look_from_near-requires-clause-near : goal.look_from_near-requires-clause-near
look_from_near-requires-clause-near g c =
    let limit = c.to_bare-best.result.cost in
    subst (λ (f : Field). AreNear limit f.ways.costs c.as_slice.result.now) c.self.view_is
    (subst (λ (l : List ℕ). AreNear limit c.self.inside.ways.now.costs l) (sym c.as_slice.ensures.value)
    c.in_ok-near.ensures)

pub latest-requires-clause-one_each : goal.latest-requires-clause-one_each
latest-requires-clause-one_each g c = c.self.invariant.ways.reach.one_each

pub begin_alone-requires-clause-len : goal.begin_alone-requires-clause-len
begin_alone-requires-clause-len g c =
    ap (λ (l : List ℕ). length l) c.as_slice-2.ensures.value
    ∙ c.in_ok-latest.ensures.len
    ∙ ap (λ (f : Field). items f.wiring) c.self.view_is

pub begin_alone-requires-clause-latest : goal.begin_alone-requires-clause-latest
begin_alone-requires-clause-latest g c =
    subst (λ (f : Field). AreLatest f.wiring max_walk_cost f.ways.costs c.as_slice-2.result.now) c.self.view_is
    (subst (λ (l : List ℕ). AreLatest c.self.inside.waits.now max_walk_cost c.self.inside.ways.now.costs l)
    (sym c.as_slice-2.ensures.value) c.in_ok-latest.ensures.latest)

pub returns : goal.returns
returns g c =
    let f = c.args.self.now in
    let found = c.in_ok-least.ensures in
    let alone = c.in_ok-alone.ensures in
    let ends = c.in_ok-look_from_pending.ensures in
    let few = c.in_ok-alone.alone.items in
    IsBestEnd-all f c.look_from_pending.new.best.end c.to_bare-best.result.cost c.look_from_near.new.best.cost
    c.look_from_pending.new.best.cost few ends.best ends.less found.less c.to_bare-best.ensures.bare found.none
    (λ t there. ends.none t (subst (λ (l : List ℕ). Contains l t) (sym c.as_slice-3.ensures.value) there))
    alone.others
