use Rattle.std.proofs.Common.{◌≡◌, ◌-◌, ◌<◌, inl, inr, ℕ, List, length, take, drop, sym, subst, arith, length-drop}
use Rattle.std.proofs.lemmas.List.{take_all}
use Rattle.std.specs.Prelude.{Contains, slice_index}
use Rattle.std.specs.List.{All}
use Rattle.std.proofs.lemmas.List.Elements.{All-weaker, All-take, All-drop}
use Rattle.wq_core.specs.Wiring.{items}
use Rattle.wq_hang.specs.WaysFor.{AreNear}
use Rattle.wq_hang.specs.EndsFor.{Field, IsField}
use Rattle.wq_hang.proofs.Taken.{contains_parts}
use Rattle.wq_hang.proofs.EndsFound.{IsBelowRounds-hop, NoneFrom-all, NoneFrom-less}
use Rattle.wq_hang.proofs.least_for.Field.look_from_near.Goals as goal

-- the items that are near
within : (on : List (List ℕ)) (f : Field) (limit : ℕ) (near : List ℕ) → IsField on f
    → AreNear limit f.ways.costs near → All (λ i. i < items f.wiring) near
within on f limit near field are =
    All-weaker (λ i. (i < length f.ways.costs) × (slice_index f.ways.costs i < limit)) (λ i. i < items f.wiring)
    (λ i is. omega (arith, is.0, field.ways.reach.one_each)) near are.within

-- all that is behind some of them
rest_is : (near : List ℕ) (to : ℕ) → take (length near - to) (drop to near) ≡ drop to near
rest_is near to = take_all (length near - to) (drop to near) (omega (arith, length-drop to near))

pub look_from_items-requires-clause-near : goal.look_from_items-requires-clause-near
look_from_items-requires-clause-near g c =
    let f = c.args.self.now in
    let field : IsField c.self.inside.on.now f = subst (IsField c.self.inside.on.now) c.self.view_is c.self.invariant in
    All-take (λ i. i < items f.wiring) c.min-to.result c.args.near.now
    (within c.self.inside.on.now f c.args.best.now.cost c.args.near.now field c.requires.near)

pub look_from_items-requires-clause-least : goal.look_from_items-requires-clause-least
look_from_items-requires-clause-least g c = (IsBelowRounds-hop c.args.self.now.wiring, omega arith)

pub least_of_others-requires-clause-others : goal.least_of_others-requires-clause-others
least_of_others-requires-clause-others g c =
    let f = c.args.self.now in
    let field : IsField c.self.inside.on.now f = subst (IsField c.self.inside.on.now) c.self.view_is c.self.invariant in
    All-take (λ i. i < items f.wiring) (length c.args.near.now - c.min-to.result) (drop c.min-to.result c.args.near.now)
    (All-drop (λ i. i < items f.wiring) c.min-to.result c.args.near.now
    (within c.self.inside.on.now f c.args.best.now.cost c.args.near.now field c.requires.near))

pub look_from_items-requires-2-clause-near : goal.look_from_items-requires-2-clause-near
look_from_items-requires-2-clause-near g c =
    let f = c.args.self.now in
    let field : IsField c.self.inside.on.now f = subst (IsField c.self.inside.on.now) c.self.view_is c.self.invariant in
    All-take (λ i. i < items f.wiring) (length c.args.near.now - c.min-to.result) (drop c.min-to.result c.args.near.now)
    (All-drop (λ i. i < items f.wiring) c.min-to.result c.args.near.now
    (within c.self.inside.on.now f c.args.best.now.cost c.args.near.now field c.requires.near))

pub returns : goal.returns
returns g c =
    let f = c.args.self.now in
    let near = c.args.near.now in
    let to : ℕ = c.min-to.result in
    let field : IsField c.self.inside.on.now f = subst (IsField c.self.inside.on.now) c.self.view_is c.self.invariant in
    let first = c.in_ok-look_from_items.ensures in
    let least = c.in_ok-least.ensures in
    let others = c.in_ok-look_from_items-2.ensures in
    let now : ℕ = c.look_from_items-2.new.best.cost in
    record {
      best = others.best;
      less = omega (arith, first.less, least.less, others.less);
      none = NoneFrom-all f c.args.best.now.cost now near field.ways.reach.one_each
          (omega (arith, first.less, least.less, others.less)) c.requires.near
          (λ i there. elim (contains_parts near to i there) [
            | inl here ↦ NoneFrom-less f c.look_from_items.new.best.cost now i (omega (arith, least.less, others.less))
                (first.none i here)
            | inr other ↦ others.none i (subst (λ (l : List ℕ). Contains l i) (sym (rest_is near to)) other)
          ]);
      least = least.least;
    }
