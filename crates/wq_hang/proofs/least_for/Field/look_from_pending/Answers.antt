use Rattle.std.proofs.Common.{◌≡◌, ◌-◌, ◌<◌, ◌≤◌, ◌⊎◌, inl, inr, ℕ, length, take, drop, ap, sym, subst, ◌∙◌, arith}
use Rattle.std.specs.Prelude.{Contains}
use Rattle.std.proofs.lemmas.Bool.{cases_lt}
use Rattle.std.proofs.lemmas.List.Elements.{All-take, All-drop}
use Rattle.wq_core.specs.Wiring.{IsWiring, items}
use Rattle.wq_hang.specs.EndsFor.{Field, IsField, NoneFrom, NoneAlone}
use Rattle.wq_hang.proofs.Taken.{contains_all, contains_piece}
use Rattle.wq_hang.proofs.Nearer.{NoneAlone-less}
use Rattle.wq_hang.proofs.EndsFound.{NoneAlone-fewer}
use Rattle.wq_hang.proofs.least_for.Field.look_from_pending.Goals as goal

pub loop-from-init : goal.loop-from-init
loop-from-init g c = (omega arith, c.requires.best, omega arith, λ t there. absurd (omega (arith, there.1)))

pub look_from_alone-requires-clause-few : goal.look_from_alone-requires-clause-few
look_from_alone-requires-clause-few g c =
    let w = c.args.self.now.wiring in
    let near = c.args.near.now in
    let from : ℕ = c.loop-from.from in
    All-take (λ i. i < items w) (c.min-to.result - from) (drop from near)
    (All-drop (λ i. i < items w) from near c.requires.near)

-- nothing is found yet
pub look_from_alone-requires-clause-round : goal.look_from_alone-requires-clause-round
look_from_alone-requires-clause-round g c = λ i.
    subst (λ (n : ℕ). NoneFrom c.args.self.now n i) (sym c.if-best-before.true) (c.requires.round i)

pub loop-from-preserved : goal.loop-from-preserved
loop-from-preserved g c =
    let f = c.args.self.now in
    let near = c.args.near.now in
    let from : ℕ = c.loop-from.from in
    let to : ℕ = c.min-to.result in
    let so_far = c.loop-from.invariant in
    let ends = c.in_ok-look_from_alone.ensures in (
      omega (arith, c.min-to.ensures),
      ends.best,
      omega (arith, ends.less, so_far.2),
      λ t there. elim (contains_piece near from to t (omega (arith, c.min-to.ensures, c.loop-from-test.true)) there) [
        | inl before ↦ NoneAlone-fewer f c.loop-from.best.cost c.look_from_alone.new.best.cost t ends.less
            (so_far.3 t before)
        | inr here ↦ ends.none t here
      ],
    )

pub returns-else-best-before-clause-none : goal.returns-else-best-before-clause-none
returns-else-best-before-clause-none g c = λ t there.
    let f = c.args.self.now in
    let on = c.self.inside.on.now in
    let field : IsField on f = subst (IsField on) c.self.view_is c.self.invariant in
    let same = ap (λ (x : Field). x.wiring) c.self.view_is in
    let wiring : IsWiring f.wiring = subst IsWiring same c.items-items.ensures.wiring in
    let before : ℕ = c.args.best.now.cost in
    let now : ℕ = c.loop-from.best.cost in
    let less : now < before = elim (cases_lt now before) [
      | inl is ↦ is
      | inr no_less ↦ absurd (c.if-best-before.false (omega (arith, no_less, c.loop-from.invariant.2)))
    ] in
    NoneAlone-less on f field wiring before c.requires.best.most c.requires.round t now less

pub returns-after-loop-from-clause-none : goal.returns-after-loop-from-clause-none
returns-after-loop-from-clause-none g c = λ t there.
    c.loop-from.invariant.3 t (contains_all c.args.near.now c.loop-from.from t c.loop-from-test.false there)
