use Rattle.std.proofs.Common.{◌≡◌, ◌+◌, ◌≤◌, inl, inr, ℕ, List, sym, ap, ◌∙◌, arith}
use Rattle.std.specs.Prelude.{slice_index}
use Rattle.std.proofs.lemmas.Bool.{ltb-false}
use Rattle.wq_core.specs.Wiring.{items}
use Rattle.wq_hang.specs.EndsFor.{Field}
use Rattle.wq_hang.proofs.least_for.Field.may_begin_alone.Goals as goal
use Rattle.wq_hang.proofs.least_for.Field.may_begin_alone.Goals.{then-cost-least, else-cost-least}

pub cost-cost-requires : goal.cost-cost-requires
cost-cost-requires g c =
    omega (
      arith,
      c.requires.item,
      ap (λ (f : Field). items f.wiring) c.self.view_is,
      c.self.invariant.pending.one_each,
    )

pub returns-then-latest-from : goal.returns-then-latest-from
returns-then-latest-from g c = λ is.
    let f = c.args.self.now in
    let cost : c.cost-cost.result ≡ slice_index f.pending.costs c.args.item =
    c.cost-cost.ensures ∙ ap (λ (k : Field). slice_index k.pending.costs c.args.item) c.self.view_is in
    inr (inr (λ i below other lane one. c.has_one_before.ensures is i below other lane
    (one ∙ ap (λ (n : ℕ). n + 1) (sym cost))))

pub returns-else-latest-from : goal.returns-else-latest-from
returns-else-latest-from g c = λ is.
    let f = c.args.self.now in
    let latest : List ℕ = c.args.latest.now in
    let cost : c.cost-cost.result ≡ slice_index f.pending.costs c.args.item =
    c.cost-cost.ensures ∙ ap (λ (k : Field). slice_index k.pending.costs c.args.item) c.self.view_is in
    elim c.if-cost-least.branch [
      | then-cost-least v ↦ (
          let few : slice_index latest v.from.result ≤ c.cost-cost.result + 1 =
          ltb-false (c.cost-cost.result + 1) (slice_index latest v.from.result)
          (sym v.value-is ∙ c.if-latest-from.false) in
          inr (inl (omega (arith, few, cost, ap (slice_index latest) (v.from.ensures ∙ v.get.ensures))))
          )
      | else-cost-least v ↦ inl (omega (arith, v.if-cost-least.false, cost))
    ]

pub has_one_before-requires : goal.has_one_before-requires
has_one_before-requires g c =
    record {
      item = c.requires.item;
      low = omega (arith, c.cost-cost.ensures, c.self.invariant.pending.capped c.args.item);
    }
