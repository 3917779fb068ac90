use Rattle.std.proofs.Common.{◌≡◌, ◌+◌, ◌-◌, ◌<◌, ◌⊎◌, inl, inr, ℕ, List, Some, length, take, refl, sym}
use Rattle.std.proofs.Common.{ap, subst, ◌∙◌}
use Rattle.std.proofs.Common.{arith}
use Rattle.std.specs.Prelude.{Contains, slice_index}
use Rattle.std.proofs.lemmas.List.Elements.{Contains-get_or}
use Rattle.wq_core.specs.Wiring.{items}
use Rattle.wq_hang.specs.declared.least_for.End.TheVariants as end
use Rattle.wq_hang.specs.Search.{AreBounds, IsBetter, IsNoBetter}
use Rattle.wq_hang.specs.EndsFor.{Field, IsBelowRounds, IsBest, NoneFrom}
use Rattle.wq_hang.proofs.Taken.{contains_more, contains_all}
use Rattle.wq_hang.proofs.EndsFound.{field_of, EndsRound-better, NoneFrom-better, NoneFrom-no_better, NoneFrom-below}
use Rattle.wq_hang.proofs.EndsFound.{NoneFrom-next, IsBest-is}
use Rattle.wq_hang.specs.declared.hop.Hop.{Hop}
use Rattle.wq_hang.proofs.least_for.Field.look_from.Goals as goal
use Rattle.wq_hang.proofs.least_for.Field.look_from.Goals.{
  then-cost-least+in_ok-more+in-Some,
  then-cost-least+in_ok-more+in_default,
  else-cost-least,
}

pub loop-i-init : goal.loop-i-init
loop-i-init g c = (
  subst (λ (f : Field). IsBest f c.args.best.now.cost c.args.best.now.end) (sym c.self.view_is) c.requires.best,
  omega arith,
  λ i there. absurd (omega (arith, there.1)),
)

pub bounds_to-requires-clause-few : goal.bounds_to-requires-clause-few
bounds_to-requires-clause-few g c k d lt =
    omega (arith, c.requires.few k d lt, ap (λ (f : Field). items f.wiring) c.self.view_is)

pub bounds_to-requires-clause-on : goal.bounds_to-requires-clause-on
bounds_to-requires-clause-on g c = c.self.invariant.items_on

pub cost-cost-requires : goal.cost-cost-requires
cost-cost-requires g c =
    omega (
      arith,
      c.new-item.ensures,
      c.requires.few c.loop-i.i-index 0 c.loop-i-test.true,
      ap (λ (f : Field). items f.wiring) c.self.view_is,
      c.self.invariant.ways.reach.one_each,
    )

pub better_round-requires-clause-on : goal.better_round-requires-clause-on
better_round-requires-clause-on g c = c.self.invariant.items_on

pub better_round-requires-clause-first : goal.better_round-requires-clause-first
better_round-requires-clause-first g c =
    omega (
      arith,
      c.new-item.ensures,
      c.requires.few c.loop-i.i-index 0 c.loop-i-test.true,
      ap (λ (f : Field). items f.wiring) c.self.view_is,
    )

pub better_round-requires-clause-one_each : goal.better_round-requires-clause-one_each
better_round-requires-clause-one_each g c =
    ap (λ (l : List ℕ). length l) c.deref.ensures.value ∙ c.in_ok-bounds.ensures.len

pub better_round-requires-clause-bounds : goal.better_round-requires-clause-bounds
better_round-requires-clause-bounds g c = λ rescuer.
    let few = c.args.few.now in
    let there : Contains few c.new-item.result = subst (Contains few) (sym c.new-item.ensures)
    (Contains-get_or few c.loop-i.i-index 0 c.loop-i-test.true) in
    subst (λ (l : List ℕ). AreBounds c.self.inside.waits.now l c.new-item.result) (sym c.deref.ensures.value)
    (c.in_ok-bounds.ensures.bounds c.new-item.result c.new-item.result there refl rescuer)

pub better_round-requires-clause-low : goal.better_round-requires-clause-low
better_round-requires-clause-low g c = omega (arith, c.loop-i.invariant.0.most)

pub loop-i-preserved : goal.loop-i-preserved
loop-i-preserved g c =
    let w = c.self.inside.waits.now in
    let f : Field = field_of w c.self.inside.starts.now c.self.inside.ways.now c.self.inside.pending.now in
    let few = c.args.few.now in
    let k : ℕ = c.loop-i.i-index in
    let i : ℕ = c.new-item.result in
    let old = c.loop-i.best in
    let so_far = c.loop-i.invariant in
    let cost : c.cost-cost.result ≡ slice_index f.ways.costs i = c.cost-cost.ensures in
    let limit : ℕ = old.cost - c.cost-cost.result in
    let either : (j : ℕ) → Contains (take (k + 1) few) j → Contains (take k few) j ⊎ (i ≡ j) = λ j there.
    elim (contains_more few k 0 j c.loop-i-test.true there) [
      | inl before ↦ inl before
      | inr same ↦ inr (c.new-item.ensures ∙ same)
    ] in
    elim c.if-cost-least.branch [
      | then-cost-least+in_ok-more+in-Some v ↦ (
          let hops : List Hop = v.in-Some.hops.items in
          let more : ℕ = v.in-Some.more in
          let better : IsBetter w i limit more hops = rw v.in-Some.is at v.in_ok-more.ensures.some in
          let ends = EndsRound-better f i limit more hops better in
          let now : ℕ = v.becomes.new.self.cost in
          let is_now : now ≡ c.cost-cost.result + more = v.becomes.ensures.cost in
          let at : now ≡ slice_index f.ways.costs i + more = omega (arith, is_now, cost) in
          let less : now < old.cost = omega (arith, is_now, better.less, v.if-cost-least.true) in
          rw v.best-is (
            IsBest-is f now now (Some (end.Round i v.in-Some.hops)) v.becomes.new.self.end refl v.becomes.ensures.end
                (record {
                  is_end = (ends.0, ends.1, omega (arith, at, ends.2));
                  most = omega (arith, less, so_far.0.most);
                }),
            omega (arith, less, so_far.1),
            NoneFrom-next f (take k few) (take (k + 1) few) old.cost now i (omega (arith, less)) so_far.2
                (subst (λ (n : ℕ). NoneFrom f n i) (sym at) (NoneFrom-better f i limit more hops better)) either,
          )
          )
      | then-cost-least+in_ok-more+in_default v ↦ (
          let none : IsNoBetter w i limit = rw v.in_default.is at v.in_ok-more.ensures.none in
          rw v.best-is (
            so_far.0,
            so_far.1,
            NoneFrom-next f (take k few) (take (k + 1) few) old.cost old.cost i (omega arith) so_far.2
                (NoneFrom-no_better f old.cost i limit (omega (arith, cost)) none) either,
          )
          )
      | else-cost-least v ↦ (
          let below : IsBelowRounds w c.args.least =
          subst (λ (k : Field). IsBelowRounds k.wiring c.args.least) (sym c.self.view_is) c.requires.least.0 in
          rw v.best-is (
            so_far.0,
            so_far.1,
            NoneFrom-next f (take k few) (take (k + 1) few) old.cost old.cost i (omega arith) so_far.2
                (NoneFrom-below f old.cost i c.args.least below (omega (arith, cost, v.if-cost-least.false))) either,
          )
          )
    ]

pub returns : goal.returns
returns g c =
    let f : Field = field_of c.self.inside.waits.now c.self.inside.starts.now c.self.inside.ways.now
    c.self.inside.pending.now in
    let few = c.args.few.now in
    let best = c.loop-i.best in
    let so_far = c.loop-i.invariant in
    record {
      best = subst (λ (k : Field). IsBest k best.cost best.end) c.self.view_is so_far.0;
      less = so_far.1;
      none = λ i there. subst (λ (k : Field). NoneFrom k best.cost i) c.self.view_is
          (so_far.2 i (contains_all few c.loop-i.i-index i c.loop-i-test.false there));
    }
