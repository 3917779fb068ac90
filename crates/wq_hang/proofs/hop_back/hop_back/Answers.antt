use Rattle.std.proofs.Common.{◌≡◌, ◌+◌, ◌≤◌, ◌⊎◌, inl, inr, ℕ, List, take, Option, Some, sym, subst, ◌∙◌, arith}
use Rattle.std.specs.Prelude.{Contains}
use Rattle.std.proofs.lemmas.Bool.{eqb-true, eqb-false}
use Rattle.std.proofs.lemmas.List.{take_all}
use Rattle.std.proofs.lemmas.List.Elements.{Contains-get_or}
use Rattle.wq_items.specs.declared.target.Target.{Target}
use Rattle.wq_core.specs.Wiring.{lane_of, declared_by}
use Rattle.wq_hang.specs.declared.hop.Hop.{Hop}
use Rattle.wq_hang.specs.Walk.{IsHop}
use Rattle.wq_hang.specs.Search.{hop_cost, hop_to}
use Rattle.wq_hang.proofs.Taken.{contains_more}
use Rattle.wq_hang.proofs.HopsBack.{
  IsBackSoFar,
  IsBackSoFar-none,
  IsBackSoFar-kept,
  IsBackSoFar-better,
  IfSome-back,
  IfNone-back,
}
use Rattle.wq_hang.proofs.hop_back.hop_back.Goals as goal
use Rattle.wq_hang.proofs.hop_back.hop_back.Goals.{
  then-cost-least+then-eq,
  else-cost-least,
  else-cost-least-via-then-cost-least+else-eq,
  else-cost-least-via-else-cost-least,
}

pub loop-flush-init : goal.loop-flush-init
loop-flush-init g c = IsBackSoFar-none c.args.waits.now c.args.item c.args.limit

pub loop-flush-preserved : goal.loop-flush-preserved
loop-flush-preserved g c =
    let v = c.args.waits.now in
    let i : ℕ = c.args.item in
    let limit : ℕ = c.args.limit in
    let flushes : List Target = c.flushes-flush-items.result.now in
    let k : ℕ = c.loop-flush.flush-index in
    let t : Target = c.flush-item.result in
    let least : ℕ = c.loop-flush.least in
    let found : Option Hop = c.loop-flush.found in
    let cost : ℕ = c.cost_back-cost.result in
    let costs : cost ≡ hop_cost (hop_to i t i) = c.cost_back-cost.ensures in
    let more : (u : Target) → Contains (take (k + 1) flushes) u → Contains (take k flushes) u ⊎ (t ≡ u) =
    λ u there. elim (contains_more flushes k t u c.loop-flush-test.true there) [
      | inl before ↦ inl before
      | inr same ↦ inr (c.flush-item.is ∙ same)
    ] in
    let declared : Contains (declared_by v i) t =
    subst (λ (l : List Target). Contains l t) c.flushes-flush-items.ensures
    (subst (Contains flushes) (sym c.flush-item.is) (Contains-get_or flushes k t c.loop-flush-test.true)) in
    elim c.if-cost-least.branch [
      | then-cost-least+then-eq w ↦ (
          let lane : lane_of v t.item ≡ lane_of v i =
          sym w.lane_of.ensures.lane ∙ eqb-true w.lane_of.result c.lane_of-own.result
          (sym w.eq.ensures ∙ w.if-eq.true)
          ∙ c.lane_of-own.ensures.lane in
          let hop : IsHop v (hop_to i t i) = record { declared = declared; rescuer = c.requires.rescuer } in
          let better = IsBackSoFar-better v i limit (take k flushes) (take (k + 1) flushes) t least found
          c.loop-flush.invariant more cost costs
          w.if-cost-least.true hop lane in
          subst (IsBackSoFar v i limit (take (k + 1) flushes) c.if-cost-least.least) (sym w.found-is)
          (subst (λ (n : ℕ). IsBackSoFar v i limit (take (k + 1) flushes) n (Some (hop_to i t i))) (sym w.least-is)
          better)
          )
      | else-cost-least w ↦ (
          let enough : lane_of v t.item ≡ lane_of v i → least ≤ hop_cost (hop_to i t i) = λ lane. elim
          w.else-cost-least.branch [
            | else-cost-least-via-then-cost-least+else-eq o ↦ absurd (eqb-false o.lane_of.result c.lane_of-own.result
                (sym o.eq.ensures ∙ o.if-eq.false) (o.lane_of.ensures.lane ∙ lane ∙ sym c.lane_of-own.ensures.lane))
            | else-cost-least-via-else-cost-least o ↦ omega (arith, costs, o.if-cost-least.false)
          ] in
          let kept = IsBackSoFar-kept v i limit (take k flushes) (take (k + 1) flushes) t least found
          c.loop-flush.invariant more enough in
          subst (IsBackSoFar v i limit (take (k + 1) flushes) c.if-cost-least.least) (sym w.found-is)
          (subst (λ (n : ℕ). IsBackSoFar v i limit (take (k + 1) flushes) n found) (sym w.least-is) kept)
          )
    ]

pub returns-clause-some : goal.returns-clause-some
returns-clause-some g c =
    let v = c.args.waits.now in
    let all : take c.loop-flush.flush-index c.flushes-flush-items.result.now ≡ declared_by v c.args.item =
    take_all c.loop-flush.flush-index c.flushes-flush-items.result.now c.loop-flush-test.false ∙
    c.flushes-flush-items.ensures in
    IfSome-back v c.args.item c.args.limit c.loop-flush.least c.loop-flush.found
    (subst (λ (l : List Target). IsBackSoFar v c.args.item c.args.limit l c.loop-flush.least c.loop-flush.found) all
    c.loop-flush.invariant)

pub returns-clause-none : goal.returns-clause-none
returns-clause-none g c =
    let v = c.args.waits.now in
    let all : take c.loop-flush.flush-index c.flushes-flush-items.result.now ≡ declared_by v c.args.item =
    take_all c.loop-flush.flush-index c.flushes-flush-items.result.now c.loop-flush-test.false ∙
    c.flushes-flush-items.ensures in
    IfNone-back v c.args.item c.args.limit c.loop-flush.least c.loop-flush.found
    (subst (λ (l : List Target). IsBackSoFar v c.args.item c.args.limit l c.loop-flush.least c.loop-flush.found) all
    c.loop-flush.invariant)
