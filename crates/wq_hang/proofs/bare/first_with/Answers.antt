use Rattle.std.proofs.Common.{◌≡◌, ◌+◌, ◌⊎◌, inl, inr, ℕ, List, take, refl, sym, subst, ◌∙◌}
use Rattle.std.specs.Prelude.{Contains}
use Rattle.std.proofs.lemmas.Bool.{false≢true}
use Rattle.wq_items.specs.declared.target.Target.{Target}
use Rattle.wq_core.specs.Wiring.{HasRescuer, lane_of, declared_by}
use Rattle.wq_hang.specs.declared.hop.Hop.{Hop}
use Rattle.wq_hang.specs.Walk.{IsToBare}
use Rattle.wq_hang.proofs.Taken.{contains_more, contains_all}
use Rattle.wq_hang.proofs.FirstHops.{IsFirstWith-none, IsFirstWith-kept, IsFirstWith-more, IsFirstBelow-all}
use Rattle.wq_hang.proofs.bare.first_with.Goals as goal
use Rattle.wq_hang.proofs.bare.first_with.Goals.{then-not-has_rescuer, else-not-has_rescuer}

pub loop-flush-init : goal.loop-flush-init
loop-flush-init g c = IsFirstWith-none c.args.waits.now c.args.item c.args.found c.requires.found

pub loop-flush-preserved : goal.loop-flush-preserved
loop-flush-preserved g c =
    let v = c.args.waits.now in
    let i : ℕ = c.args.item in
    let flushes = c.flushes-flush-items.result.now in
    let k : ℕ = c.loop-flush.flush-index in
    let x : Target = c.flush-item.result in
    let found = c.loop-flush.first in
    let h : Hop = record { item = i; flush = x; next = x.item } in
    let here : Contains flushes x = (k, c.loop-flush-test.true, sym c.flush-item.is) in
    let declared : Contains (declared_by v i) x = subst (λ (l : List Target). Contains l x) c.flushes-flush-items.ensures here in
    let more : (u : Target) → Contains (take (k + 1) flushes) u → Contains (take k flushes) u ⊎ (x ≡ u) = λ u there. elim (contains_more flushes k x u c.loop-flush-test.true there) [
      | inl before ↦ inl before
      | inr same ↦ inr (c.flush-item.is ∙ same)
    ] in
    elim c.if-not-has_rescuer.branch [
      | then-not-has_rescuer w ↦ (
          let bare : ¬ HasRescuer v (lane_of v x.item) = λ has. false≢true (sym w.if-not-has_rescuer.true ∙ c.has_rescuer.ensures.1 (subst (HasRescuer v) (sym c.lane_of.ensures.lane) has)) in
          let to : IsToBare v h = record { hop = record { declared = declared; rescuer = c.requires.rescuer }; bare = bare; next = refl } in
          rw w.first-is (IsFirstWith-more v i (take k flushes) (take (k + 1) flushes) h w.earlier.result found c.loop-flush.invariant to more w.earlier.ensures.either w.earlier.ensures.first w.earlier.ensures.found)
          )
      | else-not-has_rescuer w ↦ (
          let rescuer : HasRescuer v (lane_of v x.item) = subst (HasRescuer v) c.lane_of.ensures.lane (c.has_rescuer.ensures.0 w.if-not-has_rescuer.false) in
          rw w.first-is (IsFirstWith-kept v i (take k flushes) (take (k + 1) flushes) x found c.loop-flush.invariant rescuer more)
          )
    ]

pub returns : goal.returns
returns g c =
    let v = c.args.waits.now in
    let flushes = c.flushes-flush-items.result.now in
    let k : ℕ = c.loop-flush.flush-index in
    IsFirstBelow-all v c.args.item (take k flushes) c.loop-flush.first c.loop-flush.invariant
    (λ u there. contains_all flushes k u c.loop-flush-test.false (subst (λ (l : List Target). Contains l u) (sym c.flushes-flush-items.ensures) there))
