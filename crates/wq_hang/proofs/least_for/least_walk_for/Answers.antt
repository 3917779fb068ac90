use Rattle.std.proofs.Common.{◌≡◌, ◌<◌, ◌+◌, [], ℕ, List, length, take, drop, get_or, sym, ap, subst, ◌∙◌, arith}
use Rattle.std.proofs.Common.{take_at}
use Rattle.std.specs.Prelude.{Contains}
use Rattle.std.specs.List.{All}
use Rattle.std.proofs.lemmas.Bool.{false≢true}
use Rattle.std.proofs.lemmas.List.{take_all}
use Rattle.std.proofs.lemmas.List.Elements.{All-nil, All-more, All-contains, All-from_get_or}
use Rattle.wq_core.specs.Wiring.{HasRescuer, items, lane_of}
use Rattle.wq_hang.specs.declared.hop.Hop.{Hop}
use Rattle.wq_hang.specs.Walk.{AreFirstAlike}
use Rattle.wq_hang.specs.WalkFor.{HoldsUp, IsWalkFor, IsLeastWalkFor, cost_for}
use Rattle.wq_hang.proofs.BestFound.{IsLeastWalkFor-bare, IsLeastWalkFor-same}
use Rattle.wq_hang.proofs.least_for.least_walk_for.Goals as goal

pub loop-item-init : goal.loop-item-init
loop-item-init g c = All-nil (λ i. HasRescuer c.args.waits.now (lane_of c.args.waits.now i))

pub loop-item-preserved : goal.loop-item-preserved
loop-item-preserved g c =
    let w = c.args.waits.now in
    let named = c.args.named.now in
    let k : ℕ = c.loop-item.item-index in
    let i : ℕ = c.item-item.result in
    let has : HasRescuer w (lane_of w i) =
    subst (HasRescuer w) c.lane_of.ensures.lane (c.has_rescuer.ensures.0 c.if-not-has_rescuer.false) in
    All-more (λ j. HasRescuer w (lane_of w j)) named k i c.loop-item-test.true c.loop-item.invariant
    (subst (λ (j : ℕ). HasRescuer w (lane_of w j)) c.item-item.is has)

pub returns-then-not-has_rescuer : goal.returns-then-not-has_rescuer
returns-then-not-has_rescuer g c =
    let w = c.args.waits.now in
    let named = c.args.named.now in
    let k : ℕ = c.loop-item.item-index in
    let i : ℕ = c.item-item.result in
    let there : Contains named i = (k, c.loop-item-test.true, sym c.item-item.is) in
    let bare : ¬ HasRescuer w (lane_of w i) = λ has.
    false≢true (sym c.if-not-has_rescuer.true
    ∙ c.has_rescuer.ensures.1 (subst (HasRescuer w) (sym c.lane_of.ensures.lane) has)) in
    record {
      some = subst (IsLeastWalkFor w named i) (sym c.new.ensures.items)
          (IsLeastWalkFor-bare w named i there (All-contains (λ j. j < items w) named i c.requires.named there) bare);
      alike = subst (AreFirstAlike w) (sym c.new.ensures.items) (λ h in_none. absurd (omega (arith, in_none.1)));
      none = tt;
    }

pub least_rescued-requires-clause-named : goal.least_rescued-requires-clause-named
least_rescued-requires-clause-named g c =
    let w = c.args.waits.now in
    let named = c.args.named.now in
    let all : All (λ i. HasRescuer w (lane_of w i)) named =
    subst (λ (l : List ℕ). All (λ i. HasRescuer w (lane_of w i)) l)
    (take_all c.loop-item.item-index named c.loop-item-test.false) c.loop-item.invariant in
    λ k d lt. (c.requires.named k d lt, all k d lt)

pub settle_held-requires : goal.settle_held-requires
settle_held-requires g c =
    let w = c.args.waits.now in
    let x : ℕ = c.in-Some.walk.named in
    let least : IsLeastWalkFor w c.args.named.now x c.in-Some.walk.hops.items =
    rw c.in-Some.is at c.in_ok-walk.ensures.some in
    subst (HoldsUp w x) (sym c.as_mut_slice.ensures.value) least.walk.holds_up

pub returns-in-Some-clause-some : goal.returns-in-Some-clause-some
returns-in-Some-clause-some g c =
    let w = c.args.waits.now in
    let x : ℕ = c.in-Some.walk.named in
    let old : List Hop = c.in-Some.walk.hops.items in
    let new : List Hop = c.settle_held.new.hops in
    let ends = c.settle_held.ensures in
    let least : IsLeastWalkFor w c.args.named.now x old =
    rw c.in-Some.is at c.in_ok-walk.ensures.some in
    let whole = take_at new (drop (length new) old) c.in-Some.walk.hops.len (ends.len ∙ c.as_mut_slice.ensures.len) in
    subst (IsLeastWalkFor w c.args.named.now x) (sym whole)
    (IsLeastWalkFor-same w c.args.named.now x old new least ends.walk
    (ends.cost ∙ ap (cost_for w x) c.as_mut_slice.ensures.value))

pub returns-in-Some-clause-alike : goal.returns-in-Some-clause-alike
returns-in-Some-clause-alike g c =
    let new : List Hop = c.settle_held.new.hops in
    let size = c.settle_held.ensures.len ∙ c.as_mut_slice.ensures.len in
    let whole = take_at new (drop (length new) c.in-Some.walk.hops.items) c.in-Some.walk.hops.len size in
    subst (AreFirstAlike c.args.waits.now) (sym whole) c.settle_held.ensures.alike

pub returns-in-None-clause-none : goal.returns-in-None-clause-none
returns-in-None-clause-none g c = rw c.in-None.is at c.in_ok-walk.ensures.none
