use Rattle.std.proofs.Common.{◌≡◌, ◌<◌, ℕ, Bool, true, false, List, Some, sym, subst}
use Rattle.std.specs.Prelude.{slice_index_or, IfSome, IfNone, MatchOption}
use Rattle.std.proofs.lemmas.List.Elements.{All-weaker}
use Rattle.wq_core.specs.Wiring.{HasRescuer, items, lane_of}
use Rattle.wq_hang.specs.declared.hop.Hop.{Hop}
use Rattle.wq_hang.specs.WalkFor.{IsWalkFor, IsLeastWalkFor}
use Rattle.wq_hang.specs.EndsFor.{Field, IsField, IsBestEnd, IsWalkAt}
use Rattle.wq_hang.specs.Search.{ArePassed}
use Rattle.wq_hang.proofs.LeastFound.{ArePassed-marked}
use Rattle.wq_hang.proofs.Taken.{IfOk-weaker, IfSome-match, IfNone-match}
use Rattle.wq_hang.proofs.EndsFound.{field_of}
use Rattle.wq_hang.proofs.BestFound.{IsLeastWalkFor-best, no_walk-none}
use Rattle.wq_hang.proofs.least_for.least_rescued.Goals as goal

pub of_ways-requires-clause-starts : goal.of_ways-requires-clause-starts
of_ways-requires-clause-starts g c =
    let w = c.args.waits.now in
    All-weaker (λ i. (i < items w) × HasRescuer w (lane_of w i)) (λ i. i < items w) (λ i is. is.0) c.args.named.now
    c.requires.named

pub of_ways-requires-clause-one_each : goal.of_ways-requires-clause-one_each
of_ways-requires-clause-one_each g c = c.in_ok-search_ways.ensures.reach.one_each

pub invariant_of-field : goal.invariant_of-field
invariant_of-field g c = record {
  items_on = c.in_ok-on.ensures;
  begin = c.requires.named;
  ways = c.in_ok-search_ways.ensures;
  pending = c.in_ok-pending.ensures;
}

pub best_end-requires-clause-passed : goal.best_end-requires-clause-passed
best_end-requires-clause-passed g c =
    let w = c.args.waits.now in
    let marks = c.in_ok-marks.marks.items in
    let passed = c.in_ok-passed.passed.items in
    let are : ArePassed w passed = ArePassed-marked w c.args.numbers.now marks passed c.in_ok-marks.ensures.marked
    (λ i below rescuer marked.
    c.in_ok-passed.ensures.all i below (subst (λ (l : List Bool). slice_index_or l (lane_of w i) false ≡ true)
    (sym c.as_slice-2.ensures.value) marked)) in
    subst (ArePassed w) (sym c.as_slice-3.ensures.value) are

pub walk_to-requires : goal.walk_to-requires
walk_to-requires g c =
    let is = rw c.in-Some.is at c.in_ok-end.ensures in
    (is.cost, is.best)

pub returns-in-Some-clause-some : goal.returns-in-Some-clause-some
returns-in-Some-clause-some g c =
    let w = c.args.waits.now in
    let named = c.args.named.now in
    let f : Field = field_of w named c.search_ways.new.search c.in_ok-pending.pending in
    let field : IsField c.in_ok-on.on f = record {
      items_on = c.in_ok-on.ensures;
      begin = c.requires.named;
      ways = c.in_ok-search_ways.ensures;
      pending = c.in_ok-pending.ensures;
    } in
    let is : IsBestEnd f (Some c.in-Some.end) = rw c.in-Some.is at c.in_ok-end.ensures in
    IfOk-weaker c.walk_to.result
    (λ found. MatchOption found ⊥ (λ walk. IsWalkAt f is.cost walk.named walk.hops.items))
    (λ found. IfSome found (λ walk. IsLeastWalkFor w named walk.named walk.hops.items))
    (λ found at. IfSome-match found (λ walk. IsWalkAt f is.cost walk.named walk.hops.items)
    (λ walk. IsLeastWalkFor w named walk.named walk.hops.items)
    (λ walk is_at. IsLeastWalkFor-best c.in_ok-on.on f field (Some c.in-Some.end) is walk.named walk.hops.items is_at)
    at)
    (c.walk_to.ensures is.cost is.best)

pub returns-in-Some-clause-none : goal.returns-in-Some-clause-none
returns-in-Some-clause-none g c =
    let w = c.args.waits.now in
    let named = c.args.named.now in
    let f : Field = field_of w named c.search_ways.new.search c.in_ok-pending.pending in
    let is : IsBestEnd f (Some c.in-Some.end) = rw c.in-Some.is at c.in_ok-end.ensures in
    IfOk-weaker c.walk_to.result
    (λ found. MatchOption found ⊥ (λ walk. IsWalkAt f is.cost walk.named walk.hops.items))
    (λ found. IfNone found ((x : ℕ) (hops : List Hop) → ¬ IsWalkFor w named x hops))
    (λ found at. IfNone-match found (λ walk. IsWalkAt f is.cost walk.named walk.hops.items)
    ((x : ℕ) (hops : List Hop) → ¬ IsWalkFor w named x hops) at)
    (c.walk_to.ensures is.cost is.best)

pub returns-clause-none : goal.returns-clause-none
returns-clause-none g c =
    let w = c.args.waits.now in
    let named = c.args.named.now in
    let f : Field = field_of w named c.search_ways.new.search c.in_ok-pending.pending in
    let field : IsField c.in_ok-on.on f = record {
      items_on = c.in_ok-on.ensures;
      begin = c.requires.named;
      ways = c.in_ok-search_ways.ensures;
      pending = c.in_ok-pending.ensures;
    } in
    no_walk-none c.in_ok-on.on f field c.items-items.ensures.wiring c.items-items.ensures.few_lanes
    (rw c.in-None.is at c.in_ok-end.ensures)
