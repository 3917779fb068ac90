use Rattle.std.proofs.Common.{◌≡◌, ◌<◌, ◌++◌, ℕ, List, sym, ap, subst, ◌∙◌, arith}
use Rattle.std.specs.Prelude.{Contains, slice_index}
use Rattle.std.proofs.lemmas.List.Elements.{All-weaker}
use Rattle.wq_core.specs.Wiring.{HasRescuer, items, lane_of}
use Rattle.wq_hang.specs.declared.hop.Hop.{Hop}
use Rattle.wq_hang.specs.Walk.{max_walk_cost}
use Rattle.wq_hang.specs.WaysFor.{IsWay}
use Rattle.wq_hang.specs.EndsFor.{Field, IsLedTo, first_or}
use Rattle.wq_hang.proofs.EndsFound.{field_of}
use Rattle.wq_hang.proofs.BestFound.{IsLedTo-way, first_below, first_of_way, one_on_lane_of}
use Rattle.wq_hang.proofs.least_for.Field.with_way.Goals as goal

pub way_to-requires-clause-item : goal.way_to-requires-clause-item
way_to-requires-clause-item g c =
    omega (arith, c.requires.item, ap (λ (f : Field). items f.wiring) c.self.view_is)

pub way_to-requires-clause-one_each : goal.way_to-requires-clause-one_each
way_to-requires-clause-one_each g c = c.self.invariant.ways.reach.one_each

pub way_to-requires-clause-by_each : goal.way_to-requires-clause-by_each
way_to-requires-clause-by_each g c = c.self.invariant.ways.reach.by_each

pub way_to-requires-clause-reached : goal.way_to-requires-clause-reached
way_to-requires-clause-reached g c = (
  c.self.inside.starts.now,
  max_walk_cost,
  c.self.invariant.ways.reach,
  omega (
    arith,
    c.requires.reached,
    ap (λ (f : Field). slice_index f.ways.costs c.args.item) c.self.view_is,
  ),
)

pub one_held_by-requires-clause-first : goal.one_held_by-requires-clause-first
one_held_by-requires-clause-first g c =
    let w = c.self.inside.waits.now in
    let i : ℕ = c.args.item in
    let way : List Hop = c.in_ok-all.all.items in
    let low : slice_index c.self.inside.ways.now.costs i < max_walk_cost =
    omega (arith, c.requires.reached, ap (λ (f : Field). slice_index f.ways.costs i) c.self.view_is) in
    let is : IsWay w c.self.inside.starts.now c.self.inside.ways.now i way =
    c.in_ok-all.ensures c.self.inside.starts.now max_walk_cost c.self.invariant.ways.reach low in
    let same : c.first_or-first.result ≡ first_or i way =
    c.first_or-first.ensures ∙ ap (first_or i) c.as_slice.ensures.value in
    omega (
      arith,
      same,
      first_below w is.way.first i way is.way.path
          (omega (arith, c.requires.item, ap (λ (f : Field). items f.wiring) c.self.view_is)),
    )

pub one_held_by-requires-clause-named : goal.one_held_by-requires-clause-named
one_held_by-requires-clause-named g c =
    let w = c.self.inside.waits.now in
    All-weaker (λ i. (i < items w) × HasRescuer w (lane_of w i)) (λ i. i < items w) (λ i is. is.0)
    c.self.inside.starts.now c.self.invariant.begin

pub returns-in-Some : goal.returns-in-Some
returns-in-Some g c =
    let w = c.self.inside.waits.now in
    let f : Field = field_of w c.self.inside.starts.now c.self.inside.ways.now c.self.inside.pending.now in
    let i : ℕ = c.args.item in
    let x : ℕ = c.in-Some.named in
    let hops : List Hop = c.args.hops.now in
    let way : List Hop = c.in_ok-all.all.items in
    let all : List Hop = c.extend_from_slice.new.self.items in
    let low : slice_index f.ways.costs i < max_walk_cost =
    omega (arith, c.requires.reached, ap (λ (k : Field). slice_index k.ways.costs i) c.self.view_is) in
    let is : IsWay w f.starts f.ways i way =
    c.in_ok-all.ensures f.starts max_walk_cost c.self.invariant.ways.reach low in
    let same : c.first_or-first.result ≡ first_or i way =
    c.first_or-first.ensures ∙ ap (first_or i) c.as_slice.ensures.value in
    let are : all ≡ way ++ hops = c.in_ok-extend_from_slice.ensures.items in
    let some = c.in-Some.ensures.some in
    subst (λ (k : Field). IsLedTo k i hops x all) c.self.view_is
    (IsLedTo-way f i way hops all x is are some.0 (some.1 ∙ ap (lane_of w) same)
    (λ there. some.2 (subst (λ (k : ℕ). Contains f.starts k) (sym same) there) ∙ same))

pub returns-in-None : goal.returns-in-None
returns-in-None g c =
    let w = c.self.inside.waits.now in
    let starts = c.self.inside.starts.now in
    let i : ℕ = c.args.item in
    let way : List Hop = c.in_ok-all.all.items in
    let low : slice_index c.self.inside.ways.now.costs i < max_walk_cost =
    omega (arith, c.requires.reached, ap (λ (k : Field). slice_index k.ways.costs i) c.self.view_is) in
    let is : IsWay w starts c.self.inside.ways.now i way =
    c.in_ok-all.ensures starts max_walk_cost c.self.invariant.ways.reach low in
    let same : c.first_or-first.result ≡ is.way.first =
    c.first_or-first.ensures
    ∙ ap (first_or i) c.as_slice.ensures.value
    ∙ first_of_way w is.way.first i way is.way.path in
    let one = one_on_lane_of w starts is.way.first is.way.before is.way.begins in
    c.in-None.ensures.none one.0 one.1 (one.2 ∙ ap (lane_of w) (sym same))
