use Rattle.std.proofs.Common.{◌≡◌, ◌+◌, ◌-◌, ◌<◌, ◌⊎◌, min, ℕ, List, length, take, drop, get_or, sym, ap, subst, ◌∙◌}
use Rattle.std.proofs.Common.{refl, arith}
use Rattle.std.specs.Prelude.{Contains}
use Rattle.std.specs.Option.{option_map}
use Rattle.std.proofs.lemmas.List.{get_or-take, get_or-drop, length-take, length-drop}
use Rattle.std.proofs.lemmas.List.Elements.{Contains-get_or}
use Rattle.wq_hang.specs.Search.{AreBounds, IsBetter, IsNoBetter}
use Rattle.wq_hang.proofs.Taken.{contains_more, contains_all}
use Rattle.wq_hang.proofs.Bounding.{ServeAll, ServeAll-made, ServeAll-none}
use Rattle.wq_hang.proofs.LeastFound.{IsBest, IsBest-none, IsBest-some, IsBest-kept, IfSome-best, IfNone-best}
use Rattle.wq_hang.proofs.least.least_round.Goals as goal
use Rattle.wq_hang.proofs.least.least_round.Goals.{in-Some, in_default, else-not-are_made}
use Rattle.wq_hang.proofs.least.least_round.Goals.{then-not-are_made+then-saturating_sub-items+in_ok-bounds-2}

-- an element of a piece of a list
get_or-piece : (xs : List ℕ) (from n k : ℕ) → k < n → get_or (take n (drop from xs)) k 0 ≡ get_or xs (from + k) 0
get_or-piece xs from n k lt = get_or-take n (drop from xs) k 0 lt ∙ get_or-drop from xs k 0

-- a piece has so many elements, if they are there
length-piece : (xs : List ℕ) (from to : ℕ) → to ≡ min (length xs) to
    → length (take (to - from) (drop from xs)) ≡ to - from
length-piece xs from to is =
    omega (arith, is, length-take (to - from) (drop from xs), length-drop from xs)

pub loop-from-init : goal.loop-from-init
loop-from-init g c = (omega arith, IsBest-none c.args.waits.now c.args.limit)

pub loop-from-preserved : goal.loop-from-preserved
loop-from-preserved g c =
    let passed = c.args.passed.now in
    let from : ℕ = c.loop-from.from in
    let to : ℕ = c.min-to.result in
    let size = length-piece passed from to (omega (arith, c.min-to.ensures)) in
    let same : from + c.loop-i.i-index ≡ to =
    omega (arith, size, c.min-to.ensures, c.loop-from-test.true, c.loop-i-test.false, c.loop-i.auto.i-index-end) in (
      omega (arith, c.min-to.ensures),
      subst (λ (n : ℕ). IsBest c.args.waits.now c.args.limit (take n passed) c.loop-i.least
          (option_map (λ v. v.items) c.loop-i.found)) same c.loop-i.invariant.1,
    )

pub loop-i-init : goal.loop-i-init
loop-i-init g c =
    let same : c.loop-from.from ≡ c.loop-from.from + 0 = omega arith in (
      ServeAll-none c.args.waits.now (take (c.min-to.result - c.loop-from.from)
          (drop c.loop-from.from c.args.passed.now)) c.in_ok-bounds.bounds.items c.lanes.result c.lanes.ensures.lanes
          c.in_ok-bounds.ensures,
      subst (λ (n : ℕ). IsBest c.args.waits.now c.args.limit (take n c.args.passed.now) c.loop-from.least
          (option_map (λ v. v.items) c.loop-from.found)) same c.loop-from.invariant.1,
    )

pub loop-i-preserved : goal.loop-i-preserved
loop-i-preserved g c =
    let v = c.args.waits.now in
    let passed = c.args.passed.now in
    let from : ℕ = c.loop-from.from in
    let to : ℕ = c.min-to.result in
    let k : ℕ = c.loop-i.i-index in
    let n : ℕ = from + k in
    let i : ℕ = get_or passed n 0 in
    let least : ℕ = c.loop-i.least in
    let size = length-piece passed from to (omega (arith, c.min-to.ensures)) in
    let early : k < to - from = omega (arith, size, c.loop-i-test.true) in
    let within : n < length passed = omega (arith, early, c.min-to.ensures) in
    let item : c.new-first.result ≡ i = c.new-first.ensures ∙ get_or-piece passed from (to - from) k early in
    let more : (j : ℕ) → Contains (take (n + 1) passed) j → Contains (take n passed) j ⊎ (i ≡ j) = λ j there.
    contains_more passed n 0 j within there in
    let next : n + 1 ≡ from + (k + 1) = omega arith in
    let few = take (c.min-to.result - c.loop-from.from) (drop c.loop-from.from c.args.passed.now) in
    let served : ServeAll c.args.waits.now few c.if-not-are_made.bounds.items = elim c.if-not-are_made.branch [
      | then-not-are_made+then-saturating_sub-items+in_ok-bounds-2 w ↦
          subst (λ b. ServeAll c.args.waits.now few b.items) (sym w.bounds-is)
          (ServeAll-made c.args.waits.now few w.in_ok-bounds-2.bounds.items w.in_ok-bounds-2.ensures.len
          (λ i there. w.in_ok-bounds-2.ensures.bounds i i there refl))
      | else-not-are_made w ↦ subst (λ b. ServeAll c.args.waits.now few b.items) (sym w.bounds-is) c.loop-i.invariant.0
    ] in (
      served,
      subst (λ (m : ℕ). IsBest v c.args.limit (take m passed) c.match-branch-4.least
          (option_map (λ x. x.items) c.match-branch-4.found)) next (elim c.match-branch-4.branch [
            | in-Some w ↦ (
                let better : IsBetter v c.new-first.result least w.in-Some.cost w.in-Some.hops.items =
                rw w.in-Some.is at c.in_ok-cost.ensures.some in
                let here : IsBetter v i least w.in-Some.cost w.in-Some.hops.items =
                subst (λ (x : ℕ). IsBetter v x least w.in-Some.cost w.in-Some.hops.items) item better in
                IsBest-some c.loop-i.found c.match-branch-4.found w.in-Some.hops (λ x. x.items) v c.args.limit
                (take n passed) (take (n + 1) passed) i least w.in-Some.cost c.match-branch-4.least
                c.loop-i.invariant.1 more
                here w.least-is w.found-is
                )
            | in_default w ↦ (
                let none : IsNoBetter v c.new-first.result least = rw w.in_default.is at c.in_ok-cost.ensures.none in
                let here : IsNoBetter v i least = subst (λ (x : ℕ). IsNoBetter v x least) item none in
                IsBest-kept c.loop-i.found c.match-branch-4.found (λ x. x.items) v c.args.limit (take n passed)
                (take (n + 1) passed) i least c.match-branch-4.least c.loop-i.invariant.1 more here w.least-is
                w.found-is
                )
          ]),
    )

pub bounds_to-requires-clause-few : goal.bounds_to-requires-clause-few
bounds_to-requires-clause-few g c k d lt =
    let passed = c.args.passed.now in
    let from : ℕ = c.loop-from.from in
    let to : ℕ = c.min-to.result in
    let size = length-piece passed from to (omega (arith, c.min-to.ensures)) in
    let early : k < to - from = omega (arith, size, lt) in
    let same = get_or-take (to - from) (drop from passed) k d early ∙ get_or-drop from passed k d in
    omega (arith, same, c.requires.items (from + k) d (omega (arith, early, c.min-to.ensures)))

pub better_round-requires-clause-bounds : goal.better_round-requires-clause-bounds
better_round-requires-clause-bounds g c = λ rescuer.
    let few = take (c.min-to.result - c.loop-from.from) (drop c.loop-from.from c.args.passed.now) in
    let served : ServeAll c.args.waits.now few c.if-not-are_made.bounds.items = elim c.if-not-are_made.branch [
      | then-not-are_made+then-saturating_sub-items+in_ok-bounds-2 w ↦
          subst (λ b. ServeAll c.args.waits.now few b.items) (sym w.bounds-is)
          (ServeAll-made c.args.waits.now few w.in_ok-bounds-2.bounds.items w.in_ok-bounds-2.ensures.len
          (λ i there. w.in_ok-bounds-2.ensures.bounds i i there refl))
      | else-not-are_made w ↦ subst (λ b. ServeAll c.args.waits.now few b.items) (sym w.bounds-is) c.loop-i.invariant.0
    ] in
    let there : Contains few c.new-first.result = subst (Contains few) (sym c.new-first.ensures)
    (Contains-get_or few c.loop-i.i-index 0 c.loop-i-test.true) in
    subst (λ (l : List ℕ). AreBounds c.args.waits.now l c.new-first.result) (sym c.deref.ensures.value)
    (served.serve c.new-first.result there rescuer)

pub better_round-requires-clause-one_each : goal.better_round-requires-clause-one_each
better_round-requires-clause-one_each g c =
    let few = take (c.min-to.result - c.loop-from.from) (drop c.loop-from.from c.args.passed.now) in
    let served : ServeAll c.args.waits.now few c.if-not-are_made.bounds.items = elim c.if-not-are_made.branch [
      | then-not-are_made+then-saturating_sub-items+in_ok-bounds-2 w ↦
          subst (λ b. ServeAll c.args.waits.now few b.items) (sym w.bounds-is)
          (ServeAll-made c.args.waits.now few w.in_ok-bounds-2.bounds.items w.in_ok-bounds-2.ensures.len
          (λ i there. w.in_ok-bounds-2.ensures.bounds i i there refl))
      | else-not-are_made w ↦ subst (λ b. ServeAll c.args.waits.now few b.items) (sym w.bounds-is) c.loop-i.invariant.0
    ] in
    ap (λ (l : List ℕ). length l) c.deref.ensures.value ∙ served.len

pub returns : goal.returns
returns g c =
    let v = c.args.waits.now in
    let passed = c.args.passed.now in
    let n : ℕ = c.loop-from.from in
    let enough : (i : ℕ) → Contains passed i → Contains (take n passed) i = λ i there.
    contains_all passed n i c.loop-from-test.false there in
    record {
      some = IfSome-best c.loop-from.found (λ x. x.items) v passed (take n passed) c.args.limit c.loop-from.least
          c.requires.passed enough c.loop-from.invariant.1;
      none = IfNone-best c.loop-from.found (λ x. x.items) v passed (take n passed) c.args.limit c.loop-from.least
          c.requires.passed enough c.loop-from.invariant.1;
    }
