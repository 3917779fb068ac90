use Rattle.std.proofs.Common.{◌≡◌, ◌≤◌, ◌<◌, ℕ, List, length, map, take, slice_index, sym, ap, subst, ◌∙◌, arith}
use Rattle.std.proofs.lemmas.List.{get_or-map, length-map, take-map}
use Rattle.wq_levels.specs.Taking.{Taking, times, with_arc_gone}
use Rattle.wq_levels.proofs.Taken.{ranks_each, remaining_each, remaining_after, with_arcs_gone-more}
use Rattle.wq_levels.proofs.Times.{times_before, times-take}
use Rattle.wq_levels.proofs.progress.Progress.take_off.Goals as goal

pub lose_arc-requires-clause-one_each : goal.lose_arc-requires-clause-one_each
lose_arc-requires-clause-one_each g c =
    let before : List ℕ = map (slice_index c.args.tails.now) (take c.loop-place.place-index c.args.places.now) in
    ap (λ (p : Taking). length p.ranks) c.loop-place.invariant
    ∙ ranks_each c.index-rank.result.now before c.args.self.now
    ∙ c.requires.one_each
    ∙ sym (remaining_each c.index-rank.result.now before c.args.self.now)
    ∙ sym (ap (λ (p : Taking). length p.remaining) c.loop-place.invariant)

pub lose_arc-requires-clause-some : goal.lose_arc-requires-clause-some
lose_arc-requires-clause-some g c =
    let places = c.args.places.now in
    let i : ℕ = c.loop-place.place-index in
    let tail : ℕ → ℕ = slice_index c.args.tails.now in
    let tails : List ℕ = map tail places in
    let before : List ℕ = map tail (take i places) in
    let v : ℕ = tail (slice_index places i) in
    let first : take i tails ≡ before = take-map tail i places in
    let here : slice_index tails i ≡ v = get_or-map tail places i 0 0 c.loop-place-test.true in
    let enough = λ (u : ℕ). (let le : times before u ≤ slice_index c.args.self.now.remaining u = omega (arith, times-take tails i u, ap (λ (l : List ℕ). times l u) first, c.requires.some u) in le) in
    let inside : i < length tails = omega (arith, length-map places tail, c.loop-place-test.true) in
    let less : times (take i tails) v < times tails v = subst (λ (u : ℕ). times (take i tails) u < times tails u) here (times_before tails i inside) in
    omega (
      arith,
      remaining_after c.index-rank.result.now before c.args.self.now enough v,
      less,
      ap (λ (l : List ℕ). times l v) first,
      c.requires.some v,
      ap (λ (p : Taking). slice_index p.remaining v) c.loop-place.invariant,
    )

pub loop-place-preserved : goal.loop-place-preserved
loop-place-preserved g c =
    let places = c.args.places.now in
    let i : ℕ = c.loop-place.place-index in
    let tail : ℕ → ℕ = slice_index c.args.tails.now in
    let rank : ℕ = c.index-rank.result.now in
    c.in_ok-lose_arc.ensures
    ∙ ap (λ (p : Taking). with_arc_gone rank p (tail (slice_index places i))) c.loop-place.invariant
    ∙ sym (with_arcs_gone-more rank c.args.self.now tail places i c.loop-place-test.true)
