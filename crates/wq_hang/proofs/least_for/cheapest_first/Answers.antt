use Rattle.std.proofs.Common.{◌≡◌, ℕ, List, map, take, sym, ap, subst, ◌∙◌}
use Rattle.std.specs.Prelude.{Contains, IsPermutation}
use Rattle.std.proofs.lemmas.List.{take_all}
use Rattle.std.proofs.lemmas.List.Sorted.{IsPermutation-map, IsPermutation-sym, Contains-permutation}
use Rattle.wq_hang.proofs.least_for.cheapest_first.Goals as goal

pub returns : goal.returns
returns g c =
    let old : List ℕ = map (λ key. key.1) c.args.keys.items in
    let sorted = c.sort_unstable_by_key.new.self.items in
    let new : List ℕ = map (λ key. key.1) sorted in
    let is : c.loop-key.list.items ≡ new =
    c.loop-key.invariant
    ∙ ap (λ l. map (λ key. key.1) l) (take_all c.loop-key.key-index c.deref-key-items.result.now c.loop-key-test.false
    ∙ c.deref-key-items.ensures.value) in
    let moved : IsPermutation old new =
    IsPermutation-map (λ key. key.1) c.args.keys.items sorted c.sort_unstable_by_key.ensures.permutation in
    record {
      all = λ i there. subst (λ (l : List ℕ). Contains l i) (sym is) (Contains-permutation old new i moved there);
      no_others = λ i there.
          Contains-permutation new old i (IsPermutation-sym old new moved)
          (subst (λ (l : List ℕ). Contains l i) is there);
    }
