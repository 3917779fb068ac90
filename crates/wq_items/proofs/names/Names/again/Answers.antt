use Rattle.std.proofs.Common.{◌≡◌, ◌++◌, ℕ, List, sym, ap, subst, ◌∙◌}
use Rattle.wq_items.specs.declared.hashing.Name.{Name}
use Rattle.wq_items.specs.Hashing.{AreFound}
use Rattle.wq_items.proofs.names.Names.again.Goals as goal

pub invariant_of-result : goal.invariant_of-result
invariant_of-result g c =
    let s = c.self.inside in
    let names = c.extend_from_slice.new.self.items in
    let lasts = c.extend_from_slice-2.new.self.items in
    let befores = c.extend_from_slice-3.new.self.items in
    let same_names : names ≡ s.names.items = c.in_ok-extend_from_slice.ensures.items
    ∙ ap (λ (l : List Name). l ++ c.as_slice.result.now) c.in_ok-names.ensures.items ∙ c.as_slice.ensures.value in
    let same_lasts : lasts ≡ s.places.lasts.items = c.in_ok-extend_from_slice-2.ensures.items
    ∙ ap (λ (l : List ℕ). l ++ c.as_slice-2.result.now) c.in_ok-lasts.ensures.items ∙ c.as_slice-2.ensures.value in
    let same_befores : befores ≡ s.places.befores.items = c.in_ok-extend_from_slice-3.ensures.items
    ∙ ap (λ (l : List ℕ). l ++ c.as_slice-3.result.now) c.in_ok-befores.ensures.items
    ∙ c.as_slice-3.ensures.value in
    subst (λ (l : List Name). AreFound s.hasher l lasts befores) (sym same_names)
    (subst (λ (l : List ℕ). AreFound s.hasher s.names.items l befores) (sym same_lasts)
    (subst (λ (l : List ℕ). AreFound s.hasher s.names.items s.places.lasts.items l) (sym same_befores)
    c.self.invariant))
