use Rattle.std.proofs.Common.{ℕ, List, sym, ap, subst, ◌∙◌}
use Rattle.wq_items.specs.declared.hashing.Name.{Name}
use Rattle.wq_items.specs.Hashing.{AreFound, names_of}
use Rattle.wq_items.specs.Table.{item_named}
use Rattle.wq_items.proofs.names.Names.find_other.Goals as goal

pub look_up-requires : goal.look_up-requires
look_up-requires g c =
    let s = c.self.inside in
    subst (λ (l : List Name). AreFound s.hasher l s.places.lasts.items s.places.befores.items)
    (sym c.as_slice.ensures.value) c.self.invariant

pub returns : goal.returns
returns g c =
    c.look_up.ensures.place
    ∙ ap (λ (l : List Name). item_named (names_of l) c.args.name.now) c.as_slice.ensures.value
    ∙ ap (λ (ns : List (List ℕ)). item_named ns c.args.name.now) c.self.view_is
