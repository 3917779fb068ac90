use Rattle.std.proofs.Common.{length, sym, ap, subst, ◌∙◌, arith}
use Rattle.std.proofs.lemmas.List.{length-map, get_or-map}
use Rattle.wq_circles.specs.ComponentsText.{AreBetween}
use Rattle.wq_circles.proofs.printing.components_text.Goals as goal

pub put_arcs-requires : goal.put_arcs-requires
put_arcs-requires g c =
    let item = c.arcs-item.result in
    let components = c.args.components.now in
    let at = get_or-map (λ v. v.items) components c.loop-arcs.arcs-index item item.items c.loop-arcs-test.true ∙ ap (λ v. v.items) (sym c.arcs-item.is) ∙ sym c.deref.ensures.value in
    subst (AreBetween (length c.args.table.now.names)) at (c.requires.between c.loop-arcs.arcs-index item.items (omega (arith, c.loop-arcs-test.true, length-map components (λ v. v.items))))
