use Rattle.std.proofs.Common.{◌∙◌, sym, subst}
use Rattle.wq_repair.specs.Settled.{AreHomes, AreVertices}
use Rattle.wq_repair.proofs.checking.is_settled.Goals as goal

pub vertices_of-requires-clause-homes : goal.vertices_of-requires-clause-homes
vertices_of-requires-clause-homes g c =
    subst (AreHomes c.args.assignment.now c.args.stays.now) (sym c.as_slice.ensures.value) c.in_ok-homes.ensures

pub is_right-requires-clause-homes : goal.is_right-requires-clause-homes
is_right-requires-clause-homes g c =
    subst (AreHomes c.args.assignment.now c.args.stays.now) (sym c.as_slice-2.ensures.value) c.in_ok-homes.ensures

pub is_right-requires-clause-vertices : goal.is_right-requires-clause-vertices
is_right-requires-clause-vertices g c =
    subst (AreVertices c.args.assignment.now c.args.stays.now c.as_slice-2.result.now) (sym c.as_slice-3.ensures.value)
    (subst (λ xs. AreVertices c.args.assignment.now c.args.stays.now xs c.in_ok-vertices.vertices.items)
    (c.as_slice.ensures.value ∙ sym c.as_slice-2.ensures.value) c.in_ok-vertices.ensures)
