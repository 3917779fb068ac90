use Rattle.std.proofs.Common.{◌<◌, inl, length, slice_index, refl, sym, ◌∙◌, ext_get_or, arith}
use Rattle.wq_graph.specs.Graph.{HasArc}
use Rattle.wq_circles.proofs.Leading.{IsLowest-same}
use Rattle.wq_circles.proofs.laws.the_list_is_the_only_one.Goals as goal

pub returns-clause-below : goal.returns-clause-below
returns-clause-below c = λ graph lowest v are inside. (are.is v inside).least v (inl refl)

pub returns-clause-one : goal.returns-clause-one
returns-clause-one c = λ graph one other first second.
    ext_get_or 0 one other (first.one_each ∙ sym second.one_each) (λ v fits. (
    let inside : v < length graph = omega (arith, fits, first.one_each) in
    IsLowest-same (HasArc graph) v v (slice_index one v) (slice_index other v) (inl refl) (first.is v inside) (second.is v inside)))
