use Rattle.std.proofs.Common.{slice_index}
use Rattle.wq_graph.specs.Graph.{HasArc}
use Rattle.wq_circles.proofs.Leading.{IsLowest-same, AreTogether-lowest}
use Rattle.wq_circles.proofs.laws.the_lowest_tells_who_are_together.Goals as goal

pub returns : goal.returns
returns c = λ graph lowest v w are v_in w_in. (
  (λ same. AreTogether-lowest (HasArc graph) v w (slice_index lowest v) (slice_index lowest w) same (are.is v v_in) (are.is w w_in)),
  (λ together. IsLowest-same (HasArc graph) v w (slice_index lowest v) (slice_index lowest w) together (are.is v v_in) (are.is w w_in)),
)
