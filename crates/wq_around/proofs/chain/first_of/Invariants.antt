use Rattle.wq_around.proofs.TopLemmas.{IsTopSoFar}
use Rattle.wq_around.proofs.chain.first_of.Given as goal

abbrev pub invariant-loop-lane : goal.invariant-loop-lane
invariant-loop-lane l = IsTopSoFar l.new l.heights l.most l.doubts l.lane l.first l.fewest
