use Rattle.wq_text.proofs.PieceLaws.{AreThePieces-pieces, pieces-AreThePieces}
use Rattle.wq_text.proofs.laws.pieces_are_the_only_ones.Goals as goal

pub returns-clause-are : goal.returns-clause-are
returns-clause-are c = AreThePieces-pieces

pub returns-clause-only : goal.returns-clause-only
returns-clause-only c = pieces-AreThePieces
