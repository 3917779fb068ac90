use Rattle.wq_repair.proofs.Placed.{IsToBeCompared-placed, AreChangesNeeded-placed, FallsAlongWaits-placed}
use Rattle.wq_repair.proofs.laws.what_is_placed_is_a_repair.Goals as goal

pub returns : goal.returns
returns c = λ d old new names named_lanes needed given stays leaves ranks number declaration before are_lanes one_each are_given leaving by ranked. (
  IsToBeCompared-placed d old new names named_lanes needed given stays leaves ranks before are_lanes one_each are_given leaving by,
  AreChangesNeeded-placed d old new names named_lanes needed given stays leaves ranks before are_lanes one_each are_given leaving by,
  FallsAlongWaits-placed d old new names named_lanes needed given stays leaves ranks before are_lanes one_each are_given leaving by declaration number ranked,
)
