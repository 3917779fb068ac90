use Rattle.wq_core.proofs.Wirings.{IsWiring-wiring}
use Rattle.wq_core.proofs.laws.wirings_are_sound.Goals as goal

pub returns : goal.returns
returns c = IsWiring-wiring
