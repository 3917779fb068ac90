use Rattle.wq_items.proofs.BuildingLemmas.{IsTable-table_of}
use Rattle.wq_items.proofs.laws.tables_are_sound.Goals as goal

pub returns : goal.returns
returns c = IsTable-table_of
