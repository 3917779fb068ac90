-- What the steps of a run name.
use Rattle.std.specs.Prelude.{◌<◌}
use Rattle.wq_core.specs.declared.step.Step.{Step}
use Rattle.wq_core.specs.declared.step.Step.TheVariants.{Queue, Cancel, Start, Wait, Over, WaitAll, OverAll, Finish}
use Rattle.wq_core.specs.declared.step.Step.TheVariants.{Help}
use Rattle.wq_core.specs.Rules.{deed_item}
use Rattle.wq_core.specs.Wiring.{Wiring, items}

-- the step's item exists, and so does its lane if it names one
abbrev pub IsNamed : Wiring → Step → Type 0
IsNamed w (Queue i) = i < items w
IsNamed w (Cancel i) = i < items w
IsNamed w (Start q i) = (q < w.lanes) × (i < items w)
IsNamed w (Wait q b) = (q < w.lanes) × (b < items w)
IsNamed w (Over q b) = (q < w.lanes) × (b < items w)
IsNamed w (WaitAll q b) = (q < w.lanes) × (b < items w)
IsNamed w (OverAll q b) = (q < w.lanes) × (b < items w)
IsNamed w (Finish q i) = (q < w.lanes) × (i < items w)
IsNamed w (Help q h deed) = (q < w.lanes) × (deed_item deed < items w)
