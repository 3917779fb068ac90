-- What is said beside a circle of groups that need a rescuer: how they hang if each has a workqueue of its own.
use Rattle.std.specs.Prelude.{ℕ, List, [], ◌∷◌}
use Rattle.wq_graph.specs.declared.arc.WaitArc.{WaitArc}
use Rattle.wq_core.specs.Wiring.{own_lanes}
use Rattle.wq_core.specs.Workqueues.{Workqueues, all_rescued}
use Rattle.wq_groups.specs.DeclaredGroups.{Declared}
use Rattle.wq_voice.specs.Components.{AddsRounds}
use Rattle.wq_voice.specs.Waits.{words_of}
use Rattle.wq_voice.specs.declared.waits.Wording.TheVariants.{OfGroups}

-- a circular wait among the groups of this circle on these workqueues, with as few unsure flushes as possible, and of
-- such waits with as few steps
abbrev pub TellsCircleOn : List ℕ → Declared → Workqueues → List WaitArc → List ℕ → Type 0
TellsCircleOn first s ws circle text =
    AddsRounds first (λ h. words_of OfGroups s ws [] h) s ws (circle ∷ []) [] text

-- what is said of the circle if each group has a workqueue of its own
abbrev pub TellsCircle : List ℕ → Declared → List WaitArc → List ℕ → Type 0
TellsCircle first s circle text =
    TellsCircleOn first s (all_rescued (own_lanes s.partition.groups)) circle text
