-- The run of a circle: the items that are queued first hold up all that wait for them.
use Rattle.std.specs.Prelude.{◌≡◌, ℕ, List, ◌++◌, map}
use Rattle.wq_graph.specs.declared.arc.WaitArc.{WaitArc}
use Rattle.wq_core.specs.declared.step.Step.{Step}
use Rattle.wq_core.specs.Wiring.{Wiring}
use Rattle.wq_core.specs.Runs.{end_of}
use Rattle.wq_core.specs.Played.{IsPlayedFrom, queue_order}

-- the items that flush along these arcs, in their order
abbrev pub flushing_items : List WaitArc → List ℕ
flushing_items arcs = map (λ (a : WaitArc). a.src) arcs

-- the steps queue these items first, in their order, then all other items, in
-- declaration order; then they play what is queued to its end
pub record IsRunOf (w : Wiring) (first : List ℕ) (steps : List Step) : Type 0 where
  pub played : List Step
  pub is_played : IsPlayedFrom w (end_of w (queue_order w first)) played
  pub all : steps ≡ queue_order w first ++ played

-- the steps queue the items that flush along the circle's arcs, in the circle's order, then all other items, in
-- declaration order; then they play what is queued to its end
pub record IsCircleRun (w : Wiring) (circle : List WaitArc) (steps : List Step) : Type 0 where
  pub played : List Step
  pub is_played : IsPlayedFrom w (end_of w (queue_order w (flushing_items circle))) played
  pub all : steps ≡ queue_order w (flushing_items circle) ++ played
