-- Flushes in components, whichever vertices their arcs lead to.
use Rattle.std.specs.Prelude.{◌≡◌, ℕ, ◌<◌, List, Contains}
use Rattle.std.specs.List.{Any}
use Rattle.wq_items.specs.declared.target.Target.{Target}
use Rattle.wq_items.specs.Table.{targets_of}
use Rattle.wq_graph.specs.declared.arc.WaitArc.{WaitArc}
use Rattle.wq_circles.specs.Leading.{IsLowest}

-- two arcs are of the same flush
abbrev pub IsSameFlush : WaitArc → WaitArc → Type 0
IsSameFlush a b = (a.src ≡ b.src) × (a.dst ≡ b.dst) × (a.place ≡ b.place)

-- one of the arcs is of the same flush as b
abbrev pub HasFlush : WaitArc → List WaitArc → Type 0
HasFlush b arcs = Any (λ (a : WaitArc). IsSameFlush a b) arcs

-- the flush of b is one of those of a component
abbrev pub IsInComponents : List (List WaitArc) → WaitArc → Type 0
IsInComponents components b = Any (HasFlush b) components

-- the flushes of b and of c are of one component
abbrev pub AreInOneComponent : List (List WaitArc) → WaitArc → WaitArc → Type 0
AreInOneComponent components b c = Any (λ (arcs : List WaitArc). HasFlush b arcs × HasFlush c arcs) components

-- the item of an arc declares a flush of its target, at its place
abbrev pub IsDeclaredFlush : List (List Target) → WaitArc → Type 0
IsDeclaredFlush waits b = Any (λ (t : Target). (t.item ≡ b.dst) × (t.place ≡ b.place)) (targets_of waits b.src)

-- for any arc of the first component and any arc of the second: the lowest-numbered workqueue that is together with
-- that of the first arc's item has a lower number than that for the second arc's item
abbrev pub IsBefore : (ℕ → ℕ → Type 0) → (ℕ → ℕ) → List WaitArc → List WaitArc → Type 0
IsBefore R lane arcs others =
    (b c : WaitArc) (v w : ℕ) → Contains arcs b → Contains others c → IsLowest R (lane b.src) v
    → IsLowest R (lane c.src) w → v < w
