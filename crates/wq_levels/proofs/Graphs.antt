-- Laws of wait graphs: where arcs lead, and in which order they are.
use Rattle.std.proofs.Common.{ℕ, ◌<◌, inl, inr, List, [], length, map, subst, arith}
use Rattle.std.specs.List.{All}
use Rattle.std.specs.List.Sorted.{IsStrictlyIncreasing}
use Rattle.std.proofs.lemmas.Bool.{cases_lt}
use Rattle.std.proofs.lemmas.List.{get_or_past}
use Rattle.std.proofs.lemmas.List.Elements.{All-contains}
use Rattle.wq_graph.specs.declared.arc.WaitArc.{WaitArc}
use Rattle.wq_graph.specs.Graph.{IsGraph, HasArc, arcs_at}

-- each arc leads to a vertex below n
abbrev pub HeadsBelow : ℕ → List WaitArc → Type 0
HeadsBelow n arcs = All (λ (a : WaitArc). a.head < n) arcs

-- each arc has a greater place than the one before it
abbrev pub ArcsRise : List WaitArc → Type 0
ArcsRise arcs = IsStrictlyIncreasing (map (λ (a : WaitArc). a.place) arcs)

module _ (graph : List (List WaitArc)) (sound : IsGraph graph) where
  -- the arcs of any number, also past the last vertex
  pub arcs_at-below : (v : ℕ) → HeadsBelow (length graph) (arcs_at graph v)
  arcs_at-below v = elim (cases_lt v (length graph)) [
    | inl vertex ↦ sound.heads v [] vertex
    | inr past ↦ rw (get_or_past graph v [] past) (λ k d none. absurd (omega arith))
  ]

  pub arcs_at-rise : (v : ℕ) → ArcsRise (arcs_at graph v)
  arcs_at-rise v = elim (cases_lt v (length graph)) [
    | inl vertex ↦ sound.places_rise v [] vertex
    | inr past ↦ rw (get_or_past graph v [] past) (λ k none. absurd (omega arith))
  ]

  -- an arc leads to a vertex
  pub HasArc-below : (v w : ℕ) → HasArc graph v w → w < length graph
  HasArc-below v w arc =
      subst (λ u. u < length graph) arc.4
      (All-contains (λ (a : WaitArc). a.head < length graph) (arcs_at graph v) arc.1 (arcs_at-below v) (arc.0, arc.2, arc.3))
