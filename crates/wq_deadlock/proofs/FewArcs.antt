-- A circle of arcs that lead round has no more arcs than there are vertices.
use Rattle.std.proofs.Common.{ℕ, ◌<◌, ◌≤◌, inl, inr, List, [], length, get_or, subst, arith}
use Rattle.std.specs.Prelude.{Contains}
use Rattle.std.specs.List.{All}
use Rattle.std.proofs.lemmas.Bool.{cases_lt}
use Rattle.std.proofs.lemmas.List.{get_or_past, get_or_default}
use Rattle.std.proofs.lemmas.List.Elements.{All-contains}
use Rattle.wq_items.proofs.Pigeonhole.{repeats_from_length}
use Rattle.wq_graph.specs.declared.arc.WaitArc.{WaitArc}
use Rattle.wq_graph.specs.Graph.{arcs_at}
use Rattle.wq_levels.specs.Walks.{LeadsRound}

module _ (graph : List (List WaitArc)) where
  -- only a vertex has arcs
  vertex-below : (v : ℕ) (a : WaitArc) → Contains (arcs_at graph v) a → v < length graph
  vertex-below v a has = elim (cases_lt v (length graph)) [
    | inl vertex ↦ vertex
    | inr past ↦ All-contains (λ (b : WaitArc). v < length graph) (arcs_at graph v) a
        (rw (get_or_past graph v [] past) (λ k d none. absurd (omega arith))) has
  ]

  module _ (circle : List WaitArc) (round : LeadsRound graph circle) where
    left-below : All (λ v. v < length graph) round.left
    left-below k d fits =
        let none : WaitArc = record { src = 0; dst = 0; head = 0; place = 0 } in
        let within : k < length circle = omega (arith, fits, round.one_each) in
        subst (λ (v : ℕ). v < length graph) (get_or_default round.left k 0 d fits)
        (vertex-below (get_or round.left k 0) (get_or circle k none) (round.leaves k none within))

    pub LeadsRound-few : length circle ≤ length graph
    LeadsRound-few = elim (cases_lt (length graph) (length round.left)) [
      | inl long ↦ (
          let twice = repeats_from_length (length graph) round.left left-below long in
          absurd (round.once twice.0 twice.1 0 twice.2 twice.3 twice.4)
          )
      | inr few ↦ omega (arith, few, round.one_each)
    ]
