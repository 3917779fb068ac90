-- The components of workqueues that the groups of a declaration are on: what it takes to print them.
use Rattle.std.proofs.Common.{◌≡◌, ◌==◌, ℕ, ◌≤◌, false, List, [], ◌∷◌, length, subst, arith}
use Rattle.std.specs.Prelude.{◌≢◌}
use Rattle.std.specs.List.{All}
use Rattle.wq_groups.specs.Declaration.{IsDeclaration}
use Rattle.wq_graph.specs.declared.arc.WaitArc.{WaitArc}
use Rattle.wq_deadlock.specs.Judging.{bare_waits}
use Rattle.wq_groups.specs.DeclaredGroups.{declared_waits}
use Rattle.wq_core.specs.Assigned.{Assigned, IsAssigned}
use Rattle.wq_commands.proofs.AnswerLemmas.{IsDeclaration-sound}
use Rattle.wq_circles.specs.Components.{AreComponents}
use Rattle.wq_circles.specs.ComponentsText.{AreBetween}
use Rattle.wq_circles.proofs.ForBare.{AreBetween-waits}
use Rattle.wq_circles.proofs.Loops.{AreBetween-components, length-components}

pub not_empty : {X : Type 0} (xs : List X) → false ≡ (length xs == 0) → xs ≢ []
not_empty [] full = absurd cc
not_empty (x ∷ xs) full = λ same. (let bad : x ∷ xs ≡ [] = same in absurd cc)

module _ (a : Assigned) (is : IsAssigned a) where
  declaration : IsDeclaration (declared_waits a.declared)
  declaration = IsDeclaration-sound a.declared is.declared

  module _ (components : List (List WaitArc))
      (are : AreComponents (declared_waits a.declared) a.workqueues components) where
    pub few_components : length components ≤ 4096
    few_components =
        omega (
          arith,
          length-components (declared_waits a.declared) a.workqueues.assignment a.workqueues.bare declaration
              is.assignment.assignment components are,
          is.assignment.few,
        )

    -- their flushes are of items
    pub between_items : All (AreBetween (length a.declared.table.names)) components
    between_items =
        subst (λ (items : ℕ). All (AreBetween items) components) is.declared.one_group_each
        (AreBetween-components (declared_waits a.declared) a.workqueues.assignment a.workqueues.bare declaration
        is.assignment.assignment components are)

  -- the flushes that lead to a workqueue without a rescuer are between items, too
  pub waits_between_items : AreBetween (length a.declared.table.names)
      (bare_waits (declared_waits a.declared) a.workqueues)
  waits_between_items =
      subst (λ (items : ℕ). AreBetween items (bare_waits (declared_waits a.declared) a.workqueues))
      is.declared.one_group_each
      (AreBetween-waits (declared_waits a.declared) a.workqueues declaration is.assignment.assignment)
