-- The ends of a repair exclude each other, and the circle is the only one.
use Rattle.std.proofs.Common.{◌≡◌, ℕ, ◌<◌, Bool, true, false, List, length, refl, sym, subst, ◌∙◌, arith}
use Rattle.std.specs.Prelude.{◌↔◌, slice_index_or}
use Rattle.std.proofs.lemmas.Bool.{false≢true}
use Rattle.std.proofs.lemmas.List.{get_or_default, ext_get_or}
use Rattle.wq_items.specs.Chain.{Circle}
use Rattle.wq_groups.specs.Declaration.{Declaration, IsDeclaration}
use Rattle.wq_groups.specs.Assignment.{IsAssignment}
use Rattle.wq_graph.specs.declared.arc.WaitArc.{WaitArc}
use Rattle.wq_graph.specs.Graph.{HasArc, IsGraph, group_graph, without}
use Rattle.wq_graph.proofs.Graphs.{GroupWaits-HasArc, IsGraph-group_graph}
use Rattle.wq_graph.proofs.LeavingOut.{HasArc-without, IsGraph-without}
use Rattle.wq_levels.specs.Walks.{IsWalkedCircle}
use Rattle.wq_levels.proofs.OneCircle.{HasCircle-walked, IsWalkedCircle-unique}
use Rattle.wq_core.specs.declared.step.Step.{Step}
use Rattle.wq_core.specs.Workqueues.{Workqueues, wiring_of}
use Rattle.wq_core.proofs.LaneCircles.{Circle-map}
use Rattle.wq_deadlock.specs.Judging.{AreSafe}
use Rattle.wq_deadlock.proofs.Renumbered.{not_safe-deadlocks}
use Rattle.wq_repair.specs.Changes.{IsToBeCompared}
use Rattle.wq_repair.specs.Needed.{NeedsRescuer, AreUnneeded}
use Rattle.wq_repair.specs.Joined.{NeededWaits}
use Rattle.wq_repair.specs.Repair.{IsRepair, AreNamesTooFew, IsNeededCircle}
use Rattle.wq_repair.proofs.Rescuers.{waiting-below}

-- where nothing is changed
pub IsToBeCompared-same : (d : Declaration) (old : Workqueues) (names : List ℕ) → IsAssignment d.groups old.assignment → IsToBeCompared d old names old
IsToBeCompared-same d old names assignment = record {
  assignment = assignment;
  lanes = omega arith;
  kept = λ q lt rescued. rescued;
  onto_rescuers = λ g is moved. absurd (moved refl);
  moved_named = λ g is moved. absurd (moved refl);
  given_named = λ q given. absurd (false≢true (sym given.rescued ∙ given.bare));
}

-- ---- safe workqueues

module _ (d : Declaration) (old : Workqueues) (names : List ℕ) (safe : AreSafe d old) where
  pub no_repair-safe : (new : Workqueues) → ¬ IsRepair d old names new
  no_repair-safe new repair = not_safe-deadlocks (wiring_of d old) repair.deadlocked safe.safe

  pub enough-safe : (start : Workqueues) (steps : List Step) → ¬ AreNamesTooFew d old names start steps
  enough-safe start steps few = not_safe-deadlocks (wiring_of d old) (few.all old (IsToBeCompared-same d old names safe.assignment)) safe.safe

  pub no_circle-safe : (circle : List WaitArc) → ¬ IsNeededCircle d old circle
  no_circle-safe circle needed = not_safe-deadlocks (wiring_of d old) (needed.all names old (IsToBeCompared-same d old names safe.assignment)) safe.safe

-- ---- repaired ones

module _ (d : Declaration) (old new : Workqueues) (names : List ℕ) (repair : IsRepair d old names new) where
  pub enough-repaired : (start : Workqueues) (steps : List Step) → ¬ AreNamesTooFew d old names start steps
  enough-repaired start steps few = not_safe-deadlocks (wiring_of d new) (few.all new repair.compared) repair.safe

  pub no_circle-repaired : (circle : List WaitArc) → ¬ IsNeededCircle d old circle
  no_circle-repaired circle needed = not_safe-deadlocks (wiring_of d new) (needed.all names new repair.compared) repair.safe

-- ---- circles

same_test : (P : Type 0) (a b : Bool) → (a ≡ false) ↔ P → (b ≡ false) ↔ P → a ≡ b
same_test P true true one other = refl
same_test P false false one other = refl
same_test P true false one other = one.1 (other.0 refl)
same_test P false true one other = sym (other.1 (one.0 refl))

module _ (d : Declaration) (old : Workqueues) (declaration : IsDeclaration d) where
  -- groups that need a rescuer wait in it
  pub Circle-of_needed : (circle : List WaitArc) → IsNeededCircle d old circle → Circle (NeededWaits d old)
  Circle-of_needed circle needed = Circle-map (HasArc graph) (NeededWaits d old) (λ g. g) waits (HasCircle-walked graph sound circle needed.walked).0
    where
      graph : List (List WaitArc)
      graph = without needed.out (group_graph d)

      sound : IsGraph graph
      sound = IsGraph-without needed.out (group_graph d) (IsGraph-group_graph d declaration)

      waits : (g h : ℕ) → HasArc graph g h → NeededWaits d old g h
      waits g h arc =
          let parts = (HasArc-without needed.out (group_graph d) g h).0 arc in
          let along = (GroupWaits-HasArc d declaration g h).1 parts.2 in
          let is : g < d.groups = waiting-below d declaration g h along in
          let within : g < length needed.out = omega (arith, is, needed.needed.one_each) in
          ((needed.needed.exactly g is).0 (get_or_default needed.out g true false within ∙ parts.0), along)

  same_out : (one other : List Bool) → AreUnneeded d old one → AreUnneeded d old other → one ≡ other
  same_out one other are also =
      ext_get_or true one other (are.one_each ∙ sym also.one_each)
      (λ g lt. let is : g < d.groups = omega (arith, lt, are.one_each) in same_test (NeedsRescuer d old g) (slice_index_or one g true) (slice_index_or other g true) (are.exactly g is) (also.exactly g is))

  pub IsNeededCircle-unique : (one other : List WaitArc) → IsNeededCircle d old one → IsNeededCircle d old other → one ≡ other
  IsNeededCircle-unique one other is also =
      let graph = without also.out (group_graph d) in
      IsWalkedCircle-unique graph (IsGraph-without also.out (group_graph d) (IsGraph-group_graph d declaration)) one other
      (subst (λ (out : List Bool). IsWalkedCircle (without out (group_graph d)) one) (same_out is.out also.out is.needed also.needed) is.walked) also.walked

  pub enough-circle : (start : Workqueues) (names : List ℕ) (steps : List Step) (circle : List WaitArc) → AreNamesTooFew d old names start steps → ¬ IsNeededCircle d old circle
  enough-circle start names steps circle few needed = few.no_circle (Circle-of_needed circle needed)
