-- What is promised of an answer holds for each.
use Rattle.std.proofs.Common.{◌≡◌, ℕ, Bool, List, [], map, Result, Ok, Err, refl, sym, subst}
use Rattle.std.specs.Prelude.{AllPairs, MatchResult, ◌↔◌}
use Rattle.std.specs.List.{All}
use Rattle.std.specs.List.Sorted.{IsStrictlyIncreasing}
use Rattle.wq_groups.specs.Declaration.{Declaration, IsDeclaration}
use Rattle.wq_groups.specs.Assignment.{Assignment, IsAssignment, item_lane, IsAssignmentOf}
use Rattle.wq_graph.specs.declared.arc.WaitArc.{WaitArc}
use Rattle.wq_graph.specs.Graph.{HasArc}
use Rattle.wq_core.specs.Wiring.{RescuedWaits, own_lanes}
use Rattle.wq_core.specs.Workqueues.{Workqueues, wiring_of, all_rescued}
use Rattle.wq_deadlock.specs.Judging.{bare_waits}
use Rattle.wq_circles.specs.Leading.{Leads, AreTogether}
use Rattle.wq_cert.specs.Texts.{workqueues_of_text, cert_refusal}
use Rattle.wq_cert.proofs.LanesRead.{AreWorkqueuesOf-workqueues_of_text}
use Rattle.wq_commands.specs.declared.end.End.{End}
use Rattle.wq_commands.specs.declared.end.End.TheVariants.{Good, Bad, Refused}
use Rattle.wq_groups.specs.DeclaredGroups.{declared_waits, Declared}
use Rattle.wq_commands.specs.Answer.{PrintsRefusal}
use Rattle.wq_commands.specs.Declaration.{declaration}
use Rattle.wq_commands.proofs.AnswerLemmas.{IsSound, IsSound-declaration, IsDeclaration-sound}
use Rattle.wq_commands.proofs.CircleRuns.{IsAssignmentOf-own_lanes}
use Rattle.wq_circles.specs.Components.{joined, kept_graph, AreComponents}
use Rattle.wq_circles.specs.Flushes.{IsInComponents, AreInOneComponent, IsDeclaredFlush, IsBefore}
use Rattle.wq_circles.specs.Circling.{CirclesAssigned, CirclesDeclared, Circles, OwnCircles}
use Rattle.wq_circles.specs.CirclesPromise.{AreOnCircles, KeepsAssigned, KeepsCirclesDeclared, KeepsCircles, KeepsOwnCircles}
use Rattle.wq_circles.proofs.InOrder.{rising-loops, IsBefore-loops}
use Rattle.wq_circles.proofs.ForBare.{AreForBare-waits}
use Rattle.wq_circles.proofs.KeptLanes.{VertexWaits-kept_graph}
use Rattle.wq_circles.proofs.Loops.{IsAssignment-components}
use Rattle.wq_circles.proofs.OnCircles.{Leads-keeps, AreTogether-keeps, Leads-component, IsInComponents-leads, AreTogether-component, AreInOneComponent-together}
use Rattle.wq_circles.proofs.Safe.{some_arcs, flushes, IsSafe-none, Deadlocks-some}

-- ---- components in the words of flushes

module _ (d : Declaration) (a : Assignment) (bare : List Bool) (declaration : IsDeclaration d) (assignment : IsAssignment d.groups a) (components : List (List WaitArc)) (are : AreComponents d (record { assignment = a; bare = bare }) components) where
  abbrev ws : Workqueues
  ws = record { assignment = a; bare = bare }

  forth : (p q : ℕ) → HasArc (kept_graph d a bare) p q → RescuedWaits (wiring_of d ws) p q
  forth p q waits = (VertexWaits-kept_graph d a bare declaration assignment p q).1 waits

  back : (p q : ℕ) → RescuedWaits (wiring_of d ws) p q → HasArc (kept_graph d a bare) p q
  back p q waits = (VertexWaits-kept_graph d a bare declaration assignment p q).0 waits

  pub lie : (b : WaitArc) → IsDeclaredFlush d.waits b → IsInComponents components b ↔ Leads (RescuedWaits (wiring_of d ws)) (item_lane a d.group_of b.dst) (item_lane a d.group_of b.src)
  lie b flush = (
    λ is. Leads-keeps (HasArc (kept_graph d a bare)) (RescuedWaits (wiring_of d ws)) forth _ _ (Leads-component d a bare declaration assignment are.lowest are.are_lowest b (subst (λ (l : List (List WaitArc)). IsInComponents l b) are.are is)),
    λ leads. subst (λ (l : List (List WaitArc)). IsInComponents l b) (sym are.are)
        (IsInComponents-leads d a bare declaration assignment are.lowest are.are_lowest b flush (Leads-keeps (RescuedWaits (wiring_of d ws)) (HasArc (kept_graph d a bare)) back _ _ leads)),
  )

  pub together : (b c : WaitArc) → IsInComponents components b → IsInComponents components c
      → AreInOneComponent components b c ↔ AreTogether (RescuedWaits (wiring_of d ws)) (item_lane a d.group_of b.src) (item_lane a d.group_of c.src)
  together b c one other = (
    λ is. AreTogether-keeps (HasArc (kept_graph d a bare)) (RescuedWaits (wiring_of d ws)) forth _ _
        (AreTogether-component d a bare declaration assignment are.lowest are.are_lowest b c (subst (λ (l : List (List WaitArc)). AreInOneComponent l b c) are.are is)),
    λ lead. subst (λ (l : List (List WaitArc)). AreInOneComponent l b c) (sym are.are)
        (AreInOneComponent-together d a bare declaration assignment are.lowest are.are_lowest b c
        (subst (λ (l : List (List WaitArc)). IsInComponents l b) are.are one) (subst (λ (l : List (List WaitArc)). IsInComponents l c) are.are other)
        (AreTogether-keeps (RescuedWaits (wiring_of d ws)) (HasArc (kept_graph d a bare)) back _ _ lead)),
  )

  pub AreOnCircles-components : AreOnCircles d ws components
  AreOnCircles-components = record {
    declared = flushes d a bare declaration assignment components are;
    lie = lie;
    together = together;
    some = some_arcs d ws components are;
    places =
        subst (All (λ (arcs : List WaitArc). IsStrictlyIncreasing (map (λ (b : WaitArc). b.place) arcs))) (sym are.are)
        (rising-loops d (joined a are.lowest) bare declaration (IsAssignment-components d a bare declaration assignment components are));
    workqueues = subst (AllPairs (IsBefore (RescuedWaits (wiring_of d ws)) (item_lane a d.group_of))) (sym are.are) (IsBefore-loops d a bare declaration assignment are.lowest are.are_lowest (RescuedWaits (wiring_of d ws)) forth back);
  }

-- ---- answers

module _ (s : Declared) (sound : IsSound s) where
  kept : (a : Workqueues) → IsAssignmentOf s.partition.groups a.assignment → (end : End) (out : List ℕ) → CirclesAssigned s a end out → KeepsAssigned s a end out
  kept a assigned Good out circles = (
    assigned.assignment,
    IsSafe-none (declared_waits s) a.assignment a.bare (IsDeclaration-sound s sound) assigned.assignment [] circles.0 assigned.few refl circles.1,
    circles.2,
  )
  kept a assigned Bad out circles = (
    assigned.assignment,
    record {
      deadlocks = Deadlocks-some (declared_waits s) a.assignment a.bare (IsDeclaration-sound s sound) assigned.assignment circles.components circles.are circles.some;
      components = circles.components;
      waits = bare_waits (declared_waits s) a;
      are = AreOnCircles-components (declared_waits s) a.assignment a.bare (IsDeclaration-sound s sound) assigned.assignment circles.components circles.are;
      for_bare = AreForBare-waits (declared_waits s) a (IsDeclaration-sound s sound) assigned.assignment;
      text = circles.text;
    },
  )
  kept a assigned Refused out circles = absurd circles

-- what is said about a value that was read or not, case by case
pub by_case : {V E : Type 0} (r : Result V E) (P Q : V → Type 0) (F G : E → Type 0)
    → ((v : V) → r ≡ Ok v → P v → Q v) → ((e : E) → F e → G e) → MatchResult r P F → MatchResult r Q G
by_case (Ok v) P Q F G good bad one = good v refl one
by_case (Err e) P Q F G good bad one = bad e one

pub KeepsCircles-answers : (declared text : List ℕ) (end : End) (out : List ℕ) → Circles declared text end out → KeepsCircles declared text end out
KeepsCircles-answers declared text end out =
    by_case (declaration declared) (λ s. CirclesDeclared s text end out) (λ s. KeepsCirclesDeclared s text end out) (λ r. PrintsRefusal r end out) (λ r. end ≡ Refused)
    (λ s is.
    by_case (workqueues_of_text s.table.names s.partition text) (λ a. CirclesAssigned s a end out) (λ a. KeepsAssigned s a end out) (λ fault. PrintsRefusal (cert_refusal fault) end out) (λ fault. end ≡ Refused)
    (λ a read. let sound = IsSound-declaration declared s is in
    kept s sound a (AreWorkqueuesOf-workqueues_of_text s.table.names s.partition sound.partition (sym sound.one_group_each) text a read).assignment end out)
    (λ fault refused. refused.0))
    (λ r refused. refused.0)

pub KeepsOwnCircles-answers : (declared : List ℕ) (end : End) (out : List ℕ) → OwnCircles declared end out → KeepsOwnCircles declared end out
KeepsOwnCircles-answers declared end out =
    by_case (declaration declared) (λ s. CirclesAssigned s (all_rescued (own_lanes s.partition.groups)) end out) (λ s. KeepsAssigned s (all_rescued (own_lanes s.partition.groups)) end out) (λ r. PrintsRefusal r end out) (λ r. end ≡ Refused)
    (λ s is. let sound = IsSound-declaration declared s is in kept s sound (all_rescued (own_lanes s.partition.groups)) (IsAssignmentOf-own_lanes s sound) end out)
    (λ r refused. refused.0)
