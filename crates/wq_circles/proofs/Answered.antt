-- Answers: a text has one. It ends as the verdict on the assignment does, and as `plan` does if no assignment is named.
use Rattle.std.proofs.Common.{◌≡◌, ℕ, inl, inr, Bool, true, false, List, [], Result, Ok, Err, refl, sym, ap, subst, ◌∙◌}
use Rattle.std.specs.Prelude.{MatchResult}
use Rattle.wq_text.specs.Refusal.{Refusal}
use Rattle.wq_items.specs.Chain.{Circle}
use Rattle.wq_groups.specs.Declaration.{GroupWaits, IsDeclaration}
use Rattle.wq_groups.specs.Assignment.{Assignment, IsAssignment, IsAssignmentOf}
use Rattle.wq_graph.specs.declared.arc.WaitArc.{WaitArc}
use Rattle.wq_graph.specs.Graph.{HasArc, arcs_by_place, lane_graph}
use Rattle.wq_graph.proofs.LeavingOut.{without-none}
use Rattle.wq_graph.proofs.Graphs.{GroupWaits-HasArc}
use Rattle.wq_core.specs.Wiring.{wiring, own_lanes}
use Rattle.wq_core.specs.Workqueues.{Workqueues, wiring_of, all_rescued}
use Rattle.wq_core.specs.Deadlock.{IsSafe}
use Rattle.wq_core.proofs.CircleKnots.{Deadlocks-circle}
use Rattle.wq_core.proofs.LaneCircles.{Circle-map, Circle-lanes}
use Rattle.wq_core.proofs.Wirings.{IsWiring-wiring}
use Rattle.wq_deadlock.specs.Judging.{bare_waits}
use Rattle.wq_deadlock.proofs.OwnLanes.{IsAssignment-own_lanes, lane_graph-own_lanes}
use Rattle.wq_deadlock.proofs.Renumbered.{not_safe-by, not_safe-deadlocks}
use Rattle.wq_cert.specs.Part.{has_unsure}
use Rattle.wq_cert.specs.Texts.{workqueues_of_text, cert_refusal}
use Rattle.wq_cert.proofs.LanesRead.{AreWorkqueuesOf-workqueues_of_text}
use Rattle.wq_commands.specs.declared.end.End.{End}
use Rattle.wq_commands.specs.declared.end.End.TheVariants.{Good, Bad, Refused}
use Rattle.wq_groups.specs.DeclaredGroups.{declared_waits, Declared}
use Rattle.wq_commands.specs.Answer.{Answers, PrintsRefusal}
use Rattle.wq_commands.specs.Deadlocking.{PrintsRun, JudgesAssigned, JudgesDeclared, Judges}
use Rattle.wq_commands.specs.Declaration.{declaration}
use Rattle.wq_commands.specs.Shown.{ShowsDeclared}
use Rattle.wq_commands.proofs.AnswerLemmas.{IsSound, IsSound-declaration, IsDeclaration-sound}
use Rattle.wq_commands.proofs.CircleRuns.{IsAssignmentOf-own_lanes}
use Rattle.wq_commands.proofs.PromiseLemmas.{ShowsAnswer-answers}
use Rattle.wq_commands.proofs.ReadingLemmas.{not_safe-all}
use Rattle.wq_circles.specs.Components.{AreComponents}
use Rattle.wq_circles.specs.ComponentsText.{circles_text}
use Rattle.wq_circles.specs.Circling.{PrintsComponents, CirclesAssigned, CirclesDeclared, Circles, OwnCircles}
use Rattle.wq_circles.proofs.ForBare.{no_waits}
use Rattle.wq_circles.proofs.Safe.{AreComponents-unique, IsSafe-none, none-IsSafe, none_or_circle}

-- what follows from two answers to the same thing, which was read or not
matched : {V E : Type 0} (r : Result V E) (P Q : V → Type 0) (F G : E → Type 0) (C : Type 0)
    → ((v : V) → r ≡ Ok v → P v → Q v → C) → ((e : E) → F e → G e → C)
    → MatchResult r P F → MatchResult r Q G → C
matched (Ok v) P Q F G C good bad one two = good v refl one two
matched (Err e) P Q F G C good bad one two = bad e one two

refused_once : (end other : End) (out printed : List ℕ) (r : Refusal) → PrintsRefusal r end out
    → PrintsRefusal r other printed → (end ≡ other) × (out ≡ printed)
refused_once end other out printed r one two = (one.0 ∙ sym two.0, one.1 ∙ sym two.1)

-- ---- one answer

-- what is printed has a component, or a flush that leads to a workqueue without a rescuer
neither : {out : List ℕ} (s : Declared) (ws : Workqueues) (prints : PrintsComponents s ws out) → prints.components ≡ []
    → bare_waits (declared_waits s) ws ≡ [] → ⊥
neither s ws prints none no_waits = elim prints.some [
  | inl some ↦ some none
  | inr some ↦ some no_waits
]

pub CirclesAssigned-unique : (s : Declared) (a : Workqueues) (end other : End) (out printed : List ℕ)
    → CirclesAssigned s a end out → CirclesAssigned s a other printed → (end ≡ other) × (out ≡ printed)
CirclesAssigned-unique s a Good Good out printed one two = (refl, one.2 ∙ sym two.2)
CirclesAssigned-unique s a Good Bad out printed one two =
    absurd (neither s a two (AreComponents-unique (declared_waits s) a two.components [] two.are one.0) one.1)
CirclesAssigned-unique s a Good Refused out printed one two = absurd two
CirclesAssigned-unique s a Bad Good out printed one two =
    absurd (neither s a one (AreComponents-unique (declared_waits s) a one.components [] one.are two.0) two.1)
CirclesAssigned-unique s a Bad Bad out printed one two = (
  refl,
  one.text ∙ ap (λ (c : List (List WaitArc)). circles_text s.table.names s.table.waits c
      (bare_waits (declared_waits s) a)) (AreComponents-unique (declared_waits s) a one.components two.components
      one.are two.are) ∙ sym two.text,
)
CirclesAssigned-unique s a Bad Refused out printed one two = absurd two
CirclesAssigned-unique s a Refused other out printed one two = absurd one

pub CirclesDeclared-unique : (s : Declared) (text : List ℕ) (end other : End) (out printed : List ℕ)
    → CirclesDeclared s text end out → CirclesDeclared s text other printed → (end ≡ other) × (out ≡ printed)
CirclesDeclared-unique s text end other out printed =
    matched (workqueues_of_text s.table.names s.partition text) (λ a. CirclesAssigned s a end out)
    (λ a. CirclesAssigned s a other printed) (λ fault. PrintsRefusal (cert_refusal fault) end out)
    (λ fault. PrintsRefusal (cert_refusal fault) other printed)
    ((end ≡ other) × (out ≡ printed)) (λ a is. CirclesAssigned-unique s a end other out printed)
    (λ fault. refused_once end other out printed (cert_refusal fault))

pub Circles-unique : (declared text : List ℕ) (end other : End) (out printed : List ℕ) → Circles declared text end out
    → Circles declared text other printed → (end ≡ other) × (out ≡ printed)
Circles-unique declared text end other out printed =
    matched (declaration declared) (λ s. CirclesDeclared s text end out) (λ s. CirclesDeclared s text other printed)
    (λ r. PrintsRefusal r end out) (λ r. PrintsRefusal r other printed)
    ((end ≡ other) × (out ≡ printed)) (λ s is. CirclesDeclared-unique s text end other out printed)
    (refused_once end other out printed)

pub OwnCircles-unique : (declared : List ℕ) (end other : End) (out printed : List ℕ) → OwnCircles declared end out
    → OwnCircles declared other printed → (end ≡ other) × (out ≡ printed)
OwnCircles-unique declared end other out printed =
    matched (declaration declared) (λ s. CirclesAssigned s (all_rescued (own_lanes s.partition.groups)) end out)
    (λ s. CirclesAssigned s (all_rescued (own_lanes s.partition.groups)) other printed)
    (λ r. PrintsRefusal r end out) (λ r. PrintsRefusal r other printed)
    ((end ≡ other) × (out ≡ printed)) (λ s is. CirclesAssigned-unique s (all_rescued (own_lanes s.partition.groups))
    end other out printed) (refused_once end other out printed)

-- ---- the end of a verdict

module _ (s : Declared) (sound : IsSound s) (ws : Workqueues)
    (assigned : IsAssignmentOf s.partition.groups ws.assignment) where
  is_declaration : IsDeclaration (declared_waits s)
  is_declaration = IsDeclaration-sound s sound

  safe : AreComponents (declared_waits s) ws [] → bare_waits (declared_waits s) ws ≡ []
      → IsSafe (wiring_of (declared_waits s) ws)
  safe are no_waits = IsSafe-none (declared_waits s) ws.assignment ws.bare is_declaration assigned.assignment [] are
      assigned.few refl no_waits

  -- what is safe isn't shown to hang
  safe_alone : (some : Bool) (out : List ℕ) → IsSafe (wiring_of (declared_waits s) ws) → PrintsRun some s ws out → ⊥
  safe_alone false out safely (steps, hang, is) =
      not_safe-by (wiring_of (declared_waits s) ws) steps hang.deadlocks safely
  safe_alone true out safely (hops, (soonest, hang, steps, own, is)) = not_safe-all s ws hops soonest hang safely

  ends_as_judged : (end other : End) (out printed : List ℕ) → CirclesAssigned s ws end out
      → JudgesAssigned s ws other printed → end ≡ other
  ends_as_judged Good Good out printed one two = refl
  ends_as_judged Good Bad out printed one two =
      absurd (safe_alone (has_unsure s.table.waits) printed (safe one.0 one.1) two)
  ends_as_judged Good Refused out printed one two = absurd two
  ends_as_judged Bad Good out printed one two =
      let none = none-IsSafe (declared_waits s) ws.assignment ws.bare is_declaration assigned.assignment one.components
      one.are two.1 in
      absurd (neither s ws one none.0 none.1)
  ends_as_judged Bad Bad out printed one two = refl
  ends_as_judged Bad Refused out printed one two = absurd two
  ends_as_judged Refused other out printed one two = absurd one

pub Circles-judged : (declared text : List ℕ) (end other : End) (out printed : List ℕ) → Circles declared text end out
    → Judges declared text other printed → end ≡ other
Circles-judged declared text end other out printed =
    matched (declaration declared) (λ s. CirclesDeclared s text end out) (λ s. JudgesDeclared s text other printed)
    (λ r. PrintsRefusal r end out) (λ r. PrintsRefusal r other printed) (end ≡ other)
    (λ s is.
    matched (workqueues_of_text s.table.names s.partition text) (λ a. CirclesAssigned s a end out)
    (λ a. JudgesAssigned s a other printed) (λ fault. PrintsRefusal (cert_refusal fault) end out)
    (λ fault. PrintsRefusal (cert_refusal fault) other printed) (end ≡ other)
    (λ a read. let sound = IsSound-declaration declared s is in
    ends_as_judged s sound a (AreWorkqueuesOf-workqueues_of_text s.table.names s.partition sound.partition
    (sym sound.one_group_each) text a read).assignment end other out printed)
    (λ fault one two. one.0 ∙ sym two.0))
    (λ r one two. one.0 ∙ sym two.0)

-- ---- the end of a plan

module _ (s : Declared) (sound : IsSound s) where
  declares : IsDeclaration (declared_waits s)
  declares = IsDeclaration-sound s sound

  -- if the groups' own workqueues wait in a circle, no assignment is safe
  no_plan : (a : Assignment) → Circle (HasArc (lane_graph (declared_waits s) (own_lanes s.partition.groups)))
      → IsAssignment s.partition.groups a → ¬ IsSafe (wiring (declared_waits s) a)
  no_plan a circle assignment =
      let groups = subst (λ (g : List (List WaitArc)). Circle (HasArc g))
      (lane_graph-own_lanes (declared_waits s) declares) circle in
      let waits = Circle-map _ (GroupWaits (declared_waits s)) (λ g. g)
      (λ p q arc. (GroupWaits-HasArc (declared_waits s) declares p q).1 arc) groups in
      not_safe-deadlocks (wiring (declared_waits s) a)
      (Deadlocks-circle (wiring (declared_waits s) a) (IsWiring-wiring (declared_waits s) a declares assignment)
      refl (Circle-lanes (declared_waits s) a waits))

  ends_as_planned : (end other : End) (out printed : List ℕ)
      → CirclesAssigned s (all_rescued (own_lanes s.partition.groups)) end out → ShowsDeclared s other printed → end
      ≡ other
  ends_as_planned Good Good out printed one two = refl
  ends_as_planned Good Bad out printed one two =
      let own = own_lanes s.partition.groups in
      absurd (not_safe-deadlocks (wiring (declared_waits s) own)
      (two.kept.deadlocks own (IsAssignment-own_lanes s.partition.groups))
      (safe s sound (all_rescued own) (IsAssignmentOf-own_lanes s sound) one.0 one.1))
  ends_as_planned Good Refused out printed one two = absurd two
  ends_as_planned Bad Good out printed one two =
      let own = own_lanes s.partition.groups in
      elim (none_or_circle (declared_waits s) own [] declares (IsAssignment-own_lanes s.partition.groups)
      one.components one.are) [
        | inl none ↦ absurd (neither s (all_rescued own) one none
            (no_waits own s.partition.group_of (arcs_by_place (declared_waits s).waits s.partition.group_of)))
        | inr circle ↦
            let kept = subst (λ (g : List (List WaitArc)). Circle (HasArc g))
            (without-none [] (lane_graph (declared_waits s) own) (λ v. refl)) circle in
            absurd (no_plan two.kept.assignment kept two.kept.least.assignment two.kept.least.safe)
      ]
  ends_as_planned Bad Bad out printed one two = refl
  ends_as_planned Bad Refused out printed one two = absurd two
  ends_as_planned Refused other out printed one two = absurd one

pub OwnCircles-planned : (declared : List ℕ) (end other : End) (out printed : List ℕ) → OwnCircles declared end out
    → Answers declared other printed → end ≡ other
OwnCircles-planned declared end other out printed circles answers =
    matched (declaration declared) (λ s. CirclesAssigned s (all_rescued (own_lanes s.partition.groups)) end out)
    (λ s. ShowsDeclared s other printed) (λ r. PrintsRefusal r end out) (λ r. other ≡ Refused) (end ≡ other)
    (λ s is. ends_as_planned s (IsSound-declaration declared s is) end other out printed)
    (λ r one two. one.0 ∙ sym two) circles (ShowsAnswer-answers declared other printed answers)
