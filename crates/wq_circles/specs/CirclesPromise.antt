-- What an answer of `circles` promises, in terms of flushes and of workqueues that lead to one another.
use Rattle.std.specs.Prelude.{◌≡◌, ◌≢◌, ◌↔◌, ℕ, true, List, [], ◌++◌, flat_map, map, AllPairs}
use Rattle.std.specs.Prelude.{MatchOption, MatchResult}
use Rattle.std.specs.List.{All}
use Rattle.std.specs.List.Sorted.{IsStrictlyIncreasing}
use Rattle.wq_items.specs.Readings.{is_among}
use Rattle.wq_groups.specs.Declaration.{Declaration}
use Rattle.wq_groups.specs.Assignment.{IsAssignment, item_lane}
use Rattle.wq_graph.specs.declared.arc.WaitArc.{WaitArc}
use Rattle.wq_core.specs.Wiring.{HasRescuer, RescuedWaits, own_lanes}
use Rattle.wq_core.specs.Workqueues.{Workqueues, wiring_of, all_rescued}
use Rattle.wq_core.specs.Deadlock.{IsSafe, Deadlocks}
use Rattle.wq_core.specs.MustGoOn.{IsSafeFor}
use Rattle.wq_core.specs.Readings.{reading}
use Rattle.wq_circles.specs.Leading.{Leads, AreTogether}
use Rattle.wq_cert.specs.Texts.{workqueues_of_text}
use Rattle.wq_commands.specs.declared.end.End.{End}
use Rattle.wq_commands.specs.declared.end.End.TheVariants.{Good, Bad, Refused}
use Rattle.wq_groups.specs.DeclaredGroups.{declared_waits, Declared}
use Rattle.wq_commands.specs.Deadlocking.{safe_text}
use Rattle.wq_commands.specs.Declaration.{declaration}
use Rattle.wq_commands.specs.Named.{items_with_names}
use Rattle.wq_circles.specs.ComponentsText.{circles_text}
use Rattle.wq_circles.specs.HeldText.{held_text}
use Rattle.wq_circles.specs.Flushes.{HasFlush, IsInComponents, AreInOneComponent, IsDeclaredFlush, IsBefore}

-- exactly the declared flushes that are on a circle of workqueues that have a rescuer: those whose target's workqueue
-- leads to that of their item, by way of such workqueues alone. Two of them are in one component exactly if their items
-- are on the same workqueue, or the workqueue of each leads to that of the other. No component is empty; the flushes of
-- each are in order of place; and the components are in the order of their lowest-numbered workqueues
pub record AreOnCircles (d : Declaration) (ws : Workqueues) (components : List (List WaitArc)) : Type 0 where
  pub declared : All (All (IsDeclaredFlush d.waits)) components
  pub lie : (b : WaitArc) → IsDeclaredFlush d.waits b
      → IsInComponents components b
      ↔ Leads (RescuedWaits (wiring_of d ws)) (item_lane ws.assignment d.group_of b.dst)
      (item_lane ws.assignment d.group_of b.src)
  pub together : (b c : WaitArc) → IsInComponents components b → IsInComponents components c
      → AreInOneComponent components b c
      ↔ AreTogether (RescuedWaits (wiring_of d ws)) (item_lane ws.assignment d.group_of b.src)
      (item_lane ws.assignment d.group_of c.src)
  pub some : All (λ (arcs : List WaitArc). arcs ≢ []) components
  pub places : All (λ (arcs : List WaitArc). IsStrictlyIncreasing (map (λ (b : WaitArc). b.place) arcs)) components
  pub workqueues : AllPairs (IsBefore (RescuedWaits (wiring_of d ws)) (item_lane ws.assignment d.group_of)) components

-- exactly the declared flushes from an item whose workqueue has a rescuer to one whose workqueue has none, in order of
-- place
pub record AreForBare (d : Declaration) (ws : Workqueues) (waits : List WaitArc) : Type 0 where
  pub declared : All (IsDeclaredFlush d.waits) waits
  pub lie : (b : WaitArc) → IsDeclaredFlush d.waits b
      → HasFlush b waits
      ↔ (HasRescuer (wiring_of d ws) (item_lane ws.assignment d.group_of b.src)
      × (¬ HasRescuer (wiring_of d ws) (item_lane ws.assignment d.group_of b.dst)))
  pub places : IsStrictlyIncreasing (map (λ (b : WaitArc). b.place) waits)

-- some run deadlocks on these workqueues; and the printed flushes are those on circles of workqueues that have a
-- rescuer, and those that lead from such a workqueue to one that has none
pub record PrintsFlushes (s : Declared) (ws : Workqueues) (out : List ℕ) : Type 0 where
  pub deadlocks : Deadlocks (wiring_of (declared_waits s) ws)
  pub components : List (List WaitArc)
  pub waits : List WaitArc
  pub are : AreOnCircles (declared_waits s) ws components
  pub for_bare : AreForBare (declared_waits s) ws waits
  pub text : out ≡ circles_text s.table.names s.table.waits components waits

-- what is promised of workqueues, by how the command ends: `safe` is printed if no run ends stuck
abbrev pub KeepsAssigned : Declared → Workqueues → End → List ℕ → Type 0
KeepsAssigned s ws Good out =
    IsAssignment s.partition.groups ws.assignment × IsSafe (wiring_of (declared_waits s) ws) × (out ≡ safe_text)
KeepsAssigned s ws Bad out = IsAssignment s.partition.groups ws.assignment × PrintsFlushes s ws out
KeepsAssigned s ws Refused out = ⊥

-- what is promised for the text of an assignment of a declaration, by how the command ends; a text that isn't one is
-- refused
abbrev pub KeepsCirclesDeclared : Declared → List ℕ → End → List ℕ → Type 0
KeepsCirclesDeclared s text end out =
    MatchResult (workqueues_of_text s.table.names s.partition text)
    (λ ws. KeepsAssigned s ws end out)
    (λ fault. end ≡ Refused)

-- what is promised for the texts of a declaration and an assignment
abbrev pub KeepsCircles : List ℕ → List ℕ → End → List ℕ → Type 0
KeepsCircles declared text end out =
    MatchResult (declaration declared) (λ s. KeepsCirclesDeclared s text end out) (λ r. end ≡ Refused)

-- what is promised for the text of a declaration alone: each group has its own workqueue, with the group's number
abbrev pub KeepsOwnCircles : List ℕ → End → List ℕ → Type 0
KeepsOwnCircles declared end out =
    MatchResult (declaration declared)
    (λ s. KeepsAssigned s (all_rescued (own_lanes s.partition.groups)) end out)
    (λ r. end ≡ Refused)

-- what is promised where the items with these names must go on, for the texts of a declaration and an assignment:
-- `safe` is printed if no run ends stuck for them, in any reading; and of two readings that differ only in unsure
-- flushes that aren't printed, in both or in neither some run ends stuck for them
pub record KeepsHeldFlushes (s : Declared) (ws : Workqueues) (named : List ℕ) (end : End) (out : List ℕ)
    : Type 0 where
  pub safe : end ≡ Good → IsSafeFor (wiring_of (declared_waits s) ws) named × (out ≡ safe_text)
  pub bad : end ≡ Bad → (components : List (List WaitArc)) × (waits : List WaitArc) × (ways : List WaitArc)
      × (out ≡ held_text s.table.names s.table.waits components waits ways)
      × (¬ IsSafeFor (wiring_of (declared_waits s) ws) named)
      × ((kept others : List ℕ)
      → ((p : ℕ) → is_among (map (λ (b : WaitArc). b.place) (flat_map (λ arcs. arcs) components ++ waits ++ ways))
      p ≡ true
      → is_among kept p ≡ is_among others p)
      → IsSafeFor (reading (wiring_of (declared_waits s) ws) kept) named
      → IsSafeFor (reading (wiring_of (declared_waits s) ws) others) named)

-- the same for the text of an assignment of a declaration; a text that isn't one, and a name of no item, are refused
abbrev pub KeepsHeldDeclared : Declared → List (List ℕ) → List ℕ → End → List ℕ → Type 0
KeepsHeldDeclared s names text end out =
    MatchResult (workqueues_of_text s.table.names s.partition text)
    (λ ws. MatchOption (items_with_names s.table.names names) (end ≡ Refused)
    (λ named. KeepsHeldFlushes s ws named end out))
    (λ fault. end ≡ Refused)

-- the same for the texts of a declaration and an assignment
abbrev pub KeepsHeldCircles : List (List ℕ) → List ℕ → List ℕ → End → List ℕ → Type 0
KeepsHeldCircles names declared text end out =
    MatchResult (declaration declared) (λ s. KeepsHeldDeclared s names text end out) (λ r. end ≡ Refused)
