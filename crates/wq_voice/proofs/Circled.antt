-- What `circles` found: workqueues, their components and the flushes to no rescuer.
use Rattle.std.proofs.Common.{◌≡◌, ℕ, true, false, List, [], ◌∷◌, length, map, Ok, refl, sym, ap, subst, ◌∙◌, arith}
use Rattle.std.specs.Prelude.{◌==◌, not}
use Rattle.std.proofs.lemmas.List.FromFn.{length-range_with_len}
use Rattle.wq_graph.specs.declared.arc.WaitArc.{WaitArc}
use Rattle.wq_core.specs.Wiring.{own_lanes}
use Rattle.wq_core.specs.Workqueues.{Workqueues, all_rescued}
use Rattle.wq_deadlock.specs.Judging.{bare_waits}
use Rattle.wq_cert.specs.Texts.{workqueues_of_text}
use Rattle.wq_circles.specs.declared.circling.Circling.{Circling}
use Rattle.wq_circles.specs.Circling.{CirclesText, FindsCircles}
use Rattle.wq_circles.specs.Components.{AreComponents}
use Rattle.wq_circles.proofs.Found.{CirclesText-read, FindsCircles-read}
use Rattle.wq_commands.specs.declared.end.End.{End}
use Rattle.wq_commands.specs.declared.found.Found.TheVariants.{Read}
use Rattle.wq_groups.specs.DeclaredGroups.{declared_waits, Declared}
use Rattle.wq_voice.specs.Components.{are_some}

-- ---- whether there are some

-- without a component, the flushes to no rescuer are all flushes
pub are_some-waits : {X : Type 0} (f : X → List WaitArc) (xs : List X) (waits : List WaitArc)
    → (length xs == 0) ≡ true → are_some (map f xs) waits ≡ not (length waits == 0)
are_some-waits f [] [] none = refl
are_some-waits f [] (w ∷ waits) none =
    let some : (length (w ∷ waits) == 0) ≡ false = grind arith in
    sym (ap not some)
are_some-waits f (x ∷ xs) waits none =
    let some : (length (x ∷ xs) == 0) ≡ false = grind arith in
    let bad : false ≡ true = sym some ∙ none in
    absurd cc

-- a component is one
pub are_some-components : {X : Type 0} (f : X → List WaitArc) (xs : List X) (waits : List WaitArc)
    → (length xs == 0) ≡ false → are_some (map f xs) waits ≡ true
are_some-components f [] waits some = absurd cc
are_some-components f (x ∷ xs) [] some = refl
are_some-components f (x ∷ xs) (w ∷ waits) some = refl

-- ---- what was found

-- of workqueues that were read from a text
pub record IsCircled {A : Type 0} (s : Declared) (text : List ℕ) (c : Circling A) : Type 0 where
  pub read : workqueues_of_text s.table.names s.partition text ≡ Ok c.workqueues
  pub components : AreComponents (declared_waits s) c.workqueues (map (λ l. l.items) c.components.items)
  pub waits : c.waits.items ≡ bare_waits (declared_waits s) c.workqueues

pub circled_read : {A : Type 0} (s : Declared) (text : List ℕ) (c : Circling A) (end : End) (out : List ℕ)
    → CirclesText s text (Read c) end out → IsCircled s text c
circled_read {A} s text c end out found =
    let (ws, read, finds) = CirclesText-read s text c end out found in
    let (same, components, waits) = FindsCircles-read s ws c end out finds in
    record {
      read = read ∙ ap (λ (w : Workqueues). Ok w) (sym same);
      components =
          subst (λ (w : Workqueues). AreComponents (declared_waits s) w (map (λ l. l.items) c.components.items))
          (sym same) components;
      waits = subst (λ (w : Workqueues). c.waits.items ≡ bare_waits (declared_waits s) w) (sym same) waits;
    }

-- of groups each of which has a workqueue of its own
pub circled_own : {A : Type 0} (s : Declared) (c : Circling A) (end : End) (out : List ℕ)
    → FindsCircles s (all_rescued (own_lanes s.partition.groups)) (Read c) end out
    → (length c.workqueues.assignment.lane_of_group ≡ s.partition.groups)
    × AreComponents (declared_waits s) c.workqueues (map (λ l. l.items) c.components.items)
    × (c.waits.items ≡ bare_waits (declared_waits s) c.workqueues)
circled_own {A} s c end out found =
    let own = all_rescued (own_lanes s.partition.groups) in
    let (same, components, waits) = FindsCircles-read s own c end out found in (
      ap (λ (w : Workqueues). length w.assignment.lane_of_group) same ∙ length-range_with_len 0 s.partition.groups,
      subst (λ (w : Workqueues). AreComponents (declared_waits s) w (map (λ l. l.items) c.components.items))
          (sym same) components,
      subst (λ (w : Workqueues). c.waits.items ≡ bare_waits (declared_waits s) w) (sym same) waits,
    )
