-- The answer where items must go on: the components that can hold them up, flushes to workqueues without a rescuer, and
-- ways.
use Rattle.std.specs.Prelude.{◌≡◌, ℕ, Bool, true, false, List, [], ◌∷◌, ◌++◌, not, flat_map, map, codes}
use Rattle.std.specs.Prelude.{MatchResult, Option, Some}
use Rattle.std.specs.List.{list_any}
use Rattle.wq_items.specs.declared.target.Target.{Target}
use Rattle.wq_graph.specs.declared.arc.WaitArc.{WaitArc}
use Rattle.wq_core.specs.Workqueues.{Workqueues}
use Rattle.wq_deadlock.specs.Judging.{is_on_bare}
use Rattle.wq_text.specs.LineText.{line_text}
use Rattle.wq_cert.specs.Texts.{workqueues_of_text, cert_refusal}
use Rattle.wq_commands.specs.declared.end.End.{End}
use Rattle.wq_commands.specs.declared.end.End.TheVariants.{Good, Bad}
use Rattle.wq_commands.specs.declared.found.Found.{Found}
use Rattle.wq_commands.specs.declared.found.Found.TheVariants.{Read}
use Rattle.wq_commands.specs.declared.found.Which.TheVariants.{Certificate as SecondText}
use Rattle.wq_groups.specs.DeclaredGroups.{declared_waits, Declared}
use Rattle.wq_commands.specs.Answer.{PrintsRefusal}
use Rattle.wq_commands.specs.Deadlocking.{safe_text}
use Rattle.wq_commands.specs.Declaration.{declaration}
use Rattle.wq_commands.specs.Found.{AnswersIn}
use Rattle.wq_commands.specs.Named.{items_with_names, FindsNamed, IfNamed}
use Rattle.wq_circles.specs.declared.circling_for.CirclingFor.{CirclingFor}
use Rattle.wq_circles.specs.ComponentsText.{arcs_lines, circles_text}
use Rattle.wq_circles.specs.Held.{AreHeldCircles}

-- the lines of ways, as words: none if there are none, and else `ways M` and a line for each
abbrev pub way_lines : List (List ℕ) → List (List Target) → List WaitArc → List (List (List ℕ))
way_lines names waits [] = []
way_lines names waits (a ∷ arcs) = arcs_lines names waits (codes "ways") (a ∷ arcs)

-- the whole text: the components, the flushes to workqueues without a rescuer, and the ways
abbrev pub held_text : List (List ℕ) → List (List Target) → List (List WaitArc) → List WaitArc → List WaitArc → List ℕ
held_text names waits components bare ways =
    circles_text names waits components bare ++ flat_map line_text (way_lines names waits ways)

-- none of these items is on a workqueue without a rescuer, and there are no components and no such flushes
abbrev pub is_free : Declared → Workqueues → List ℕ → List (List WaitArc) → List WaitArc → Bool
is_free s ws named [] [] = not (list_any (is_on_bare ws s.partition.group_of) named)
is_free s ws named components waits = false

-- what is printed of these: `safe` if nothing can hold the items up
abbrev pub PrintsHeld : Bool → Declared → List (List WaitArc) → List WaitArc → List WaitArc → End → List ℕ → Type 0
PrintsHeld true s components waits ways end out = (end ≡ Good) × (out ≡ safe_text)
PrintsHeld false s components waits ways end out =
    (end ≡ Bad) × (out ≡ held_text s.table.names s.table.waits components waits ways)

-- the answer to workqueues of a declaration's groups where these items must go on
pub record CirclesFor (s : Declared) (ws : Workqueues) (named : List ℕ) (end : End) (out : List ℕ) : Type 0 where
  pub components : List (List WaitArc)
  pub waits : List WaitArc
  pub ways : List WaitArc
  pub are : AreHeldCircles (declared_waits s) ws named components waits ways
  pub printed : PrintsHeld (is_free s ws named components waits) s components waits ways end out

-- the answer to the text of an assignment of a declaration, or its refusal, where the items with these names must go on
abbrev pub CirclesDeclaredFor : Declared → List (List ℕ) → List ℕ → End → List ℕ → Type 0
CirclesDeclaredFor s names text end out =
    MatchResult (workqueues_of_text s.table.names s.partition text)
    (λ ws. IfNamed (items_with_names s.table.names names) (CirclesFor s ws) end out)
    (λ fault. PrintsRefusal (cert_refusal fault) end out)

-- the answer to the texts of a declaration and an assignment: a refusal of the declaration comes first
abbrev pub CirclesNamed : List (List ℕ) → List ℕ → List ℕ → End → List ℕ → Type 0
CirclesNamed names declared text end out =
    MatchResult (declaration declared) (λ s. CirclesDeclaredFor s names text end out) (λ r. PrintsRefusal r end out)

-- ---- what is found, and printed

-- these workqueues are found, and what can hold up these items there; and of that the answer is printed
pub record FindsCirclesFor {A : Type 0} (s : Declared) (ws : Workqueues) (named : List ℕ)
    (found : Found (Option (CirclingFor A))) (end : End) (out : List ℕ) : Type 0 where
  pub circling : CirclingFor A
  pub is : found ≡ Read (Some circling)
  pub workqueues : circling.workqueues ≡ ws
  pub named_items : circling.named.items ≡ named
  pub are : AreHeldCircles (declared_waits s) ws named (map (λ l. l.items) circling.held.components.items)
      circling.held.waits.items circling.held.ways.items
  pub printed : PrintsHeld (is_free s ws named (map (λ l. l.items) circling.held.components.items)
      circling.held.waits.items) s (map (λ l. l.items) circling.held.components.items) circling.held.waits.items
      circling.held.ways.items end out

-- `circles` with names: of the workqueues with this text
abbrev pub CirclesTextFor : {A : Type 0} → Declared → List (List ℕ) → List ℕ → Found (Option (CirclingFor A)) → End
    → List ℕ → Type 0
CirclesTextFor s names text = AnswersIn SecondText (workqueues_of_text s.table.names s.partition text)
    (λ ws. FindsNamed (items_with_names s.table.names names) (FindsCirclesFor s ws))
