-- Components texts: how many components there are, and the arcs of each.
use Rattle.std.specs.Prelude.{ℕ, ◌<◌, ◌^◌, ◌==◌, ◌&&◌, if◌then◌else◌, Bool, List, [], ◌∷◌, ◌++◌, length, map, flat_map}
use Rattle.std.specs.Prelude.{codes, decimal}
use Rattle.std.specs.List.{All, list_any}
use Rattle.wq_items.specs.declared.target.Target.{Target}
use Rattle.wq_items.specs.Table.{targets_of}
use Rattle.wq_graph.specs.declared.arc.WaitArc.{WaitArc}
use Rattle.wq_text.specs.LineText.{line_text}
use Rattle.wq_cert.specs.PlanText.{arc_line, name_of}
use Rattle.wq_commands.specs.Answer.{ends_of}

-- a word and a count, as `components N`
abbrev pub count_line : List ℕ → ℕ → List (List ℕ)
count_line word count = word ∷ decimal count ∷ []

-- the flush of this arc is unsure
abbrev pub is_unsure_arc : List (List Target) → WaitArc → Bool
is_unsure_arc waits a = list_any (λ (t : Target). (t.place == a.place) && t.unsure) (targets_of waits a.src)

-- the words of the line of an arc: `arc`, or `arc?` if its flush is unsure, the item and the target
abbrev pub arc_words : List (List ℕ) → List (List Target) → WaitArc → List (List ℕ)
arc_words names waits a =
    if is_unsure_arc waits a then codes "arc?" ∷ name_of names a.src ∷ name_of names a.dst ∷ []
    else arc_line names (ends_of a)

-- the lines of arcs under a word, as words: how many there are, and a line for each
abbrev pub arcs_lines : List (List ℕ) → List (List Target) → List ℕ → List WaitArc → List (List (List ℕ))
arcs_lines names waits word arcs = count_line word (length arcs) ∷ map (arc_words names waits) arcs

-- the lines of a component, as words: `component M`, and a line for each arc
abbrev pub component_lines : List (List ℕ) → List (List Target) → List WaitArc → List (List (List ℕ))
component_lines names waits arcs = arcs_lines names waits (codes "component") arcs

-- the lines of a components text, as words: `components N`, and the lines of each component
abbrev pub components_lines : List (List ℕ) → List (List Target) → List (List WaitArc) → List (List (List ℕ))
components_lines names waits components =
    count_line (codes "components") (length components) ∷ flat_map (component_lines names waits) components

-- the components text
abbrev pub components_text : List (List ℕ) → List (List Target) → List (List WaitArc) → List ℕ
components_text names waits components = flat_map line_text (components_lines names waits components)

-- the lines of flushes that lead to workqueues without a rescuer, as words: none if there are no such flushes, or else
-- `norescuer M` and a line for each
abbrev pub bare_lines : List (List ℕ) → List (List Target) → List WaitArc → List (List (List ℕ))
bare_lines names waits [] = []
bare_lines names waits (a ∷ arcs) = arcs_lines names waits (codes "norescuer") (a ∷ arcs)

-- the whole text: the components, and the flushes that lead to workqueues without a rescuer
abbrev pub circles_text : List (List ℕ) → List (List Target) → List (List WaitArc) → List WaitArc → List ℕ
circles_text names waits components bare =
    components_text names waits components ++ flat_map line_text (bare_lines names waits bare)

-- fewer than 4,294,967,296 arcs, each between two of this many items
abbrev pub AreBetween : ℕ → List WaitArc → Type 0
AreBetween items arcs = (length arcs < 2 ^ 32) × All (λ (a : WaitArc). (a.src < items) × (a.dst < items)) arcs
