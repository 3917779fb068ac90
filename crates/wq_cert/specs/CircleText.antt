-- Circle texts: the flushes along which the groups wait in a circle, and a run that shows how they come to wait.
use Rattle.std.specs.Prelude.{ℕ, List, [], ◌∷◌, ◌++◌, length, map, flat_map, codes, decimal, Option}
use Rattle.std.specs.Option.{option_map_or}
use Rattle.wq_core.specs.declared.step.Step.{Step}
use Rattle.wq_text.specs.LineText.{line_text}
use Rattle.wq_cert.specs.PlanText.{arc_line}
use Rattle.wq_cert.specs.RunText.{run_lines}

-- `circle N`: how many arcs there are
abbrev pub circle_line : List (ℕ × ℕ) → List (List ℕ)
circle_line arcs = codes "circle" ∷ decimal (length arcs) ∷ []

-- the lines of a circle text, as words: `circle`, an `arc` line for each arc, and those of the run, if there is one
abbrev pub circle_lines : List (List ℕ) → List (ℕ × ℕ) → Option (List Step) → List (List (List ℕ))
circle_lines names arcs steps =
    circle_line arcs ∷ (map (arc_line names) arcs ++ option_map_or (run_lines names) steps [])

-- the circle text
abbrev pub circle_text : List (List ℕ) → List (ℕ × ℕ) → Option (List Step) → List ℕ
circle_text names arcs steps = flat_map line_text (circle_lines names arcs steps)
