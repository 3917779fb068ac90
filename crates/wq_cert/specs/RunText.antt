-- Run texts: the steps of a run, one on each line.
use Rattle.std.specs.Prelude.{ℕ, List, [], ◌∷◌, length, map, flat_map, codes, decimal}
use Rattle.wq_core.specs.declared.step.Step.{Step}
use Rattle.wq_core.specs.declared.step.Step.TheVariants.{Queue, Cancel, Start, Wait, Over, WaitAll, OverAll, Finish}
use Rattle.wq_core.specs.declared.step.Step.TheVariants.{Help}
use Rattle.wq_core.specs.Rules.{deed_item}
use Rattle.wq_text.specs.LineText.{line_text}
use Rattle.wq_cert.specs.PlanText.{name_of}

-- `run M`: how many steps there are
abbrev pub run_line : List Step → List (List ℕ)
run_line steps = codes "run" ∷ decimal (length steps) ∷ []

-- the line of a step: its keyword, the workqueue if it is a rescuer's step, and the name of the item; a helper's step
-- has no words, since it is in no run text
abbrev pub step_line : List (List ℕ) → Step → List (List ℕ)
step_line names (Queue i) = codes "queue" ∷ name_of names i ∷ []
step_line names (Cancel i) = codes "cancel" ∷ name_of names i ∷ []
step_line names (Start q i) = codes "start" ∷ decimal q ∷ name_of names i ∷ []
step_line names (Wait q b) = codes "wait" ∷ decimal q ∷ name_of names b ∷ []
step_line names (Over q b) = codes "over" ∷ decimal q ∷ name_of names b ∷ []
step_line names (WaitAll q b) = codes "waitwq" ∷ decimal q ∷ name_of names b ∷ []
step_line names (OverAll q b) = codes "overwq" ∷ decimal q ∷ name_of names b ∷ []
step_line names (Finish q i) = codes "finish" ∷ decimal q ∷ name_of names i ∷ []
step_line names (Help q h deed) = []

-- the lines of a run text, as words
abbrev pub run_lines : List (List ℕ) → List Step → List (List (List ℕ))
run_lines names steps = run_line steps ∷ map (step_line names) steps

-- the run text
abbrev pub run_text : List (List ℕ) → List Step → List ℕ
run_text names steps = flat_map line_text (run_lines names steps)

-- the item that a step names
abbrev pub step_item : Step → ℕ
step_item (Queue i) = i
step_item (Cancel i) = i
step_item (Start q i) = i
step_item (Wait q b) = b
step_item (Over q b) = b
step_item (WaitAll q b) = b
step_item (OverAll q b) = b
step_item (Finish q i) = i
step_item (Help q h deed) = deed_item deed
