-- Texts of answers around fixed workqueues, as they are printed.
use Rattle.std.specs.Prelude.{ℕ, ◌-◌, ◌∷◌, ◌++◌, [], List, map, flat_map, codes, decimal}
use Rattle.std.specs.List.{range_with_len}
use Rattle.wq_text.specs.LineText.{line_text}
use Rattle.wq_core.specs.declared.step.Step.{Step}
use Rattle.wq_cert.specs.PlanText.{plan_line, wq_line, chain_line, arc_line}
use Rattle.wq_cert.specs.RunText.{run_lines}

-- `order Q..`
abbrev pub order_line : List ℕ → List (List ℕ)
order_line order = codes "order" ∷ map decimal order

-- the lines of a plan text around this many fixed workqueues, where there are `lanes` with the new ones: `plan`, a `wq`
-- line for each new workqueue, `order`, `chain`, an `arc` line for each arc of the chain
abbrev pub around_lines : List (List ℕ) → ℕ → ℕ → List ℕ → List ℕ → List (ℕ × ℕ) → List (List (List ℕ))
around_lines names fixed lanes lane_of_item order arcs =
    plan_line (lanes - fixed)
    ∷ (map (wq_line names lane_of_item) (range_with_len fixed (lanes - fixed))
    ++ (order_line order ∷ chain_line (lanes - fixed) arcs ∷ map (arc_line names) arcs))

-- the plan text
abbrev pub around_text : List (List ℕ) → ℕ → ℕ → List ℕ → List ℕ → List (ℕ × ℕ) → List ℕ
around_text names fixed lanes lane_of_item order arcs =
    flat_map line_text (around_lines names fixed lanes lane_of_item order arcs)

-- `norescuer 1`
abbrev pub norescuer_line : List (List ℕ)
norescuer_line = codes "norescuer" ∷ decimal 1 ∷ []

-- the norescuer text: the flush that leads to no rescuer, and a run
abbrev pub norescuer_text : List (List ℕ) → ℕ × ℕ → List Step → List ℕ
norescuer_text names arc steps = flat_map line_text (norescuer_line ∷ arc_line names arc ∷ run_lines names steps)
