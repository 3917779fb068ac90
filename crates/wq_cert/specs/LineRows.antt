-- Rows of faults, said without a reader: which row of "Refusals of certificates" in docs/FORMAT.md is the first that a
-- line breaks, if a `plan`, `chain`, `circle`, `arc` or `run` line or that of a step is expected.
use Rattle.std.specs.Prelude.{◌≡◌, ℕ, ◌-◌, ◌^◌, ◌<◌, ◌≤◌, List, [], ◌∷◌, ◌++◌, ◌⊎◌, length, map, codes, decimal, Option}
use Rattle.std.specs.Prelude.{Some, None, IfSome, IsSomeAnd}
use Rattle.std.specs.List.{All}
use Rattle.wq_groups.specs.Partition.{Partition}
use Rattle.wq_groups.specs.Assignment.{max_lanes}
use Rattle.wq_core.specs.declared.step.Step.{Step}
use Rattle.wq_core.specs.declared.step.Step.TheVariants.{Start, Wait, Over, WaitAll, OverAll, Finish, Help}
use Rattle.wq_core.specs.Runs.{IsHelp}
use Rattle.wq_cert.specs.declared.fault.CertError.{CertError}
use Rattle.wq_cert.specs.declared.fault.CertError.TheVariants.{BadCertLine, NumberOutOfRange}
use Rattle.wq_cert.specs.CircleText.{circle_line}
use Rattle.wq_cert.specs.Lines.{CertLine}
use Rattle.wq_cert.specs.PlanText.{plan_line, arc_line}
use Rattle.wq_cert.specs.Ranges.{IsArcOf, IsStepOf}
use Rattle.wq_cert.specs.Reading.{max_count}
use Rattle.wq_cert.specs.RunText.{step_line, step_item}
use Rattle.wq_cert.specs.Spelled.{AreWorkqueues, workqueue_lines, count_line}

-- which line is expected, if it isn't that of a workqueue
pub data LineForm : Type 0 where
  PlanLine : LineForm
  ChainLine : LineForm
  CircleLine : LineForm
  ArcLine : LineForm
  RunLine : LineForm
  StepLine : LineForm

-- ---- words of these forms

-- `KEYWORD N`
abbrev pub count_words : List ℕ → ℕ → List (List ℕ)
count_words keyword n = keyword ∷ decimal n ∷ []

-- the words are `KEYWORD N` for a number
pub record SpellsCount (keyword : List ℕ) (words : List (List ℕ)) (n : ℕ) : Type 0 where
  pub words_are : words ≡ count_words keyword n
  pub fits : n < 2 ^ 32

-- the words are `arc NAME TARGET` for declared items
pub record SpellsArc (names words : List (List ℕ)) (arc : ℕ × ℕ) : Type 0 where
  pub words_are : words ≡ arc_line names arc
  pub known : IsArcOf (length names) arc

-- the workqueue that a step names, if it names one
abbrev pub step_lane : Step → Option ℕ
step_lane (Start q i) = Some q
step_lane (Wait q b) = Some q
step_lane (Over q b) = Some q
step_lane (WaitAll q b) = Some q
step_lane (OverAll q b) = Some q
step_lane (Finish q i) = Some q
step_lane (Help q h deed) = Some q
step_lane _ = None

-- the words are those of a step of a declared item, whose workqueue, if it names
-- one, is a number; no helper makes the step
pub record SpellsStep (names words : List (List ℕ)) (step : Step) : Type 0 where
  pub words_are : words ≡ step_line names step
  pub known : step_item step < length names
  pub no_help : ¬ IsHelp step
  pub fits : IfSome (step_lane step) (λ q. q < 2 ^ 32)

-- the words have the form: the keyword, and numbers and declared items in their places
abbrev pub HasForm : List (List ℕ) → LineForm → List (List ℕ) → Type 0
HasForm names PlanLine words = (k : ℕ) × SpellsCount (codes "plan") words k
HasForm names ChainLine words = (n : ℕ) × SpellsCount (codes "chain") words n
HasForm names CircleLine words = (n : ℕ) × SpellsCount (codes "circle") words n
HasForm names ArcLine words = (arc : ℕ × ℕ) × SpellsArc names words arc
HasForm names RunLine words = (m : ℕ) × SpellsCount (codes "run") words m
HasForm names StepLine words = (step : Step) × SpellsStep names words step

-- the words have the form, with a number that is out of its range: a count of workqueues, groups or arcs above 4,096, a
-- circle of no arcs, or a workqueue above 4,095; there may be any number of steps
abbrev pub IsOutOfRange : List (List ℕ) → LineForm → List (List ℕ) → Type 0
IsOutOfRange names PlanLine words = (k : ℕ) × SpellsCount (codes "plan") words k × (max_count < k)
IsOutOfRange names ChainLine words = (n : ℕ) × SpellsCount (codes "chain") words n × (max_count < n)
IsOutOfRange names CircleLine words = (n : ℕ) × SpellsCount (codes "circle") words n × ((n ≡ 0) ⊎ (max_count < n))
IsOutOfRange names StepLine words =
    (step : Step) × SpellsStep names words step × IsSomeAnd (step_lane step) (λ q. max_lanes ≤ q)
IsOutOfRange names _ words = ⊥

-- the row of this fault is the first that the line breaks, if a line of this form is expected
abbrev pub BreaksLine : List (List ℕ) → LineForm → CertLine → CertError → Type 0
BreaksLine names form line (BadCertLine n) = (n ≡ line.no) × (¬ HasForm names form line.words)
BreaksLine names form line (NumberOutOfRange n) = (n ≡ line.no) × IsOutOfRange names form line.words
BreaksLine names form line _ = ⊥

-- the line breaks no row
abbrev pub KeepsLine : List (List ℕ) → LineForm → CertLine → Type 0
KeepsLine names form line = HasForm names form line.words × (¬ IsOutOfRange names form line.words)

-- ---- where such a line is expected

-- arcs between items below `items`, and fewer arcs than `count`
pub record AreFirstArcs (items count : ℕ) (arcs : List (ℕ × ℕ)) : Type 0 where
  pub known : All (IsArcOf items) arcs
  pub fewer : length arcs < count

-- a line of this form is expected after these lines of a plan: `plan` first, `chain` after the workqueues, then one arc
-- fewer than it says
abbrev pub StandsInPlan : List (List ℕ) → Partition → List (List (List ℕ)) → LineForm → Type 0
StandsInPlan names p before PlanLine = before ≡ []
StandsInPlan names p before ChainLine =
    (workqueues : List (List ℕ)) × AreWorkqueues (length names) p.group_of workqueues
    × (before ≡ plan_line (length workqueues) ∷ workqueue_lines names workqueues)
StandsInPlan names p before CircleLine = ⊥
StandsInPlan names p before ArcLine =
    (workqueues : List (List ℕ)) × (n : ℕ) × (arcs : List (ℕ × ℕ))
    × AreWorkqueues (length names) p.group_of workqueues
    × (n ≤ max_count)
    × AreFirstArcs (length names) (n - 1) arcs
    × (before
    ≡ plan_line (length workqueues)
    ∷ (workqueue_lines names workqueues ++ (count_line n ∷ map (arc_line names) arcs)))
StandsInPlan names p before RunLine = ⊥
StandsInPlan names p before StepLine = ⊥

-- a line of this form is expected after these lines of a run: `run` first, then as many steps as it says
abbrev pub StandsInRun : List (List ℕ) → List (List (List ℕ)) → LineForm → Type 0
StandsInRun names before PlanLine = ⊥
StandsInRun names before ChainLine = ⊥
StandsInRun names before CircleLine = ⊥
StandsInRun names before ArcLine = ⊥
StandsInRun names before RunLine = before ≡ []
StandsInRun names before StepLine =
    (m : ℕ) × (steps : List Step) × (m < 2 ^ 32)
    × (length steps < m)
    × All (IsStepOf (length names)) steps
    × (before ≡ count_words (codes "run") m ∷ map (step_line names) steps)

-- `before` is `circle N` with all its arcs, and then the lines `run`
pub record IsBehindArcs (names : List (List ℕ)) (before run : List (List (List ℕ))) : Type 0 where
  pub arcs : List (ℕ × ℕ)
  pub words_are : before ≡ circle_line arcs ∷ (map (arc_line names) arcs ++ run)
  pub some : 0 < length arcs
  pub few : length arcs ≤ max_count
  pub known : All (IsArcOf (length names)) arcs

-- a line of this form is expected after these lines of a circle: `circle` first, then as many arcs as it says, then a
-- run
abbrev pub StandsInCircle : List (List ℕ) → List (List (List ℕ)) → LineForm → Type 0
StandsInCircle names before PlanLine = ⊥
StandsInCircle names before ChainLine = ⊥
StandsInCircle names before CircleLine = before ≡ []
StandsInCircle names before ArcLine =
    (n : ℕ) × (arcs : List (ℕ × ℕ)) × (n ≤ max_count)
    × AreFirstArcs (length names) n arcs
    × (before ≡ count_words (codes "circle") n ∷ map (arc_line names) arcs)
StandsInCircle names before RunLine =
    (run : List (List (List ℕ))) × IsBehindArcs names before run × StandsInRun names run RunLine
StandsInCircle names before StepLine =
    (run : List (List (List ℕ))) × IsBehindArcs names before run × StandsInRun names run StepLine
