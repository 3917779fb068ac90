-- Spelled: which lines are read, said without a reader: their words are those of the forms, one after the other.
use Rattle.std.specs.Prelude.{◌≡◌, ◌≢◌, ℕ, ◌-◌, ◌^◌, ◌<◌, ◌≤◌, List, [], ◌∷◌, ◌++◌, ◌⊎◌, length, map, filter}
use Rattle.std.specs.Prelude.{slice_index_or, Contains, AllPairs, codes, decimal, Option, Some, None}
use Rattle.std.specs.List.{All, concat, enumerate_from}
use Rattle.wq_text.specs.Lines.{LineView, lines_of}
use Rattle.wq_text.specs.Words.{words_of}
use Rattle.wq_groups.specs.Partition.{Partition, ShareGroup}
use Rattle.wq_groups.specs.Assignment.{Assignment, max_lanes}
use Rattle.wq_core.specs.declared.step.Step.{Step}
use Rattle.wq_cert.specs.Certificate.{PlanCertificate, CircleCertificate, Certificate, OfPlan, OfCircle}
use Rattle.wq_cert.specs.Lines.{CertLine, bytes_of, holds_word}
use Rattle.wq_cert.specs.Ranges.{IsArcOf, IsStepOf}
use Rattle.wq_cert.specs.Reading.{max_count, assignment_of}
use Rattle.wq_cert.specs.PlanText.{plan_line, workqueue_line, arc_line}
use Rattle.wq_cert.specs.RunText.{run_lines}
use Rattle.wq_cert.specs.CircleText.{circle_line}
use Rattle.wq_cert.specs.Texts.{max_certificate, max_certificate_line}

-- the words of each line
abbrev pub words_of_lines : List CertLine → List (List (List ℕ))
words_of_lines lines = map (λ (line : CertLine). line.words) lines

-- ---- workqueues

-- item i is on workqueue q
abbrev pub IsOnWorkqueue : List (List ℕ) → ℕ → ℕ → Type 0
IsOnWorkqueue workqueues q i = Contains (slice_index_or workqueues q []) i

-- two items of the same group are on the same workqueue
abbrev pub GroupsAreWhole : List ℕ → List (List ℕ) → Type 0
GroupsAreWhole group_of qs =
    (q r i j : ℕ) → IsOnWorkqueue qs q i → IsOnWorkqueue qs r j → ShareGroup group_of i j → q ≡ r

-- at most 4,096 workqueues with this many items: each item is on exactly one of them and only once, and each group is
-- on one workqueue
pub record AreWorkqueues (items : ℕ) (group_of : List ℕ) (workqueues : List (List ℕ)) : Type 0 where
  pub few : length workqueues ≤ max_lanes
  pub known : All (λ i. i < items) (concat workqueues)
  pub all : (i : ℕ) → i < items → Contains (concat workqueues) i
  pub once : AllPairs (λ (i j : ℕ). i ≢ j) (concat workqueues)
  pub whole : GroupsAreWhole group_of workqueues

-- the lines of the workqueues, which are numbered from 0, with their items in any order
abbrev pub workqueue_lines : List (List ℕ) → List (List ℕ) → List (List (List ℕ))
workqueue_lines names workqueues = map (workqueue_line names) (enumerate_from 0 workqueues)

-- ---- lines

-- an assignment by only `wq` lines
pub record SpellsWorkqueues (names : List (List ℕ)) (p : Partition) (lines : List (List (List ℕ))) (a : Assignment)
    : Type 0 where
  pub workqueues : List (List ℕ)
  pub words : lines ≡ workqueue_lines names workqueues
  pub are : AreWorkqueues (length names) p.group_of workqueues
  pub assignment : a ≡ assignment_of p workqueues

-- `chain N`
abbrev pub count_line : ℕ → List (List ℕ)
count_line n = codes "chain" ∷ decimal n ∷ []

-- a plan: `plan K`, the workqueues, `chain N`, and the arcs
pub record SpellsPlan (names : List (List ℕ)) (p : Partition) (lines : List (List (List ℕ))) (c : PlanCertificate)
    : Type 0 where
  pub workqueues : List (List ℕ)
  pub words : lines
      ≡ plan_line (length workqueues)
      ∷ (workqueue_lines names workqueues ++ (count_line c.length ∷ map (arc_line names) c.arcs))
  pub are : AreWorkqueues (length names) p.group_of workqueues
  pub assignment : c.assignment ≡ assignment_of p workqueues
  pub few : c.length ≤ max_count
  pub count : length c.arcs ≡ c.length - 1
  pub known : All (IsArcOf (length names)) c.arcs

-- a run: `run M` and the steps, where M is a number
pub record SpellsRun (names : List (List ℕ)) (lines : List (List (List ℕ))) (steps : List Step) : Type 0 where
  pub words : lines ≡ run_lines names steps
  pub few : length steps < 2 ^ 32
  pub known : All (IsStepOf (length names)) steps

-- no line, or a run
abbrev pub SpellsRunAfter : List (List ℕ) → List (List (List ℕ)) → Option (List Step) → Type 0
SpellsRunAfter names lines None = lines ≡ []
SpellsRunAfter names lines (Some steps) = SpellsRun names lines steps

-- a circle: `circle N` and the arcs, and perhaps a run after them
pub record SpellsCircle (names : List (List ℕ)) (lines : List (List (List ℕ))) (c : CircleCertificate) : Type 0 where
  pub behind : List (List (List ℕ))
  pub words : lines ≡ circle_line c.arcs ∷ (map (arc_line names) c.arcs ++ behind)
  pub some : 0 < length c.arcs
  pub few : length c.arcs ≤ max_count
  pub known : All (IsArcOf (length names)) c.arcs
  pub run : SpellsRunAfter names behind c.steps

-- an answer: a plan or a circle
abbrev pub SpellsCertificate : List (List ℕ) → Partition → List (List (List ℕ)) → Certificate → Type 0
SpellsCertificate names p lines (OfPlan c) = SpellsPlan names p lines c
SpellsCertificate names p lines (OfCircle c) = SpellsCircle names lines c

-- an assignment: only `wq` lines, or a plan
abbrev pub SpellsAssignment : List (List ℕ) → Partition → List (List (List ℕ)) → Assignment → Type 0
SpellsAssignment names p lines a =
    SpellsWorkqueues names p lines a ⊎ ((c : PlanCertificate) × SpellsPlan names p lines c × (c.assignment ≡ a))

-- ---- texts

-- neither the text nor any line of it is too long
pub record KeepsLimits (text : List ℕ) : Type 0 where
  pub text_fits : length text ≤ max_certificate
  pub lines_fit : All (λ (line : LineView). length line.bytes ≤ max_certificate_line) (lines_of text)

-- the words of each line that holds a word
abbrev pub words_of_text : List ℕ → List (List (List ℕ))
words_of_text text = map (λ (line : LineView). bytes_of (words_of line)) (filter holds_word (lines_of text))
