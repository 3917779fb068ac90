-- Rows of faults, said without a reader: which row of "Refusals of certificates" in docs/FORMAT.md is the first that
-- the line of a workqueue breaks, given the workqueues on the lines before it.
use Rattle.std.specs.Prelude.{◌≡◌, ◌≢◌, ℕ, ◌^◌, ◌<◌, ◌≤◌, Bool, false, List, [], ◌∷◌, ◌++◌, ◌⊎◌, length, Contains}
use Rattle.std.specs.Prelude.{AllPairs, codes}
use Rattle.std.specs.List.{All, concat}
use Rattle.wq_groups.specs.Assignment.{max_lanes}
use Rattle.wq_cert.specs.declared.fault.CertError.{CertError}
use Rattle.wq_cert.specs.declared.fault.CertError.TheVariants.{BadCertLine, NotAllItems, GroupSplit, NumberOutOfRange}
use Rattle.wq_cert.specs.declared.fault.CertError.TheVariants.{OutOfMemory}
use Rattle.wq_cert.specs.Forms.{begins_with}
use Rattle.wq_cert.specs.Lines.{CertLine}
use Rattle.wq_cert.specs.PlanText.{workqueue_line}
use Rattle.wq_cert.specs.Spelled.{GroupsAreWhole}

-- at most 4,096 workqueues with some of this many items; no item is there twice, and no group is split
pub record AreFirstWorkqueues (items : ℕ) (group_of : List ℕ) (workqueues : List (List ℕ)) : Type 0 where
  pub few : length workqueues ≤ max_lanes
  pub known : All (λ i. i < items) (concat workqueues)
  pub once : AllPairs (λ (i j : ℕ). i ≢ j) (concat workqueues)
  pub whole : GroupsAreWhole group_of workqueues

-- the words are `wq Q NAME..` for a number and declared items
pub record SpellsWorkqueue (names words : List (List ℕ)) (workqueue : ℕ × List ℕ) : Type 0 where
  pub words_are : words ≡ workqueue_line names workqueue
  pub fits : workqueue.0 < 2 ^ 32
  pub known : All (λ i. i < length names) workqueue.1

-- the words are `wq Q NAME..` for declared items, where the number is that of the next workqueue, and in range
pub record SpellsNextWorkqueue (names words : List (List ℕ)) (workqueues : List (List ℕ)) (items : List ℕ)
    : Type 0 where
  pub says : SpellsWorkqueue names words (length workqueues, items)
  pub room : length workqueues < max_lanes

-- each item is on a workqueue only once, counting the workqueues before it
abbrev pub StandOnce : List (List ℕ) → List ℕ → Type 0
StandOnce workqueues items = AllPairs (λ (i j : ℕ). i ≢ j) (concat workqueues ++ items)

-- no group is split if these items are the next workqueue
abbrev pub SplitNoGroup : List ℕ → List (List ℕ) → List ℕ → Type 0
SplitNoGroup group_of workqueues items = GroupsAreWhole group_of (workqueues ++ (items ∷ []))

-- the row of this fault is the first that the line after these workqueues breaks
abbrev pub BreaksWorkqueueRow : List (List ℕ) → List ℕ → List (List ℕ) → CertLine → CertError → Type 0
BreaksWorkqueueRow names group_of workqueues line (BadCertLine n) =
    (n ≡ line.no) × ((workqueue : ℕ × List ℕ) → ¬ SpellsWorkqueue names line.words workqueue)
BreaksWorkqueueRow names group_of workqueues line (NumberOutOfRange n) =
    (n ≡ line.no)
    × (workqueue : ℕ × List ℕ) × SpellsWorkqueue names line.words workqueue
    × ((workqueue.0 ≢ length workqueues) ⊎ (max_lanes ≤ length workqueues))
BreaksWorkqueueRow names group_of workqueues line (NotAllItems n) =
    (n ≡ line.no)
    × (items : List ℕ) × SpellsNextWorkqueue names line.words workqueues items
    × (¬ StandOnce workqueues items)
BreaksWorkqueueRow names group_of workqueues line (GroupSplit n) =
    (n ≡ line.no)
    × (items : List ℕ) × SpellsNextWorkqueue names line.words workqueues items
    × StandOnce workqueues items
    × (¬ SplitNoGroup group_of workqueues items)
BreaksWorkqueueRow names group_of workqueues line OutOfMemory = ⊥

-- ---- after the workqueues

-- the first of the lines is one of a workqueue
abbrev pub begins_workqueue : List CertLine → Bool
begins_workqueue [] = false
begins_workqueue (line ∷ lines) = begins_with (codes "wq") line.words

-- each of this many items is on a workqueue
abbrev pub AllStand : ℕ → List (List ℕ) → Type 0
AllStand items workqueues = (i : ℕ) → i < items → Contains (concat workqueues) i
