-- What is said about a step that isn't lawful: the words of each reason, and the lines.
use Rattle.std.specs.Prelude.{◌≡◌, ℕ, nat_lt, Bool, true, false, cond, if◌then◌else◌, List, [], ◌∷◌, Option, Some}
use Rattle.std.specs.Prelude.{None, decimal, length, slice_index_or}
use Rattle.wq_items.specs.Table.{targets_of}
use Rattle.wq_core.specs.declared.entry.Waiting.{Waiting}
use Rattle.wq_core.specs.declared.step.Step.{Step}
use Rattle.wq_core.specs.Workqueues.{Workqueues, wiring_of}
use Rattle.wq_checker.specs.RunEnds.{IsFirstUnlawful}
use Rattle.wq_groups.specs.DeclaredGroups.{declared_waits, Declared}
use Rattle.wq_findings.specs.Shown.{place_text}
use Rattle.wq_names.specs.Messages.{answered_unlawful, declares_no_flush, declares_no_flushwq, doesnt_wait}
use Rattle.wq_names.specs.Messages.{has_made_all, is_pending, is_unfinished, isnt_first, isnt_pending, no_such_item}
use Rattle.wq_names.specs.Messages.{no_workqueue, nothing_is_pending, nothing_runs, one_is_unfinished, runner_waits}
use Rattle.wq_names.specs.Messages.{runner_waits_for_all, runs}
use Rattle.wq_diagnosis.specs.declared.unlawful.Unlawful.{Unlawful}
use Rattle.wq_diagnosis.specs.declared.unlawful.Unlawful.TheVariants as why
use Rattle.wq_diagnosis.specs.Diagnosis.{IsPlain, shown_lines}
use Rattle.wq_diagnosis.specs.Unlawful.{IsFirstFor, named_item, named_workqueue}
use Rattle.wq_diagnosis.specs.Words.{item_words, name_words, workqueue_of, workqueue_words}

-- ---- the words of a reason, of workqueues with these names

-- the name of the workqueue of item i; empty if it has none, or if there is no such item
abbrev pub workqueue_name : Declared → Workqueues → List (List ℕ) → ℕ → List ℕ
workqueue_name s ws names i =
    cond (nat_lt i (length s.table.names)) (slice_index_or names (workqueue_of s ws i) []) []

-- the name of the workqueue of item i, as it is written after the item
abbrev pub called_words : Declared → Workqueues → List (List ℕ) → ℕ → List ℕ
called_words s ws names i = name_words (workqueue_name s ws names i)

-- the words that nothing is pending on workqueue q, or that nothing runs on it; or that there is no workqueue q
abbrev pub nothing_words : Workqueues → List (List ℕ) → ℕ → Bool → List ℕ
nothing_words ws names q pending =
    if nat_lt q ws.assignment.lanes
    then cond pending (nothing_is_pending (workqueue_words names q)) (nothing_runs (workqueue_words names q))
    else no_workqueue (workqueue_words names q)

-- the words that item j runs on workqueue q, and what it waits for
abbrev pub waiting_words : Declared → Workqueues → List (List ℕ) → ℕ → ℕ → Waiting → List ℕ
waiting_words s ws names q j f =
    cond f.whole
    (runner_waits_for_all (item_words s j) (workqueue_words names q) (item_words s f.target)
    (called_words s ws names f.target))
    (runner_waits (item_words s j) (workqueue_words names q) (item_words s f.target))

-- the words that item j runs on workqueue q, and declares no flush of item i, or none of its whole workqueue
abbrev pub undeclared_words : Declared → List (List ℕ) → ℕ → ℕ → Bool → ℕ → List ℕ
undeclared_words s names q j whole i =
    cond whole (declares_no_flushwq (item_words s j) (workqueue_words names q) (item_words s i))
    (declares_no_flush (item_words s j) (workqueue_words names q) (item_words s i))

-- the words that an entry of item i, or one on its whole workqueue, is unfinished
abbrev pub unfinished_words : Declared → Workqueues → List (List ℕ) → Bool → ℕ → List ℕ
unfinished_words s ws names whole i =
    cond whole (one_is_unfinished (item_words s i) (called_words s ws names i)) (is_unfinished (item_words s i))

-- the words why a step with this workqueue and this item isn't lawful
abbrev pub words_of_reason : Declared → Workqueues → List (List ℕ) → ℕ → ℕ → Unlawful → List ℕ
words_of_reason s ws names q i why.NoItem = no_such_item
words_of_reason s ws names q i why.Pending = is_pending (item_words s i)
words_of_reason s ws names q i why.NotPending = isnt_pending (item_words s i)
words_of_reason s ws names q i (why.Runs j) = runs (workqueue_words names q) (item_words s j)
words_of_reason s ws names q i why.NothingPending = nothing_words ws names q true
words_of_reason s ws names q i (why.First j) =
    isnt_first (item_words s i) (workqueue_words names q) (item_words s j)
words_of_reason s ws names q i why.NothingRuns = nothing_words ws names q false
words_of_reason s ws names q i (why.Waits j f) = waiting_words s ws names q j f
words_of_reason s ws names q i (why.Undeclared j whole) = undeclared_words s names q j whole i
words_of_reason s ws names q i (why.AllMade j) =
    has_made_all (item_words s j) (workqueue_words names q) (decimal (length (targets_of s.table.waits j)))
words_of_reason s ws names q i (why.Awake j) = doesnt_wait (item_words s j) (workqueue_words names q)
words_of_reason s ws names q i (why.Unfinished whole) = unfinished_words s ws names whole i

-- the words why the step isn't lawful
abbrev pub reason_words : Declared → Workqueues → List (List ℕ) → Step → Unlawful → List ℕ
reason_words s ws names step reason =
    words_of_reason s ws names (named_workqueue step) (named_item step) reason

-- ---- what is said

-- the first line about step n: the file, the place in it, why the step isn't lawful, and the answer
abbrev pub unlawful_head : List ℕ → List ℕ → List ℕ → ℕ → List ℕ
unlawful_head file place what n = answered_unlawful file (place_text place) what (decimal n)

-- what is said about step n of a run, counted from 1: the first line has its file, why it isn't lawful, and its number;
-- and it is plain
pub record IsUnlawfulText (file what : List ℕ) (n : ℕ) (text : List ℕ) : Type 0 where
  pub place : List ℕ
  pub more : List (List ℕ)
  pub lines : text ≡ shown_lines (unlawful_head file place what n ∷ more)
  pub plain : IsPlain text

-- step n is the first of these steps that isn't lawful, and what is said about it are the words of a reason that
-- forbids it in the state that the steps before it leave
pub record SaysReason (file : List ℕ) (s : Declared) (ws : Workqueues) (names : List (List ℕ)) (steps : List Step)
    (n : ℕ) (text : List ℕ) : Type 0 where
  pub step : Step
  pub reason : Unlawful
  pub is : IsFirstFor (wiring_of (declared_waits s) ws) steps n step reason
  pub said : IsUnlawfulText file (reason_words s ws names step reason) n text

-- what is said about step n of these steps: why it isn't lawful; nothing exactly if it isn't the first such step
abbrev pub SaysStep : List ℕ → Declared → Workqueues → List (List ℕ) → List Step → ℕ → Option (List ℕ) → Type 0
SaysStep file s ws names steps n None = ¬ IsFirstUnlawful (wiring_of (declared_waits s) ws) steps n
SaysStep file s ws names steps n (Some text) = SaysReason file s ws names steps n text
