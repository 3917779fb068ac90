-- Grouping: which groups the `ordered` lines of a declaration make, or what the first fault is.
use Rattle.std.specs.Prelude.{◌≡◌, ◌≢◌, ℕ, ◌==◌, ◌||◌, ◌&&◌, nat_lt, Bool, false, if◌then◌else◌, List, [], ◌∷◌, ◌++◌}
use Rattle.std.specs.Prelude.{length, map, flat_map, filter, position, slice_index_or, bytes_eq, Option, Some, None}
use Rattle.std.specs.Prelude.{Result, Ok, Err, Contains, AllPairs}
use Rattle.std.specs.List.{Any, list_any, count_by, range_with_len}
use Rattle.std.specs.Option.{unwrap_or}
use Rattle.wq_text.specs.Refusal.{Refusal}
use Rattle.wq_text.specs.Words.{WordView}
use Rattle.wq_decl.specs.declared.directive.Directive.{Directive}
use Rattle.wq_decl.specs.declared.directive.Directive.TheVariants.{Item, Flush, FlushWq, Unsure, Ordered}
use Rattle.wq_groups.specs.declared.fault.GroupError.{GroupError}
use Rattle.wq_groups.specs.declared.fault.GroupError.TheVariants.{GroupedTwice, OutOfMemory}
use Rattle.wq_groups.specs.Partition.{Partition}

-- the names on an `ordered` line; no other line orders any
abbrev pub names_ordered : ℕ × Directive → List (List ℕ)
names_ordered (n, Item name) = []
names_ordered (n, Flush name targets) = []
names_ordered (n, FlushWq name target) = []
names_ordered (n, Unsure name target whole) = []
names_ordered (n, Ordered names) = map (λ (word : WordView). word.bytes) names

-- ---- the first fault

-- some name is in the list twice
abbrev pub has_twin : List (List ℕ) → Bool
has_twin [] = false
has_twin (name ∷ names) = list_any (bytes_eq name) names || has_twin names

-- the number of the first line with a name that is on it twice or on an earlier `ordered` line, given the names on the
-- `ordered` lines so far
abbrev pub first_regrouped : List (List ℕ) → List (ℕ × Directive) → Option ℕ
first_regrouped before [] = None
first_regrouped before (d ∷ ds) =
    if has_twin (before ++ names_ordered d) then Some d.0 else first_regrouped (before ++ names_ordered d) ds

-- the names on all `ordered` lines, in order
abbrev pub all_ordered : List (ℕ × Directive) → List (List ℕ)
all_ordered ds = flat_map names_ordered ds

-- line n is the first that orders a name again: the names on the `ordered` lines before it all differ, but with its own
-- names they don't
pub record IsLowestRegrouped (ds : List (ℕ × Directive)) (n : ℕ) : Type 0 where
  pub before : List (ℕ × Directive)
  pub line : ℕ × Directive
  pub after : List (ℕ × Directive)
  pub parts : ds ≡ before ++ (line ∷ after)
  pub number : line.0 ≡ n
  pub apart : AllPairs (λ (a b : List ℕ). a ≢ b) (all_ordered before)
  pub twice : ¬ AllPairs (λ (a b : List ℕ). a ≢ b) (all_ordered (before ++ (line ∷ [])))

-- ---- the groups

-- an `ordered` line has both names
abbrev pub ShareLine : List (ℕ × Directive) → List ℕ → List ℕ → Type 0
ShareLine ds a b = Any (λ (d : ℕ × Directive). Contains (names_ordered d) a × Contains (names_ordered d) b) ds

-- the two names are the same, or an `ordered` line has both
abbrev pub are_together : List (ℕ × Directive) → List ℕ → List ℕ → Bool
are_together ds a b =
    bytes_eq a b
    || list_any (λ d. list_any (bytes_eq a) (names_ordered d) && list_any (bytes_eq b) (names_ordered d)) ds

-- the first-declared item of the group of this name, which is an item's name
abbrev pub first_member : List (ℕ × Directive) → List (List ℕ) → List ℕ → ℕ
first_member ds names name = unwrap_or (position (are_together ds name) names) 0

-- the first-declared items of all groups, in order
abbrev pub first_members : List (ℕ × Directive) → List (List ℕ) → List ℕ
first_members ds names =
    filter (λ i. first_member ds names (slice_index_or names i []) == i) (range_with_len 0 (length names))

-- the number of the group of this name: how many groups have an earlier first-declared item
abbrev pub group_number : List (ℕ × Directive) → List (List ℕ) → List ℕ → ℕ
group_number ds names name = count_by (λ i. nat_lt i (first_member ds names name)) (first_members ds names)

-- the groups of the items with these names, if no name is ordered twice
abbrev pub partition_of : List (ℕ × Directive) → List (List ℕ) → Partition
partition_of ds names =
    record { group_of = map (group_number ds names) names; groups = length (first_members ds names) }

-- ---- what is answered

-- the groups that directives declare for the items with these names, or the first fault
abbrev pub groups_of : List (ℕ × Directive) → List (List ℕ) → Result Partition GroupError
groups_of ds names = unless_regrouped (first_regrouped [] ds)
  where
    unless_regrouped : Option ℕ → Result Partition GroupError
    unless_regrouped (Some line) = Err (GroupedTwice line)
    unless_regrouped None = Ok (partition_of ds names)

-- what a call returns instead of groups: that memory ran out, or else the first fault
abbrev pub IsGroupFaultOf : GroupError → Result Partition GroupError → Type 0
IsGroupFaultOf (GroupedTwice line) r = r ≡ Err (GroupedTwice line)
IsGroupFaultOf OutOfMemory r = Unit {0}

-- code 11 with the line, or 20 without one
abbrev pub group_refusal : GroupError → Refusal
group_refusal (GroupedTwice line) = record { code = 11; line = line }
group_refusal OutOfMemory = record { code = 20; line = 0 }
