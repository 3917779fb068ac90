-- Reading: what is noted about the items while the directives are read.
use Rattle.std.specs.Prelude.{◌≡◌, ◌≢◌, ℕ, Bool, List, map, bytes_eq, AllPairs}
use Rattle.std.specs.List.{list_any, position_or_len}
use Rattle.wq_text.specs.Words.{WordView}
use Rattle.wq_decl.specs.declared.directive.Directive.{Directive}
use Rattle.wq_groups.specs.Grouping.{all_ordered, first_member}

-- words as names
abbrev pub names_in : List WordView → List (List ℕ)
names_in words = map (λ (word : WordView). word.bytes) words

-- for each of these names, whether it is in the list
abbrev pub marks_of : List (List ℕ) → List (List ℕ) → List Bool
marks_of names ordered = map (λ (name : List ℕ). list_any (bytes_eq name) ordered) names

-- the place of the first of these names that is in the list; if none is, how many names there are
abbrev pub lowest_of : List (List ℕ) → List (List ℕ) → ℕ
lowest_of names ordered = position_or_len (λ (name : List ℕ). list_any (bytes_eq name) ordered) names

-- what is noted after these directives: for each item, the first-declared item of its group, and whether its name is on
-- an `ordered` line; no name is on them twice
pub record IsNoted (ds : List (ℕ × Directive)) (names : List (List ℕ)) (first : List ℕ) (ordered : List Bool)
    : Type 0 where
  pub firsts : first ≡ map (first_member ds names) names
  pub marks : ordered ≡ marks_of names (all_ordered ds)
  pub apart : AllPairs (λ (a b : List ℕ). a ≢ b) (all_ordered ds)
