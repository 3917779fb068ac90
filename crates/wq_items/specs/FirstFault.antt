-- First faults: which line of a declaration has one, said in terms of the lines only.
use Rattle.std.specs.Prelude.{◌≡◌, ◌≢◌, ◌⊎◌, ℕ, ◌<◌, ◌≤◌, List, [], ◌∷◌, ◌++◌, length, filter_map, IsOk, IsSome}
use Rattle.std.specs.Prelude.{IsSomeAnd, Contains, AllPairs}
use Rattle.std.specs.List.{All, Any}
use Rattle.wq_decl.specs.declared.directive.Directive.{Directive}
use Rattle.wq_items.specs.declared.fault.ItemError.{ItemError}
use Rattle.wq_items.specs.declared.fault.ItemError.TheVariants.{ItemTwice, UnknownItem, TooManyItems, TooManyFlushes}
use Rattle.wq_items.specs.declared.fault.ItemError.TheVariants.{OutOfMemory}
use Rattle.wq_items.specs.Building.{table_of}
use Rattle.wq_items.specs.Flushes.{item_name, line_flushes, flushes, names_used}
use Rattle.wq_items.specs.Table.{max_items, max_flushes}

-- one of these lines declares an item with this name
abbrev pub IsDeclared : List (ℕ × Directive) → List ℕ → Type 0
IsDeclared ds name = Contains (filter_map item_name ds) name

-- no name is declared twice, each name on another line is declared by a line before it, and there are
-- at most 4,096 items and 16,384 flushes
pub record IsFaultless (ds : List (ℕ × Directive)) : Type 0 where
  pub once : AllPairs (λ (a b : List ℕ). a ≢ b) (filter_map item_name ds)
  pub known : (before : List (ℕ × Directive)) (d : ℕ × Directive) (after : List (ℕ × Directive))
      → ds ≡ before ++ (d ∷ after) → All (IsDeclared before) (names_used d)
  pub items : length (filter_map item_name ds) ≤ max_items
  pub flushes : length (flushes ds) ≤ max_flushes

-- what each fault says about its line and the lines before it
abbrev pub IsFaultOfLine : List (ℕ × Directive) → ℕ × Directive → ItemError → Type 0
IsFaultOfLine before d (ItemTwice n) = (d.0 ≡ n) × IsSomeAnd (item_name d) (IsDeclared before)
IsFaultOfLine before d (TooManyItems n) =
    (d.0 ≡ n)
    × IsSomeAnd (item_name d) (λ (name : List ℕ). ¬ IsDeclared before name)
    × (max_items ≤ length (filter_map item_name before))
IsFaultOfLine before d (UnknownItem n) = (d.0 ≡ n) × Any (λ (name : List ℕ). ¬ IsDeclared before name) (names_used d)
IsFaultOfLine before d (TooManyFlushes n) =
    (d.0 ≡ n) × All (IsDeclared before) (names_used d) × (max_flushes < length (flushes (before ++ (d ∷ []))))
IsFaultOfLine before d OutOfMemory = ⊥

-- e is the fault of a line, and the lines before it are faultless
pub record IsLowestItemFault (ds : List (ℕ × Directive)) (e : ItemError) : Type 0 where
  pub before : List (ℕ × Directive)
  pub line : ℕ × Directive
  pub after : List (ℕ × Directive)
  pub parts : ds ≡ before ++ (line ∷ after)
  pub faultless : IsFaultless before
  pub fault : IsFaultOfLine before line e

-- ---- out of memory

-- the line declares an item, or at least one flush: the table grows with it
abbrev pub DeclaresMore : ℕ × Directive → Type 0
DeclaresMore d = IsSome (item_name d) ⊎ (0 < length (line_flushes d))

-- memory can run out at a line: it declares an item or a flush, and neither its directive nor any before it has a fault
pub record RanOut (ds : List (ℕ × Directive)) : Type 0 where
  pub before : List (ℕ × Directive)
  pub line : ℕ × Directive
  pub after : List (ℕ × Directive)
  pub parts : ds ≡ before ++ (line ∷ after)
  pub faultless : IsOk (table_of (before ++ (line ∷ [])))
  pub grows : DeclaresMore line
