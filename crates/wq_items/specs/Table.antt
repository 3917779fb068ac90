-- Tables: what a declaration declares, item by item.
use Rattle.std.specs.Prelude.{◌≡◌, ◌≢◌, ℕ, Bool, ◌<◌, ◌≤◌, ◌==◌, List, [], length, filter, slice_get, slice_index}
use Rattle.std.specs.Prelude.{slice_index_or, IsTrue, Option, Some, map, position, bytes_eq, sum_by, AllPairs}
use Rattle.std.specs.Prelude.{IsPermutation, flat_map}
use Rattle.std.specs.List.{All, Any, range_with_len}
use Rattle.std.specs.List.Sorted.{IsStrictlyIncreasing}
use Rattle.wq_text.specs.declared.span.Span.{Span}
use Rattle.wq_decl.specs.Names.{is_name}
use Rattle.wq_items.specs.declared.target.Target.{Target}

-- for each item in turn: its name, where the name is in the text, and the targets of the flushes that it declares
pub record Table : Type 0 where
  pub names : List (List ℕ)
  pub spans : List Span
  pub waits : List (List Target)

-- the number of the item with this name, if there is one
abbrev pub item_named : List (List ℕ) → List ℕ → Option ℕ
item_named names name = position (bytes_eq name) names

-- the targets of item i, in the order in which it declares them
abbrev pub targets_of : List (List Target) → ℕ → List Target
targets_of waits i = slice_index_or waits i []

-- item i declares a flush of item j, or of its whole workqueue: i waits for j
abbrev pub ItemWaits : List (List Target) → ℕ → ℕ → Type 0
ItemWaits waits i j = Any (λ (t : Target). t.item ≡ j) (targets_of waits i)

-- item i declares a flush of this kind: of item j alone, or of the whole workqueue of item j
abbrev pub ItemWaitsBy : List (List Target) → Bool → ℕ → ℕ → Type 0
ItemWaitsBy waits whole i j = Any (λ (t : Target). (t.item ≡ j) × (t.whole ≡ whole)) (targets_of waits i)

-- the items at vertex v, in declaration order, where `vertex_of` has the vertex of each item: its group or its
-- workqueue
abbrev pub items_at : List ℕ → ℕ → List ℕ
items_at vertex_of v = filter (λ i. slice_index vertex_of i == v) (range_with_len 0 (length vertex_of))

-- vertex v waits for vertex w, which may be the same: an item at v declares a flush of an item at w
pub record VertexWaits (waits : List (List Target)) (vertex_of : List ℕ) (v w : ℕ) : Type 0 where
  pub item : ℕ
  pub target : ℕ
  pub declares : ItemWaits waits item target
  pub of_item : slice_get vertex_of item ≡ Some v
  pub of_target : slice_get vertex_of target ≡ Some w

-- how many flushes all items together declare
abbrev pub flush_count : List (List Target) → ℕ
flush_count waits = sum_by length waits

-- each target is one of the items below n
abbrev pub TargetsBelow : ℕ → List Target → Type 0
TargetsBelow n targets = All (λ (t : Target). t.item < n) targets

-- the places of all declared flushes, item by item
abbrev pub places : List (List Target) → List ℕ
places waits = flat_map (λ (targets : List Target). map (λ (t : Target). t.place) targets) waits

-- each target is declared later than the one before it
abbrev pub PlacesRise : List Target → Type 0
PlacesRise targets = IsStrictlyIncreasing (map (λ (t : Target). t.place) targets)

-- how many items may be declared
abbrev pub max_items : ℕ
max_items = 4096

-- how many flushes all items together may declare
abbrev pub max_flushes : ℕ
max_flushes = 16384

-- what holds for every table: one span and one list of targets for each name; at most 4,096 names, which differ and
-- are names; at most 16,384 flushes, each of an item, at the places 0, 1, 2 and so on, which rise within each item
pub record IsTable (t : Table) : Type 0 where
  pub one_span_each : length t.spans ≡ length t.names
  pub one_list_each : length t.waits ≡ length t.names
  pub few_items : length t.names ≤ max_items
  pub named : All (λ (name : List ℕ). IsTrue (is_name name)) t.names
  pub distinct : AllPairs (λ (a b : List ℕ). a ≢ b) t.names
  pub targets_are_items : All (TargetsBelow (length t.names)) t.waits
  pub few_flushes : flush_count t.waits ≤ max_flushes
  pub places_are_numbered : IsPermutation (range_with_len 0 (flush_count t.waits)) (places t.waits)
  pub places_rise : All PlacesRise t.waits
