-- Readings: what is declared once each unsure flush is decided. A reading keeps some unsure flushes, maybe none or all,
-- and leaves out the others. It is given by the places of the unsure flushes that it keeps.
use Rattle.std.specs.Prelude.{ℕ, ◌==◌, ◌||◌, nat_lt, not, Bool, false, List, map, filter, slice_index, slice_index_or}
use Rattle.std.specs.List.{list_any, count_by}
use Rattle.wq_items.specs.declared.target.Target.{Target}
use Rattle.wq_items.specs.Table.{Table, places}

-- this place is in the list
abbrev pub is_among : List ℕ → ℕ → Bool
is_among kept place = list_any (λ (p : ℕ). p == place) kept

-- the reading that keeps the unsure flushes at these places declares this flush: it is sure, or it is kept
abbrev pub is_kept : List ℕ → Target → Bool
is_kept kept t = not t.unsure || is_among kept t.place

-- those of these flushes that the reading declares
abbrev pub kept_of : List ℕ → List Target → List Target
kept_of kept targets = filter (is_kept kept) targets

-- the places of the unsure flushes, item by item
abbrev pub unsure_places : List (List Target) → List ℕ
unsure_places waits = places (map (filter (λ (t : Target). t.unsure)) waits)

-- ---- a reading as a declaration of its own

-- how many of these places are before this one
abbrev pub places_before : List ℕ → ℕ → ℕ
places_before others place = count_by (λ (p : ℕ). nat_lt p place) others

-- the flush when only the flushes at these places are left: it is sure, and its place is how many of them are before it
abbrev pub renumbered : List ℕ → Target → Target
renumbered others t = record t { unsure = false; place = places_before others t.place }

-- the flushes when there are no others: in the same order, at the places 0, 1, 2 and so on
abbrev pub compacted : List (List Target) → List (List Target)
compacted waits = map (map (renumbered (places waits))) waits

-- the flushes that the reading declares, item by item, as a declaration of its own has them
abbrev pub compact : List ℕ → List (List Target) → List (List Target)
compact kept waits = compacted (map (kept_of kept) waits)

-- the table of the reading
abbrev pub table_reading : Table → List ℕ → Table
table_reading t kept = record t { waits = compact kept t.waits }

-- ---- with lists for all places

-- the reading declares this flush, if exactly the places that it keeps are marked
abbrev pub is_marked : List Bool → Target → Bool
is_marked marks t = not t.unsure || slice_index_or marks t.place false

-- the flush at its new place, which this list has for each old place
abbrev pub moved : List ℕ → Target → Target
moved places t = record t { unsure = false; place = slice_index places t.place }
