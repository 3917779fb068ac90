-- Which items may move, by the names that are given.
use Rattle.std.specs.Prelude.{ℕ, List, [], ◌∷◌, length, Option, Some}
use Rattle.std.specs.List.{range_with_len}
use Rattle.wq_cert.specs.Forms.{items_of}

-- the items that may move: the items with these names, if each name is an item's; all items, if there is no name
abbrev pub movers : List (List ℕ) → List (List ℕ) → Option (List ℕ)
movers items [] = Some (range_with_len 0 (length items))
movers items (name ∷ names) = items_of items (name ∷ names)
