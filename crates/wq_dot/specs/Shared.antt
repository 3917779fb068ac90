-- The names that several workqueues have, as a set that is kept in order.
use Rattle.std.specs.Prelude.{◌≡◌, ℕ, List}
use Rattle.std.specs.Borrow.{Bor}
use Rattle.std.specs.Ordering.{nat_cmp}
use Rattle.std.specs.Cmp.Lexicographic.{slice_cmp}
use Rattle.std.specs.BTreeSet.{BTreeSet, contains}
use Rattle.wq_dot.specs.Labels.{is_shared}

-- names are compared byte by byte, and the set has exactly the names that occur more than once in the list
abbrev pub HasShared : List (List ℕ) → BTreeSet (Bor (List ℕ)) → Type 0
HasShared called names =
    (name : Bor (List ℕ)) → contains (λ x y. slice_cmp nat_cmp x.now y.now) names name ≡ is_shared called name.now
