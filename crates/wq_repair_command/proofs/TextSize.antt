-- How long the text of an assignment can be: each item is on one of its lines.
use Rattle.std.proofs.Common.{ℕ, zero, suc, ◌+◌, ◌*◌, ◌≤◌, ◌<◌, nat_le, List, [], ◌∷◌, length, arith, length-append}
use Rattle.std.specs.Prelude.{◌==◌, filter, flat_map, slice_index}
use Rattle.std.specs.List.{range_with_len}
use Rattle.std.proofs.lemmas.Bool.Decides.{nat_tests}
use Rattle.std.proofs.lemmas.List.FromFn.{length-range_with_len}
use Rattle.wq_items.specs.Table.{items_at}

module _ (lane : List ℕ) where
  -- how many of these items are on workqueue q, and how many are on q or above
  on : ℕ → List ℕ → ℕ
  on q is = length (filter (λ i. slice_index lane i == q) is)

  from : ℕ → List ℕ → ℕ
  from q is = length (filter (λ i. nat_le q (slice_index lane i)) is)

  from-on : (q : ℕ) (is : List ℕ) → on q is + from (q + 1) is ≤ from q is
  unfolding on from
  from-on q [] = omega arith
  from-on q (i ∷ is) = let rest : on q is + from (q + 1) is ≤ from q is = from-on q is in grind (arith, nat_tests, rest)

  from-most : (q : ℕ) (is : List ℕ) → from q is ≤ length is
  unfolding from
  from-most q [] = omega arith
  from-most q (i ∷ is) = let rest : from q is ≤ length is = from-most q is in grind (arith, nat_tests, rest)

  -- lines with a bounded number of bytes for each item
  module _ (line : ℕ → List ℕ) (short : (q : ℕ) → q < 4096 → length (line q) ≤ 196 + 64 * length (items_at lane q)) where
    length-lines : (q n : ℕ) → q + n ≤ 4096 → length (flat_map line (range_with_len q n)) ≤ 196 * n + 64 * from q (range_with_len 0 (length lane))
    unfolding on
    length-lines q zero few = omega arith
    length-lines q (suc n) few =
        let is = range_with_len 0 (length lane) in
        let rest : length (flat_map line (range_with_len (q + 1) n)) ≤ 196 * n + 64 * from (q + 1) is = length-lines (q + 1) n (omega arith) in
        let first : length (line q) ≤ 196 + 64 * length (items_at lane q) = short q (omega arith) in
        let step : on q is + from (q + 1) is ≤ from q is = from-on q is in
        omega (arith, rest, first, step, length-append (line q) (flat_map line (range_with_len (q + 1) n)))

    pub length-text : (lanes : ℕ) → lanes ≤ 4096 → length lane ≤ 4096 → length (flat_map line (range_with_len 0 lanes)) ≤ 8388608
    length-text lanes few items =
        let is = range_with_len 0 (length lane) in
        omega (arith, length-lines 0 lanes (omega arith), from-most 0 is, length-range_with_len 0 (length lane))
