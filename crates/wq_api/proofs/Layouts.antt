-- What is known of a runtime's workqueues without its lock.
use Rattle.std.proofs.Common.{◌≡◌, ℕ, ◌<◌, ◌≤◌, true, List, length, map, get_or, ap, ◌∙◌, arith}
use Rattle.std.specs.List.{range_with_len}
use Rattle.std.proofs.lemmas.List.{get_or_past}
use Rattle.std.proofs.lemmas.List.FromFn.{length-map-range_with_len, get_or-map-range_with_len}
use Rattle.wq_history.proofs.Words.{Wiring, helpers_of}
use Rattle.wq_core.proofs.Contexts.{helpers_of-none}

-- there is a number for each lane
pub one_each : (w : Wiring) (helpers : List ℕ) → helpers ≡ map (helpers_of w) (range_with_len 0 w.lanes)
    → length helpers ≡ w.lanes
one_each w helpers is = ap length is ∙ length-map-range_with_len (helpers_of w) 0 w.lanes

-- that of a lane
pub helpers_at : (w : Wiring) (helpers : List ℕ) (q k h : ℕ) → helpers ≡ map (helpers_of w) (range_with_len 0 w.lanes)
    → k ≡ q → k < length helpers → h ≡ get_or helpers k h → h ≡ helpers_of w q
helpers_at w helpers q k h is same within at =
    let below : k < w.lanes = omega (arith, one_each w helpers is, within) in
    at
    ∙ (ap (λ (xs : List ℕ). get_or xs k h) is
    ∙ get_or-map-range_with_len (helpers_of w) 0 w.lanes k q h below (omega (arith, same)))

-- there are none for what is no lane
pub helpers_past : (w : Wiring) (helpers : List ℕ) (q k : ℕ) → helpers ≡ map (helpers_of w) (range_with_len 0 w.lanes)
    → length w.ordered ≡ w.lanes → k ≡ q → length helpers ≤ k → 0 ≡ helpers_of w q
helpers_past w helpers q k is orders same past =
    helpers_of-none w q (get_or_past w.ordered q true (omega (arith, orders, one_each w helpers is, same, past)))
