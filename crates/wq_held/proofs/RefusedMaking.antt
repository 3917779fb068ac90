-- Why making a runtime can be refused.
use Rattle.std.proofs.Common.{◌≡◌, ℕ, ◌<◌, ◌≤◌, ◌⊎◌, inl, inr, Bool, true, false, sym, subst, ◌∙◌, arith, IsTrue, ◌↔◌}
use Rattle.std.proofs.lemmas.Bool.{cases_lt}
use Rattle.wq_history.proofs.Words.{Wiring, IsWiring, items, lane_of, max_helpers, IsSafe, max_rows}
use Rattle.wq_held.proofs.Words.{BookError, TooManyRows, OutOfMemory}
use Rattle.wq_core.specs.Wiring.{with_helpers}
use Rattle.wq_history.specs.Book.{RefusesNew}
use Rattle.wq_held.specs.declared.fault.NewError.TheVariants.{NotSafe}
use Rattle.wq_held.specs.Locked.{max_runtime_lanes, slots}
use Rattle.wq_held.specs.Making.{RefusesRuntime, MakesRuntime}

-- if an item exists, its lane does
lane_exists : (w : Wiring) (i : ℕ) → IsWiring w → i < items w → lane_of w i < w.lanes
lane_exists w i wiring there = wiring.within i 0 (omega (arith, there, wiring.one_lane_each))

-- an assignment is safe whatever the number of helpers
pub safe_with : (w v : Wiring) (helpers : ℕ) → w ≡ with_helpers v helpers → IsSafe v → IsSafe w
safe_with w v helpers same safe = subst (λ (x : Wiring). IsSafe x) (sym same) safe

-- what is asked of a runtime with this many helpers holds
pub made : (w v : Wiring) (helpers rows : ℕ) → w ≡ with_helpers v helpers → v.lanes ≤ max_runtime_lanes
    → rows ≤ max_rows → helpers ≤ max_helpers → IsSafe v → MakesRuntime w rows
made w v helpers rows same few_lanes few_rows few_helpers safe = record {
  few_lanes = subst (λ (x : Wiring). x.lanes ≤ max_runtime_lanes) (sym same) few_lanes;
  few_rows = few_rows;
  few_helpers = subst (λ (x : Wiring). x.helpers ≤ max_helpers) (sym same) few_helpers;
  safe = safe_with w v helpers same safe;
}

-- the assignment isn't safe
pub not_safe_refused : (w v : Wiring) (helpers rows : ℕ) (safe : Bool) → w ≡ with_helpers v helpers
    → v.lanes ≤ max_runtime_lanes → rows ≤ max_rows → helpers ≤ max_helpers
    → IsTrue safe ↔ IsSafe v → safe ≡ false → RefusesRuntime w rows NotSafe
not_safe_refused w v helpers rows safe same few_lanes few_rows few_helpers means is = (
  subst (λ (x : Wiring). x.lanes ≤ max_runtime_lanes) (sym same) few_lanes,
  few_rows,
  subst (λ (x : Wiring). x.helpers ≤ max_helpers) (sym same) few_helpers,
  (λ holds.
      let bad : safe ≡ true = means.1 (subst (λ (x : Wiring). IsSafe x) same holds) in
      let worse : false ≡ true = sym is ∙ bad in
      absurd cc),
)

-- a book of few rows can only lack memory
pub book_refused : (w : Wiring) (rows : ℕ) (x : BookError) → IsWiring w → rows ≤ max_rows → RefusesNew w rows x
    → (0 < w.lanes) ⊎ (0 < rows)
book_refused w rows TooManyRows sound few why = absurd (omega (arith, few, why))
book_refused w rows OutOfMemory sound few why = by_cause why.1 where
  by_cause : (0 < rows) ⊎ ((0 < items w) ⊎ (0 < w.lanes)) → (0 < w.lanes) ⊎ (0 < rows)
  by_cause (inl some_rows) = inr some_rows
  by_cause (inr (inl some_items)) =
      let below : lane_of w 0 < w.lanes = lane_exists w 0 sound some_items in inl (omega (arith, below))
  by_cause (inr (inr some_lanes)) = inl some_lanes
book_refused w rows _ sound few why = absurd why

-- where there are counts to keep, there are lanes
pub some_lanes : (w : Wiring) → IsWiring w → 0 < slots w → 0 < w.lanes
some_lanes w sound some_slots = by_cause (cases_lt 0 (items w)) where
  by_cause : (0 < items w) ⊎ (items w ≤ 0) → 0 < w.lanes
  by_cause (inl some_items) =
      let below : lane_of w 0 < w.lanes = lane_exists w 0 sound some_items in omega (arith, below)
  by_cause (inr no_items) = omega (arith, no_items, some_slots)
