use Rattle.std.proofs.Common.{◌≡◌, ◌≤◌, ℕ, replicate, ◌*◌, sym, ap, ◌∙◌, arith}
use Rattle.wq_groups.specs.Declaration.{declaration_of}
use Rattle.wq_core.specs.Wiring.{wiring}
use Rattle.wq_counts.specs.Counting.{counts_each}
use Rattle.wq_history.proofs.Words.{Machine, BookView, max_helpers, max_rows}
use Rattle.wq_held.specs.Locked.{max_runtime_lanes, slots}
use Rattle.wq_held.proofs.Locking.{IsProtected-first}
use Rattle.wq_held.proofs.RefusedMaking.{made, not_safe_refused}
use Rattle.wq_held.proofs.making.new_held.Goals as goal

pub returns-then-not-safe-clause-refused : goal.returns-then-not-safe-clause-refused
returns-then-not-safe-clause-refused g c =
    let v = wiring (declaration_of c.args.table.now c.args.groups.now) c.args.assignment.now in
    let few_lanes : c.args.assignment.now.lanes ≤ max_runtime_lanes =
    omega (arith, c.lanes.ensures.lanes, c.if-lanes-gt-MAX_LANES.false) in
    let few_rows : c.args.rows ≤ max_rows = omega (arith, c.if-rows-gt-MAX_ROWS.false) in
    let few_helpers : c.args.helpers ≤ max_helpers = omega (arith, c.if-helpers-gt-MAX_HELPERS.false) in
    not_safe_refused g.N.Naming.wiring v c.args.helpers c.args.rows c.in_ok-safe.safe c.requires.of_wiring few_lanes
    few_rows few_helpers c.in_ok-safe.ensures.safe c.if-not-safe.true

pub returns-clause-made : goal.returns-clause-made
returns-clause-made g c =
    let v = wiring (declaration_of c.args.table.now c.args.groups.now) c.args.assignment.now in
    let few_lanes : c.args.assignment.now.lanes ≤ max_runtime_lanes =
    omega (arith, c.lanes.ensures.lanes, c.if-lanes-gt-MAX_LANES.false) in
    let few_rows : c.args.rows ≤ max_rows = omega (arith, c.if-rows-gt-MAX_ROWS.false) in
    let few_helpers : c.args.helpers ≤ max_helpers = omega (arith, c.if-helpers-gt-MAX_HELPERS.false) in
    made g.N.Naming.wiring v c.args.helpers c.args.rows c.requires.of_wiring few_lanes few_rows few_helpers
    (c.in_ok-safe.ensures.safe.0 c.if-not-safe.false)

pub invariant_of-result-2 : goal.invariant_of-result-2
invariant_of-result-2 g c =
    let w = g.N.Naming.wiring in
    let v = wiring (declaration_of c.args.table.now c.args.groups.now) c.args.assignment.now in
    let of_wiring : c.in-Ok.book.wiring ≡ w =
    ap (λ (b : BookView). b.wiring) c.in-Ok.ensures.book
    ∙ ap (λ (m : Machine). m.wiring) c.in_ok-core.ensures.machine ∙ sym c.requires.of_wiring in
    let few_lanes : c.args.assignment.now.lanes ≤ max_runtime_lanes =
    omega (arith, c.lanes.ensures.lanes, c.if-lanes-gt-MAX_LANES.false) in
    let few_rows : c.args.rows ≤ max_rows = omega (arith, c.if-rows-gt-MAX_ROWS.false) in
    let few_helpers : c.args.helpers ≤ max_helpers = omega (arith, c.if-helpers-gt-MAX_HELPERS.false) in
    let makes = made w v c.args.helpers c.args.rows c.requires.of_wiring few_lanes few_rows few_helpers
    (c.in_ok-safe.ensures.safe.0 c.if-not-safe.false) in
    let zeros = ap (λ (n : ℕ). replicate (counts_each * n) 0) (c.slots_of-slots.ensures ∙ ap slots of_wiring) in
    IsProtected-first w _ _ c.in-Ok.book c.in_ok-counts.counts c.in_ok-sums.sums c.open-ledger.result.1.parts
    c.open-ledger.result.1.amount of_wiring
    (ap (λ (b : BookView). b.room) c.in-Ok.ensures.book ∙ sym c.requires.of_rows)
    (ap (λ (b : BookView). b.rows) c.in-Ok.ensures.book)
    makes.few_lanes makes.few_helpers makes.safe
    c.requires.all_parts (c.in_ok-counts.ensures.counts ∙ zeros) (c.in_ok-sums.ensures.counts ∙ zeros)
    c.open-ledger.ensures.parts c.open-ledger.ensures.amount
