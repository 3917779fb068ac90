-- Each item of a plan that was run was queued once, never cancelled, and executed once.
use Rattle.std.proofs.Common.{◌≡◌, ℕ, ◌+◌, ◌<◌, ◌≤◌, Bool, true, false, List, [], ◌∷◌, ◌++◌, take, drop, refl, sym}
use Rattle.std.proofs.Common.{ap, subst, ◌∙◌, arith}
use Rattle.std.specs.Prelude.{sum_by}
use Rattle.std.proofs.lemmas.List.{take-append-drop}
use Rattle.std.proofs.lemmas.List.Sums.{sum_by-append, sum_by-cons}
use Rattle.wq_core.specs.Wiring.{Wiring, items, max_helpers}
use Rattle.wq_counts.specs.declared.kind.Kind.TheVariants.{Queue, Cancel}
use Rattle.wq_counts.specs.Counting.{place, made, tally}
use Rattle.wq_history.specs.Book.{BookView}
use Rattle.wq_held.specs.Closing.{IsClosed, Agrees}
use Rattle.wq_rescuer.specs.Executing.{no_counts}
use Rattle.wq_script.specs.declared.acting.Act.{Act}
use Rattle.wq_script.specs.Acts.{CountsActs}
use Rattle.wq_script.specs.Crews.{every_second, queued_then_flushed, shared_by_two}
use Rattle.wq_run.proofs.Balances.{once}
use Rattle.wq_run.proofs.CrewCounts.{callers_once}
use Rattle.wq_run.specs.Running.{HaveMade, QueuesNothing, EachOnce}

-- two callers have two seats
two_seats : (w : Wiring) (a b : List Act) (seats : List (List ℕ)) → HaveMade w (a ∷ b ∷ []) seats
    → (one : List ℕ) × (other : List ℕ) × (seats ≡ one ∷ other ∷ []) × CountsActs w (no_counts w) one a
    × CountsActs w (no_counts w) other b
two_seats w a b [] made = absurd made
two_seats w a b (one ∷ []) made = absurd made.1
two_seats w a b (one ∷ other ∷ []) made = (one, other, refl, made.0, made.1.0)
two_seats w a b (one ∷ other ∷ more ∷ rest) made = absurd made.1.1

-- what the seats of the contexts and of both callers count
sum_of_seats : (f : List ℕ → ℕ) (k : ℕ) (seats : List (List ℕ)) (one other : List ℕ) → drop k seats ≡ one ∷ other ∷ []
    → sum_by f (take k seats) ≡ 0 → sum_by f seats ≡ f one + f other
sum_of_seats f k seats one other are none =
    let parts : sum_by f seats ≡ sum_by f (take k seats ++ drop k seats) =
    ap (sum_by f) (sym (take-append-drop k seats)) in
    let two : sum_by f (one ∷ other ∷ []) ≡ f one + f other =
    omega (arith, sum_by-cons f one (other ∷ []), sum_by-cons f other []) in
    omega (arith, parts, sum_by-append f (take k seats) (drop k seats), none, ap (sum_by f) are, two)

pub each_once : (w : Wiring) (rows n k : ℕ) (seats : List (List ℕ)) (book : BookView) (counts : List ℕ)
    → w.helpers ≤ max_helpers
    → items w ≡ n → QueuesNothing (take k seats) → HaveMade w (shared_by_two n) (drop k seats)
    → IsClosed w rows seats book counts true → EachOnce book n
each_once w rows n k seats book counts few of_items none called closed i below =
    let (one, other, are, first, second) =
    two_seats w (queued_then_flushed (every_second 0 n)) (queued_then_flushed (every_second 1 n)) (drop k seats)
    called in
    let calls = callers_once w n i one other below first second in
    let there : i < items w = omega (arith, below, of_items) in
    let agrees : Agrees w book counts = closed.agrees.0 refl in
    let queued : (said : Bool) → tally book.rows i Queue said ≡ made one i Queue said + made other i Queue said =
    λ said. sym (agrees.0 i Queue said there) ∙ closed.sums (place i Queue said)
    ∙ sum_of_seats (λ (seat : List ℕ). made seat i Queue said) k seats one other are (none i said).0 in
    let cancelled : tally book.rows i Cancel true ≡ made one i Cancel true + made other i Cancel true =
    sym (agrees.0 i Cancel true there) ∙ closed.sums (place i Cancel true)
    ∙ sum_of_seats (λ (seat : List ℕ). made seat i Cancel true) k seats one other are (none i true).1 in
    let never : tally book.rows i Cancel true ≡ 0 = omega (arith, cancelled, calls.1, calls.2) in
    let helpers : book.wiring.helpers ≤ max_helpers =
    subst (λ (x : Wiring). x.helpers ≤ max_helpers) (sym closed.of_wiring) few in
    let both = once book.wiring closed.legal.wiring helpers i book.rows closed.legal.legal closed.idle
    (omega (arith, queued true, queued false, calls.0)) never in
    (both.0, never, both.1)
