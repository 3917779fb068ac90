-- Lanes without helpers: if their rescuer finds nothing to start, they are idle.
use Rattle.std.proofs.Common.{◌≡◌, ℕ, zero, suc, ◌≤◌, not, List, [], ◌∷◌, length, get_or, replicate, refl, sym, ap, ap₂}
use Rattle.std.proofs.Common.{◌∙◌, arith, Option, Some, None, find}
use Rattle.wq_history.proofs.Words.{Entry, Running, max_helpers, helpers_of, Lane, lane_at, idle_lane, run_by, RunsIn}
use Rattle.wq_history.proofs.Words.{is_running, next_of, IsSoundState, BookView, state, IsBook, HasNothingToStart}
use Rattle.wq_core.proofs.Contexts.{helpers_of-few, none_passes, is_running-some}
use Rattle.wq_history.proofs.LegalRows.{IsSoundState-legal}

nothing_there : {X : Type 0} (o : Option X) → ((x : X) → ¬ (o ≡ Some x)) → o ≡ None
nothing_there None never = refl
nothing_there (Some x) never = absurd (never x refl)

-- places at which there is nothing
empty_places : (os : List (Option Running)) (n : ℕ) → length os ≡ n → ((h : ℕ) → get_or os h None ≡ None) → os ≡ replicate n None
empty_places [] zero long none = refl
empty_places [] (suc n) long none = absurd (omega (arith, long))
empty_places (o ∷ os) zero long none = absurd (omega (arith, long))
empty_places (o ∷ os) (suc n) long none = ap₂ (λ (x : Option Running) (xs : List (Option Running)). x ∷ xs) (none 0) (empty_places os n (omega (arith, long)) (λ h. none (suc h)))

-- nothing runs on the lane
abbrev IsStill : Lane → Type 0
IsStill lane = (c : ℕ) (r : Running) → ¬ RunsIn lane c r

-- then the first pending entry may be started, if there is one
nothing_pending : (lane : Lane) (ps : List Entry) → IsStill lane → find (λ (e : Entry). not (is_running lane e.item)) ps ≡ None → ps ≡ []
nothing_pending lane [] still none = refl
nothing_pending lane (e ∷ ps) still none =
    let found = is_running-some lane e.item (none_passes (e ∷ ps) (is_running lane) none e (0, omega arith, refl)) in absurd (still found.0 found.1 found.2)

same_lane : (ps : List Entry) (r : Option Running) (os : List (Option Running)) → ps ≡ [] → r ≡ None → os ≡ replicate max_helpers None
    → record { pending = ps; running = r; helping = os } ≡ idle_lane
same_lane ps r os no_entries nothing no_helpers =
    ap (λ (x : List Entry). record { pending = x; running = r; helping = os }) no_entries
    ∙ ap₂ (λ (x : Option Running) (y : List (Option Running)). record { pending = []; running = x; helping = y }) nothing no_helpers

still_idle : (lane : Lane) → length lane.helping ≡ max_helpers → IsStill lane → next_of lane ≡ None → lane ≡ idle_lane
still_idle lane places still none =
    same_lane lane.pending lane.running lane.helping (nothing_pending lane lane.pending still none) (nothing_there lane.running (λ r. still 0 r))
    (empty_places lane.helping max_helpers places (λ h. nothing_there (get_or lane.helping h None) (λ r. still (suc h) r)))

-- without helpers nothing runs if the rescuer runs nothing
nothing_runs : (lane : Lane) (helpers c : ℕ) (r : Running) → helpers ≡ 0 → run_by lane 0 ≡ None → c ≤ helpers → ¬ RunsIn lane c r
nothing_runs lane helpers zero r none idle few runs = let never : None ≡ Some r = sym idle ∙ runs in cc
nothing_runs lane helpers (suc h) r none idle few runs = absurd (omega (arith, none, few))

pub idle-of_lane : (b : BookView) (q : ℕ) → IsBook b → helpers_of b.wiring q ≡ 0 → HasNothingToStart b q 0 → lane_at (state b) q ≡ idle_lane
idle-of_lane b q book none nothing =
    let sound : IsSoundState b.wiring (state b) = IsSoundState-legal b.wiring b.rows book.legal in
    let lane = lane_at (state b) q in
    still_idle lane (sound.places q) (λ c r runs. nothing_runs lane (helpers_of b.wiring q) c r none nothing.1 (sound.helpers q c r runs) runs) nothing.2

pub idle-of_wiring : (b : BookView) (q : ℕ) → IsBook b → b.wiring.helpers ≡ 0 → HasNothingToStart b q 0 → lane_at (state b) q ≡ idle_lane
idle-of_wiring b q book none nothing = idle-of_lane b q book (omega (arith, helpers_of-few b.wiring q, none)) nothing
