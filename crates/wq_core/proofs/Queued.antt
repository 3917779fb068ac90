-- Queueings in a row: what is pending after them, lane by lane.
use Rattle.std.proofs.Common.{◌≡◌, ◌≢◌, ℕ, zero, suc, ◌<◌, ◌⊎◌, inl, inr, Bool, true, false, cond, eqb, List, [], ◌∷◌, ◌++◌, length, map, append_assoc, refl, sym, ap, subst, ◌∙◌, arith}
use Rattle.std.specs.Prelude.{AllPairs, Contains}
use Rattle.std.specs.List.{All, count_by, filter}
use Rattle.std.proofs.lemmas.Bool.{cases_eq, cond-true, cond-false, eq-eqb, ne_eqb}
use Rattle.std.proofs.lemmas.List.{append-nil, length-set}
use Rattle.std.proofs.lemmas.List.Elements.{All-head, All-tail, Contains-push_cases}
use Rattle.std.proofs.lemmas.List.Sums.{sum_by-cons}
use Rattle.wq_items.proofs.Lists.{Contains-later, AllPairs-head, AllPairs-tail}
use Rattle.wq_core.specs.declared.entry.Entry.{Entry}
use Rattle.wq_core.specs.declared.step.Step.{Step}
use Rattle.wq_core.specs.declared.step.Step.TheVariants.{Queue}
use Rattle.wq_core.specs.Wiring.{Wiring, items, lane_of}
use Rattle.wq_core.specs.State.{Lane, State, lane_at, with_lane, IsPendingOn, HasPending}
use Rattle.wq_core.specs.Rules.{with_queued, effect}
use Rattle.wq_core.specs.Runs.{after, IsRunFrom, queues}
use Rattle.wq_core.proofs.LaneLemmas.{cases_with_lane, lane_at-with_lane_same, lane_at-with_lane_other}

-- the items whose entries are pending on lane q, in their order
abbrev pub pending_items : State → ℕ → List ℕ
pending_items s q = map (λ (e : Entry). e.item) (lane_at s q).pending

-- those of these items that are on lane q
abbrev pub on_lane : Wiring → ℕ → List ℕ → List ℕ
on_lane w q is = filter (λ i. eqb (lane_of w i) q) is

-- ---- one queueing

map-push : (f : Entry → ℕ) (es : List Entry) (e : Entry) → map f (es ++ (e ∷ [])) ≡ map f es ++ (f e ∷ [])
map-push f [] e = refl
map-push f (x ∷ es) e = ap (λ (is : List ℕ). f x ∷ is) (map-push f es e)

pending_items-queued : (w : Wiring) (s : State) (i q : ℕ) → lane_of w i < length s.lanes
    → pending_items (effect w s (Queue i)) q ≡ pending_items s q ++ cond (eqb (lane_of w i) q) (i ∷ []) []
pending_items-queued w s i q within =
    let item : Entry → ℕ = λ (e : Entry). e.item in
    let new : Lane = with_queued (record { number = s.next; item = i }) (lane_at s (lane_of w i)) in
    elim (cases_eq (lane_of w i) q) [
      | inl same ↦ (
          let at : lane_at (with_lane s (lane_of w i) new) q ≡ new = subst (λ (p : ℕ). lane_at (with_lane s (lane_of w i) new) p ≡ new) same (lane_at-with_lane_same s (lane_of w i) new within) in
          ap (λ (l : Lane). map item l.pending) at
          ∙ map-push item (lane_at s (lane_of w i)).pending (record { number = s.next; item = i })
          ∙ ap (λ (p : ℕ). pending_items s p ++ (i ∷ [])) same
          ∙ ap (λ (is : List ℕ). pending_items s q ++ is) (sym (cond-true (eqb (lane_of w i) q) (i ∷ []) [] (eq-eqb (lane_of w i) q same)))
          )
      | inr other ↦ (
          let at : lane_at (with_lane s (lane_of w i) new) q ≡ lane_at s q = lane_at-with_lane_other s (lane_of w i) new q (λ e. other (sym e)) in
          ap (λ (l : Lane). map item l.pending) at
          ∙ sym (append-nil (pending_items s q))
          ∙ ap (λ (is : List ℕ). pending_items s q ++ is) (sym (cond-false (eqb (lane_of w i) q) (i ∷ []) [] (ne_eqb (lane_of w i) q other)))
          )
    ]

running-queued : (w : Wiring) (s : State) (i q : ℕ) → (lane_at (effect w s (Queue i)) q).running ≡ (lane_at s q).running
running-queued w s i q =
    let new : Lane = with_queued (record { number = s.next; item = i }) (lane_at s (lane_of w i)) in
    elim (cases_with_lane s (lane_of w i) new q) [
      | inl same ↦ ap (λ (l : Lane). l.running) same
      | inr there ↦ ap (λ (l : Lane). l.running) there.1 ∙ ap (λ (p : ℕ). (lane_at s p).running) (sym there.0)
    ]

HasPending-queued : (w : Wiring) (s : State) (i j : ℕ) → HasPending (effect w s (Queue i)) j → HasPending s j ⊎ (i ≡ j)
HasPending-queued w s i j h =
    let e : Entry = record { number = s.next; item = i } in
    let new : Lane = with_queued e (lane_at s (lane_of w i)) in
    elim (cases_with_lane s (lane_of w i) new h.lane) [
      | inl same ↦ inl (record { lane = h.lane; entry = h.entry; pending = subst (λ (l : Lane). IsPendingOn l h.entry) same h.pending; of_item = h.of_item })
      | inr there ↦ elim (Contains-push_cases (lane_at s (lane_of w i)).pending e h.entry (subst (λ (l : Lane). IsPendingOn l h.entry) there.1 h.pending)) [
        | inl before ↦ inl (record { lane = lane_of w i; entry = h.entry; pending = before; of_item = h.of_item })
        | inr same ↦ inr (ap (λ (f : Entry). f.item) same ∙ h.of_item)
      ]
    ]

-- ---- queueings in a row

front_or_none : (b : Bool) (i : ℕ) (is : List ℕ) → cond b (i ∷ []) [] ++ is ≡ cond b (i ∷ is) is
front_or_none true i is = refl
front_or_none false i is = refl

pub pending_items-all_queued : (w : Wiring) (is : List ℕ) (s : State) (q : ℕ) → All (λ i. lane_of w i < length s.lanes) is
    → pending_items (after w s (map Queue is)) q ≡ pending_items s q ++ on_lane w q is
pending_items-all_queued w [] s q within = sym (append-nil (pending_items s q))
pending_items-all_queued w (i ∷ is) s q within =
    let next : State = effect w s (Queue i) in
    let size : length next.lanes ≡ length s.lanes = length-set s.lanes (lane_of w i) (with_queued (record { number = s.next; item = i }) (lane_at s (lane_of w i))) in
    let later : All (λ j. lane_of w j < length next.lanes) is = subst (λ (n : ℕ). All (λ j. lane_of w j < n) is) (sym size) (All-tail (λ j. lane_of w j < length s.lanes) i is within) in
    let here : lane_of w i < length s.lanes = All-head (λ j. lane_of w j < length s.lanes) i is within in
    pending_items-all_queued w is next q later
    ∙ ap (λ (js : List ℕ). js ++ on_lane w q is) (pending_items-queued w s i q here)
    ∙ append_assoc (pending_items s q) (cond (eqb (lane_of w i) q) (i ∷ []) []) (on_lane w q is)
    ∙ ap (λ (js : List ℕ). pending_items s q ++ js) (front_or_none (eqb (lane_of w i) q) i (on_lane w q is))

pub running-all_queued : (w : Wiring) (is : List ℕ) (s : State) (q : ℕ) → (lane_at (after w s (map Queue is)) q).running ≡ (lane_at s q).running
running-all_queued w [] s q = refl
running-all_queued w (i ∷ is) s q = running-all_queued w is (effect w s (Queue i)) q ∙ running-queued w s i q

-- different items can be queued one after another, if none of them is pending
pub IsRunFrom-queued : (w : Wiring) (is : List ℕ) (s : State) → All (λ i. i < items w) is → AllPairs (λ i j. i ≢ j) is
    → ((i : ℕ) → Contains is i → ¬ HasPending s i) → IsRunFrom w s (map Queue is)
IsRunFrom-queued w [] s below differ none = tt
IsRunFrom-queued w (i ∷ is) s below differ none =
    ((All-head (λ j. j < items w) i is below, none i (0, omega arith, refl)), IsRunFrom-queued w is (effect w s (Queue i)) (All-tail (λ j. j < items w) i is below) (AllPairs-tail (λ a b. a ≢ b) i is differ) later)
  where
    later : (j : ℕ) → Contains is j → ¬ HasPending (effect w s (Queue i)) j
    later j there pending = elim (HasPending-queued w s i j pending) [
      | inl before ↦ none j (Contains-later i is j there) before
      | inr same ↦ AllPairs-head (λ a b. a ≢ b) i is differ there.0 j there.1 (same ∙ sym there.2)
    ]

-- ---- how often an item is queued

-- what a test counts for
abbrev pub one_if : Bool → ℕ
one_if b = cond b 1 0

count_by-queues_none : (i : ℕ) (is : List ℕ) → All (λ j. j ≢ i) is → count_by (λ (step : Step). queues i step) (map Queue is) ≡ 0
count_by-queues_none i [] none = refl
count_by-queues_none i (j ∷ is) none =
    let test : Step → Bool = λ (step : Step). queues i step in
    let all = sum_by-cons (λ (step : Step). one_if (test step)) (Queue j) (map Queue is) in
    let first : one_if (eqb j i) ≡ 0 = cond-false {A = ℕ} (eqb j i) 1 0 (ne_eqb j i (All-head (λ k. k ≢ i) j is none)) in
    let rest : count_by test (map Queue is) ≡ 0 = count_by-queues_none i is (All-tail (λ k. k ≢ i) j is none) in
    omega (arith, all, first, rest)

pub count_by-queues_one : (i : ℕ) (is : List ℕ) → AllPairs (λ j k. j ≢ k) is → Contains is i → count_by (λ (step : Step). queues i step) (map Queue is) ≡ 1
count_by-queues_one i [] differ (k, lt, at) = absurd (omega arith)
count_by-queues_one i (j ∷ is) differ (zero, lt, at) =
    let test : Step → Bool = λ (step : Step). queues i step in
    let all = sum_by-cons (λ (step : Step). one_if (test step)) (Queue j) (map Queue is) in
    let first : one_if (eqb j i) ≡ 1 = cond-true {A = ℕ} (eqb j i) 1 0 (eq-eqb j i at) in
    let rest : count_by test (map Queue is) ≡ 0 = count_by-queues_none i is (λ k d fits same. AllPairs-head (λ a b. a ≢ b) j is differ k d fits (at ∙ sym same)) in
    omega (arith, all, first, rest)
count_by-queues_one i (j ∷ is) differ (suc k, lt, at) =
    let test : Step → Bool = λ (step : Step). queues i step in
    let all = sum_by-cons (λ (step : Step). one_if (test step)) (Queue j) (map Queue is) in
    let within : k < length is = omega arith in
    let first : one_if (eqb j i) ≡ 0 = cond-false {A = ℕ} (eqb j i) 1 0 (ne_eqb j i (λ same. AllPairs-head (λ a b. a ≢ b) j is differ k i within (same ∙ sym at))) in
    let rest : count_by test (map Queue is) ≡ 1 = count_by-queues_one i is (AllPairs-tail (λ a b. a ≢ b) j is differ) (k, within, at) in
    omega (arith, all, first, rest)
