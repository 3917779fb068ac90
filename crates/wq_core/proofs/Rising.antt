-- Entries of a lane, whose numbers rise: after a step, and when one of them is removed.
use Rattle.std.proofs.Common.{◌≡◌, ◌≢◌, ℕ, zero, suc, ◌<◌, ◌≤◌, ◌-◌, ◌⊎◌, inl, inr, true, false, not, eqb, ltb, List, [], ◌∷◌, length, get_or, Option, Some, None, refl, sym, ap, subst, ◌∙◌, arith}
use Rattle.std.specs.Prelude.{AllPairs, Contains, remove, slice_get, option_map, find}
use Rattle.std.specs.List.{All, filter}
use Rattle.std.specs.List.Sorted.{IsPartitionPoint, IsNonDecreasingBy}
use Rattle.std.proofs.Math.ListN.{get_or-eq_default}
use Rattle.std.proofs.lemmas.Bool.{cases_lt, cond-true, cond-false, eq-eqb, ne_eqb}
use Rattle.std.proofs.lemmas.List.Elements.{All-head, All-tail, Contains-get_or}
use Rattle.std.proofs.lemmas.List.Quantifiers.{all_pairs_push}
use Rattle.std.proofs.lemmas.List.Kept.{AllPairs-filter}
use borrow.Author.Tests.{ltb-true}
use Rattle.wq_items.proofs.Lists.{AllPairs-head, AllPairs-tail}
use Rattle.wq_core.specs.declared.entry.Entry.{Entry}
use Rattle.wq_core.specs.declared.entry.Running.{Running}
use Rattle.wq_core.specs.declared.step.Step.{Step}
use Rattle.wq_core.specs.declared.step.Step.TheVariants.{Queue, Cancel, Start, Wait, Over, WaitAll, OverAll, Finish, Help}
use Rattle.wq_core.specs.declared.step.HelpStep.{HelpStep}
use Rattle.wq_core.specs.declared.step.HelpStep.TheVariants.{Start as DoStart, Wait as DoWait, WaitAll as DoWaitAll, Over as DoOver, OverAll as DoOverAll, Finish as DoFinish}
use Rattle.wq_core.specs.Wiring.{Wiring, lane_of}
use Rattle.wq_core.specs.State.{Lane, State, lane_at, with_lane, run_by, with_run_by, pending_of}
use Rattle.wq_core.specs.Rules.{effect, done_by, begun, waiting_for, going_on, with_queued, with_cancelled, with_started, with_wait, with_over, with_finished}
use Rattle.wq_core.specs.Held.{IsSoundState, IsRising}
use Rattle.wq_core.proofs.Contexts.{pending_kept}
use Rattle.wq_core.proofs.LaneLemmas.{cases_with_lane, AllPairs-nil}
use Rattle.wq_core.proofs.Sound.{Differ}

-- two entries of one lane, in order
abbrev Rise : Entry → Entry → Type 0
Rise e f = e.number < f.number

-- ---- one entry, found by its number

pub IsNonDecreasingBy-rising : (ps : List Entry) → IsRising ps → IsNonDecreasingBy (λ (e : Entry). e.number) ps
IsNonDecreasingBy-rising ps rising i j d le within = elim (cases_lt i j) [
  | inl less ↦ let lt = rising i j d less within in omega arith
  | inr no_less ↦ let same : i ≡ j = omega arith in subst (λ k. (get_or ps i d).number ≤ (get_or ps k d).number) same (omega arith)
]

-- an entry is at the place where the numbers reach its own
pub place_of : (ps : List Entry) (e : Entry) (k : ℕ) → IsRising ps → IsPartitionPoint (λ (f : Entry). ltb f.number e.number ≡ true) (λ (f : Entry). ltb f.number e.number ≡ false) ps k → Contains ps e
    → (k < length ps) × (get_or ps k e ≡ e)
place_of ps e k rising point (j, within, is) = elim (cases_lt j k) [
  | inl before ↦ (
      let low : ltb (get_or ps j e).number e.number ≡ true = point.0 j e (omega arith) before in
      let less : e.number < e.number = subst (λ (f : Entry). f.number < e.number) is (ltb-true (get_or ps j e).number e.number low) in
      absurd (omega arith)
      )
  | inr no_before ↦ elim (cases_lt k j) [
    | inl behind ↦ (
        let high : ltb (get_or ps k e).number e.number ≡ false = point.1 k e (omega arith) (omega arith) in
        let less : (get_or ps k e).number < e.number = subst (λ (f : Entry). (get_or ps k e).number < f.number) is (rising k j e behind within) in
        absurd (grind (arith, high, less))
        )
    | inr no_behind ↦ let same : j ≡ k = omega arith in (omega arith, subst (λ m. get_or ps m e ≡ e) same is)
  ]
]

-- ---- the last entry below a mark

-- the numbers reach the mark at place k
abbrev pub Reach : List Entry → ℕ → ℕ → Type 0
Reach ps mark k = IsPartitionPoint (λ (f : Entry). ltb f.number mark ≡ true) (λ (f : Entry). ltb f.number mark ≡ false) ps k

-- there is an entry before that place, and it has a number below the mark
pub before_mark : (ps : List Entry) (mark k : ℕ) (d : Entry) → Reach ps mark k → 0 < k → Contains ps (get_or ps (k - 1) d) × ((get_or ps (k - 1) d).number < mark)
before_mark ps mark k d point some = (Contains-get_or ps (k - 1) d (within (cases_lt (k - 1) (length ps))), below d) where
  below : (f : Entry) → (get_or ps (k - 1) f).number < mark
  below f = ltb-true (get_or ps (k - 1) f).number mark (point.0 (k - 1) f (omega arith) (omega arith))

  within : (k - 1 < length ps) ⊎ (length ps ≤ k - 1) → k - 1 < length ps
  within (inl less) = less
  within (inr past) =
      let high : Entry = record { number = mark; item = 0 } in
      let outside : get_or ps (k - 1) high ≡ high = get_or-eq_default ps high (omega arith) in
      let less : mark < mark = subst (λ (f : Entry). f.number < mark) outside (below high) in
      absurd (omega arith)

-- if there is none before it, the first entry hasn't
pub first-no_less : (ps : List Entry) (mark k : ℕ) → Reach ps mark k → k ≤ 0 → (e : Entry) → slice_get ps 0 ≡ Some e → ¬ (e.number < mark)
first-no_less [] mark k point none e first below = cc
first-no_less (p ∷ ps) mark k point none e first below =
    let same : p ≡ e = cc in
    let high : ltb p.number mark ≡ false = point.1 0 p (omega arith) (omega arith) in
    let less : p.number < mark = subst (λ (f : Entry). f.number < mark) (sym same) below in
    absurd (grind (arith, high, less))

-- ---- removing an item's entry

all_pass : (i : ℕ) (ps : List Entry) → All (λ (e : Entry). e.item ≢ i) ps → filter (λ (e : Entry). not (eqb e.item i)) ps ≡ ps
all_pass i [] differ = refl
all_pass i (p ∷ ps) differ =
    let others : List Entry → List Entry = λ (es : List Entry). filter (λ (e : Entry). not (eqb e.item i)) es in
    let here : not (eqb p.item i) ≡ true = ap not (ne_eqb p.item i (All-head (λ (e : Entry). e.item ≢ i) p ps differ)) in
    cond-true (not (eqb p.item i)) (p ∷ others ps) (others ps) here ∙ ap (λ (es : List Entry). p ∷ es) (all_pass i ps (All-tail (λ (e : Entry). e.item ≢ i) p ps differ))

-- if each item has at most one entry, removing an item's entry leaves those of the other items
pub remove-others : (i : ℕ) (ps : List Entry) (k : ℕ) (d : Entry) → k < length ps → (get_or ps k d).item ≡ i → AllPairs Differ ps → remove ps k ≡ filter (λ (e : Entry). not (eqb e.item i)) ps
remove-others i [] k d within is once = absurd (omega arith)
remove-others i (p ∷ ps) zero d within is once =
    let others : List Entry → List Entry = λ (es : List Entry). filter (λ (e : Entry). not (eqb e.item i)) es in
    let here : not (eqb p.item i) ≡ false = ap not (eq-eqb p.item i is) in
    let rest : others ps ≡ ps = all_pass i ps (λ m c fits same. AllPairs-head Differ p ps once m c fits (is ∙ sym same)) in
    sym (cond-false (not (eqb p.item i)) (p ∷ others ps) (others ps) here ∙ rest)
remove-others i (p ∷ ps) (suc k) d within is once =
    let others : List Entry → List Entry = λ (es : List Entry). filter (λ (e : Entry). not (eqb e.item i)) es in
    let there : k < length ps = omega arith in
    let here : not (eqb p.item i) ≡ true = ap not (ne_eqb p.item i (λ same. AllPairs-head Differ p ps once k d there (same ∙ sym is))) in
    ap (λ (es : List Entry). p ∷ es) (remove-others i ps k d there is (AllPairs-tail Differ p ps once)) ∙ sym (cond-true (not (eqb p.item i)) (p ∷ others ps) (others ps) here)

-- the pending entry of its item is this one
pub found-one : (ps : List Entry) (e : Entry) → AllPairs Differ ps → Contains ps e → find (λ (f : Entry). eqb f.item e.item) ps ≡ Some e
found-one [] e once (k, lt, at) = absurd (omega arith)
found-one (p ∷ ps) e once (zero, lt, at) =
    let same : eqb p.item e.item ≡ true = eq-eqb p.item e.item (ap (λ (f : Entry). f.item) at) in
    cond-true (eqb p.item e.item) (Some p) (find (λ (f : Entry). eqb f.item e.item) ps) same ∙ ap Some at
found-one (p ∷ ps) e once (suc k, lt, at) =
    let there : k < length ps = omega arith in
    let other : p.item ≢ e.item = λ same. AllPairs-head Differ p ps once k e there (same ∙ sym (ap (λ (f : Entry). f.item) at)) in
    cond-false (eqb p.item e.item) (Some p) (find (λ (f : Entry). eqb f.item e.item) ps) (ne_eqb p.item e.item other) ∙ found-one ps e (AllPairs-tail Differ p ps once) (k, there, at)

-- ---- after a step

IsRising-with_lane : (s : State) (q : ℕ) (lane : Lane) → IsRising lane.pending → ((p : ℕ) → IsRising (lane_at s p).pending) → (p : ℕ) → IsRising (lane_at (with_lane s q lane) p).pending
IsRising-with_lane s q lane new each p = elim (cases_with_lane s q lane p) [
  | inl same ↦ subst (λ (l : Lane). IsRising l.pending) (sym same) (each p)
  | inr there ↦ subst (λ (l : Lane). IsRising l.pending) (sym there.1) new
]

pub IsRising-nil : IsRising []
IsRising-nil = AllPairs-nil Rise

-- without an item's entries
rising_others : (ps : List Entry) (i : ℕ) → IsRising ps → IsRising (filter (λ (e : Entry). not (eqb e.item i)) ps)
rising_others ps i rising = AllPairs-filter Rise (λ (e : Entry). not (eqb e.item i)) ps rising

-- where another context runs something, the same entries are pending
rising_run_by : (lane : Lane) (c : ℕ) (o : Option Running) → IsRising lane.pending → IsRising (with_run_by lane c o).pending
rising_run_by lane c o rising = subst IsRising (sym (pending_kept lane c o)) rising

module _ (s : State) (each : (p : ℕ) → IsRising (lane_at s p).pending) (q c : ℕ) where
  abbrev own : Lane
  own = lane_at s q

  rising_deed : (deed : HelpStep) (p : ℕ) → IsRising (lane_at (done_by s q c deed) p).pending
  rising_deed (DoStart i) = IsRising-with_lane s q (with_started c i own) (rising_run_by (with_cancelled i own) c (option_map begun (pending_of own i)) (rising_others own.pending i (each q))) each
  rising_deed (DoWait b) = IsRising-with_lane s q (with_wait c false b s.next own) (rising_run_by own c (option_map (waiting_for false b s.next) (run_by own c)) (each q)) each
  rising_deed (DoWaitAll b) = IsRising-with_lane s q (with_wait c true b s.next own) (rising_run_by own c (option_map (waiting_for true b s.next) (run_by own c)) (each q)) each
  rising_deed (DoOver b) = IsRising-with_lane s q (with_over c own) (rising_run_by own c (option_map going_on (run_by own c)) (each q)) each
  rising_deed (DoOverAll b) = IsRising-with_lane s q (with_over c own) (rising_run_by own c (option_map going_on (run_by own c)) (each q)) each
  rising_deed (DoFinish i) = IsRising-with_lane s q (with_finished c own) (rising_run_by own c None (each q)) each

pub IsRising-effect : (w : Wiring) (s : State) (step : Step) → IsSoundState w s → ((p : ℕ) → IsRising (lane_at s p).pending) → (p : ℕ) → IsRising (lane_at (effect w s step) p).pending
IsRising-effect w s (Queue i) sound each =
    let q : ℕ = lane_of w i in
    let ps : List Entry = (lane_at s q).pending in
    let e : Entry = record { number = s.next; item = i } in
    let last : (k : ℕ) (d : Entry) → k < length ps → Rise (get_or ps k d) e = λ k d lt. sound.given q (get_or ps k d) (inl (Contains-get_or ps k d lt)) in
    IsRising-with_lane s q (with_queued e (lane_at s q)) (all_pairs_push Rise ps e (each q) last) each
IsRising-effect w s (Cancel i) sound each =
    let q : ℕ = lane_of w i in
    IsRising-with_lane s q (with_cancelled i (lane_at s q)) (rising_others (lane_at s q).pending i (each q)) each
IsRising-effect w s (Start q i) sound each = rising_deed s each q 0 (DoStart i)
IsRising-effect w s (Wait q b) sound each = rising_deed s each q 0 (DoWait b)
IsRising-effect w s (WaitAll q b) sound each = rising_deed s each q 0 (DoWaitAll b)
IsRising-effect w s (Over q b) sound each = rising_deed s each q 0 (DoOver b)
IsRising-effect w s (OverAll q b) sound each = rising_deed s each q 0 (DoOverAll b)
IsRising-effect w s (Finish q i) sound each = rising_deed s each q 0 (DoFinish i)
IsRising-effect w s (Help q h deed) sound each = rising_deed s each q h deed
