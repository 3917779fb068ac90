-- In a legal history what was queued of an item was cancelled or finished, or is unfinished.
use Rattle.std.proofs.Common.{◌≡◌, ℕ, zero, suc, ◌+◌, ◌*◌, ◌<◌, ◌≤◌, ◌⊎◌, inl, inr, Bool, true, false, cond, eqb}
use Rattle.std.proofs.Common.{◌&&◌, List, [], ◌∷◌, ◌++◌, length, get_or, append_assoc, Option, Some, None, refl, sym}
use Rattle.std.proofs.Common.{ap, subst, ◌∙◌, arith}
use Rattle.std.specs.Prelude.{sum_by, Contains}
use Rattle.std.proofs.lemmas.Bool.{eq-eqb, eqb-true}
use Rattle.std.proofs.lemmas.List.{append-nil}
use Rattle.std.proofs.lemmas.List.Sums.{sum_by-cons, get_or-le-sum_by}
use Rattle.std.proofs.lemmas.List.Folds.{sum_by-replicate}
use Rattle.wq_core.specs.declared.entry.Entry.{Entry}
use Rattle.wq_core.specs.declared.entry.Running.{Running}
use Rattle.wq_core.specs.declared.step.Step.{Step}
use Rattle.wq_core.specs.declared.step.HelpStep.TheVariants.{Start as DoStart, Wait as DoWait, WaitAll as DoWaitAll}
use Rattle.wq_core.specs.declared.step.HelpStep.TheVariants.{Over as DoOver, OverAll as DoOverAll, Finish as DoFinish}
use Rattle.wq_core.specs.Wiring.{Wiring, IsWiring, max_helpers}
use Rattle.wq_core.specs.State.{Lane, State, idle_lane, lane_at, empty_state, HasPending, HasUnfinished, IsUnfinishedOn}
use Rattle.wq_core.proofs.LaneLemmas.{lane_within}
use Rattle.wq_rows.specs.declared.event.Event.{Event}
use Rattle.wq_rows.specs.declared.event.Event.TheVariants.{Queue, Cancel, Start, Wait, Over, Finish, Ask, Told}
use Rattle.wq_rows.specs.declared.event.Event.TheVariants.{WaitAll, OverAll, AskLane, ToldLane, Help}
use Rattle.wq_rows.specs.declared.event.Row.{Row}
use Rattle.wq_counts.specs.declared.kind.Kind.{Kind}
use Rattle.wq_counts.specs.declared.kind.Kind.TheVariants.{Queue as QueueKind, Cancel as CancelKind}
use Rattle.wq_counts.specs.declared.kind.Kind.TheVariants.{Finish as FinishKind}
use Rattle.wq_counts.specs.Counting.{is_of, tally}
use Rattle.wq_history.specs.Events.{step_of, subject_in}
use Rattle.wq_history.specs.History.{state_after, asks_waiting, MayComeIn, MayFollow, IsLegal}
use Rattle.wq_history.proofs.Histories.{state_after-step, state_after-none, MayCome-lawful}
use Rattle.wq_history.proofs.LegalRows.{IsLegal-prefix, IsLegal-last, IsSoundState-legal}
use Rattle.wq_history.proofs.Counting.{count-more}
use Rattle.wq_run.proofs.ItemsLeft.{entry_left, run_left, lane_left, left, adds, takes, left_effect}

-- 1 if it is so
abbrev one_where : Bool → ℕ
one_where b = cond b 1 0

-- one item counts
abbrev pub only : ℕ → ℕ → ℕ
only i j = one_where (eqb j i)

and_true : (b : Bool) → (b && true) ≡ b
and_true true = refl
and_true false = refl

and_false : (b : Bool) → (b && false) ≡ false
and_false true = refl
and_false false = refl

-- ---- a row

-- whether the row is of the item and this kind, with a yes
abbrev hit : ℕ → Kind → Event → Bool → ℕ → ℕ
hit i kind event said n = one_where (is_of i kind true (record { event = event; yes = said; number = n }))

-- it counts what its step adds and takes away
abbrev Balanced : ℕ → Event → Bool → ℕ → Option Step → Type 0
Balanced i event said n None =
    (hit i QueueKind event said n ≡ 0) × (hit i CancelKind event said n + hit i FinishKind event said n ≡ 0)
Balanced i event said n (Some step) =
    (hit i QueueKind event said n ≡ adds (only i) step)
    × (hit i CancelKind event said n + hit i FinishKind event said n ≡ takes (only i) step)

one_if : (i j : ℕ) → one_where (eqb j i && true) ≡ only i j
one_if i j = ap one_where (and_true (eqb j i))

none_if : (i j : ℕ) → one_where (eqb j i && false) ≡ 0
none_if i j = ap one_where (and_false (eqb j i))

balanced : (w : Wiring) (s : State) (waiting i : ℕ) (event : Event) (said : Bool) (n : ℕ)
    → MayComeIn w s waiting event said n
    → Balanced i event said n (step_of event said)
balanced w s waiting i (Queue j) true n may = (one_if i j, refl)
balanced w s waiting i (Queue j) false n may = (none_if i j, refl)
balanced w s waiting i (Cancel j) true n may = (refl, omega (arith, one_if i j))
balanced w s waiting i (Cancel j) false n may = (refl, omega (arith, none_if i j))
balanced w s waiting i (Start q j) said n may = (refl, refl)
balanced w s waiting i (Wait q b) said n may = (refl, refl)
balanced w s waiting i (Over q b) said n may = (refl, refl)
balanced w s waiting i (WaitAll q b) said n may = (refl, refl)
balanced w s waiting i (OverAll q b) said n may = (refl, refl)
balanced w s waiting i (Finish q j) true n may = (refl, omega (arith, one_if i j))
balanced w s waiting i (Finish q j) false n may = absurd (let never : false ≡ true = may.0 in cc)
balanced w s waiting i (Ask j) said n may = (refl, refl)
balanced w s waiting i (Told j) said n may = (refl, refl)
balanced w s waiting i (AskLane q) said n may = (refl, refl)
balanced w s waiting i (ToldLane q) said n may = (refl, refl)
balanced w s waiting i (Help q h (DoStart j)) said n may = (refl, refl)
balanced w s waiting i (Help q h (DoWait b)) said n may = (refl, refl)
balanced w s waiting i (Help q h (DoWaitAll b)) said n may = (refl, refl)
balanced w s waiting i (Help q h (DoOver b)) said n may = (refl, refl)
balanced w s waiting i (Help q h (DoOverAll b)) said n may = (refl, refl)
balanced w s waiting i (Help q h (DoFinish j)) true n may = (refl, omega (arith, one_if i j))
balanced w s waiting i (Help q h (DoFinish j)) false n may = absurd (let never : false ≡ true = may.0 in cc)

-- an item that isn't queued is pending
refused_pending : (w : Wiring) (s : State) (waiting i : ℕ) (event : Event) (said : Bool) (n : ℕ)
    → MayComeIn w s waiting event said n
    → is_of i QueueKind false (record { event = event; yes = said; number = n }) ≡ true → HasPending s i
refused_pending w s waiting i (Queue j) false n may is =
    subst (λ (k : ℕ). HasPending s k) (eqb-true j i (sym (and_true (eqb j i)) ∙ is)) may.1.0
refused_pending w s waiting i (Queue j) true n may is =
    absurd (let never : false ≡ true = sym (and_false (eqb j i)) ∙ is in cc)
refused_pending w s waiting i (Help q h (DoStart j)) said n may is = absurd cc
refused_pending w s waiting i (Help q h (DoWait b)) said n may is = absurd cc
refused_pending w s waiting i (Help q h (DoWaitAll b)) said n may is = absurd cc
refused_pending w s waiting i (Help q h (DoOver b)) said n may is = absurd cc
refused_pending w s waiting i (Help q h (DoOverAll b)) said n may is = absurd cc
refused_pending w s waiting i (Help q h (DoFinish j)) said n may is = absurd cc
refused_pending w s waiting i _ said n may is = absurd cc

-- ---- states

empty_left : (f : ℕ → ℕ) (w : Wiring) → left f (empty_state w) ≡ 0
empty_left f w =
    let idle : lane_left f idle_lane ≡ 0 = refl in
    omega (arith, sum_by-replicate (lane_left f) w.lanes idle_lane, ap (λ (k : ℕ). w.lanes * k) idle)

-- a list in which each counts nothing
none_counts : {X : Type 0} (f : X → ℕ) (xs : List X) (d : X) → ((k : ℕ) → k < length xs → f (get_or xs k d) ≡ 0)
    → sum_by f xs ≡ 0
none_counts f [] d each = refl
none_counts f (x ∷ xs) d each =
    omega (
      arith,
      sum_by-cons f x xs,
      each 0 (omega arith),
      none_counts f xs d
          (λ k lt. each (suc k) (omega (arith, lt))),
    )

no_entry : (f : ℕ → ℕ) (ps : List Entry) → ((e : Entry) → ¬ Contains ps e) → sum_by (entry_left f) ps ≡ 0
no_entry f [] none = refl
no_entry f (p ∷ ps) none = absurd (none p (0, omega arith, refl))

no_run : (f : ℕ → ℕ) (o : Option Running) → ((r : Running) → ¬ (o ≡ Some r)) → run_left f o ≡ 0
no_run f None none = refl
no_run f (Some r) none = absurd (none r refl)

idle_left : (f : ℕ → ℕ) (s : State) → ¬ HasUnfinished s → left f s ≡ 0
idle_left f s idle = none_counts (lane_left f) s.lanes idle_lane (λ q within.
    let lane : Lane = lane_at s q in
    let none : (e : Entry) → ¬ IsUnfinishedOn lane e =
    λ e unfinished. idle (record { lane = q; entry = e; unfinished = unfinished }) in
    let pending : sum_by (entry_left f) lane.pending ≡ 0 = no_entry f lane.pending (λ e there. none e (inl there)) in
    let running : run_left f lane.running ≡ 0 =
    no_run f lane.running (λ r runs. none r.entry (inr (0, r, runs, refl))) in
    let helping : sum_by (run_left f) lane.helping ≡ 0 =
    none_counts (run_left f) lane.helping None
    (λ h lt. no_run f (get_or lane.helping h None) (λ r runs. none r.entry (inr (suc h, r, runs, refl)))) in
    omega (arith, pending, running, helping))

pending_left : (s : State) (i : ℕ) → HasPending s i → 0 < left (only i) s
pending_left s i h =
    let lane : Lane = lane_at s h.lane in
    let (k, lt, at) = h.pending in
    let within : h.lane < length s.lanes = lane_within s h.lane h.entry (inl h.pending) in
    let one : only i h.entry.item ≡ 1 = ap one_where (eq-eqb h.entry.item i h.of_item) in
    let same : entry_left (only i) (get_or lane.pending k h.entry) ≡ only i h.entry.item =
    ap (entry_left (only i)) at in
    omega (
      arith,
      one,
      same,
      get_or-le-sum_by (entry_left (only i)) lane.pending k h.entry lt,
      get_or-le-sum_by (lane_left (only i)) s.lanes h.lane idle_lane within,
    )

-- ---- rows

from_front : {X : Type 0} (P : List X → Type 0) → ((xs : List X) (x : X) → P xs → P (xs ++ (x ∷ [])))
    → (xs ys : List X) → P xs → P (xs ++ ys)
from_front P step xs [] holds = subst P (sym (append-nil xs)) holds
from_front P step xs (y ∷ ys) holds =
    subst P (append_assoc xs (y ∷ []) ys) (from_front P step (xs ++ (y ∷ [])) ys (step xs y holds))

module _ (w : Wiring) (wiring : IsWiring w) (few : w.helpers ≤ max_helpers) (i : ℕ) where
  abbrev Balance : List Row → Type 0
  Balance rows = IsLegal w rows
      → left (only i) (state_after w rows) + (tally rows i CancelKind true + tally rows i FinishKind true) ≡ tally
      rows i QueueKind true

  more : (rows : List Row) (row : Row) → Balance rows → Balance (rows ++ (row ∷ []))
  more rows row before legal = by_step (step_of row.event row.yes) refl where
    s : State
    s = state_after w rows

    legal' : IsLegal w rows
    legal' = IsLegal-prefix w rows (row ∷ []) legal

    may : MayFollow w rows row
    may = IsLegal-last w rows row legal

    counts : Balanced i row.event row.yes row.number (step_of row.event row.yes)
    counts = balanced w s (asks_waiting (subject_in row.event) rows) i row.event row.yes row.number may

    by_step : (o : Option Step) → step_of row.event row.yes ≡ o
        → left (only i)
        (state_after w (rows ++ (row ∷ []))) + (tally (rows ++ (row ∷ [])) i CancelKind true + tally
        (rows ++ (row ∷ [])) i FinishKind true)
        ≡ tally (rows ++ (row ∷ [])) i QueueKind true
    by_step None makes =
        let same = ap (left (only i)) (state_after-none w rows row makes) in
        let b = subst (Balanced i row.event row.yes row.number) makes counts in
        omega (
          arith,
          same,
          before legal',
          count-more (is_of i QueueKind true) rows row,
          count-more (is_of i CancelKind true) rows row,
          count-more (is_of i FinishKind true) rows row,
          b.0,
          b.1,
        )
    by_step (Some step) makes =
        let next = ap (left (only i)) (state_after-step w rows row step makes) in
        let b = subst (Balanced i row.event row.yes row.number) makes counts in
        let lawful = MayCome-lawful w rows row.event row.yes row.number step may makes in
        let did = left_effect (only i) w s wiring (IsSoundState-legal w rows legal') few step lawful in
        omega (
          arith,
          next,
          did,
          before legal',
          count-more (is_of i QueueKind true) rows row,
          count-more (is_of i CancelKind true) rows row,
          count-more (is_of i FinishKind true) rows row,
          b.0,
          b.1,
        )

  pub balance : (rows : List Row) → Balance rows
  balance rows = from_front Balance more [] rows (λ none. omega (arith, empty_left (only i) w))

  -- if a queueing wasn't accepted, another one was
  abbrev Accepted : List Row → Type 0
  Accepted rows = IsLegal w rows → 0 < tally rows i QueueKind false → 0 < tally rows i QueueKind true

  accepted_more : (rows : List Row) (row : Row) → Accepted rows → Accepted (rows ++ (row ∷ []))
  accepted_more rows row before legal some = by_row (is_of i QueueKind false row) refl where
    legal' : IsLegal w rows
    legal' = IsLegal-prefix w rows (row ∷ []) legal

    by_row : (b : Bool) → is_of i QueueKind false row ≡ b → 0 < tally (rows ++ (row ∷ [])) i QueueKind true
    by_row false is =
        let none : one_where (is_of i QueueKind false row) ≡ 0 = ap one_where is in
        omega (
          arith,
          count-more (is_of i QueueKind true) rows row,
          before legal' (omega (arith, some, count-more (is_of i QueueKind false) rows row, none)),
        )
    by_row true is =
        let pending =
        refused_pending w (state_after w rows) (asks_waiting (subject_in row.event) rows) i row.event row.yes
        row.number
        (IsLegal-last w rows row legal) is in
        omega (
          arith,
          count-more (is_of i QueueKind true) rows row,
          balance rows legal',
          pending_left
              (state_after w rows) i pending,
        )

  -- an item that was queued once and never cancelled was accepted, and is finished if nothing is unfinished
  pub once : (rows : List Row) → IsLegal w rows → ¬ HasUnfinished (state_after w rows)
      → tally rows i QueueKind true + tally rows i QueueKind false ≡ 1 → tally rows i CancelKind true ≡ 0
      → (tally rows i QueueKind true ≡ 1) × (tally rows i FinishKind true ≡ 1)
  once rows legal idle one none =
      let all = balance rows legal in
      let done = idle_left (only i) (state_after w rows) idle in
      let some : (0 < tally rows i QueueKind false) → 0 < tally rows i QueueKind true =
      from_front Accepted accepted_more [] rows (λ empty never. absurd (omega (arith, never))) legal in
      let yes : tally rows i QueueKind true ≡ 1 =
      elim (either_one (tally rows i QueueKind true) (tally rows i QueueKind false) one) [
        | inl is ↦ is
        | inr other ↦ absurd (omega (arith, other.0, some (omega (arith, other.1))))
      ] in
      (yes, omega (arith, all, done, yes, none))
    where
      either_one : (a b : ℕ) → a + b ≡ 1 → (a ≡ 1) ⊎ ((a ≡ 0) × (b ≡ 1))
      either_one zero b sum = inr (refl, omega (arith, sum))
      either_one (suc a) b sum = inl (omega (arith, sum))
