-- From every state after a run, a run can be played to its end.
use Rattle.std.proofs.Common.{◌≡◌, ℕ, zero, suc, ◌<◌, ◌⊎◌, inl, inr, Bool, true, false, List, [], ◌∷◌, length, get_or, Option, Some, None, refl, sym, ap, subst, arith}
use Rattle.std.specs.Prelude.{Contains}
use Rattle.std.proofs.lemmas.Bool.{cases_lt, cases_eq}
use Rattle.wq_items.proofs.Lists.{Contains-later}
use Rattle.wq_core.specs.declared.entry.Entry.{Entry}
use Rattle.wq_core.specs.declared.entry.Waiting.{Waiting}
use Rattle.wq_core.specs.declared.entry.Running.{Running}
use Rattle.wq_core.specs.declared.step.Step.{Step}
use Rattle.wq_core.specs.declared.step.Step.TheVariants.{Start}
use Rattle.wq_core.specs.Wiring.{Wiring, lane_of}
use Rattle.wq_core.specs.State.{Lane, State, lane_at, RunsIn, Runs, next_of, IsUnfinishedOn, HasUnfinishedBelow, IsBusyBelow}
use Rattle.wq_core.specs.Rules.{IsHeldBack, effect, over_of}
use Rattle.wq_core.specs.Held.{IsSoundState}
use Rattle.wq_core.specs.Played.{IsDeclaredStep, HasNoDeclaredStep, IsPlayedFrom}
use Rattle.wq_core.specs.Work.{work_left}
use Rattle.wq_core.proofs.DeclaredSteps.{HasNoDeclaredStep-idle, HasNoDeclaredStep-bare, HasNoDeclaredStep-waiting, IsDeclaredStep-start, IsDeclaredStep-over}
use Rattle.wq_core.proofs.LaneLemmas.{lane_within, lane_at_past, Contains-nil}
use Rattle.wq_core.proofs.Plays.{IsRescuerStep-of_lane, awake_moves}
use Rattle.wq_core.proofs.Sound.{IsSoundState-effect}
use Rattle.wq_core.proofs.Wirings.{cases_rescuer}
use Rattle.wq_core.proofs.WorkLemmas.{work_left-rescuer}

-- ---- whether a wait is over

-- an entry of the list is such an entry, or none is
cases_pending : (P : Entry → Type 0) → ((e : Entry) → P e ⊎ (¬ P e)) → (es : List Entry) → ((e : Entry) × Contains es e × P e) ⊎ ((e : Entry) → Contains es e → ¬ P e)
cases_pending P decide [] = inr (λ e there. absurd (Contains-nil e there))
cases_pending P decide (x ∷ es) = elim (decide x) [
  | inl here ↦ inl (x, (0, omega arith, refl), here)
  | inr not_here ↦ elim (cases_pending P decide es) [
    | inl some ↦ inl (some.0, Contains-later x es some.0 some.1, some.2)
    | inr none ↦ inr (λ e there. later es none e there not_here)
  ]
]
  where
    later : (xs : List Entry) → ((e : Entry) → Contains xs e → ¬ P e) → (e : Entry) → Contains (x ∷ xs) e → (¬ P x) → ¬ P e
    later xs none e (zero, lt, at) not_here so = not_here (subst P (sym at) so)
    later xs none e (suc k, lt, at) not_here so = none e (k, omega arith, at) so

-- a context of the lane runs such an entry, or none does
cases_helper : (P : Entry → Type 0) → ((e : Entry) → P e ⊎ (¬ P e)) → (os : List (Option Running))
    → ((h : ℕ) × (r : Running) × (get_or os h None ≡ Some r) × P r.entry) ⊎ ((h : ℕ) (r : Running) → get_or os h None ≡ Some r → ¬ P r.entry)
cases_helper P decide [] = inr (λ h r runs. absurd (let never : None ≡ Some r = runs in cc))
cases_helper P decide (None ∷ os) = elim (cases_helper P decide os) [
  | inl some ↦ inl (suc some.0, some.1, some.2, some.3)
  | inr none ↦ inr (λ h r runs. later h r none runs)
]
  where
    later : (h : ℕ) (r : Running) → ((k : ℕ) (x : Running) → get_or os k None ≡ Some x → ¬ P x.entry) → get_or (None ∷ os) h None ≡ Some r → ¬ P r.entry
    later zero r none runs so = let never : None ≡ Some r = runs in cc
    later (suc k) r none runs so = none k r runs so
cases_helper P decide (Some x ∷ os) = elim (decide x.entry) [
  | inl here ↦ inl (0, x, refl, here)
  | inr not_here ↦ elim (cases_helper P decide os) [
    | inl some ↦ inl (suc some.0, some.1, some.2, some.3)
    | inr none ↦ inr (λ h r runs. later h r not_here none runs)
  ]
]
  where
    later : (h : ℕ) (r : Running) → (¬ P x.entry) → ((k : ℕ) (y : Running) → get_or os k None ≡ Some y → ¬ P y.entry) → get_or (Some x ∷ os) h None ≡ Some r → ¬ P r.entry
    later zero r not_here none runs so = let same : x ≡ r = cc in not_here (subst (λ (y : Running). P y.entry) (sym same) so)
    later (suc k) r not_here none runs so = none k r runs so

-- an unfinished entry of the lane is such an entry, or none is
cases_unfinished : (P : Entry → Type 0) → ((e : Entry) → P e ⊎ (¬ P e)) → (lane : Lane) → ((e : Entry) × IsUnfinishedOn lane e × P e) ⊎ ((e : Entry) → IsUnfinishedOn lane e → ¬ P e)
cases_unfinished P decide lane = elim (cases_pending P decide lane.pending) [
  | inl some ↦ inl (some.0, inl some.1, some.2)
  | inr none_pending ↦ elim (cases_helper P decide (lane.running ∷ lane.helping)) [
    | inl some ↦ inl (some.1.entry, inr (some.0, some.1, found some.0 some.1 some.2, refl), some.3)
    | inr none_runs ↦ inr (λ e unfinished. elim unfinished [
      | inl pending ↦ none_pending e pending
      | inr (c, r, runs, same) ↦ (λ so. none_runs c r (sought c r runs) (subst P (sym same) so))
    ])
  ]
]
  where
    found : (c : ℕ) (r : Running) → get_or (lane.running ∷ lane.helping) c None ≡ Some r → RunsIn lane c r
    found zero r is = is
    found (suc h) r is = is

    sought : (c : ℕ) (r : Running) → RunsIn lane c r → get_or (lane.running ∷ lane.helping) c None ≡ Some r
    sought zero r is = is
    sought (suc h) r is = is

-- of this item and below the mark
abbrev IsSought : ℕ → ℕ → Entry → Type 0
IsSought item mark e = (e.item ≡ item) × (e.number < mark)

decide_sought : (item mark : ℕ) (e : Entry) → IsSought item mark e ⊎ (¬ IsSought item mark e)
decide_sought item mark e = elim (cases_eq e.item item) [
  | inl of_item ↦ elim (cases_lt e.number mark) [
    | inl below ↦ inl (of_item, below)
    | inr past ↦ inr (λ so. omega (arith, past, so.1))
  ]
  | inr other ↦ inr (λ so. other so.0)
]

decide_below : (mark : ℕ) (e : Entry) → (e.number < mark) ⊎ (¬ (e.number < mark))
decide_below mark e = elim (cases_lt e.number mark) [ inl below ↦ inl below | inr past ↦ inr (λ below. omega (arith, past, below)) ]

cases_lanes_below : (s : State) (item mark n : ℕ)
    → ((q : ℕ) × (e : Entry) × IsUnfinishedOn (lane_at s q) e × IsSought item mark e) ⊎ ((q : ℕ) → q < n → (e : Entry) → IsUnfinishedOn (lane_at s q) e → ¬ IsSought item mark e)
cases_lanes_below s item mark zero = inr (λ q lt. absurd (omega arith))
cases_lanes_below s item mark (suc n) = elim (cases_lanes_below s item mark n) [
  | inl some ↦ inl some
  | inr none ↦ elim (cases_unfinished (IsSought item mark) (decide_sought item mark) (lane_at s n)) [
    | inl here ↦ inl (n, here.0, here.1, here.2)
    | inr not_here ↦ inr (λ q lt. elim (cases_lt q n) [
      | inl before ↦ none q before
      | inr past ↦ (let same : n ≡ q = omega arith in subst (λ (p : ℕ). (e : Entry) → IsUnfinishedOn (lane_at s p) e → ¬ IsSought item mark e) same not_here)
    ])
  ]
]

cases_below : (s : State) (item mark : ℕ) → HasUnfinishedBelow s item mark ⊎ (¬ HasUnfinishedBelow s item mark)
cases_below s item mark = elim (cases_lanes_below s item mark (length s.lanes)) [
  | inl some ↦ inl (record { lane = some.0; entry = some.1; unfinished = some.2; of_item = some.3.0; below = some.3.1 })
  | inr none ↦ inr (λ h. none h.lane (lane_within s h.lane h.entry h.unfinished) h.entry h.unfinished (h.of_item, h.below))
]

-- some entry of the lane is unfinished with a number below the mark, or none is
cases_busy_below : (lane : Lane) (mark : ℕ) → IsBusyBelow lane mark ⊎ (¬ IsBusyBelow lane mark)
cases_busy_below lane mark = elim (cases_unfinished (λ (e : Entry). e.number < mark) (decide_below mark) lane) [
  | inl some ↦ inl (record { entry = some.0; unfinished = some.1; below = some.2 })
  | inr none ↦ inr (λ h. none h.entry h.unfinished h.below)
]

-- a wait of either kind is held back, or it isn't
pub cases_held_back : (w : Wiring) (s : State) (whole : Bool) (b mark : ℕ) → IsHeldBack w s whole b mark ⊎ (¬ IsHeldBack w s whole b mark)
cases_held_back w s false b mark = cases_below s b mark
cases_held_back w s true b mark = cases_busy_below (lane_at s (lane_of w b)) mark

-- ---- the step of a rescuer

-- a rescuer makes a step as declared, or it can't
cases_move : (w : Wiring) (s : State) (q : ℕ) → IsSoundState w s → ((step : Step) × IsDeclaredStep w s q step) ⊎ HasNoDeclaredStep w s q
cases_move w s q sound = by_running (lane_at s q).running refl
  where
    by_next : (lane_at s q).running ≡ None → (o : Option Entry) → next_of (lane_at s q) ≡ o → ((step : Step) × IsDeclaredStep w s q step) ⊎ HasNoDeclaredStep w s q
    by_next idle None none = inr (HasNoDeclaredStep-idle w s q idle none)
    by_next idle (Some e) first = elim (cases_rescuer w q) [
      | inl rescuer ↦ inl (Start q e.item, IsDeclaredStep-start w s q idle rescuer e first)
      | inr bare ↦ inr (HasNoDeclaredStep-bare w s q idle (λ rescuer. absurd (bare rescuer)))
    ]

    by_waiting : (r : Running) → Runs (lane_at s q) r → (o : Option Waiting) → r.waiting ≡ o → ((step : Step) × IsDeclaredStep w s q step) ⊎ HasNoDeclaredStep w s q
    by_waiting r runs None waits = inl (awake_moves w s q r sound runs waits)
    by_waiting r runs (Some f) waits = elim (cases_held_back w s f.whole f.target f.mark) [
      | inl left ↦ inr (HasNoDeclaredStep-waiting w s q r runs f waits left)
      | inr done ↦ inl (over_of f.whole q f.target, IsDeclaredStep-over w s q r runs f waits done)
    ]

    by_running : (o : Option Running) → (lane_at s q).running ≡ o → ((step : Step) × IsDeclaredStep w s q step) ⊎ HasNoDeclaredStep w s q
    by_running None idle = by_next idle (next_of (lane_at s q)) refl
    by_running (Some r) runs = by_waiting r runs r.waiting refl

-- ---- the lowest lane that can move

-- the step of the lowest lane that can make one
abbrev LowestMove : Wiring → State → Step → Type 0
LowestMove w s step = (q : ℕ) × IsDeclaredStep w s q step × ((p : ℕ) → p < q → HasNoDeclaredStep w s p)

cases_lowest : (w : Wiring) (s : State) (n : ℕ) → IsSoundState w s → ((step : Step) × LowestMove w s step) ⊎ ((p : ℕ) → p < n → HasNoDeclaredStep w s p)
cases_lowest w s zero sound = inr (λ p lt. absurd (omega arith))
cases_lowest w s (suc n) sound = elim (cases_lowest w s n sound) [
  | inl lower ↦ inl lower
  | inr none ↦ elim (cases_move w s n sound) [
    | inl move ↦ inl (move.0, (n, move.1, none))
    | inr still ↦ inr (λ p lt. elim (cases_lt p n) [
      | inl before ↦ none p before
      | inr past ↦ (let same : n ≡ p = omega arith in subst (λ (k : ℕ). HasNoDeclaredStep w s k) same still)
    ])
  ]
]

none_moves : (w : Wiring) (s : State) → ((p : ℕ) → p < length s.lanes → HasNoDeclaredStep w s p) → (q : ℕ) → HasNoDeclaredStep w s q
none_moves w s none q = elim (cases_lt q (length s.lanes)) [
  | inl within ↦ none q within
  | inr past ↦ (
      let idle = lane_at_past s q past in
      HasNoDeclaredStep-idle w s q (ap (λ (l : Lane). l.running) idle) (ap (λ (l : Lane). next_of l) idle)
      )
]

-- ---- played runs

played_from : (w : Wiring) (n : ℕ) (s : State) → IsSoundState w s → work_left w s < n → (steps : List Step) × IsPlayedFrom w s steps
played_from w zero s sound less = absurd (omega arith)
played_from w (suc n) s sound less = elim (cases_lowest w s (length s.lanes) sound) [
  | inl move ↦ (
      let step : Step = move.0 in
      let is : IsDeclaredStep w s move.1.0 step = move.1.1 in
      let lower : work_left w (effect w s step) < work_left w s = work_left-rescuer w s step sound is.lawful (IsRescuerStep-of_lane move.1.0 step is.of_lane) in
      let rest = played_from w n (effect w s step) (IsSoundState-effect w s step sound is.lawful) (omega arith) in
      (step ∷ rest.0, (move.1, rest.1))
      )
  | inr none ↦ ([], none_moves w s none)
]

pub IsPlayedFrom-exists : (w : Wiring) (s : State) → IsSoundState w s → (steps : List Step) × IsPlayedFrom w s steps
IsPlayedFrom-exists w s sound = played_from w (suc (work_left w s)) s sound (omega arith)
