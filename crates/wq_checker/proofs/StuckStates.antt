-- States in which an entry is unfinished and no lane can move.
use Rattle.std.proofs.Common.{◌≡◌, ℕ, zero, suc, ◌⊎◌, inl, inr, ◌↔◌, Bool, true, false, not, List, [], ◌∷◌, length, get_or, Option, Some, None, refl, sym, ◌∙◌, arith}
use Rattle.std.specs.Prelude.{IsTrue}
use Rattle.wq_core.specs.declared.entry.Entry.{Entry}
use Rattle.wq_core.specs.declared.entry.Running.{Running}
use Rattle.wq_core.specs.declared.step.Step.{Step}
use Rattle.wq_core.specs.declared.step.Step.TheVariants.{Queue, Cancel, Start, Wait, Over, WaitAll, OverAll, Finish, Help}
use Rattle.wq_core.specs.Wiring.{Wiring, HasRescuer}
use Rattle.wq_core.specs.State.{Lane, State, idle_lane, lane_at, IsUnfinishedOn, HasUnfinished}
use Rattle.wq_core.specs.Rules.{Lawful}
use Rattle.wq_core.specs.Runs.{IsForcedStep}
use Rattle.wq_core.specs.Deadlock.{IsStuck}
use Rattle.wq_core.specs.MustGoOn.{IsStuckFor}
use Rattle.wq_core.specs.Played.{CanMove}
use Rattle.wq_core.proofs.LaneLemmas.{Contains-nil, lane_within}
use Rattle.wq_core.proofs.Wirings.{cases_rescuer}
use Rattle.wq_checker.specs.Searching.{HasOneLeft}
use Rattle.wq_checker.proofs.Decided.{Decided, both, cases_some_below}

-- ---- some lane

module _ (P : Lane → Type 0) (decide : (lane : Lane) → Decided (P lane)) where
  pub cases_lane : (lanes : List Lane) → ((q : ℕ) × P (get_or lanes q idle_lane)) ⊎ ((q : ℕ) → ¬ P (get_or lanes q idle_lane))
  cases_lane [] = elim (decide idle_lane) [ inl p ↦ inl (0, p) | inr none ↦ inr (λ q. none) ]
  cases_lane (lane ∷ lanes) = elim (decide lane) [
    | inl p ↦ inl (0, p)
    | inr none ↦ elim (cases_lane lanes) [ inl some ↦ inl (suc some.0, some.1) | inr no_others ↦ inr (each none no_others) ]
  ]
    where
      each : (¬ P lane) → ((q : ℕ) → ¬ P (get_or lanes q idle_lane)) → (q : ℕ) → ¬ P (get_or (lane ∷ lanes) q idle_lane)
      each none no_others zero = none
      each none no_others (suc q) = no_others q

-- ---- whether something is unfinished

-- a helper runs something, or none does
cases_helping : (helping : List (Option Running)) → ((h : ℕ) × (r : Running) × (get_or helping h None ≡ Some r)) ⊎ ((h : ℕ) → get_or helping h None ≡ None)
cases_helping [] = inr (λ h. refl)
cases_helping (Some r ∷ others) = inl (0, r, refl)
cases_helping (None ∷ others) = elim (cases_helping others) [
  | inl some ↦ inl (suc some.0, some.1, some.2)
  | inr none ↦ inr (each none)
]
  where
    each : ((h : ℕ) → get_or others h None ≡ None) → (h : ℕ) → get_or {A = Option Running} (None ∷ others) h None ≡ None
    each none zero = refl
    each none (suc h) = none h

cases_unfinished_on : (lane : Lane) → Decided ((e : Entry) × IsUnfinishedOn lane e)
cases_unfinished_on lane = fields lane.pending lane.running lane.helping
  where
    nothing : (helping : List (Option Running)) → ((h : ℕ) → get_or helping h None ≡ None) → (e : Entry) → ¬ IsUnfinishedOn (record { pending = []; running = None; helping = helping }) e
    nothing helping none e (inl pending) = Contains-nil e pending
    nothing helping none e (inr (zero, r, runs, same)) = absurd (let never : None ≡ Some r = runs in cc)
    nothing helping none e (inr (suc h, r, runs, same)) = absurd (let never : None ≡ Some r = sym (none h) ∙ runs in cc)

    fields : (es : List Entry) (o : Option Running) (hs : List (Option Running)) → Decided ((e : Entry) × IsUnfinishedOn (record { pending = es; running = o; helping = hs }) e)
    fields (e ∷ es) o hs = inl (e, inl (0, omega arith, refl))
    fields [] (Some r) hs = inl (r.entry, inr (0, r, refl, refl))
    fields [] None hs = elim (cases_helping hs) [
      | inl some ↦ inl (some.1.entry, inr (suc some.0, some.1, some.2, refl))
      | inr none ↦ inr (λ h. nothing hs none h.0 h.1)
    ]

-- ---- steps and lanes that move

CanMove-forced : (w : Wiring) (s : State) (step : Step) → IsForcedStep w step → Lawful w s step → (q : ℕ) × CanMove w s q
CanMove-forced w s (Queue i) is lawful = absurd is
CanMove-forced w s (Cancel i) is lawful = absurd is
CanMove-forced w s (Start q i) is lawful = (q, inl (Start q i, refl, lawful, is))
CanMove-forced w s (Wait q b) is lawful = (q, inl (Wait q b, refl, lawful, is))
CanMove-forced w s (Over q b) is lawful = (q, inl (Over q b, refl, lawful, is))
CanMove-forced w s (WaitAll q b) is lawful = (q, inl (WaitAll q b, refl, lawful, is))
CanMove-forced w s (OverAll q b) is lawful = (q, inl (OverAll q b, refl, lawful, is))
CanMove-forced w s (Finish q i) is lawful = (q, inl (Finish q i, refl, lawful, is))
CanMove-forced w s (Help q h deed) is lawful = (q, inr (h, (deed, is, lawful)))

-- ---- stuck

module _ (w : Wiring) (s : State) where
  -- if a lane can move, the state isn't stuck
  pub IsStuck-can_move : (q : ℕ) → CanMove w s q → ¬ IsStuck w s
  IsStuck-can_move q (inl (step, of_lane, lawful, forced)) stuck = stuck.no_step step forced lawful
  IsStuck-can_move q (inr (h, (deed, goes_on, lawful))) stuck = stuck.no_step (Help q h deed) goes_on lawful

  -- something is unfinished on a lane that has a rescuer
  abbrev pub IsOwed : Type 0
  IsOwed = (left : HasUnfinished s) × HasRescuer w left.lane

  abbrev busy : ℕ → Type 0
  busy q = HasRescuer w q × ((e : Entry) × IsUnfinishedOn (lane_at s q) e)

  pub cases_owed : Decided IsOwed
  cases_owed = elim (cases_some_below busy (λ q. both (cases_rescuer w q) (cases_unfinished_on (lane_at s q))) (length s.lanes)) [
    | inl some ↦ inl (record { lane = some.0; entry = some.2.1.0; unfinished = some.2.1.1 }, some.2.0)
    | inr none ↦ inr (λ owed. none (owed.0.lane, lane_within s owed.0.lane owed.0.entry owed.0.unfinished, (owed.1, (owed.0.entry, owed.0.unfinished))))
  ]

  -- if none can, it is stuck exactly if something is unfinished on such a lane
  pub IsStuck-cannot_move : ((q : ℕ) → ¬ CanMove w s q) → (rest : Bool) → (IsTrue rest ↔ ((left : HasUnfinished s) → ¬ HasRescuer w left.lane)) → IsTrue (not rest) ↔ IsStuck w s
  IsStuck-cannot_move none true both = ((λ e. absurd cc), (λ stuck. absurd (both.0 refl stuck.left stuck.rescuer)))
  IsStuck-cannot_move none false both = ((λ e. stuck cases_owed), (λ stuck. refl))
    where
      stuck : Decided IsOwed → IsStuck w s
      stuck (inl owed) = record { left = owed.0; rescuer = owed.1; no_step = λ step is lawful. let moves = CanMove-forced w s step is lawful in none moves.0 moves.1 }
      stuck (inr nothing) = absurd (let e : false ≡ true = both.1 (λ left rescuer. nothing (left, rescuer)) in cc)

  -- if a lane can move, the state isn't stuck for any items
  pub IsStuckFor-can_move : (named : List ℕ) (q : ℕ) → CanMove w s q → ¬ IsStuckFor w named s
  IsStuckFor-can_move named q (inl (step, of_lane, lawful, forced)) stuck = stuck.no_step step forced lawful
  IsStuckFor-can_move named q (inr (h, (deed, goes_on, lawful))) stuck = stuck.no_step (Help q h deed) goes_on lawful

  -- if none can, it is stuck for these items exactly if an entry of one of them is unfinished
  pub IsStuckFor-cannot_move : (named : List ℕ) → ((q : ℕ) → ¬ CanMove w s q) → (left : Bool)
      → (IsTrue left ↔ HasOneLeft s named) → IsTrue left ↔ IsStuckFor w named s
  IsStuckFor-cannot_move named none left both = (
    (λ e. let one : HasOneLeft s named = both.0 e in record {
      item = one.0;
      is_named = one.1;
      left = one.2;
      no_step = λ step is lawful. let moves = CanMove-forced w s step is lawful in none moves.0 moves.1;
    }),
    (λ stuck. both.1 (stuck.item, stuck.is_named, stuck.left)),
  )
