-- Contexts of a lane: what each of them runs, and what it may start.
use Rattle.std.proofs.Common.{◌≡◌, ℕ, zero, suc, ◌<◌, ◌≤◌, ◌⊎◌, inl, inr, Bool, true, false, not, eqb, cond, List, [], ◌∷◌, length, get_or, set, replicate, Option, Some, None, refl, sym, ap, ◌∙◌, arith}
use Rattle.std.specs.Prelude.{Contains, option_map, find, slice_index_or, if◌then◌else◌}
use Rattle.std.specs.List.{list_any}
use Rattle.std.proofs.lemmas.Bool.{cases_lt, eqb-true, eq-eqb, both_ways, or_cases, or_left, or_right}
use Rattle.std.proofs.lemmas.List.{get_or_past, get_or-set_same, length-set, set_past}
use Rattle.wq_core.specs.declared.entry.Entry.{Entry}
use Rattle.wq_core.specs.declared.entry.Running.{Running}
use Rattle.wq_core.specs.declared.step.HelpStep.{HelpStep}
use Rattle.wq_core.specs.declared.step.HelpStep.TheVariants.{Start as DoStart, Wait as DoWait, WaitAll as DoWaitAll, Over as DoOver, OverAll as DoOverAll, Finish as DoFinish}
use Rattle.wq_core.specs.Wiring.{Wiring, helpers_of}
use Rattle.wq_core.specs.State.{Lane, State, idle_lane, lane_at, run_by, with_run_by, RunsIn, runs_item, is_running}
use Rattle.wq_core.specs.Rules.{MayStart, MayStartFirst, MayDo, Lawful, GivesIn, Gives, step_in}

-- a lane has no more helpers than there may be
pub helpers_of-few : (w : Wiring) (q : ℕ) → helpers_of w q ≤ w.helpers
helpers_of-few w q = few (slice_index_or w.ordered q true)
  where
    few : (b : Bool) → (if b then 0 else w.helpers) ≤ w.helpers
    few true = omega arith
    few false = omega arith

-- an ordered lane has none
pub helpers_of-none : (w : Wiring) (q : ℕ) → slice_index_or w.ordered q true ≡ true → 0 ≡ helpers_of w q
helpers_of-none w q ordered = sym (ap (λ (b : Bool). if b then 0 else w.helpers) ordered)

-- ---- one context changes

-- each place is as it was, or the one that was written
pub cases_place : {X : Type 0} (xs : List X) (h : ℕ) (x d : X) (m : ℕ) → (get_or (set xs h x) m d ≡ get_or xs m d) ⊎ ((m ≡ h) × (get_or (set xs h x) m d ≡ x))
cases_place [] h x d m = inl refl
cases_place (y ∷ ys) zero x d zero = inr (refl, refl)
cases_place (y ∷ ys) zero x d (suc m) = inl refl
cases_place (y ∷ ys) (suc h) x d zero = inl refl
cases_place (y ∷ ys) (suc h) x d (suc m) = elim (cases_place ys h x d m) [ inl same ↦ inl same | inr there ↦ inr (ap suc there.0, there.1) ]

pub cases_run_by : (lane : Lane) (c : ℕ) (o : Option Running) (k : ℕ) → (run_by (with_run_by lane c o) k ≡ run_by lane k) ⊎ ((k ≡ c) × (run_by (with_run_by lane c o) k ≡ o))
cases_run_by lane zero o zero = inr (refl, refl)
cases_run_by lane zero o (suc m) = inl refl
cases_run_by lane (suc h) o zero = inl refl
cases_run_by lane (suc h) o (suc m) = elim (cases_place lane.helping h o None m) [ inl same ↦ inl same | inr there ↦ inr (ap suc there.0, there.1) ]

-- if the lane has a place for it
pub run_by_same : (lane : Lane) (c : ℕ) (o : Option Running) → c ≤ length lane.helping → run_by (with_run_by lane c o) c ≡ o
run_by_same lane zero o le = refl
run_by_same lane (suc h) o le = get_or-set_same lane.helping h o None (omega arith)

-- a place that isn't there takes nothing
pub run_by_past : (lane : Lane) (c : ℕ) (o : Option Running) → length lane.helping < c → with_run_by lane c o ≡ lane
run_by_past lane zero o past = absurd (omega arith)
run_by_past lane (suc h) o past = ap (λ (hs : List (Option Running)). record lane { helping = hs }) (set_past lane.helping h o (omega arith))

pub places_kept : (lane : Lane) (c : ℕ) (o : Option Running) → length (with_run_by lane c o).helping ≡ length lane.helping
places_kept lane zero o = refl
places_kept lane (suc h) o = length-set lane.helping h o

pub pending_kept : (lane : Lane) (c : ℕ) (o : Option Running) → (with_run_by lane c o).pending ≡ lane.pending
pending_kept lane zero o = refl
pending_kept lane (suc h) o = refl

-- other entries are pending
pub same_run : (lane : Lane) (ps : List Entry) (c : ℕ) → run_by (record lane { pending = ps }) c ≡ run_by lane c
same_run lane ps zero = refl
same_run lane ps (suc h) = refl

-- what runs has a place
pub runs_place : (lane : Lane) (c : ℕ) (r : Running) → RunsIn lane c r → c ≤ length lane.helping
runs_place lane zero r runs = omega arith
runs_place lane (suc h) r runs = elim (cases_lt h (length lane.helping)) [
  | inl within ↦ omega arith
  | inr past ↦ absurd (let never : None ≡ Some r = sym (get_or_past lane.helping h None past) ∙ runs in cc)
]

-- what a context goes on with is what it ran
pub mapped : (f : Running → Running) (o : Option Running) (x : Running) → option_map f o ≡ Some x → (r : Running) × (o ≡ Some r) × (f r ≡ x)
mapped f None x is = absurd cc
mapped f (Some r) x is = (r, refl, cc)

-- ---- an idle lane

pub none_there : (n h : ℕ) → get_or {A = Option Running} (replicate n None) h None ≡ None
none_there zero h = refl
none_there (suc n) zero = refl
none_there (suc n) (suc h) = none_there n h

pub idle_runs : (c : ℕ) (r : Running) → ¬ RunsIn idle_lane c r
idle_runs zero r runs = cc
idle_runs (suc h) r runs = let never : None ≡ Some r = sym (none_there 8 h) ∙ runs in cc

-- ---- what may be started

-- the pending entry of an item that is pending
pub found-pending : (ps : List Entry) (i : ℕ) (e : Entry) → Contains ps e → e.item ≡ i → (f : Entry) × (find (λ (g : Entry). eqb g.item i) ps ≡ Some f) × Contains ps f × (f.item ≡ i)
found-pending [] i e (k, lt, at) is = absurd (omega arith)
found-pending (p ∷ ps) i e there is = by (λ c. found-pending ps i e c is) (eqb p.item i) refl there
  where
    by : (Contains ps e → (f : Entry) × (find (λ (g : Entry). eqb g.item i) ps ≡ Some f) × Contains ps f × (f.item ≡ i)) → (b : Bool) → eqb p.item i ≡ b → Contains (p ∷ ps) e
        → (f : Entry) × (cond b (Some p) (find (λ (g : Entry). eqb g.item i) ps) ≡ Some f) × Contains (p ∷ ps) f × (f.item ≡ i)
    by rest true same there = (p, refl, (0, omega arith, refl), eqb-true p.item i same)
    by rest false other (zero, lt, at) = absurd (both_ways (eqb p.item i) other (eq-eqb p.item i (ap (λ (g : Entry). g.item) at ∙ is)))
    by rest false other (suc k, lt, at) =
        let later = rest (k, omega arith, at) in
        (later.0, later.1, (suc later.2.0, omega (arith, later.2.1), later.2.2), later.3)

-- what is found is pending, and of the item
pub found-is : (ps : List Entry) (i : ℕ) (f : Entry) → find (λ (g : Entry). eqb g.item i) ps ≡ Some f → Contains ps f × (f.item ≡ i)
found-is [] i f is = absurd cc
found-is (p ∷ ps) i f is = by (found-is ps i f) (eqb p.item i) refl is
  where
    by : (find (λ (g : Entry). eqb g.item i) ps ≡ Some f → Contains ps f × (f.item ≡ i)) → (b : Bool) → eqb p.item i ≡ b → cond b (Some p) (find (λ (g : Entry). eqb g.item i) ps) ≡ Some f → Contains (p ∷ ps) f × (f.item ≡ i)
    by rest true same is = let here : p ≡ f = cc in ((0, omega arith, here), ap (λ (g : Entry). g.item) (sym here) ∙ eqb-true p.item i same)
    by rest false other is = let later = rest is in ((suc later.0.0, omega (arith, later.0.1), later.0.2), later.1)

-- the first entry that passes is pending, and its item passes
pub next-may : (ps : List Entry) (p : ℕ → Bool) (e : Entry) → find (λ (f : Entry). not (p f.item)) ps ≡ Some e → Contains ps e × (p e.item ≡ false)
next-may [] p e is = absurd cc
next-may (x ∷ ps) p e is = by (next-may ps p e) (p x.item) refl is
  where
    by : (find (λ (f : Entry). not (p f.item)) ps ≡ Some e → Contains ps e × (p e.item ≡ false)) → (b : Bool) → p x.item ≡ b → cond (not b) (Some x) (find (λ (f : Entry). not (p f.item)) ps) ≡ Some e
        → Contains (x ∷ ps) e × (p e.item ≡ false)
    by rest true runs is = let later = rest is in ((suc later.0.0, omega (arith, later.0.1), later.0.2), later.1)
    by rest false idle is = let same : x ≡ e = cc in ((0, omega arith, same), ap (λ (f : Entry). p f.item) (sym same) ∙ idle)

-- what a rescuer starts may be started
pub MayStart-first : (lane : Lane) (i : ℕ) → MayStartFirst lane i → MayStart lane 0 i
MayStart-first lane i may =
    let next = next-may lane.pending (is_running lane) may.entry may.first in
    record { idle = may.idle; entry = may.entry; pending = next.0; of_item = may.of_item; not_running = ap (is_running lane) (sym may.of_item) ∙ next.1 }

-- a lawful step of a context is what that context may do
pub step_in-may : (w : Wiring) (s : State) (q c : ℕ) (deed : HelpStep) → Lawful w s (step_in q c deed) → MayDo w s q c deed
step_in-may w s q zero (DoStart i) may = MayStart-first (lane_at s q) i may
step_in-may w s q zero (DoWait b) may = may
step_in-may w s q zero (DoWaitAll b) may = may
step_in-may w s q zero (DoOver b) may = may
step_in-may w s q zero (DoOverAll b) may = may
step_in-may w s q zero (DoFinish i) may = may
step_in-may w s q (suc h) deed may = may.1

-- and gives what that context's deed gives
pub step_in-gives : (s : State) (q c : ℕ) (deed : HelpStep) (n : ℕ) → Gives s (step_in q c deed) n → GivesIn s q c deed n
step_in-gives s q zero (DoStart i) n gives = gives
step_in-gives s q zero (DoWait b) n gives = gives
step_in-gives s q zero (DoWaitAll b) n gives = gives
step_in-gives s q zero (DoOver b) n gives = gives
step_in-gives s q zero (DoOverAll b) n gives = gives
step_in-gives s q zero (DoFinish i) n gives = gives
step_in-gives s q (suc h) deed n gives = gives

-- if no entry passes, the item of each runs
pub none_passes : (ps : List Entry) (p : ℕ → Bool) → find (λ (f : Entry). not (p f.item)) ps ≡ None → (e : Entry) → Contains ps e → p e.item ≡ true
none_passes [] p none e (k, lt, at) = absurd (omega arith)
none_passes (x ∷ ps) p none e there = by (none_passes ps p) (p x.item) refl none there
  where
    by : (find (λ (f : Entry). not (p f.item)) ps ≡ None → (f : Entry) → Contains ps f → p f.item ≡ true) → (b : Bool) → p x.item ≡ b → cond (not b) (Some x) (find (λ (f : Entry). not (p f.item)) ps) ≡ None → Contains (x ∷ ps) e
        → p e.item ≡ true
    by rest true runs none (zero, lt, at) = ap (λ (f : Entry). p f.item) (sym at) ∙ runs
    by rest true runs none (suc k, lt, at) = rest none e (k, omega arith, at)
    by rest false idle none there = absurd cc

-- ---- items that run

runs_item-is : (i : ℕ) (o : Option Running) → runs_item i o ≡ true → (r : Running) × (o ≡ Some r) × (r.entry.item ≡ i)
runs_item-is i None is = absurd cc
runs_item-is i (Some r) is = (r, refl, eqb-true r.entry.item i is)

is-runs_item : (i : ℕ) (o : Option Running) (r : Running) → o ≡ Some r → r.entry.item ≡ i → runs_item i o ≡ true
is-runs_item i o r runs is = ap (runs_item i) runs ∙ eq-eqb r.entry.item i is

helper_runs : (os : List (Option Running)) (i : ℕ) → list_any (runs_item i) os ≡ true → (h : ℕ) × (r : Running) × (get_or os h None ≡ Some r) × (r.entry.item ≡ i)
helper_runs [] i is = absurd cc
helper_runs (o ∷ os) i is = elim (or_cases (runs_item i o) (list_any (runs_item i) os) is) [
  | inl here ↦ (let found = runs_item-is i o here in (0, found.0, found.1, found.2))
  | inr later ↦ (let found = helper_runs os i later in (suc found.0, found.1, found.2, found.3))
]

runs_helper : (os : List (Option Running)) (i h : ℕ) (r : Running) → get_or os h None ≡ Some r → r.entry.item ≡ i → list_any (runs_item i) os ≡ true
runs_helper [] i h r runs is = absurd cc
runs_helper (o ∷ os) i zero r runs is = or_left (runs_item i o) (list_any (runs_item i) os) (is-runs_item i o r runs is)
runs_helper (o ∷ os) i (suc h) r runs is = or_right (runs_item i o) (list_any (runs_item i) os) (runs_helper os i h r runs is)

-- the test says what its name says
pub is_running-some : (lane : Lane) (i : ℕ) → is_running lane i ≡ true → (c : ℕ) × (r : Running) × RunsIn lane c r × (r.entry.item ≡ i)
is_running-some lane i is = elim (or_cases (runs_item i lane.running) (list_any (runs_item i) lane.helping) is) [
  | inl rescuer ↦ (let found = runs_item-is i lane.running rescuer in (0, found.0, found.1, found.2))
  | inr helper ↦ (let found = helper_runs lane.helping i helper in (suc found.0, found.1, found.2, found.3))
]

pub some-is_running : (lane : Lane) (i c : ℕ) (r : Running) → RunsIn lane c r → r.entry.item ≡ i → is_running lane i ≡ true
some-is_running lane i zero r runs is = or_left (runs_item i lane.running) (list_any (runs_item i) lane.helping) (is-runs_item i lane.running r runs is)
some-is_running lane i (suc h) r runs is = or_right (runs_item i lane.running) (list_any (runs_item i) lane.helping) (runs_helper lane.helping i h r runs is)
