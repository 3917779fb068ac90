-- How many entries of a lane may be started, before and after the lane has changed.
use Rattle.std.proofs.Common.{◌≡◌, ◌≢◌, ℕ, ◌+◌, ◌≤◌, inl, inr, Bool, true, false, cond, not, eqb, List, [], ◌∷◌, ◌++◌}
use Rattle.std.proofs.Common.{Option, Some, None, refl, sym, ap, subst, ◌∙◌, arith, AllPairs, Contains, option_map}
use Rattle.std.proofs.Common.{find}
use Rattle.std.specs.List.{count_by, filter}
use Rattle.std.proofs.lemmas.Bool.{cases_eq}
use Rattle.std.proofs.lemmas.List.Elements.{All-contains}
use Rattle.std.proofs.lemmas.List.Filters.{sum_by-filter_both}
use Rattle.std.proofs.lemmas.List.Sums.{sum_by-cons, sum_by_push}
use Rattle.wq_items.proofs.Lists.{Contains-here, Contains-later, AllPairs-head, AllPairs-tail}
use Rattle.wq_history.proofs.Words.{Entry, Running, Lane, run_by, with_run_by, RunsIn, is_running, next_of, with_queued}
use Rattle.wq_history.proofs.Words.{with_cancelled, with_started, with_finished, startable}
use Rattle.wq_core.specs.State.{pending_of}
use Rattle.wq_core.specs.Rules.{begun}
use Rattle.wq_core.proofs.Contexts.{cases_run_by, pending_kept, same_run, is_running-some, some-is_running}
use Rattle.wq_core.proofs.LaneLemmas.{same_running}
use Rattle.wq_core.proofs.Sound.{Differ}

-- ---- entries whose items don't run

-- an entry counts if this doesn't say that its item runs
abbrev weight : Bool → ℕ
weight b = cond (not b) 1 0

-- how many of these entries are of items that don't run
abbrev free : (ℕ → Bool) → List Entry → ℕ
free runs ps = count_by (λ (e : Entry). not (runs e.item)) ps

free-cons : (runs : ℕ → Bool) (p : Entry) (ps : List Entry) → free runs (p ∷ ps) ≡ weight (runs p.item) + free runs ps
free-cons runs p ps = sum_by-cons (λ (e : Entry). weight (runs e.item)) p ps

at_most_one : (b : Bool) → weight b ≤ 1
at_most_one true = omega arith
at_most_one false = omega arith

-- what ran runs still
no_more : (b c : Bool) → (b ≡ true → c ≡ true) → weight c ≤ weight b
no_more true c still = let none : weight c ≡ 0 = ap weight (still refl) in omega (arith, none)
no_more false true still = omega arith
no_more false false still = omega arith

free-still : (before after : ℕ → Bool) (ps : List Entry) → ((e : Entry) → Contains ps e → before e.item ≡ true → after e.item ≡ true) → free after ps ≤ free before ps
free-still before after [] still = omega arith
free-still before after (p ∷ ps) still =
    let here = no_more (before p.item) (after p.item) (still p (Contains-here p ps)) in
    let rest = free-still before after ps (λ e there. still e (Contains-later p ps e there)) in
    omega (arith, free-cons before p ps, free-cons after p ps, here, rest)

-- some entries are taken away, or one is added
free-fewer : (runs : ℕ → Bool) (p : Entry → Bool) (ps : List Entry) → free runs (filter p ps) ≤ free runs ps
free-fewer runs p ps =
    omega (arith, sum_by-filter_both p (λ (e : Entry). not (p e)) (λ e. refl) (λ (e : Entry). weight (runs e.item)) ps)

free-more : (runs : ℕ → Bool) (ps : List Entry) (e : Entry) → free runs (ps ++ (e ∷ [])) ≤ free runs ps + 1
free-more runs ps e =
    omega (arith, sum_by_push (λ (f : Entry). weight (runs f.item)) ps e, at_most_one (runs e.item))

-- all that ran runs still, but for item i
module _ (before after : ℕ → Bool) (i : ℕ) (still : (j : ℕ) → j ≢ i → before j ≡ true → after j ≡ true) where
  free-none : (ps : List Entry) → ((e : Entry) → Contains ps e → e.item ≢ i) → free after ps ≤ free before ps
  free-none ps none = free-still before after ps (λ e there. still e.item (none e there))

  free-one : (ps : List Entry) → AllPairs Differ ps → free after ps ≤ free before ps + 1
  free-one [] once = omega arith
  free-one (p ∷ ps) once = elim (cases_eq p.item i) [
    | inl same ↦ (
        let others : (e : Entry) → Contains ps e → e.item ≢ i =
        λ e there is. All-contains (Differ p) ps e (AllPairs-head Differ p ps once) there (same ∙ sym is) in
        omega (arith, free-cons before p ps, free-cons after p ps, at_most_one (after p.item), free-none ps others)
        )
    | inr other ↦ (
        let here = no_more (before p.item) (after p.item) (still p.item other) in
        omega (arith, free-cons before p ps, free-cons after p ps, here, free-one ps (AllPairs-tail Differ p ps once))
        )
  ]

-- an entry is first exactly where one is free
next_of-some : (runs : ℕ → Bool) (ps : List Entry) (e : Entry) → find (λ (f : Entry). not (runs f.item)) ps ≡ Some e → 1 ≤ free runs ps
next_of-some runs [] e is = absurd cc
next_of-some runs (p ∷ ps) e is = by (runs p.item) refl (next_of-some runs ps e) is where
  by : (b : Bool) → runs p.item ≡ b → (find (λ (f : Entry). not (runs f.item)) ps ≡ Some e → 1 ≤ free runs ps)
      → cond (not b) (Some p) (find (λ (f : Entry). not (runs f.item)) ps) ≡ Some e → 1 ≤ free runs (p ∷ ps)
  by true on rest at = omega (arith, free-cons runs p ps, rest at)
  by false off rest at = let one : weight (runs p.item) ≡ 1 = ap weight off in omega (arith, free-cons runs p ps, one)

next_of-none : (runs : ℕ → Bool) (ps : List Entry) → find (λ (f : Entry). not (runs f.item)) ps ≡ None → free runs ps ≡ 0
next_of-none runs [] is = refl
next_of-none runs (p ∷ ps) is = by (runs p.item) refl (next_of-none runs ps) is where
  by : (b : Bool) → runs p.item ≡ b → (find (λ (f : Entry). not (runs f.item)) ps ≡ None → free runs ps ≡ 0)
      → cond (not b) (Some p) (find (λ (f : Entry). not (runs f.item)) ps) ≡ None → free runs (p ∷ ps) ≡ 0
  by true on rest at = let none : weight (runs p.item) ≡ 0 = ap weight on in omega (arith, free-cons runs p ps, none, rest at)
  by false off rest at = absurd cc

pub startable-some : (lane : Lane) (e : Entry) → next_of lane ≡ Some e → 1 ≤ startable lane
startable-some lane e is = next_of-some (is_running lane) lane.pending e is

pub startable-none : (lane : Lane) → next_of lane ≡ None → startable lane ≡ 0
startable-none lane is = next_of-none (is_running lane) lane.pending is

-- ---- what runs, after a context has gone on

runs-started : (lane : Lane) (c i j : ℕ) → run_by lane c ≡ None → is_running lane j ≡ true → is_running (with_started c i lane) j ≡ true
runs-started lane c i j idle is =
    let (k, r, runs, of_item) = is_running-some lane j is in
    elim (cases_run_by rest c (option_map begun (pending_of lane i)) k) [
      | inl as_before ↦ some-is_running (with_started c i lane) j k r (as_before ∙ same_run lane rest.pending k ∙ runs) of_item
      | inr there ↦ absurd (let never : None ≡ Some r = sym idle ∙ ap (λ x. run_by lane x) (sym there.0) ∙ runs in cc)
    ]
  where
    rest : Lane
    rest = with_cancelled i lane

pub runs-going_on : (lane : Lane) (c : ℕ) (f : Running → Running) (j : ℕ) → ((r : Running) → (f r).entry ≡ r.entry) → is_running lane j ≡ true
    → is_running (with_run_by lane c (option_map f (run_by lane c))) j ≡ true
runs-going_on lane c f j keeps is =
    let (k, r, runs, of_item) = is_running-some lane j is in
    let new : Lane = with_run_by lane c (option_map f (run_by lane c)) in
    elim (cases_run_by lane c (option_map f (run_by lane c)) k) [
      | inl as_before ↦ some-is_running new j k r (as_before ∙ runs) of_item
      | inr there ↦ some-is_running new j k (f r) (there.1 ∙ ap (option_map f) (ap (λ x. run_by lane x) (sym there.0) ∙ runs)) (ap (λ (e : Entry). e.item) (keeps r) ∙ of_item)
    ]

runs-finished : (lane : Lane) (c : ℕ) (r : Running) → RunsIn lane c r → (j : ℕ) → j ≢ r.entry.item
    → is_running lane j ≡ true → is_running (with_finished c lane) j ≡ true
runs-finished lane c r runs j other is =
    let (k, x, runs', of_item) = is_running-some lane j is in
    elim (cases_run_by lane c None k) [
      | inl as_before ↦ some-is_running (with_finished c lane) j k x (as_before ∙ runs') of_item
      | inr there ↦ absurd (
          let same : x ≡ r = same_running lane c x r (subst (λ (d : ℕ). RunsIn lane d x) there.0 runs') runs in
          other (sym of_item ∙ ap (λ (y : Running). y.entry.item) same)
          )
    ]

-- ---- how many may be started, after a lane has changed

pub startable-queued : (e : Entry) (lane : Lane) → startable (with_queued e lane) ≤ startable lane + 1
startable-queued e lane = free-more (is_running lane) lane.pending e

pub startable-cancelled : (i : ℕ) (lane : Lane) → startable (with_cancelled i lane) ≤ startable lane
startable-cancelled i lane = free-fewer (is_running lane) (λ (e : Entry). not (eqb e.item i)) lane.pending

-- a context changes, and all that ran runs still
startable-still : (lane : Lane) (c : ℕ) (o : Option Running) (before : ℕ → Bool) → ((j : ℕ) → before j ≡ true → is_running (with_run_by lane c o) j ≡ true)
    → startable (with_run_by lane c o) ≤ free before lane.pending
startable-still lane c o before still =
    let new : Lane = with_run_by lane c o in
    let same = ap (free (is_running new)) (pending_kept lane c o) in
    omega (arith, same, free-still before (is_running new) lane.pending (λ e there. still e.item))

pub startable-started : (c i : ℕ) (lane : Lane) → run_by lane c ≡ None → startable (with_started c i lane) ≤ startable lane
startable-started c i lane idle =
    let rest : Lane = with_cancelled i lane in
    let still = startable-still rest c (option_map begun (pending_of lane i)) (is_running lane) (λ j is. runs-started lane c i j idle is) in
    omega (arith, still, free-fewer (is_running lane) (λ (e : Entry). not (eqb e.item i)) lane.pending)

pub startable-going_on : (c : ℕ) (f : Running → Running) (lane : Lane) → ((r : Running) → (f r).entry ≡ r.entry)
    → startable (with_run_by lane c (option_map f (run_by lane c))) ≤ startable lane
startable-going_on c f lane keeps = startable-still lane c (option_map f (run_by lane c)) (is_running lane) (λ j is. runs-going_on lane c f j keeps is)

module _ (c : ℕ) (r : Running) (lane : Lane) (runs : RunsIn lane c r) where
  same_pending : free (is_running (with_finished c lane)) (with_finished c lane).pending ≡ free (is_running (with_finished c lane)) lane.pending
  same_pending = ap (free (is_running (with_finished c lane))) (pending_kept lane c None)

  pub startable-finished : AllPairs Differ lane.pending → startable (with_finished c lane) ≤ startable lane + 1
  startable-finished once =
      let one = free-one (is_running lane) (is_running (with_finished c lane)) r.entry.item
      (runs-finished lane c r runs) lane.pending once in
      omega (arith, same_pending, one)

  pub startable-finished_none : ((e : Entry) → Contains lane.pending e → e.item ≢ r.entry.item) → startable (with_finished c lane) ≤ startable lane
  startable-finished_none none =
      let fewer = free-none (is_running lane) (is_running (with_finished c lane)) r.entry.item
      (runs-finished lane c r runs) lane.pending none in
      omega (arith, same_pending, fewer)
