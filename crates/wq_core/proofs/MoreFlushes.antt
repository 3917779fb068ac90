-- Wirings of which one declares more flushes than the other, and readings.
use Rattle.std.proofs.Common.{◌≡◌, ◌↔◌, ℕ, zero, suc, ◌≤◌, Bool, true, false, cond, List, [], ◌∷◌, ◌++◌, length, map}
use Rattle.std.proofs.Common.{Some, refl, sym, ap, ap₂, subst, ◌∙◌, arith}
use Rattle.std.specs.Prelude.{◌==◌, ◌||◌, not, filter, slice_get, Contains}
use Rattle.std.specs.List.{Any}
use Rattle.std.proofs.lemmas.Bool.{eq-eqb}
use Rattle.std.proofs.lemmas.List.{length-map}
use Rattle.wq_items.specs.declared.target.Target.{Target}
use Rattle.wq_items.specs.Table.{ItemWaitsBy, targets_of, places}
use Rattle.wq_items.specs.Readings.{is_among, is_kept, kept_of, unsure_places, renumbered}
use Rattle.wq_groups.specs.Declaration.{Declaration, reading_declared}
use Rattle.wq_core.specs.declared.entry.Running.{Running}
use Rattle.wq_core.specs.declared.step.Step.{Step}
use Rattle.wq_core.specs.declared.step.Step.TheVariants.{Queue, Cancel, Start, Wait, Over, WaitAll, OverAll, Finish}
use Rattle.wq_core.specs.declared.step.Step.TheVariants.{Help}
use Rattle.wq_core.specs.declared.step.HelpStep.{HelpStep}
use Rattle.wq_core.specs.declared.step.HelpStep.TheVariants.{Start as DoStart, Wait as DoWait, WaitAll as DoWaitAll}
use Rattle.wq_core.specs.declared.step.HelpStep.TheVariants.{Over as DoOver, OverAll as DoOverAll, Finish as DoFinish}
use Rattle.wq_core.specs.Wiring.{Wiring, with_helpers}
use Rattle.wq_core.specs.Workqueues.{Workqueues, wiring_of}
use Rattle.wq_core.specs.State.{State, empty_state}
use Rattle.wq_core.specs.Rules.{MayWait, MayBeOver, MayDo, Lawful, effect}
use Rattle.wq_core.specs.Runs.{after, IsRunFrom, IsRun, end_of, IsForcedStep, KeepsOrderIn, KeepsOrder, AsDeclaredFrom}
use Rattle.wq_core.specs.Deadlock.{IsStuck, IsSafe}
use Rattle.wq_core.specs.Readings.{reading, IsSafeAnyway, HangsForSure, DeclaresMore, flush_of, SameButPlaces}

-- ---- what flushes are declared changes no state

module _ (w : Wiring) (ws : List (List Target)) where
  abbrev other : Wiring
  other = record w { waits = ws }

  effect-waits : (s : State) (step : Step) → effect other s step ≡ effect w s step
  effect-waits s (Queue i) = refl
  effect-waits s (Cancel i) = refl
  effect-waits s (Start q i) = refl
  effect-waits s (Wait q b) = refl
  effect-waits s (Over q b) = refl
  effect-waits s (WaitAll q b) = refl
  effect-waits s (OverAll q b) = refl
  effect-waits s (Finish q i) = refl
  effect-waits s (Help q h deed) = refl

  after-waits : (s : State) (steps : List Step) → after other s steps ≡ after w s steps
  after-waits s [] = refl
  after-waits s (step ∷ steps) = ap (λ (t : State). after other t steps) (effect-waits s step)
      ∙ after-waits (effect w s step) steps

  over-there : (s : State) (whole : Bool) (b : ℕ) (r : Running) → MayBeOver other s whole b r → MayBeOver w s whole b r
  over-there s false b r h = record {
    flush = h.flush;
    waits = h.waits;
    kind = h.kind;
    target = h.target;
    done = h.done;
  }
  over-there s true b r h = record { flush = h.flush; waits = h.waits; kind = h.kind; target = h.target; done = h.done }

  over-here : (s : State) (whole : Bool) (b : ℕ) (r : Running) → MayBeOver w s whole b r → MayBeOver other s whole b r
  over-here s false b r h = record { flush = h.flush; waits = h.waits; kind = h.kind; target = h.target; done = h.done }
  over-here s true b r h = record { flush = h.flush; waits = h.waits; kind = h.kind; target = h.target; done = h.done }

  forced : (step : Step) → IsForcedStep other step → IsForcedStep w step
  forced (Queue i) h = h
  forced (Cancel i) h = h
  forced (Start q i) h = h
  forced (Wait q b) h = tt
  forced (Over q b) h = tt
  forced (WaitAll q b) h = tt
  forced (OverAll q b) h = tt
  forced (Finish q i) h = tt
  forced (Help q h deed) goes = goes

  module _ (same : length ws ≡ length w.waits) (more : (whole : Bool) (i j : ℕ) → ItemWaitsBy ws whole i j
      → ItemWaitsBy w.waits whole i j) (counts : (i : ℕ) → length (targets_of ws i) ≤ length (targets_of w.waits i))
    where
      MayWait-more : (whole : Bool) (b : ℕ) (r : Running) → MayWait other whole b r → MayWait w whole b r
      MayWait-more whole b r h = record {
        awake = h.awake;
        declared = more whole r.entry.item b h.declared;
        fewer = omega (arith, h.fewer, counts r.entry.item);
      }

      MayDo-more : (s : State) (q c : ℕ) (deed : HelpStep) → MayDo other s q c deed → MayDo w s q c deed
      MayDo-more s q c (DoStart i) h = h
      MayDo-more s q c (DoWait b) (r, runs, may) = (r, runs, MayWait-more false b r may)
      MayDo-more s q c (DoWaitAll b) (r, runs, may) = (r, runs, MayWait-more true b r may)
      MayDo-more s q c (DoOver b) (r, runs, may) = (r, runs, over-there s false b r may)
      MayDo-more s q c (DoOverAll b) (r, runs, may) = (r, runs, over-there s true b r may)
      MayDo-more s q c (DoFinish i) h = h

      -- what is lawful stays so
      Lawful-more : (s : State) (step : Step) → Lawful other s step → Lawful w s step
      Lawful-more s (Queue i) h = (omega (arith, h.0, same), h.1)
      Lawful-more s (Cancel i) h = h
      Lawful-more s (Start q i) h = h
      Lawful-more s (Wait q b) h = MayDo-more s q 0 (DoWait b) h
      Lawful-more s (Over q b) h = MayDo-more s q 0 (DoOver b) h
      Lawful-more s (WaitAll q b) h = MayDo-more s q 0 (DoWaitAll b) h
      Lawful-more s (OverAll q b) h = MayDo-more s q 0 (DoOverAll b) h
      Lawful-more s (Finish q i) h = h
      Lawful-more s (Help q h deed) law = (law.0, MayDo-more s q h deed law.1)

      IsRunFrom-more : (s : State) (steps : List Step) → IsRunFrom other s steps → IsRunFrom w s steps
      IsRunFrom-more s [] h = tt
      IsRunFrom-more s (step ∷ steps) h = (
        Lawful-more s step h.0,
        IsRunFrom-more (effect w s step) steps (subst (λ (t : State). IsRunFrom other t steps) (effect-waits s step)
            h.1),
      )

      -- where a forced step is lawful with more flushes, one is with fewer: it, or, if it begins a wait, the finish of
      -- what would wait
      none_more : (s : State) → ((step : Step) → IsForcedStep other step → ¬ Lawful other s step) → (step : Step)
          → IsForcedStep w step → ¬ Lawful w s step
      none_more s none (Queue i) f law = absurd f
      none_more s none (Cancel i) f law = absurd f
      none_more s none (Start q i) f law = none (Start q i) f law
      none_more s none (Wait q b) f (r, runs, may) = none (Finish q r.entry.item) tt
          (r, runs, record { entry = refl; awake = may.awake })
      none_more s none (Over q b) f (r, runs, may) = none (Over q b) tt (r, runs, over-here s false b r may)
      none_more s none (WaitAll q b) f (r, runs, may) = none (Finish q r.entry.item) tt
          (r, runs, record { entry = refl; awake = may.awake })
      none_more s none (OverAll q b) f (r, runs, may) = none (OverAll q b) tt (r, runs, over-here s true b r may)
      none_more s none (Finish q i) f law = none (Finish q i) tt law
      none_more s none (Help q h (DoStart i)) f law = absurd f
      none_more s none (Help q h (DoWait b)) f (helper, (r, runs, may)) =
          none (Help q h (DoFinish r.entry.item)) tt (helper, (r, runs, record { entry = refl; awake = may.awake }))
      none_more s none (Help q h (DoWaitAll b)) f (helper, (r, runs, may)) =
          none (Help q h (DoFinish r.entry.item)) tt (helper, (r, runs, record { entry = refl; awake = may.awake }))
      none_more s none (Help q h (DoOver b)) f (helper, (r, runs, may)) =
          none (Help q h (DoOver b)) tt (helper, (r, runs, over-here s false b r may))
      none_more s none (Help q h (DoOverAll b)) f (helper, (r, runs, may)) =
          none (Help q h (DoOverAll b)) tt (helper, (r, runs, over-here s true b r may))
      none_more s none (Help q h (DoFinish i)) f law = none (Help q h (DoFinish i)) tt law

      IsStuck-more : (s : State) → IsStuck other s → IsStuck w s
      IsStuck-more s h = record { left = h.left; rescuer = h.rescuer; no_step = none_more s h.no_step }

      IsStuck-fewer : (s : State) → IsStuck w s → IsStuck other s
      IsStuck-fewer s h = record {
        left = h.left;
        rescuer = h.rescuer;
        no_step = λ step f law. h.no_step step (forced step f) (Lawful-more s step law);
      }

-- ---- two wirings of which one declares more

pub end_of-more : (v w : Wiring) (steps : List Step) → DeclaresMore v w → end_of v steps ≡ end_of w steps
end_of-more v w steps h = ap (λ (u : Wiring). end_of u steps) h.rest ∙ after-waits w v.waits (empty_state w) steps

pub IsRun-more : (v w : Wiring) (steps : List Step) → DeclaresMore v w → IsRun v steps → IsRun w steps
IsRun-more v w steps h run = IsRunFrom-more w v.waits h.items h.more h.counts (empty_state w) steps
    (subst (λ (u : Wiring). IsRun u steps) h.rest run)

pub stuck-more : (v w : Wiring) (s : State) → DeclaresMore v w → IsStuck v s → IsStuck w s
stuck-more v w s h stuck = IsStuck-more w v.waits h.items h.more h.counts s
    (subst (λ (u : Wiring). IsStuck u s) h.rest stuck)

pub stuck-fewer : (v w : Wiring) (s : State) → DeclaresMore v w → IsStuck w s → IsStuck v s
stuck-fewer v w s h stuck = subst (λ (u : Wiring). IsStuck u s) (sym h.rest)
    (IsStuck-fewer w v.waits h.items h.more h.counts s stuck)

pub DeclaresMore-helpers : (v w : Wiring) (n : ℕ) → DeclaresMore v w
    → DeclaresMore (with_helpers v n) (with_helpers w n)
DeclaresMore-helpers v w n h = record {
  rest = ap (λ (u : Wiring). with_helpers u n) h.rest;
  items = h.items;
  more = h.more;
  counts = h.counts;
}

-- what is safe with more flushes is safe with fewer
pub IsSafe-fewer : (v w : Wiring) → DeclaresMore v w → IsSafe w → IsSafe v
IsSafe-fewer v w h safe n few steps run stuck =
    let m = DeclaresMore-helpers v w n h in
    safe n few steps (IsRun-more (with_helpers v n) (with_helpers w n) steps m run)
    (subst (λ (s : State). IsStuck (with_helpers w n) s) (end_of-more (with_helpers v n) (with_helpers w n) steps m)
    (stuck-more (with_helpers v n) (with_helpers w n) (end_of (with_helpers v n) steps) m stuck))

-- ---- readings

any_later : {X : Type 0} (P : X → Type 0) (x : X) (xs : List X) → Any P xs → Any P (x ∷ xs)
any_later P x xs (k, y, within, is, h) = (suc k, y, omega arith, is, h)

-- some element that passes a test is one that passes another
module _ {X : Type 0} (P : X → Type 0) (p q : X → Bool) (wider : (x : X) → p x ≡ true → q x ≡ true) where
  first-of : (x : X) (xs : List X) → P x → Any P (x ∷ xs)
  first-of x xs h = (0, x, omega arith, refl, h)

  Any-of-cons : (x : X) (xs : List X) (R : Type 0) → (P x → R) → (Any P xs → R) → Any P (x ∷ xs) → R
  Any-of-cons x xs R here later (zero, y, within, is, h) = here (subst P (sym is) h)
  Any-of-cons x xs R here later (suc k, y, within, is, h) = later (k, y, omega arith, is, h)

  Any-wider : (xs : List X) → Any P (filter p xs) → Any P (filter q xs)
  Any-wider [] h = h
  Any-wider (x ∷ xs) h = by (p x) refl (q x) refl (λ (g : Any P (filter p xs)). Any-wider xs g) h
    where
      by : (a : Bool) → p x ≡ a → (b : Bool) → q x ≡ b → (Any P (filter p xs) → Any P (filter q xs))
          → Any P (cond a (x ∷ filter p xs) (filter p xs)) → Any P (cond b (x ∷ filter q xs) (filter q xs))
      by true is true are rest h = Any-of-cons x (filter p xs) (Any P (x ∷ filter q xs)) (first-of x (filter q xs))
          (λ (g : Any P (filter p xs)). any_later P x (filter q xs) (rest g)) h
      by true is false are rest h = absurd (let yes = wider x is in cc)
      by false is true are rest h = any_later P x (filter q xs) (rest h)
      by false is false are rest h = rest h

length-wider : {X : Type 0} (p q : X → Bool) → ((x : X) → p x ≡ true → q x ≡ true) → (xs : List X)
    → length (filter p xs) ≤ length (filter q xs)
length-wider p q wider [] = omega arith
length-wider p q wider (x ∷ xs) = by (p x) refl (q x) refl (length-wider p q wider xs)
  where
    by : (a : Bool) → p x ≡ a → (b : Bool) → q x ≡ b → length (filter p xs) ≤ length (filter q xs)
        → length (cond a (x ∷ filter p xs) (filter p xs)) ≤ length (cond b (x ∷ filter q xs) (filter q xs))
    by true is true are h = omega arith
    by true is false are h = absurd (let yes = wider x is in cc)
    by false is true are h = omega arith
    by false is false are h = h

-- the flushes of an item in a reading
targets_of-reading : (kept : List ℕ) (waits : List (List Target)) (i : ℕ)
    → targets_of (map (kept_of kept) waits) i ≡ kept_of kept (targets_of waits i)
targets_of-reading kept [] i = refl
targets_of-reading kept (ts ∷ waits) zero = refl
targets_of-reading kept (ts ∷ waits) (suc i) = targets_of-reading kept waits i

length-readings : (f g : List Target → List Target) (waits : List (List Target))
    → length (map f waits) ≡ length (map g waits)
length-readings f g [] = refl
length-readings f g (ts ∷ waits) = ap suc (length-readings f g waits)

kept-wider : (few many : List ℕ) → ((p : ℕ) → is_among few p ≡ true → is_among many p ≡ true) → (t : Target)
    → is_kept few t ≡ true → is_kept many t ≡ true
kept-wider few many wider t h = by (not t.unsure) h
  where
    by : (sure : Bool) → (sure || is_among few t.place) ≡ true → (sure || is_among many t.place) ≡ true
    by true h = refl
    by false h = wider t.place h

-- a reading that keeps more declares more
pub DeclaresMore-reading : (w : Wiring) (few many : List ℕ) → ((p : ℕ) → is_among few p ≡ true → is_among many p ≡ true)
    → DeclaresMore (reading w few) (reading w many)
DeclaresMore-reading w few many wider = record {
  rest = refl;
  items = length-readings (kept_of few) (kept_of many) w.waits;
  more = λ whole i j h.
      subst (Any (λ (t : Target). (t.item ≡ j) × (t.whole ≡ whole))) (sym (targets_of-reading many w.waits i)) (
      Any-wider (λ (t : Target). (t.item ≡ j) × (t.whole ≡ whole)) (is_kept few) (is_kept many)
      (kept-wider few many wider) (targets_of w.waits i) (
      subst (Any (λ (t : Target). (t.item ≡ j) × (t.whole ≡ whole))) (targets_of-reading few w.waits i) h
      )
      );
  counts = λ i. omega (
    arith,
    ap length (targets_of-reading few w.waits i),
    ap length (targets_of-reading many w.waits i),
    length-wider (is_kept few) (is_kept many) (kept-wider few many wider) (targets_of w.waits i),
  );
}

among-later : (p q : ℕ) (ps : List ℕ) → is_among ps p ≡ true → is_among (q ∷ ps) p ≡ true
among-later p q ps h = by (q == p)
  where
    by : (b : Bool) → (b || is_among ps p) ≡ true
    by true = refl
    by false = h

-- a place is among those of a list that has it
among-Contains : (ps : List ℕ) (p : ℕ) → is_among (p ∷ ps) p ≡ true
among-Contains ps p = ap (λ (b : Bool). b || is_among ps p) (eq-eqb p p refl)

-- of one item: if each unsure flush is kept, all are
one_kept : (kept : List ℕ) (ts : List Target) → ((p : ℕ)
    → is_among (map (λ (t : Target). t.place) (filter (λ (t : Target). t.unsure) ts)) p ≡ true → is_among kept p ≡ true)
    → kept_of kept ts ≡ ts
one_kept kept [] all = refl
one_kept kept (t ∷ ts) all = by t.unsure refl (λ rest. one_kept kept ts rest)
  where
    by : (u : Bool) → t.unsure ≡ u
        → (((p : ℕ) → is_among (map (λ (x : Target). x.place) (filter (λ (x : Target). x.unsure) ts)) p ≡ true
        → is_among kept p ≡ true) → kept_of kept ts ≡ ts)
        → cond (not u || is_among kept t.place) (t ∷ kept_of kept ts) (kept_of kept ts) ≡ t ∷ ts
    by false sure others =
        ap (λ (l : List Target). t ∷ l)
        (others (λ p h. all p (ap (λ (b : Bool). is_among (map (λ (x : Target). x.place)
        (cond b (t ∷ filter (λ (x : Target). x.unsure) ts) (filter (λ (x : Target). x.unsure) ts))) p) sure ∙ h)))
    by true unsure others =
        let tail : List ℕ = map (λ (x : Target). x.place) (filter (λ (x : Target). x.unsure) ts) in
        let all_these : (p : ℕ) → is_among (t.place ∷ tail) p ≡ true → is_among kept p ≡ true =
        λ p h. all p (ap (λ (b : Bool). is_among (map (λ (x : Target). x.place)
        (cond b (t ∷ filter (λ (x : Target). x.unsure) ts) (filter (λ (x : Target). x.unsure) ts))) p) unsure
        ∙ h) in
        let here : is_among kept t.place ≡ true = all_these t.place (among-Contains tail t.place) in
        ap (λ (b : Bool). cond b (t ∷ kept_of kept ts) (kept_of kept ts)) here
        ∙ ap (λ (l : List Target). t ∷ l) (others (λ p h. all_these p (among-later p t.place tail h)))

among-left : (p : ℕ) (xs ys : List ℕ) → is_among xs p ≡ true → is_among (xs ++ ys) p ≡ true
among-left p [] ys h = absurd cc
among-left p (x ∷ xs) ys h = by (x == p) (λ g. among-left p xs ys g) h
  where
    by : (b : Bool) → (is_among xs p ≡ true → is_among (xs ++ ys) p ≡ true) → (b || is_among xs p) ≡ true
        → (b || is_among (xs ++ ys) p) ≡ true
    by true rest h = refl
    by false rest h = rest h

among-right : (p : ℕ) (xs ys : List ℕ) → is_among ys p ≡ true → is_among (xs ++ ys) p ≡ true
among-right p [] ys h = h
among-right p (x ∷ xs) ys h = by (x == p) (among-right p xs ys h)
  where
    by : (b : Bool) → is_among (xs ++ ys) p ≡ true → (b || is_among (xs ++ ys) p) ≡ true
    by true rest = refl
    by false rest = rest

each_kept : (kept : List ℕ) (waits : List (List Target))
    → ((p : ℕ) → is_among (unsure_places waits) p ≡ true → is_among kept p ≡ true) → map (kept_of kept) waits ≡ waits
each_kept kept [] all = refl
each_kept kept (ts ∷ waits) all =
    let these : List ℕ = map (λ (t : Target). t.place) (filter (λ (t : Target). t.unsure) ts) in
    ap (λ (l : List Target). l ∷ map (kept_of kept) waits) (one_kept kept ts
    (λ p h. all p (among-left p these (unsure_places waits) h)))
    ∙ ap (λ (l : List (List Target)). ts ∷ l) (each_kept kept waits
    (λ p h. all p (among-right p these (unsure_places waits) h)))

-- the reading that keeps each unsure flush is of all flushes
pub reading-all : (w : Wiring) (kept : List ℕ) → ((p : ℕ) → is_among (unsure_places w.waits) p ≡ true
    → is_among kept p ≡ true) → reading w kept ≡ w
reading-all w kept all = ap (λ (ws : List (List Target)). record w { waits = ws }) (each_kept kept w.waits all)

-- each reading declares no more than all flushes
pub DeclaresMore-all : (w : Wiring) (kept : List ℕ) → DeclaresMore (reading w kept) w
DeclaresMore-all w kept =
    let all : List ℕ = kept ++ unsure_places w.waits in
    subst (λ (u : Wiring). DeclaresMore (reading w kept) u) (reading-all w all
    (λ p h. among-right p kept (unsure_places w.waits) h)) (
    DeclaresMore-reading w kept all (λ p h. among-left p kept (unsure_places w.waits) h)
    )

pub IsSafeAnyway-all : (w : Wiring) → IsSafe w ↔ IsSafeAnyway w
IsSafeAnyway-all w = (
  λ safe kept. IsSafe-fewer (reading w kept) w (DeclaresMore-all w kept) safe,
  λ anyway. subst IsSafe (reading-all w (unsure_places w.waits) (λ p h. h)) (anyway (unsure_places w.waits)),
)

pub HangsForSure-none : (w : Wiring) → (¬ IsSafe (reading w [])) ↔ HangsForSure w
HangsForSure-none w = (
  λ hangs kept safe. hangs (IsSafe-fewer (reading w []) (reading w kept)
      (DeclaresMore-reading w [] kept (λ p h. absurd cc)) safe),
  λ sure. sure [],
)

-- ---- the same flushes at other places

-- a flush of this kind among flushes, by what a run shows of them
Any-flush_of : (whole : Bool) (j : ℕ) (ts : List Target)
    → Any (λ (t : Target). (t.item ≡ j) × (t.whole ≡ whole)) ts ↔ Contains (map flush_of ts) (j, whole)
Any-flush_of whole j ts = (there ts, back ts)
  where
    there : (ts : List Target) → Any (λ (t : Target). (t.item ≡ j) × (t.whole ≡ whole)) ts
        → Contains (map flush_of ts) (j, whole)
    there [] h = absurd (omega (arith, h.2))
    there (t ∷ ts) (zero, x, within, is, h) = (
      0,
      omega arith,
      let same : t ≡ x = is in λ i. (
        let a : t.item ≡ j = ap (λ (y : Target). y.item) same ∙ h.0 in a i,
        let b : t.whole ≡ whole = ap (λ (y : Target). y.whole) same ∙ h.1 in b i,
      ),
    )
    there (t ∷ ts) (suc k, x, within, is, h) = let r = there ts (k, x, omega arith, is, h) in
        (suc r.0, omega (arith, r.1), r.2)

    back : (ts : List Target) → Contains (map flush_of ts) (j, whole)
        → Any (λ (t : Target). (t.item ≡ j) × (t.whole ≡ whole)) ts
    back [] h = absurd (omega (arith, h.1))
    back (t ∷ ts) (zero, within, is) = (
      0,
      t,
      omega arith,
      refl,
      (ap (λ (p : ℕ × Bool). p.0) is, ap (λ (p : ℕ × Bool). p.1) is),
    )
    back (t ∷ ts) (suc k, within, is) = any_later (λ (t : Target). (t.item ≡ j) × (t.whole ≡ whole)) t ts
        (back ts (k, omega arith, is))

flushes-of-item : (vs ws : List (List Target)) (i : ℕ) → map (map flush_of) vs ≡ map (map flush_of) ws
    → map flush_of (targets_of vs i) ≡ map flush_of (targets_of ws i)
flushes-of-item [] [] i same = refl
flushes-of-item [] (w ∷ ws) i same = absurd cc
flushes-of-item (v ∷ vs) [] i same = absurd cc
flushes-of-item (v ∷ vs) (w ∷ ws) zero same = cc
flushes-of-item (v ∷ vs) (w ∷ ws) (suc i) same = flushes-of-item vs ws i cc

pub SameButPlaces-sym : (v w : Wiring) → SameButPlaces v w → SameButPlaces w v
SameButPlaces-sym v w h = record {
  rest = sym (ap (λ (u : Wiring). record u { waits = w.waits }) h.rest);
  flushes = sym h.flushes;
}

pub DeclaresMore-same : (v w : Wiring) → SameButPlaces v w → DeclaresMore v w
DeclaresMore-same v w h = record {
  rest = h.rest;
  items = sym (length-map v.waits (map flush_of)) ∙ ap length h.flushes ∙ length-map w.waits (map flush_of);
  more = λ whole i j any. (Any-flush_of whole j (targets_of w.waits i)).1
      (subst (λ (l : List (ℕ × Bool)). Contains l (j, whole)) (flushes-of-item v.waits w.waits i h.flushes)
      ((Any-flush_of whole j (targets_of v.waits i)).0 any));
  counts = λ i. omega (
    arith,
    length-map (targets_of v.waits i) flush_of,
    length-map (targets_of w.waits i) flush_of,
    ap length (flushes-of-item v.waits w.waits i h.flushes),
  );
}

-- the next target is the same, too
next-same : (vs ws : List Target) (k b : ℕ) (whole : Bool) → map flush_of vs ≡ map flush_of ws → (t : Target)
    × (slice_get vs k ≡ Some t) × (t.item ≡ b) × (t.whole ≡ whole) → (t : Target) × (slice_get ws k ≡ Some t)
    × (t.item ≡ b) × (t.whole ≡ whole)
next-same [] ws k b whole same (t, is, item, kind) = absurd cc
next-same (v ∷ vs) [] k b whole same h = absurd cc
next-same (v ∷ vs) (w ∷ ws) zero b whole same (t, is, item, kind) =
    let one : v ≡ t = cc in
    let like : flush_of v ≡ flush_of w = cc in (
      w,
      refl,
      sym (ap (λ (p : ℕ × Bool). p.0) like) ∙ ap (λ (x : Target). x.item) one ∙ item,
      sym (ap (λ (p : ℕ × Bool). p.1) like) ∙ ap (λ (x : Target). x.whole) one ∙ kind,
    )
next-same (v ∷ vs) (w ∷ ws) (suc k) b whole same (t, is, item, kind) =
    let others : map flush_of vs ≡ map flush_of ws = cc in
    let r = next-same vs ws k b whole others (t, is, item, kind) in
    (r.0, r.1, r.2, r.3)

module _ (w : Wiring) (ws : List (List Target)) (same : map (map flush_of) ws ≡ map (map flush_of) w.waits) where
  Keeps-same : (s : State) (q c : ℕ) (deed : HelpStep) → KeepsOrderIn (other w ws) s q c deed
      → KeepsOrderIn w s q c deed
  Keeps-same s q c (DoStart i) h = tt
  Keeps-same s q c (DoWait b) (r, runs, next) = (
    r,
    runs,
    next-same (targets_of ws r.entry.item) (targets_of w.waits r.entry.item) r.made b false
        (flushes-of-item ws w.waits r.entry.item same) next,
  )
  Keeps-same s q c (DoWaitAll b) (r, runs, next) = (
    r,
    runs,
    next-same (targets_of ws r.entry.item) (targets_of w.waits r.entry.item) r.made b true
        (flushes-of-item ws w.waits r.entry.item same) next,
  )
  Keeps-same s q c (DoOver b) h = tt
  Keeps-same s q c (DoOverAll b) h = tt
  Keeps-same s q c (DoFinish i) (r, runs, made) = (
    r,
    runs,
    made
        ∙ sym (length-map (targets_of ws r.entry.item) flush_of)
        ∙ ap length (flushes-of-item ws w.waits r.entry.item same)
        ∙ length-map (targets_of w.waits r.entry.item) flush_of,
  )

  Order-same : (s : State) (step : Step) → KeepsOrder (other w ws) s step → KeepsOrder w s step
  Order-same s (Queue i) h = tt
  Order-same s (Cancel i) h = tt
  Order-same s (Start q i) h = tt
  Order-same s (Wait q b) h = Keeps-same s q 0 (DoWait b) h
  Order-same s (Over q b) h = tt
  Order-same s (WaitAll q b) h = Keeps-same s q 0 (DoWaitAll b) h
  Order-same s (OverAll q b) h = tt
  Order-same s (Finish q i) h = Keeps-same s q 0 (DoFinish i) h
  Order-same s (Help q c deed) h = Keeps-same s q c deed h

  Declared-same : (s : State) (steps : List Step) → AsDeclaredFrom (other w ws) s steps → AsDeclaredFrom w s steps
  Declared-same s [] h = tt
  Declared-same s (step ∷ steps) h = (
    Order-same s step h.0,
    Declared-same (effect w s step) steps (subst (λ (t : State). AsDeclaredFrom (other w ws) t steps)
        (effect-waits w ws s step) h.1),
  )

pub AsDeclared-same : (v w : Wiring) (steps : List Step) → SameButPlaces v w → AsDeclaredFrom v (empty_state v) steps
    → AsDeclaredFrom w (empty_state w) steps
AsDeclared-same v w steps h declared = Declared-same w v.waits h.flushes (empty_state w) steps
    (subst (λ (u : Wiring). AsDeclaredFrom u (empty_state u) steps) h.rest declared)

-- ---- a reading as a declaration of its own

map-compact : (others : List ℕ) (lists : List (List Target))
    → map (map flush_of) (map (map (renumbered others)) lists) ≡ map (map flush_of) lists
map-compact others [] = refl
map-compact others (ts ∷ lists) = ap₂ (λ (l : List (ℕ × Bool)) (ls : List (List (ℕ × Bool))). l ∷ ls) (one ts)
    (map-compact others lists)
  where
    one : (ts : List Target) → map flush_of (map (renumbered others) ts) ≡ map flush_of ts
    one [] = refl
    one (t ∷ ts) = ap (λ (l : List (ℕ × Bool)). flush_of t ∷ l) (one ts)

pub SameButPlaces-compact : (d : Declaration) (ws : Workqueues) (kept : List ℕ)
    → SameButPlaces (wiring_of (reading_declared d kept) ws) (reading (wiring_of d ws) kept)
SameButPlaces-compact d ws kept =
    record { rest = refl; flushes = map-compact (places (map (kept_of kept) d.waits)) (map (kept_of kept) d.waits) }
