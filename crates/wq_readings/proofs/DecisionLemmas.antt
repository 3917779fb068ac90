-- What one decision changes.
use Rattle.std.proofs.Common.{◌≡◌, ℕ, zero, suc, ◌+◌, ◌<◌, ◌≤◌, Bool, true, false, cond, List, [], ◌∷◌}
use Rattle.std.proofs.Common.{length, map, refl, sym, ap, subst, ◌∙◌, arith, inl, inr}
use Rattle.std.specs.Prelude.{◌==◌, ◌&&◌, ◌||◌, not, filter}
use Rattle.std.specs.List.{Any}
use Rattle.std.proofs.lemmas.Bool.{cases_lt, eq-eqb, eqb-true, or_right}
use Rattle.std.proofs.lemmas.Simd.{map-map}
use Rattle.wq_items.specs.declared.target.Target.{Target}
use Rattle.wq_items.specs.Table.{targets_of}
use Rattle.wq_items.specs.Readings.{is_among, is_kept, kept_of}
use Rattle.wq_core.specs.declared.step.Step.{Step}
use Rattle.wq_core.specs.State.{State}
use Rattle.wq_core.specs.Wiring.{Wiring, with_helpers}
use Rattle.wq_core.specs.Runs.{end_of}
use Rattle.wq_core.specs.Deadlock.{IsStuck, IsSafe}
use Rattle.wq_core.specs.Readings.{reading, IsSafeAnyway, HangsForSure, DeclaresMore}
use Rattle.wq_core.proofs.MoreFlushes.{DeclaresMore-helpers, IsRun-more, IsSafe-fewer, end_of-more, stuck-more}
use Rattle.wq_hang.specs.Shortest.{EndsStuck, IsFewest}
use Rattle.wq_readings.specs.Decided.{is_unsure_at, denied, sure_at, confirmed}
use Rattle.wq_readings.proofs.Picking.{alike, later}

-- ---- flushes that are picked, and of which only what a run doesn't see is changed

-- a flush of this kind
abbrev Goes : ℕ → Bool → Target → Type 0
Goes j whole t = (t.item ≡ j) × (t.whole ≡ whole)

-- the second picks what the first picks, and changes it as little
module _ (c d : Target → Target) (k m : Target → Bool) (wider : (t : Target) → k t ≡ true → m t ≡ true)
    (kinds : (j : ℕ) (whole : Bool) (t : Target) → Goes j whole (c t) → Goes j whole (d t)) where
  Any-picked : (j : ℕ) (whole : Bool) (ts : List Target) → Any (Goes j whole) (map c (filter k ts))
      → Any (Goes j whole) (map d (filter m ts))
  Any-picked j whole [] h = h
  Any-picked j whole (t ∷ ts) h = by (k t) refl (m t) refl (λ g. Any-picked j whole ts g) h
    where
      by : (a : Bool) → k t ≡ a → (b : Bool) → m t ≡ b
          → (Any (Goes j whole) (map c (filter k ts)) → Any (Goes j whole) (map d (filter m ts)))
          → Any (Goes j whole) (map c (cond a (t ∷ filter k ts) (filter k ts)))
          → Any (Goes j whole) (map d (cond b (t ∷ filter m ts) (filter m ts)))
      by true is true are rest h = alike (Goes j whole) (Goes j whole) (c t) (d t) (map c (filter k ts))
          (map d (filter m ts)) (kinds j whole t) rest h
      by true is false are rest h = absurd (let yes = wider t is in cc)
      by false is true are rest h = later (Goes j whole) (d t) (map d (filter m ts)) (rest h)
      by false is false are rest h = rest h

  length-picked : (ts : List Target) → length (map c (filter k ts)) ≤ length (map d (filter m ts))
  length-picked [] = omega arith
  length-picked (t ∷ ts) = by (k t) refl (m t) refl (length-picked ts)
    where
      by : (a : Bool) → k t ≡ a → (b : Bool) → m t ≡ b
          → length (map c (filter k ts)) ≤ length (map d (filter m ts))
          → length (map c (cond a (t ∷ filter k ts) (filter k ts)))
          ≤ length (map d (cond b (t ∷ filter m ts) (filter m ts)))
      by true is true are h = omega arith
      by true is false are h = absurd (let yes = wider t is in cc)
      by false is true are h = omega arith
      by false is false are h = h

targets_of-map : (f : List Target → List Target) → f [] ≡ [] → (waits : List (List Target)) (i : ℕ)
    → targets_of (map f waits) i ≡ f (targets_of waits i)
targets_of-map f none [] i = sym none
targets_of-map f none (ts ∷ waits) zero = refl
targets_of-map f none (ts ∷ waits) (suc i) = targets_of-map f none waits i

length-mapped : (f g : List Target → List Target) (waits : List (List Target))
    → length (map f waits) ≡ length (map g waits)
length-mapped f g [] = refl
length-mapped f g (ts ∷ waits) = ap suc (length-mapped f g waits)

-- a wiring picks what another picks, if the flushes of each item are picked so
module _ (w : Wiring) (f g : List Target → List Target) (c d : Target → Target) (k m : Target → Bool)
    (wider : (t : Target) → k t ≡ true → m t ≡ true)
    (kinds : (j : ℕ) (whole : Bool) (t : Target) → Goes j whole (c t) → Goes j whole (d t))
    (few : (ts : List Target) → f ts ≡ map c (filter k ts)) (many : (ts : List Target) → g ts ≡ map d (filter m ts))
  where
    of_few : (i : ℕ) → targets_of (map f w.waits) i ≡ map c (filter k (targets_of w.waits i))
    of_few i = targets_of-map f (few []) w.waits i ∙ few (targets_of w.waits i)

    of_many : (i : ℕ) → targets_of (map g w.waits) i ≡ map d (filter m (targets_of w.waits i))
    of_many i = targets_of-map g (many []) w.waits i ∙ many (targets_of w.waits i)

    DeclaresMore-picked : DeclaresMore (record w { waits = map f w.waits }) (record w { waits = map g w.waits })
    DeclaresMore-picked = record {
      rest = refl;
      items = length-mapped f g w.waits;
      more = λ whole i j h.
          subst (Any (Goes j whole)) (sym (of_many i))
          (Any-picked c d k m wider kinds j whole (targets_of w.waits i) (subst (Any (Goes j whole)) (of_few i) h));
      counts = λ i. omega (
        arith,
        ap length (of_few i),
        ap length (of_many i),
        length-picked c d k m wider kinds (targets_of w.waits i),
      );
    }

-- ---- the flushes of readings, as they are picked

abbrev as_it_is : Target → Target
as_it_is t = t

module _ (p : ℕ) (kept : List ℕ) where
  abbrev stays : Target → Bool
  stays t = not (is_unsure_at p t)

  abbrev in_denied : Target → Bool
  in_denied t = is_kept kept t && stays t

  abbrev in_confirmed : Target → Bool
  in_confirmed t = is_kept kept (sure_at p t)

  plain : (ts : List Target) → kept_of kept ts ≡ map as_it_is (filter (is_kept kept) ts)
  plain ts = as_they_are (kept_of kept ts)
    where
      as_they_are : (l : List Target) → l ≡ map as_it_is l
      as_they_are [] = refl
      as_they_are (x ∷ l) = ap (λ (r : List Target). x ∷ r) (as_they_are l)

  of_denied : (ts : List Target) → kept_of kept (filter stays ts) ≡ map as_it_is (filter in_denied ts)
  of_denied [] = refl
  of_denied (t ∷ ts) = by (is_kept kept t) refl (stays t) (of_denied ts)
    where
      by : (b : Bool) → is_kept kept t ≡ b → (a : Bool)
          → kept_of kept (filter stays ts) ≡ map as_it_is (filter in_denied ts)
          → kept_of kept (cond a (t ∷ filter stays ts) (filter stays ts))
          ≡ map as_it_is (cond (b && a) (t ∷ filter in_denied ts) (filter in_denied ts))
      by true is true rest =
          ap (λ (c : Bool). cond c (t ∷ kept_of kept (filter stays ts)) (kept_of kept (filter stays ts))) is
          ∙ ap (λ (l : List Target). t ∷ l) rest
      by true is false rest = rest
      by false is true rest =
          ap (λ (c : Bool). cond c (t ∷ kept_of kept (filter stays ts)) (kept_of kept (filter stays ts))) is
          ∙ rest
      by false is false rest = rest

  of_confirmed : (ts : List Target) → kept_of kept (map (sure_at p) ts) ≡ map (sure_at p) (filter in_confirmed ts)
  of_confirmed [] = refl
  of_confirmed (t ∷ ts) = by (in_confirmed t) (of_confirmed ts)
    where
      by : (b : Bool) → kept_of kept (map (sure_at p) ts) ≡ map (sure_at p) (filter in_confirmed ts)
          → cond b (sure_at p t ∷ kept_of kept (map (sure_at p) ts)) (kept_of kept (map (sure_at p) ts))
          ≡ map (sure_at p) (cond b (t ∷ filter in_confirmed ts) (filter in_confirmed ts))
      by true rest = ap (λ (l : List Target). sure_at p t ∷ l) rest
      by false rest = rest

-- the readings of what is decided, as one step
module _ (w : Wiring) (p : ℕ) (kept : List ℕ) where
  reading-denied : reading (denied p w) kept
      ≡ record w { waits = map (λ (ts : List Target). kept_of kept (filter (stays p kept) ts)) w.waits }
  reading-denied = ap (λ (ws : List (List Target)). record w { waits = ws })
      (map-map (kept_of kept) (filter (stays p kept)) w.waits)

  reading-confirmed : reading (confirmed p w) kept
      ≡ record w { waits = map (λ (ts : List Target). kept_of kept (map (sure_at p) ts)) w.waits }
  reading-confirmed = ap (λ (ws : List (List Target)). record w { waits = ws })
      (map-map (kept_of kept) (map (sure_at p)) w.waits)

-- ---- which reading declares more

and-left : (a b : Bool) → (a && b) ≡ true → a ≡ true
and-left true b h = refl
and-left false b h = absurd cc

-- a flush that is kept is kept if it is sure at a place
kept-sure : (p : ℕ) (kept : List ℕ) (t : Target) → is_kept kept t ≡ true → is_kept kept (sure_at p t) ≡ true
kept-sure p kept t h = by t.unsure (t.place == p) h
  where
    by : (u e : Bool) → (not u || is_among kept t.place) ≡ true → (not (u && not e) || is_among kept t.place) ≡ true
    by false e h = refl
    by true true h = refl
    by true false h = h

-- a flush that is kept if it is sure at p is kept if p is kept
sure-kept : (p : ℕ) (kept : List ℕ) (t : Target) → is_kept kept (sure_at p t) ≡ true → is_kept (p ∷ kept) t ≡ true
sure-kept p kept t h = by t.unsure (t.place == p) refl h
  where
    eqb-sym : (a b : ℕ) → (a == b) ≡ true → (b == a) ≡ true
    eqb-sym a b h = eq-eqb b a (sym (eqb-true a b h))

    by : (u e : Bool) → (t.place == p) ≡ e → (not (u && not e) || is_among kept t.place) ≡ true
        → (not u || ((p == t.place) || is_among kept t.place)) ≡ true
    by false e is h = refl
    by true true is h = ap (λ (b : Bool). b || is_among kept t.place) (eqb-sym t.place p is)
    by true false is h = or_right (p == t.place) (is_among kept t.place) h

module _ (w : Wiring) (p : ℕ) (kept : List ℕ) where
  -- with a flush that is denied no more is declared
  fewer-denied : DeclaresMore (reading (denied p w) kept) (reading w kept)
  fewer-denied = subst (λ (v : Wiring). DeclaresMore v (reading w kept)) (sym (reading-denied w p kept))
      (DeclaresMore-picked w (λ ts. kept_of kept (filter (stays p kept) ts)) (kept_of kept) as_it_is as_it_is
      (in_denied p kept) (is_kept kept) (λ t h. and-left (is_kept kept t) (stays p kept t) h) (λ j whole t h. h)
      (of_denied p kept) (plain p kept))

  -- with a flush that is confirmed no less is
  more-confirmed : DeclaresMore (reading w kept) (reading (confirmed p w) kept)
  more-confirmed = subst (λ (v : Wiring). DeclaresMore (reading w kept) v) (sym (reading-confirmed w p kept))
      (DeclaresMore-picked w (kept_of kept) (λ ts. kept_of kept (map (sure_at p) ts)) as_it_is (sure_at p)
      (is_kept kept) (in_confirmed p kept) (kept-sure p kept) (λ j whole t h. h) (plain p kept) (of_confirmed p kept))

  -- confirming a flush that is kept declares no more
  fewer-confirmed : DeclaresMore (reading (confirmed p w) kept) (reading w (p ∷ kept))
  fewer-confirmed = subst (λ (v : Wiring). DeclaresMore v (reading w (p ∷ kept))) (sym (reading-confirmed w p kept))
      (DeclaresMore-picked w (λ ts. kept_of kept (map (sure_at p) ts)) (kept_of (p ∷ kept)) (sure_at p) as_it_is
      (in_confirmed p kept) (is_kept (p ∷ kept)) (sure-kept p kept) (λ j whole t h. h) (of_confirmed p kept)
      (plain p (p ∷ kept)))

  -- what is denied makes no difference to a reading that doesn't keep it
  more-denied : is_among kept p ≡ false → DeclaresMore (reading w kept) (reading (denied p w) kept)
  more-denied without = subst (λ (v : Wiring). DeclaresMore (reading w kept) v) (sym (reading-denied w p kept))
      (DeclaresMore-picked w (kept_of kept) (λ ts. kept_of kept (filter (stays p kept) ts)) as_it_is as_it_is
      (is_kept kept) (in_denied p kept) still (λ j whole t h. h) (plain p kept) (of_denied p kept))
    where
      still : (t : Target) → is_kept kept t ≡ true → in_denied p kept t ≡ true
      still t h = by t.unsure (t.place == p) refl h
        where
          by : (u e : Bool) → (t.place == p) ≡ e → (not u || is_among kept t.place) ≡ true
              → ((not u || is_among kept t.place) && not (u && e)) ≡ true
          by false e is h = refl
          by true false is h = ap (λ (b : Bool). b && true) h
          by true true is h =
              let there : is_among kept p ≡ true =
              subst (λ (x : ℕ). is_among kept x ≡ true) (eqb-true t.place p is) h in
              absurd cc

-- ---- runs and verdicts

-- a run that ends stuck does so with more flushes
EndsStuck-more : (v w : Wiring) (n : ℕ) (steps : List Step) → DeclaresMore v w → EndsStuck v n steps
    → EndsStuck w n steps
EndsStuck-more v w n steps h (run, stuck) =
    let m = DeclaresMore-helpers v w n h in (
      IsRun-more (with_helpers v n) (with_helpers w n) steps m run,
      subst (λ (s : State). IsStuck (with_helpers w n) s) (end_of-more (with_helpers v n) (with_helpers w n) steps m)
          (stuck-more (with_helpers v n) (with_helpers w n) (end_of (with_helpers v n) steps) m stuck),
    )

-- a fewest hang's reading isn't safe
IsFewest-hangs : (w : Wiring) (kept : List ℕ) (steps : List Step) → IsFewest w kept steps → ¬ IsSafe (reading w kept)
IsFewest-hangs w kept steps fewest safe =
    let h = fewest.hang.hangs 0 (omega arith) in safe 0 (omega arith) steps h.0 h.1

pub safe-decided : (w : Wiring) (p : ℕ) → IsSafeAnyway w → IsSafeAnyway (denied p w) × IsSafeAnyway (confirmed p w)
safe-decided w p safe = (
  λ kept. IsSafe-fewer (reading (denied p w) kept) (reading w kept) (fewer-denied w p kept) (safe kept),
  λ kept. IsSafe-fewer (reading (confirmed p w) kept) (reading w (p ∷ kept)) (fewer-confirmed w p kept)
      (safe (p ∷ kept)),
)

-- nothing is among no places
pub hangs-decided : (w : Wiring) (p : ℕ) → HangsForSure w → HangsForSure (denied p w) × HangsForSure (confirmed p w)
hangs-decided w p hangs = (
  λ kept safe. hangs [] (IsSafe-fewer (reading w []) (reading (denied p w) kept) (to_denied kept) safe),
  λ kept safe. hangs kept (IsSafe-fewer (reading w kept) (reading (confirmed p w) kept) (more-confirmed w p kept) safe),
)
  where
    to_denied : (kept : List ℕ) → DeclaresMore (reading w []) (reading (denied p w) kept)
    to_denied kept = subst (λ (v : Wiring). DeclaresMore (reading w []) v) (sym (reading-denied w p kept))
        (DeclaresMore-picked w (kept_of []) (λ ts. kept_of kept (filter (stays p kept) ts)) as_it_is as_it_is
        (is_kept []) (in_denied p kept) still (λ j whole t h. h) (plain p []) (of_denied p kept))
      where
        still : (t : Target) → is_kept [] t ≡ true → in_denied p kept t ≡ true
        still t h = by t.unsure (t.place == p) h
          where
            by : (u e : Bool) → (not u || false) ≡ true → ((not u || is_among kept t.place) && not (u && e)) ≡ true
            by false e h = refl
            by true e h = absurd cc

pub few-denied : (w : Wiring) (p : ℕ) (kept others : List ℕ) (steps more : List Step) → IsFewest w kept steps
    → IsFewest (denied p w) others more → length kept ≤ length others
few-denied w p kept others steps more was now =
    elim (cases_lt (length others) (length kept)) [
      | inl less ↦ absurd (IsFewest-hangs (denied p w) others more now
          (IsSafe-fewer (reading (denied p w) others) (reading w others) (fewer-denied w p others)
          (was.fewest others less)))
      | inr at_most ↦ at_most
    ]

pub hangs-confirmed : (w : Wiring) (p : ℕ) (kept : List ℕ) (steps : List Step) → IsFewest w kept steps
    → ¬ IsSafeAnyway (confirmed p w)
hangs-confirmed w p kept steps was anyway = IsFewest-hangs w kept steps was
    (IsSafe-fewer (reading w kept) (reading (confirmed p w) kept) (more-confirmed w p kept) (anyway kept))

pub no_more-confirmed : (w : Wiring) (p : ℕ) (kept others : List ℕ) (steps more : List Step) → IsFewest w kept steps
    → IsFewest (confirmed p w) others more → length others ≤ length kept
no_more-confirmed w p kept others steps more was now =
    elim (cases_lt (length kept) (length others)) [
      | inl less ↦ absurd (IsFewest-hangs w kept steps was
          (IsSafe-fewer (reading w kept) (reading (confirmed p w) kept) (more-confirmed w p kept)
          (now.fewest kept less)))
      | inr at_most ↦ at_most
    ]

pub one_less-confirmed : (w : Wiring) (p : ℕ) (kept others : List ℕ) (steps more : List Step) → IsFewest w kept steps
    → IsFewest (confirmed p w) others more → length kept ≤ length others + 1
one_less-confirmed w p kept others steps more was now =
    elim (cases_lt (length others + 1) (length kept)) [
      | inl less ↦ absurd (IsFewest-hangs (confirmed p w) others more now
          (IsSafe-fewer (reading (confirmed p w) others) (reading w (p ∷ others)) (fewer-confirmed w p others)
          (was.fewest (p ∷ others) (omega (arith, less)))))
      | inr at_most ↦ at_most
    ]

-- ---- one of the flushes that are kept

-- the places without this one
abbrev others_than : ℕ → List ℕ → List ℕ
others_than p ps = filter (λ (q : ℕ). not (q == p)) ps

length-others : (p : ℕ) (ps : List ℕ) → is_among ps p ≡ true → length (others_than p ps) < length ps
length-others p [] h = absurd cc
length-others p (q ∷ ps) h = by (q == p) (fewer ps) (λ g. length-others p ps g) h
  where
    fewer : (l : List ℕ) → length (others_than p l) ≤ length l
    fewer [] = omega arith
    fewer (x ∷ l) = step (x == p) (fewer l)
      where
        step : (b : Bool) → length (others_than p l) ≤ length l
            → length (cond (not b) (x ∷ others_than p l) (others_than p l)) ≤ suc (length l)
        step true g = omega (arith, g)
        step false g = omega (arith, g)

    by : (b : Bool) → length (others_than p ps) ≤ length ps
        → (is_among ps p ≡ true → length (others_than p ps) < length ps) → (b || is_among ps p) ≡ true
        → length (cond (not b) (q ∷ others_than p ps) (others_than p ps)) < suc (length ps)
    by true at_most rest h = omega (arith, at_most)
    by false at_most rest h = omega (arith, rest h)

-- a place that is kept is p, or one of the others
among-others : (p x : ℕ) (ps : List ℕ) → is_among ps x ≡ true → is_among (p ∷ others_than p ps) x ≡ true
among-others p x [] h = absurd cc
among-others p x (q ∷ ps) h = by (q == p) refl (q == x) refl (λ g. among-others p x ps g) h
  where
    by : (a : Bool) → (q == p) ≡ a → (b : Bool) → (q == x) ≡ b
        → (is_among ps x ≡ true → ((p == x) || is_among (others_than p ps) x) ≡ true)
        → (b || is_among ps x) ≡ true
        → ((p == x) || is_among (cond (not a) (q ∷ others_than p ps) (others_than p ps)) x) ≡ true
    by true is true are rest h = ap (λ (b : Bool). b || is_among (others_than p ps) x)
        (eq-eqb p x (sym (eqb-true q p is) ∙ eqb-true q x are))
    by true is false are rest h = rest h
    by false is true are rest h =
        or_right (p == x) ((q == x) || is_among (others_than p ps) x)
        (ap (λ (b : Bool). b || is_among (others_than p ps) x) are)
    by false is false are rest h = by_rest (p == x) (rest h)
      where
        by_rest : (e : Bool) → (e || is_among (others_than p ps) x) ≡ true
            → (e || ((q == x) || is_among (others_than p ps) x)) ≡ true
        by_rest true g = refl
        by_rest false g = or_right (q == x) (is_among (others_than p ps) x) g

pub of_those-confirmed : (w : Wiring) (p : ℕ) (kept others : List ℕ) (steps more : List Step) → is_among kept p ≡ true
    → IsFewest w kept steps → IsFewest (confirmed p w) others more → length others + 1 ≡ length kept
of_those-confirmed w p kept others steps more there was now =
    elim (cases_lt (length others) (length kept)) [
      | inl less ↦ omega (arith, less, one_less-confirmed w p kept others steps more was now)
      | inr at_most ↦ absurd (IsFewest-hangs w kept steps was
          (IsSafe-fewer (reading w kept) (reading (confirmed p w) (others_than p kept)) with_others
          (now.fewest (others_than p kept) (omega (arith, at_most, length-others p kept there)))))
    ]
  where
    -- the reading that keeps the others declares as much once p is confirmed
    still : (t : Target) → is_kept kept t ≡ true → in_confirmed p (others_than p kept) t ≡ true
    still t h = by t.unsure (t.place == p) refl h
      where
        by : (u e : Bool) → (t.place == p) ≡ e → (not u || is_among kept t.place) ≡ true
            → (not (u && not e) || is_among (others_than p kept) t.place) ≡ true
        by false e is h = refl
        by true true is h = refl
        by true false is h = apart (p == t.place) refl (among-others p t.place kept h)
          where
            apart : (b : Bool) → (p == t.place) ≡ b → (b || is_among (others_than p kept) t.place) ≡ true
                → is_among (others_than p kept) t.place ≡ true
            apart true same g = absurd (let yes = eq-eqb t.place p (sym (eqb-true p t.place same)) in cc)
            apart false same g = g

    with_others : DeclaresMore (reading w kept) (reading (confirmed p w) (others_than p kept))
    with_others = subst (λ (v : Wiring). DeclaresMore (reading w kept) v)
        (sym (reading-confirmed w p (others_than p kept)))
        (DeclaresMore-picked w (kept_of kept) (λ ts. kept_of (others_than p kept) (map (sure_at p) ts)) as_it_is
        (sure_at p) (is_kept kept) (in_confirmed p (others_than p kept)) still (λ j whole t h. h) (plain p kept)
        (of_confirmed p (others_than p kept)))

-- ---- runs that stay

pub stuck-denied : (w : Wiring) (p n : ℕ) (kept : List ℕ) (steps : List Step) → is_among kept p ≡ false
    → EndsStuck (reading w kept) n steps → EndsStuck (reading (denied p w) kept) n steps
stuck-denied w p n kept steps without stuck = EndsStuck-more (reading w kept) (reading (denied p w) kept) n steps
    (more-denied w p kept without) stuck

pub stuck-confirmed : (w : Wiring) (p n : ℕ) (kept : List ℕ) (steps : List Step) → EndsStuck (reading w kept) n steps
    → EndsStuck (reading (confirmed p w) kept) n steps
stuck-confirmed w p n kept steps stuck = EndsStuck-more (reading w kept) (reading (confirmed p w) kept) n steps
    (more-confirmed w p kept) stuck
