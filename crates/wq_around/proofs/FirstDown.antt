-- The chain that is followed down from a lane, and the best one of those that begin at the greatest height.
use Rattle.std.proofs.Common.{◌≡◌, ◌≢◌, ℕ, ◌+◌, ◌<◌, ◌≤◌, ◌==◌, inl, inr, Bool, List, [], ◌∷◌}
use Rattle.std.proofs.Common.{slice_index, find, Some, refl, sym, ap, subst, ◌∙◌, eq-eqb, eqb-true, arith}
use Rattle.std.specs.Prelude.{Contains, ◌&&◌}
use Rattle.std.specs.List.{Any}
use Rattle.std.proofs.lemmas.Bool.{cases_lt, and_parts, and_from, true≢false}
use Rattle.wq_graph.specs.declared.arc.WaitArc.{WaitArc}
use Rattle.wq_graph.specs.Graph.{IsGraph, arcs_at}
use Rattle.wq_levels.proofs.First.{IsFirst, IsFirst-find, Tells}
use Rattle.wq_levels.proofs.Graphs.{ArcsRise, arcs_at-rise}
use Rattle.wq_levels.proofs.WaysOn.{same_place}
use Rattle.wq_plan.proofs.Places.{earlier_place}
use Rattle.wq_around.specs.Down.{one_if_new, leads_on, LeadsDown, doubts_on, doubts_by, AreDoubts}
use Rattle.wq_around.specs.Down.{IsFirstTop, GoesFirst, IsFirstDown, IsBestDown}
use Rattle.wq_around.proofs.Descents.{down-above}
use Rattle.wq_around.proofs.DoubtLemmas.{doubts_on-cons, leads-above}

-- of the arcs that have a property the first has the least place
first-place : (P : WaitArc → Type 0) (arcs : List WaitArc) (x y : WaitArc) → ArcsRise arcs → IsFirst P arcs x
    → Contains arcs y → P y → x.place ≤ y.place
first-place P arcs x y rise first there holds = elim (cases_lt there.0 first.place) [
  | inl less ↦ absurd (first.earlier there.0 y less (subst P (sym there.2) holds))
  | inr le ↦ omega (
    arith,
    earlier_place arcs x first.place there.0 y rise first.fits first.here le there.1,
    ap (λ (a : WaitArc). a.place) there.2,
  )
]

module _ (unsure : ℕ → Bool) (graph : List (List WaitArc)) (new : ℕ) (heights doubts : List ℕ) (sound : IsGraph graph)
    (are : AreDoubts unsure graph new heights doubts) where
  -- a chain with the fewest unsure flushes from q goes on by the arc
  abbrev pub IsNext : ℕ → WaitArc → Type 0
  IsNext q a =
      (slice_index heights a.head + one_if_new new q ≡ slice_index heights q)
      × (doubts_by unsure doubts a ≡ slice_index doubts q)

  abbrev pub is_next : ℕ → WaitArc → Bool
  is_next q a = leads_on heights new q a && (doubts_by unsure doubts a == slice_index doubts q)

  Tells-next : (q : ℕ) → Tells (IsNext q) (is_next q)
  Tells-next q = record {
    passes = λ a passes.
        let parts = and_parts (leads_on heights new q a) (doubts_by unsure doubts a == slice_index doubts q) passes in (
          eqb-true (slice_index heights a.head + one_if_new new q) (slice_index heights q) parts.0,
          eqb-true (doubts_by unsure doubts a) (slice_index doubts q) parts.1,
        );
    fails = λ a fails is.
        let passes =
        and_from (leads_on heights new q a) (doubts_by unsure doubts a == slice_index doubts q)
        (eq-eqb (slice_index heights a.head + one_if_new new q) (slice_index heights q) is.0)
        (eq-eqb (doubts_by unsure doubts a) (slice_index doubts q) is.1) in
        true≢false (sym passes ∙ fails);
  }

  -- where a chain ends
  pub IsFirstDown-end : (q : ℕ) → new ≤ q → slice_index heights q ≡ 1
      → IsFirstDown unsure graph new heights doubts q []
  IsFirstDown-end q from one =
      let few : slice_index doubts q ≤ 0 = (are.fewest q (omega (arith, one))).least [] (from, one) in
      record { down = (from, one); count = omega (arith, few); first = λ others down same. tt }

  module _ (q : ℕ) (some : 0 < slice_index heights q) (more : new ≤ q → slice_index heights q ≢ 1) where
    -- an arc of a chain down, and the fewest behind it
    through-most : (y : WaitArc) (ys : List WaitArc) → LeadsDown graph new heights q (y ∷ ys)
        → (doubts_by unsure doubts y ≤ doubts_on unsure (y ∷ ys))
        × (slice_index doubts q ≤ doubts_by unsure doubts y)
    through-most y ys down =
        let here = are.fewest q some in
        let rest = are.fewest y.head down.2 in
        let le : slice_index doubts y.head ≤ doubts_on unsure ys = rest.least ys down.3 in
        let other : slice_index doubts q ≤ doubts_on unsure (y ∷ rest.arcs) =
        here.least (y ∷ rest.arcs) (down.0, down.1, down.2, rest.down) in (
          omega (arith, doubts_on-cons unsure y ys, le),
          omega (arith, doubts_on-cons unsure y rest.arcs, other, rest.count),
        )

    some_next : (arcs : List WaitArc) → LeadsDown graph new heights q arcs → doubts_on unsure arcs
        ≡ slice_index doubts q → Any (IsNext q) (arcs_at graph q)
    some_next [] down count = absurd (more down.0 down.1)
    some_next (y ∷ ys) down count =
        let most = through-most y ys down in
        let same : doubts_by unsure doubts y ≡ slice_index doubts q = omega (arith, most.0, most.1, count) in
        (down.0.0, y, down.0.1, down.0.2, (down.1, same))

    -- the first such arc is found
    pub next-found : (x : WaitArc) × (find (is_next q) (arcs_at graph q) ≡ Some x)
        × IsFirst (IsNext q) (arcs_at graph q) x
    next-found =
        let here = are.fewest q some in
        IsFirst-find (IsNext q) (is_next q) (Tells-next q) (arcs_at graph q) (some_next here.arcs here.down here.count)

    pub next-above : (x : WaitArc) → IsFirst (IsNext q) (arcs_at graph q) x → 0 < slice_index heights x.head
    next-above x first = leads-above heights new q (slice_index heights x.head) some more first.holds.0

    -- and the chain goes on from there
    module _ (x : WaitArc) (first : IsFirst (IsNext q) (arcs_at graph q) x) (rest : List WaitArc)
        (on : IsFirstDown unsure graph new heights doubts x.head rest) where
      goes_first : (others : List WaitArc) → LeadsDown graph new heights q others → doubts_on unsure others
          ≡ slice_index doubts q → GoesFirst q (x ∷ rest) q others
      goes_first [] down same = absurd (more down.0 down.1)
      goes_first (y ∷ ys) down same =
          let most = through-most y ys down in
          let is : IsNext q y = (down.1, omega (arith, most.0, most.1, same)) in
          let leaves : Contains (arcs_at graph q) x = (first.place, first.fits, first.here) in
          let le : x.place ≤ y.place =
          first-place (IsNext q) (arcs_at graph q) x y (arcs_at-rise graph sound q) first down.0 is in
          inr (
            refl,
            elim (cases_lt x.place y.place) [
              | inl less ↦ inl less
              | inr ge ↦
                  let place : x.place ≡ y.place = omega (arith, le, ge) in
                  let arc : x ≡ y = same_place (arcs_at graph q) x y (arcs_at-rise graph sound q) leaves down.0 place in
                  let few : doubts_on unsure ys ≡ slice_index doubts y.head =
                  omega (arith, is.1, same, doubts_on-cons unsure y ys) in
                  let down_here : LeadsDown graph new heights x.head ys =
                  subst (λ (u : WaitArc). LeadsDown graph new heights u.head ys) (sym arc) down.3 in
                  let few_here : doubts_on unsure ys ≡ slice_index doubts x.head =
                  few ∙ ap (λ (u : WaitArc). slice_index doubts u.head) (sym arc) in
                  inr (
                    place,
                    subst (λ (u : WaitArc). GoesFirst x.head rest u.head ys) arc (on.first ys down_here few_here),
                  )
            ],
          )

      pub IsFirstDown-step : IsFirstDown unsure graph new heights doubts q (x ∷ rest)
      IsFirstDown-step = record {
        down = ((first.place, first.fits, first.here), first.holds.0, next-above x first, on.down);
        count = omega (arith, doubts_on-cons unsure x rest, on.count, first.holds.1);
        first = goes_first;
      }

  -- ---- from a lane of the greatest height

  lower_first : (p q : ℕ) (arcs others : List WaitArc) → p < q → GoesFirst p arcs q others
  lower_first p q [] others less = tt
  lower_first p q (x ∷ arcs) [] less = tt
  lower_first p q (x ∷ arcs) (y ∷ others) less = inl less

  pub IsBestDown-first : (most first : ℕ) (arcs : List WaitArc) → IsFirstTop new heights most doubts first
      → IsFirstDown unsure graph new heights doubts first arcs → IsBestDown unsure graph new heights most arcs
  IsBestDown-first most first arcs top chain = record {
    begin = first;
    top = top.top;
    down = chain.down;
    fewest = λ q others other down.
        let few : slice_index doubts q ≤ doubts_on unsure others =
        (are.fewest q (down-above graph new heights q others down)).least others down in
        omega (arith, chain.count, top.fewest q other, few);
    first = λ q others other down same.
        let few : slice_index doubts q ≤ doubts_on unsure others =
        (are.fewest q (down-above graph new heights q others down)).least others down in
        let tie : slice_index doubts q ≡ slice_index doubts first =
        omega (arith, chain.count, top.fewest q other, few, same) in
        let low : first ≤ q = top.lowest q other tie in
        elim (cases_lt first q) [
          | inl less ↦ lower_first first q arcs others less
          | inr ge ↦
              let here : q ≡ first = omega (arith, low, ge) in
              subst (λ (u : ℕ). GoesFirst first arcs u others) (sym here)
              (chain.first others (subst (λ (u : ℕ). LeadsDown graph new heights u others) here down)
              (same ∙ chain.count))
        ];
  }
