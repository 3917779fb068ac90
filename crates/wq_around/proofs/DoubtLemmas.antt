-- With how few unsure flushes chains lead down.
use Rattle.std.proofs.Common.{◌≡◌, ◌≢◌, ℕ, ◌+◌, ◌<◌, ◌≤◌, inl, inr, Bool, true, false, cond, List, [], ◌∷◌, length}
use Rattle.std.proofs.Common.{map, take, set, slice_index, slice_index_or, replicate, refl, sym, ap, subst, ◌∙◌}
use Rattle.std.proofs.Common.{eq-eqb, eqb-true, arith}
use Rattle.std.specs.Prelude.{Contains, filter}
use Rattle.std.specs.List.{All}
use Rattle.std.proofs.lemmas.Bool.{cases_eq, cases_lt}
use Rattle.std.proofs.lemmas.List.{get_or_past, get_or-set_same, get_or-set_other, get_or-replicate, length-replicate}
use Rattle.std.proofs.lemmas.List.Elements.{All-contains, All-contains_itself, All-filter, All-from_get_or}
use Rattle.std.proofs.lemmas.List.Elements.{filter_passes}
use Rattle.std.proofs.lemmas.List.Sums.{sum_by-cons}
use Rattle.wq_buckets.specs.Places.{buckets_of}
use Rattle.wq_items.proofs.Lists.{Contains-filtered}
use Rattle.wq_graph.specs.declared.arc.WaitArc.{WaitArc}
use Rattle.wq_graph.specs.Graph.{IsGraph, arcs_at}
use Rattle.wq_levels.specs.Ranks.{AreRanks}
use Rattle.wq_levels.proofs.Graphs.{arcs_at-below}
use Rattle.wq_levels.proofs.Ranks.{AreRanks-fall, AreRanks-few}
use Rattle.wq_plan.specs.Plan.{lanes_of, least_of}
use Rattle.wq_plan.proofs.LeastOf.{least_by-le, least_by-some}
use Rattle.wq_around.specs.Down.{one_if_new, leads_on, LeadsDown, AllLeadDown, doubts_on, doubts_by, IsFewest}
use Rattle.wq_around.specs.Down.{AreDoubts}
use Rattle.wq_around.proofs.HeightLemmas.{one_if_new-cases}
use Rattle.wq_around.proofs.SoFar.{AreSoFar, AreSoFar-none, AreSoFar-set, AreSoFar-kept, AreSoFar-taken, AreSoFar-all}

-- what passes a test and is in a list
pub Contains-unfiltered : {X : Type 0} (p : X → Bool) (xs : List X) (x : X) → Contains (filter p xs) x
    → Contains xs x × (p x ≡ true)
Contains-unfiltered {X} p xs x there = (
  All-contains (Contains xs) (filter p xs) x (All-filter p (Contains xs) xs (All-contains_itself xs)) there,
  All-contains (λ (y : X). p y ≡ true) (filter p xs) x (filter_passes p xs) there,
)

-- the arc that leads on leads to a height above 0
pub leads-above : (heights : List ℕ) (new q h : ℕ) → 0 < slice_index heights q
    → (new ≤ q → slice_index heights q ≢ 1) → h + one_if_new new q ≡ slice_index heights q → 0 < h
leads-above heights new q h some more same = elim (one_if_new-cases new q) [
  | inl fixed ↦ omega (arith, same, some, fixed.1)
  | inr from ↦ omega (arith, same, some, from.1, more from.0)
]

module _ (unsure : ℕ → Bool) where
  pub doubt-few : (a : WaitArc) → cond (unsure a.place) 1 0 ≤ 1
  doubt-few a = by (unsure a.place)
    where
      by : (b : Bool) → cond b 1 0 ≤ 1
      by true = omega arith
      by false = omega arith

  pub doubts_on-cons : (a : WaitArc) (arcs : List WaitArc) → doubts_on unsure (a ∷ arcs) ≡ cond (unsure a.place) 1 0
      + doubts_on unsure arcs
  doubts_on-cons a arcs = sum_by-cons (λ (b : WaitArc). cond (unsure b.place) 1 0) a arcs

module _ (unsure : ℕ → Bool) (graph : List (List WaitArc)) (new : ℕ) (heights : List ℕ) where
  -- ---- from one lane

  pub IsFewest-end : (q : ℕ) → new ≤ q → slice_index heights q ≡ 1 → IsFewest unsure graph new heights q 0
  IsFewest-end q from one = record { arcs = []; down = (from, one); count = refl; least = λ others down. omega arith }

  module _ (doubts : List ℕ) (q : ℕ) where
    abbrev on : WaitArc → Bool
    on = leads_on heights new q

    abbrev over : WaitArc → ℕ
    over = doubts_by unsure doubts

    abbrev ways : List WaitArc
    ways = filter on (arcs_at graph q)

    -- by way of an arc no more than one more
    step-few : (n : ℕ) → ((a : WaitArc) → Contains (arcs_at graph q) a → slice_index doubts a.head < n)
        → least_of (map over ways) ≤ n
    step-few n each = by ways (λ x there. each x (Contains-unfiltered on (arcs_at graph q) x there).0)
      where
        by : (xs : List WaitArc) → ((x : WaitArc) → Contains xs x → slice_index doubts x.head < n)
            → least_of (map over xs) ≤ n
        by [] all = omega arith
        by (x ∷ xs) all =
            let best = least_by-some over (x ∷ xs) (omega arith) in
            omega (arith, all best.0 best.1, best.2, doubt-few unsure best.0)

    module _ (some : 0 < slice_index heights q) (more : new ≤ q → slice_index heights q ≢ 1)
        (each : (a : WaitArc) → Contains (arcs_at graph q) a → 0 < slice_index heights a.head
        → IsFewest unsure graph new heights a.head (slice_index doubts a.head)) where
      way : (y : WaitArc) → Contains (arcs_at graph q) y
          → slice_index heights y.head + one_if_new new q ≡ slice_index heights q → Contains ways y
      way y there leads =
          Contains-filtered on (arcs_at graph q) y
          (eq-eqb (slice_index heights y.head + one_if_new new q) (slice_index heights q) leads) there

      step-least : (others : List WaitArc) → LeadsDown graph new heights q others → least_of (map over ways)
          ≤ doubts_on unsure others
      step-least [] down = absurd (more down.0 down.1)
      step-least (y ∷ ys) down =
          let rest : slice_index doubts y.head ≤ doubts_on unsure ys = (each y down.0 down.2).least ys down.3 in
          omega (arith, least_by-le over ways y (way y down.0 down.1), rest, doubts_on-cons unsure y ys)

      some_way : (arcs : List WaitArc) → LeadsDown graph new heights q arcs → 0 < length ways
      some_way [] down = absurd (more down.0 down.1)
      some_way (y ∷ ys) down = let there = way y down.0 down.1 in omega (arith, there.1)

      pub IsFewest-step : ((arcs : List WaitArc) × LeadsDown graph new heights q arcs)
          → IsFewest unsure graph new heights q (least_of (map over ways))
      IsFewest-step down =
          let best = least_by-some over ways (some_way down.0 down.1) in
          let x : WaitArc = best.0 in
          let from = Contains-unfiltered on (arcs_at graph q) x best.1 in
          let leads : slice_index heights x.head + one_if_new new q ≡ slice_index heights q =
          eqb-true (slice_index heights x.head + one_if_new new q) (slice_index heights q) from.1 in
          let up : 0 < slice_index heights x.head =
          leads-above heights new q (slice_index heights x.head) some more leads in
          let rest = each x from.0 up in
          record {
            arcs = x ∷ rest.arcs;
            down = (from.0, leads, up, rest.down);
            count = omega (arith, doubts_on-cons unsure x rest.arcs, rest.count, best.2);
            least = step-least;
          }

  -- ---- by ranks, from below

  module _ (ranks : List ℕ) where
    abbrev IsDoubt : ℕ → ℕ → Type 0
    IsDoubt q n = 0 < slice_index heights q → IsFewest unsure graph new heights q n

    -- where a chain ends there is none; and there are no more than the rank says
    pub record AreDoubtsSoFar (rank : ℕ) (others now : List ℕ) : Type 0 where
      pub known : AreSoFar IsDoubt ranks rank others now
      pub ends : (q : ℕ) → new ≤ q → slice_index heights q ≡ 1 → slice_index now q ≡ 0
      pub few : (q : ℕ) → slice_index now q ≤ slice_index ranks q

    pub AreDoubtsSoFar-none : (now : List ℕ) → now ≡ replicate (length ranks) 0 → AreDoubtsSoFar 0 [] now
    AreDoubtsSoFar-none now zeros =
        let size : length now ≡ length ranks = ap (λ (l : List ℕ). length l) zeros
        ∙ length-replicate {A = ℕ} (length ranks) 0 in
        let at : (q : ℕ) → slice_index now q ≡ 0 = λ q. elim (cases_lt q (length ranks)) [
          | inl within ↦
              ap (λ (l : List ℕ). slice_index l q) zeros ∙ get_or-replicate {A = ℕ} (length ranks) q 0 0 within
          | inr past ↦ get_or_past now q 0 (omega (arith, past, size))
        ] in
        record {
          known = AreSoFar-none IsDoubt ranks now size;
          ends = λ q from one. at q;
          few = λ q. omega (arith, at q);
        }

    module _ (sound : IsGraph graph) (ranked : AreRanks graph ranks) (all : AllLeadDown graph new heights) where
      module _ (rank k : ℕ) (ps now : List ℕ) (so_far : AreDoubtsSoFar rank (take k ps) now) (fits : k < length ps)
          (within : slice_index ps k < length ranks) (at : slice_index ranks (slice_index ps k) ≡ rank) where
        abbrev v : ℕ
        v = slice_index ps k

        lower : (a : WaitArc) → Contains (arcs_at graph v) a → slice_index ranks a.head < rank
        lower a there =
            let falls : slice_index ranks a.head < slice_index ranks v =
            AreRanks-fall graph ranks sound ranked v a.head (omega (arith, within, ranked.one_each))
            (there.0, a, there.1, there.2, refl) in
            omega (arith, falls, at)

        below : (a : WaitArc) → Contains (arcs_at graph v) a → a.head < length ranks
        below a there =
            let inside : a.head < length graph =
            All-contains (λ (b : WaitArc). b.head < length graph) (arcs_at graph v) a (arcs_at-below graph sound v)
            there in
            omega (arith, inside, ranked.one_each)

        -- a lane from which a chain leads on
        pub AreDoubtsSoFar-set : (n : ℕ) → (new ≤ v → slice_index heights v ≢ 1)
            → n ≡ least_of (map (doubts_by unsure now) (filter (leads_on heights new v) (arcs_at graph v)))
            → AreDoubtsSoFar rank (take (k + 1) ps) (set now v n)
        AreDoubtsSoFar-set n more is =
            let inside : v < length now = omega (arith, within, so_far.known.one_each) in
            let here : slice_index (set now v n) v ≡ n = get_or-set_same now v n 0 inside in
            let other : (w : ℕ) → w ≢ v → slice_index (set now v n) w ≡ slice_index now w =
            λ w apart. get_or-set_other now v w n 0 apart in
            let few : n ≤ slice_index ranks v =
            subst (λ (m : ℕ). m ≤ slice_index ranks v) (sym is)
            (step-few now v (slice_index ranks v)
            (λ a there. omega (arith, lower a there, at, so_far.few a.head))) in
            record {
              known = AreSoFar-set IsDoubt ranks rank k ps now so_far.known fits n within at
                  (λ some. subst (IsFewest unsure graph new heights v) (sym is)
                  (IsFewest-step now v some more
                  (λ a there up. so_far.known.lower a.head (below a there) (lower a there) up) (all v some)));
              ends = λ q from one. other q
                  (λ e. more (subst (λ (u : ℕ). new ≤ u) e from) (ap (slice_index heights) (sym e) ∙ one))
                  ∙ so_far.ends q from one;
              few = λ q. elim (cases_eq q v) [
                | inl same ↦
                    subst (λ (u : ℕ). slice_index (set now v n) u ≤ slice_index ranks u) (sym same)
                    (omega (arith, here, few))
                | inr apart ↦ omega (arith, other q apart, so_far.few q)
              ];
            }

        -- a lane at which a chain ends
        pub AreDoubtsSoFar-end : new ≤ v → slice_index heights v ≡ 1 → AreDoubtsSoFar rank (take (k + 1) ps) now
        AreDoubtsSoFar-end from one = record {
          known = AreSoFar-kept IsDoubt ranks rank k ps now so_far.known fits
              (λ some. subst (IsFewest unsure graph new heights v) (sym (so_far.ends v from one))
              (IsFewest-end v from one));
          ends = so_far.ends;
          few = so_far.few;
        }

      pub AreDoubtsSoFar-taken : (rank k count : ℕ) (ps now : List ℕ) (buckets : List (List ℕ)) → rank < count
          → buckets ≡ buckets_of ranks count → ps ≡ slice_index_or buckets rank [] → length ps ≤ k
          → AreDoubtsSoFar rank (take k ps) now → AreDoubtsSoFar (rank + 1) [] now
      AreDoubtsSoFar-taken rank k count ps now buckets within are own every so_far = record {
        known = AreSoFar-taken IsDoubt ranks rank k count ps now buckets within are own every so_far.known;
        ends = so_far.ends;
        few = so_far.few;
      }

      pub AreDoubtsSoFar-small : (rank : ℕ) (others now : List ℕ) → AreDoubtsSoFar rank others now
          → All (λ n. n < 4096) now
      AreDoubtsSoFar-small rank others now so_far = All-from_get_or (λ n. n < 4096) now 0 (λ q within.
          omega (
            arith,
            so_far.few q,
            AreRanks-few graph ranks sound ranked q 0 (omega (arith, within, so_far.known.one_each)),
            sound.few,
          ))

      pub AreDoubtsSoFar-all : length heights ≡ length graph → (rank : ℕ) (now : List ℕ) → lanes_of ranks ≤ rank
          → AreDoubtsSoFar rank [] now → AreDoubts unsure graph new heights now
      AreDoubtsSoFar-all one_each rank now last so_far = record {
        one_each = so_far.known.one_each ∙ ranked.one_each;
        fewest = λ q some. elim (cases_lt q (length ranks)) [
          | inl within ↦ AreSoFar-all IsDoubt ranks rank now last so_far.known q within some
          | inr past ↦
              absurd (omega (arith, some, get_or_past heights q 0 (omega (arith, past, one_each, ranked.one_each))))
        ];
      }
