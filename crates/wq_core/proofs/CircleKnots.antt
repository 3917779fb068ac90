-- If lanes that have a rescuer wait in a circle, there are items that hold one another up.
use Rattle.std.proofs.Common.{◌≡◌, ◌≢◌, ℕ, zero, suc, ◌⊎◌, inl, inr, true, eqb, List, [], ◌∷◌, get_or, refl, sym, ap, subst, ◌∙◌, arith}
use Rattle.std.specs.Prelude.{AllPairs, Contains}
use Rattle.std.specs.List.{Any, list_any}
use Rattle.std.proofs.lemmas.Bool.{cases_Bool, eqb-true, eq-eqb, false≢true}
use Rattle.std.proofs.lemmas.List.Elements.{Contains-get_or}
use Rattle.std.proofs.lemmas.List.Kept.{AllPairs-cons}
use Rattle.std.proofs.lemmas.List.Folds.{Any-from_list_any, list_any-from_Any}
use Rattle.std.proofs.lemmas.Option.{get_or_from_slice_get}
use Rattle.wq_items.specs.declared.target.Target.{Target}
use Rattle.wq_items.specs.Chain.{IsChain, last_of, Circle}
use Rattle.wq_items.proofs.Lists.{Contains-later}
use Rattle.wq_core.specs.Wiring.{Wiring, IsWiring, HasRescuer, LaneWaits, RescuedWaits, lane_of, declared_by}
use Rattle.wq_core.specs.Deadlock.{Deadlocks}
use Rattle.wq_core.specs.Knot.{HasLane, WaitsAmong, IsKnot}
use Rattle.wq_core.proofs.KnotRuns.{Deadlocks-knot}
use Rattle.wq_core.proofs.LaneCircles.{Circle-map}
use Rattle.wq_core.proofs.LaneLemmas.{AllPairs-nil}
use Rattle.wq_core.proofs.Wirings.{all_have}

module _ (w : Wiring) where
  -- ---- items and their lanes

  HasLane-here : (i : ℕ) (is : List ℕ) (q : ℕ) → lane_of w i ≡ q → HasLane w (i ∷ is) q
  HasLane-here i is q same = (0, i, omega arith, refl, same)

  HasLane-later : (i : ℕ) (is : List ℕ) (q : ℕ) → HasLane w is q → HasLane w (i ∷ is) q
  HasLane-later i is q (k, j, lt, at, same) = (suc k, j, omega arith, at, same)

  HasLane-cases : (i : ℕ) (is : List ℕ) (q : ℕ) → HasLane w (i ∷ is) q → (lane_of w i ≡ q) ⊎ HasLane w is q
  HasLane-cases i is q (zero, j, lt, at, same) = inl (ap (lane_of w) at ∙ same)
  HasLane-cases i is q (suc k, j, lt, at, same) = inr (k, j, omega arith, at, same)

  cases_HasLane : (is : List ℕ) (q : ℕ) → HasLane w is q ⊎ (¬ HasLane w is q)
  cases_HasLane is q = elim (cases_Bool (list_any (λ i. eqb (lane_of w i) q) is)) [
    | inl some ↦ (let found = Any-from_list_any (λ i. eqb (lane_of w i) q) is some in inl (found.0, found.1, found.2, found.3, eqb-true (lane_of w found.1) q found.4))
    | inr none ↦ inr (λ has.
        let some : list_any (λ i. eqb (lane_of w i) q) is ≡ true = list_any-from_Any (λ i. eqb (lane_of w i) q) is (has.0, has.1, has.2, has.3, eq-eqb (lane_of w has.1) q has.4) in
        false≢true (sym none ∙ some)
        )
  ]

  -- ---- one item for each lane

  -- some of these items, no two of them on the same lane, which have all the lanes that these have
  record IsOneEach (is ones : List ℕ) : Type 0 where
    apart : AllPairs (λ i j. lane_of w i ≢ lane_of w j) ones
    among : (i : ℕ) → Contains ones i → Contains is i
    lanes : (q : ℕ) → HasLane w is q → HasLane w ones q

  one_each : (is : List ℕ) → (ones : List ℕ) × IsOneEach is ones
  one_each [] = ([], record { apart = AllPairs-nil (λ i j. lane_of w i ≢ lane_of w j); among = λ i there. there; lanes = λ q has. has })
  one_each (i ∷ is) =
      let rest = one_each is in
      let ones : List ℕ = rest.0 in
      elim (cases_HasLane ones (lane_of w i)) [
        | inl has ↦ (
          ones,
          record {
            apart = rest.1.apart;
            among = λ j there. Contains-later i is j (rest.1.among j there);
            lanes = λ q some. elim (HasLane-cases i is q some) [
              | inl same ↦ subst (λ (p : ℕ). HasLane w ones p) same has
              | inr later ↦ rest.1.lanes q later
            ];
          },
        )
        | inr new ↦ (
          i ∷ ones,
          record {
            apart = AllPairs-cons (λ a b. lane_of w a ≢ lane_of w b) i ones (λ k d lt same. let there = Contains-get_or ones k d lt in new (there.0, get_or ones k d, there.1, there.2, sym same)) rest.1.apart;
            among = λ j there. among i is ones rest.1.among j there;
            lanes = λ q some. elim (HasLane-cases i is q some) [
              | inl same ↦ HasLane-here i ones q same
              | inr later ↦ HasLane-later i ones q (rest.1.lanes q later)
            ];
          },
        )
      ]
    where
      among : (i : ℕ) (is ones : List ℕ) → ((j : ℕ) → Contains ones j → Contains is j) → (j : ℕ) → Contains (i ∷ ones) j → Contains (i ∷ is) j
      among i is ones rest j (zero, lt, at) = (0, omega arith, at)
      among i is ones rest j (suc k, lt, at) = Contains-later i is j (rest j (k, omega arith, at))

  -- ---- the items of a circle

  -- item i declares a flush of an item on lane x, or on the lane of one of these
  abbrev WaitsOrEnds : ℕ → List ℕ → ℕ → Type 0
  WaitsOrEnds x is i = Any (λ (t : Target). (lane_of w t.item ≡ x) ⊎ HasLane w is (lane_of w t.item)) (declared_by w i)

  -- items along a chain of lanes that have a rescuer from lane v, whose last lane waits for lane x
  record GoAlong (x v : ℕ) (is : List ℕ) : Type 0 where
    begins : HasLane w is v
    rescued : (i : ℕ) → Contains is i → HasRescuer w (lane_of w i)
    goes : (i : ℕ) → Contains is i → WaitsOrEnds x is i

  one_wait : (p q : ℕ) → RescuedWaits w p q → (i : ℕ) × (lane_of w i ≡ p) × Any (λ (t : Target). lane_of w t.item ≡ q) (declared_by w i)
  one_wait p q (rescuer, other, waits) =
      let d = waits.declares in
      (waits.item, get_or_from_slice_get w.lane_of_item waits.item p 0 waits.of_item, (d.0, d.1, d.2, d.3, ap (lane_of w) d.4 ∙ get_or_from_slice_get w.lane_of_item waits.target q 0 waits.of_target))

  items_along : (x v : ℕ) (vs : List ℕ) → IsChain (RescuedWaits w) (v ∷ vs) → RescuedWaits w (last_of v vs) x → (is : List ℕ) × GoAlong x v is
  items_along x v [] chain closes =
      let wait = one_wait v x closes in (
        wait.0 ∷ [],
        record {
          begins = HasLane-here wait.0 [] v wait.1;
          rescued = λ i there. subst (λ (j : ℕ). HasRescuer w (lane_of w j)) (the_one wait.0 i there) (subst (HasRescuer w) (sym wait.1) closes.0);
          goes = λ i there. subst (λ (j : ℕ). WaitsOrEnds x (wait.0 ∷ []) j) (the_one wait.0 i there) (wait.2.0, wait.2.1, wait.2.2, wait.2.3, inl wait.2.4);
        },
      )
    where
      the_one : (j i : ℕ) → Contains (j ∷ []) i → j ≡ i
      the_one j i (zero, lt, at) = at
      the_one j i (suc k, lt, at) = absurd (omega arith)
  items_along x v (u ∷ us) chain closes =
      let wait = one_wait v u chain.0 in
      let rest = items_along x u us chain.1 closes in (
        wait.0 ∷ rest.0,
        record {
          begins = HasLane-here wait.0 rest.0 v wait.1;
          rescued = rescued wait.0 rest.0 (subst (HasRescuer w) (sym wait.1) chain.0.0) rest.1.rescued;
          goes = goes wait.0 rest.0 (wait.2.0, wait.2.1, wait.2.2, wait.2.3, inr (HasLane-later wait.0 rest.0 (lane_of w wait.2.1.item) (subst (λ (q : ℕ). HasLane w rest.0 q) (sym wait.2.4) rest.1.begins))) rest.1.goes;
        },
      )
    where
      rescued : (j : ℕ) (is : List ℕ) → HasRescuer w (lane_of w j) → ((i : ℕ) → Contains is i → HasRescuer w (lane_of w i)) → (i : ℕ) → Contains (j ∷ is) i → HasRescuer w (lane_of w i)
      rescued j is first rest i (zero, lt, at) = subst (λ (h : ℕ). HasRescuer w (lane_of w h)) at first
      rescued j is first rest i (suc k, lt, at) = rest i (k, omega arith, at)

      goes : (j : ℕ) (is : List ℕ) → WaitsOrEnds x (j ∷ is) j → ((i : ℕ) → Contains is i → WaitsOrEnds x is i) → (i : ℕ) → Contains (j ∷ is) i → WaitsOrEnds x (j ∷ is) i
      goes j is first rest i (zero, lt, at) = subst (λ (h : ℕ). WaitsOrEnds x (j ∷ is) h) at first
      goes j is first rest i (suc k, lt, at) =
          let later = rest i (k, omega arith, at) in
          (later.0, later.1, later.2, later.3, elim later.4 [ inl ends ↦ inl ends | inr has ↦ inr (HasLane-later j is (lane_of w later.1.item) has) ])

  IsKnot-circle : Circle (RescuedWaits w) → (knot : List ℕ) × IsKnot w knot
  IsKnot-circle c =
      let along = items_along c.first c.first c.others c.chain c.closes in
      let ones = one_each along.0 in
      let some = ones.1.lanes c.first along.1.begins in (
        ones.0,
        record {
          some = omega (arith, some.2);
          apart = ones.1.apart;
          rescued = λ k d lt. along.1.rescued (get_or ones.0 k d) (ones.1.among (get_or ones.0 k d) (Contains-get_or ones.0 k d lt));
          held = λ k d lt. among_ones along.0 ones.0 ones.1 along.1 (get_or ones.0 k d) (Contains-get_or ones.0 k d lt);
        },
      )
    where
      among_ones : (is ones : List ℕ) → IsOneEach is ones → GoAlong c.first c.first is → (i : ℕ) → Contains ones i → WaitsAmong w ones i
      among_ones is ones each along i there =
          let goes = along.goes i (each.among i there) in (
            goes.0,
            goes.1,
            goes.2,
            goes.3,
            elim goes.4 [
              | inl ends ↦ inl (each.lanes (lane_of w goes.1.item) (subst (λ (q : ℕ). HasLane w is q) (sym ends) along.begins))
              | inr has ↦ inl (each.lanes (lane_of w goes.1.item) has)
            ],
          )

pub Deadlocks-rescued_circle : (w : Wiring) → IsWiring w → Circle (RescuedWaits w) → Deadlocks w
Deadlocks-rescued_circle w wiring circle = let knot = IsKnot-circle w circle in Deadlocks-knot w knot.0 wiring knot.1

-- where each lane has a rescuer
pub Deadlocks-circle : (w : Wiring) → IsWiring w → w.bare ≡ [] → Circle (LaneWaits w) → Deadlocks w
Deadlocks-circle w wiring none circle =
    Deadlocks-rescued_circle w wiring (Circle-map (LaneWaits w) (RescuedWaits w) (λ q. q) (λ p q waits. (all_have w none p, all_have w none q, waits)) circle)
