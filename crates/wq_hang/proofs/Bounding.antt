-- Bounds of items and of lanes: what it costs at least to come on from them.
use Rattle.std.proofs.Common.{◌≡◌, ◌≢◌, ℕ, ◌+◌, ◌<◌, ◌≤◌, ◌⊎◌, inl, inr, Bool, true, false, List, [], ◌∷◌, length}
use Rattle.std.proofs.Common.{◌++◌, get_or, set, replicate, eqb, refl, sym, ap, subst, ◌∙◌, arith}
use Rattle.std.specs.Prelude.{Contains, slice_index, slice_index_or, not, ◌&&◌, if◌then◌else◌}
use Rattle.std.proofs.lemmas.Bool.{cases_eq, cases_lt, eqb-true, both_ways}
use Rattle.std.proofs.lemmas.List.{get_or-replicate, get_or_past, get_or-set_same, get_or-set_other, get_or_append_left}
use Rattle.std.proofs.lemmas.List.{length-replicate, length-set}
use Rattle.std.proofs.Math.Seq.{get_or-append_seam}
use Rattle.wq_core.specs.Wiring.{Wiring, IsWiring, HasRescuer, items, lane_of, declared_by}
use Rattle.wq_core.proofs.Wirings.{lane_of-within}
use Rattle.wq_hang.specs.declared.hop.Hop.{Hop}
use Rattle.wq_hang.specs.Walk.{IsPath, unsure_part}
use Rattle.wq_hang.specs.Search.{hop_cost, hops_cost, AreItemsOn, AreBounds}
use Rattle.wq_hang.specs.Bounds.{AreLaneBounds, IsBelowEach, least_step}
use Rattle.wq_hang.proofs.Declared.{beside_cases, declared-item, path_declares}

-- an item that comes next on a path to an item on a lane with a rescuer is on such a lane
next_has_rescuer : (w : Wiring) (i first : ℕ) (hops : List Hop) → HasRescuer w (lane_of w first)
    → IsPath w i hops first → HasRescuer w (lane_of w i)
next_has_rescuer w i first [] rescuer path = subst (λ (k : ℕ). HasRescuer w (lane_of w k)) (sym path) rescuer
next_has_rescuer w i first (h ∷ hops) rescuer path =
    subst (λ (k : ℕ). HasRescuer w (lane_of w k)) path.0 path.1.rescuer

-- a hop costs no less than by its flush, if an item that declares a flush comes next
least_step-enough : (w : Wiring) (h : Hop) → 0 < length (declared_by w h.next) → least_step w h.flush ≤ hop_cost h
least_step-enough w h waits = by h.flush.whole refl (eqb (length (declared_by w h.flush.item)) 0) refl
  where
    by : (whole : Bool) → h.flush.whole ≡ whole → (none : Bool)
        → eqb (length (declared_by w h.flush.item)) 0 ≡ none
        → unsure_part h.flush + (if not whole && none then 4 else 3) ≤ hop_cost h
    by true kind none nothing = omega arith
    by false kind false nothing = omega arith
    by false kind true nothing = elim (beside_cases h) [
      | inl next ↦ absurd (omega (
        arith,
        waits,
        ap (λ (i : ℕ). length (declared_by w i)) (next.1 kind),
        eqb-true (length (declared_by w h.flush.item)) 0 nothing,
      ))
      | inr beside ↦ omega (arith, ap (λ (l : List ℕ). length l) beside.0)
    ]

replicate-none : (n q : ℕ) → slice_index (replicate n 0) q ≡ 0
replicate-none n q = elim (cases_lt q n) [
  | inl within ↦ get_or-replicate n q 0 0 within
  | inr past ↦ get_or_past (replicate n 0) q 0 (omega (arith, past, length-replicate {A = ℕ} n 0))
]

module _ (w : Wiring) (marks : List Bool) where
  -- on a path to an item that declares a flush each item does
  next_declares : (i first : ℕ) (hops : List Hop) → 0 < length (declared_by w first) → IsPath w i hops first
      → 0 < length (declared_by w i)
  next_declares i first [] waits path = subst (λ (k : ℕ). 0 < length (declared_by w k)) (sym path) waits
  next_declares i first (h ∷ hops) waits path = path_declares w i first (h ∷ hops) (omega arith) path

  -- a path to an item that declares a flush, of a marked lane, costs at least what is below each flush of its first
  -- item
  pub path-bound : (bounds : List ℕ) (i cost first : ℕ) (hops : List Hop) → AreLaneBounds w marks bounds
      → IsBelowEach w bounds i cost → HasRescuer w (lane_of w first)
      → slice_index_or marks (lane_of w first) false ≡ true → 0 < length (declared_by w first) → 0 < length hops
      → IsPath w i hops first → cost ≤ hops_cost hops
  path-bound bounds i cost first [] are below rescuer marked waits some path = absurd (omega arith)
  path-bound bounds i cost first (h ∷ hops) are below rescuer marked waits some path =
      let there : Contains (declared_by w i) h.flush =
      subst (λ (k : ℕ). Contains (declared_by w k) h.flush) path.0 path.1.declared in
      let has : HasRescuer w (lane_of w h.flush.item) =
      subst (HasRescuer w) path.2 (next_has_rescuer w h.next first hops rescuer path.3) in
      omega (
        arith,
        below h.flush there has,
        ap (slice_index bounds) path.2,
        least_step-enough w h (next_declares h.next first hops waits path.3),
        are.least h.next first hops rescuer marked waits path.3,
      )

  -- before anything is known of a lane
  pub AreLaneBounds-none : (bounds : List ℕ) → bounds ≡ replicate w.lanes 0 → AreLaneBounds w marks bounds
  AreLaneBounds-none bounds is = record {
    one_each = ap (λ (l : List ℕ). length l) is ∙ length-replicate {A = ℕ} w.lanes 0;
    least = λ i first hops rescuer marked waits path. omega (arith, none (lane_of w i));
  }
    where
      none : (q : ℕ) → slice_index bounds q ≡ 0
      none q = ap (λ (l : List ℕ). get_or l q 0) is ∙ replicate-none w.lanes q

  -- one lane more, which isn't marked
  pub AreLaneBounds-more : (bounds new : List ℕ) (on : List (List ℕ)) (q cost : ℕ) → AreItemsOn w on
      → AreLaneBounds w marks bounds → slice_index_or marks q false ≡ false
      → ((i : ℕ) → Contains (slice_index_or on q []) i → IsBelowEach w bounds i cost) → new ≡ set bounds q cost
      → AreLaneBounds w marks new
  AreLaneBounds-more bounds new on q cost on_lanes are unmarked below is =
      subst (AreLaneBounds w marks) (sym is) (record {
        one_each = length-set bounds q cost ∙ are.one_each;
        least = λ i first hops rescuer marked waits path.
            least i first hops rescuer marked waits path (cases_eq (lane_of w i) q);
      })
    where
      here : (i first : ℕ) (hops : List Hop) → HasRescuer w (lane_of w first)
          → slice_index_or marks (lane_of w first) false ≡ true → 0 < length (declared_by w first)
          → IsPath w i hops first → lane_of w i ≡ q → cost ≤ hops_cost hops
      here i first [] rescuer marked waits path same =
          absurd (both_ways (slice_index_or marks q false) unmarked
          (ap (λ (p : ℕ). slice_index_or marks p false) (sym same ∙ ap (lane_of w) path) ∙ marked))
      here i first (h ∷ hops) rescuer marked waits path same =
          let item : i < items w = subst (λ (k : ℕ). k < items w) path.0
          (declared-item w h.item h.flush path.1.declared) in
          let there : Contains (slice_index_or on q []) i =
          subst (λ (p : ℕ). Contains (slice_index_or on p []) i) same (on_lanes.all i item) in
          path-bound bounds i cost first (h ∷ hops) are (below i there) rescuer marked waits (omega arith) path

      least : (i first : ℕ) (hops : List Hop) → HasRescuer w (lane_of w first)
          → slice_index_or marks (lane_of w first) false ≡ true → 0 < length (declared_by w first)
          → IsPath w i hops first → (lane_of w i ≡ q) ⊎ (lane_of w i ≢ q)
          → slice_index (set bounds q cost) (lane_of w i) ≤ hops_cost hops
      least i first hops rescuer marked waits path (inr other) =
          omega (
            arith,
            get_or-set_other bounds q (lane_of w i) cost 0 other,
            are.least i first hops rescuer marked waits path,
          )
      least i first hops rescuer marked waits path (inl same) = elim (cases_lt q (length bounds)) [
        | inl within ↦ omega (
          arith,
          ap (λ (p : ℕ). get_or (set bounds q cost) p 0) same,
          get_or-set_same bounds q cost 0 within,
          here i first hops rescuer marked waits path same,
        )
        | inr past ↦ omega (
          arith,
          get_or_past (set bounds q cost) (lane_of w i) 0 (omega (arith, same, past, length-set bounds q cost)),
        )
      ]

  -- the bounds of lanes, by what is below each flush of their items
  pub AreBounds-lanes : (on : List (List ℕ)) (bounds found : List ℕ) (first : ℕ) → AreItemsOn w on
      → AreLaneBounds w marks bounds
      → ((q i : ℕ) → q < w.lanes → Contains (slice_index_or on q []) i → IsBelowEach w bounds i (slice_index found q))
      → IsWiring w → HasRescuer w (lane_of w first) → slice_index_or marks (lane_of w first) false ≡ true
      → AreBounds w found first
  AreBounds-lanes on bounds found first on_lanes are below wiring rescuer marked waits i [] some path =
      absurd (omega arith)
  AreBounds-lanes on bounds found first on_lanes are below wiring rescuer marked waits i (h ∷ hops) some path =
      let item : i < items w = subst (λ (k : ℕ). k < items w) path.0
      (declared-item w h.item h.flush path.1.declared) in
      let q : ℕ = lane_of w i in
      path-bound bounds i (slice_index found q) first (h ∷ hops) are
      (below q i (lane_of-within w wiring i item) (on_lanes.all i item)) rescuer marked waits some path

-- bounds that leave nothing out
pub AreBounds-none : (w : Wiring) (bounds : List ℕ) (n first : ℕ) → bounds ≡ replicate n 0 → AreBounds w bounds first
AreBounds-none w bounds n first is waits i hops some path =
    omega (arith, replicate-none n (lane_of w i), ap (λ (l : List ℕ). get_or l (lane_of w i) 0) is)

-- one lane more has its bound
pub bounds-more : (w : Wiring) (on : List (List ℕ)) (lanes found new : List ℕ) (n cost : ℕ) → length found ≡ n
    → ((q i : ℕ) → q < n → Contains (slice_index_or on q []) i → IsBelowEach w lanes i (slice_index found q))
    → ((i : ℕ) → Contains (slice_index_or on n []) i → IsBelowEach w lanes i cost)
    → new ≡ found ++ (cost ∷ []) → (q i : ℕ) → q < n + 1 → Contains (slice_index_or on q []) i
    → IsBelowEach w lanes i (slice_index new q)
bounds-more w on lanes found new n cost size are one is q i below there = by (cases_eq q n)
  where
    by : (q ≡ n) ⊎ (q ≢ n) → IsBelowEach w lanes i (slice_index new q)
    by (inl same) =
        let at : slice_index new q ≡ cost =
        ap (λ (l : List ℕ). get_or l q 0) is
        ∙ ap (λ (k : ℕ). get_or (found ++ (cost ∷ [])) k 0) (same ∙ sym size) ∙ get_or-append_seam found cost [] 0 in
        subst (IsBelowEach w lanes i) (sym at)
        (one i (subst (λ (p : ℕ). Contains (slice_index_or on p []) i) same there))
    by (inr other) =
        let before : q < n = omega arith in
        let at : slice_index new q ≡ slice_index found q =
        ap (λ (l : List ℕ). get_or l q 0) is ∙ get_or_append_left found (cost ∷ []) 0 q (omega (arith, before, size)) in
        subst (IsBelowEach w lanes i) (sym at) (are q i before there)

-- bounds that serve searches from each of these items
pub record ServeAll (w : Wiring) (few bounds : List ℕ) : Type 0 where
  pub len : length bounds ≡ w.lanes
  pub serve : (i : ℕ) → Contains few i → HasRescuer w (lane_of w i) → AreBounds w bounds i

pub ServeAll-made : (w : Wiring) (few bounds : List ℕ) → length bounds ≡ w.lanes
    → ((i : ℕ) → Contains few i → HasRescuer w (lane_of w i) → AreBounds w bounds i) → ServeAll w few bounds
ServeAll-made w few bounds len serve = record { len = len; serve = serve }

pub ServeAll-none : (w : Wiring) (few bounds : List ℕ) (n : ℕ) → n ≡ w.lanes → bounds ≡ replicate n 0
    → ServeAll w few bounds
ServeAll-none w few bounds n lanes is = record {
  len = ap (λ (l : List ℕ). length l) is ∙ length-replicate {A = ℕ} n 0 ∙ lanes;
  serve = λ i there rescuer. AreBounds-none w bounds n i is;
}
