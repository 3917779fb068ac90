-- Laws of the printed chain: it leads down, no other one has fewer unsure flushes, and it comes first of those with as
-- few.
use Rattle.std.proofs.Common.{◌≡◌, ℕ, zero, suc, ◌+◌, ◌-◌, ◌<◌, ◌≤◌, ◌==◌, Bool, true, cond, inl, inr, List, []}
use Rattle.std.proofs.Common.{◌∷◌, length, get_or, slice_index, Option, Some, refl, sym, ap, subst, ◌∙◌, eq-eqb}
use Rattle.std.proofs.Common.{eqb-true, arith}
use Rattle.std.specs.Prelude.{Contains, AllPairs, filter}
use Rattle.std.specs.List.{Any, AllByRecursion, range_with_len}
use Rattle.std.specs.Option.{option_map_or}
use Rattle.std.proofs.lemmas.Bool.{cases_Bool, cases_eq, cases_lt, and_parts, and_from, true≢false}
use Rattle.std.proofs.lemmas.List.{get_or_default, get_or_past, nil_from_length}
use Rattle.std.proofs.lemmas.List.Elements.{All-from_recursion, recursion_from_All, All-contains, All-contains_itself}
use Rattle.std.proofs.lemmas.List.Elements.{All-filter, filter_passes}
use Rattle.std.proofs.lemmas.List.FromFn.{get_or-range_with_len, length-range_with_len}
use Rattle.std.proofs.lemmas.List.Kept.{AllPairs-filter}
use Rattle.wq_items.specs.Readings.{is_among, unsure_places}
use Rattle.wq_items.proofs.Lists.{Contains-filtered, Contains-range_with_len, range_with_len-below}
use Rattle.wq_groups.specs.Declaration.{Declaration, IsDeclaration}
use Rattle.wq_groups.specs.Assignment.{Assignment, group_lane, item_lane}
use Rattle.wq_graph.specs.declared.arc.WaitArc.{WaitArc}
use Rattle.wq_graph.specs.Graph.{IsGraph, arcs_at, group_graph}
use Rattle.wq_levels.specs.Ranks.{AreRanks}
use Rattle.wq_plan.specs.CircleOfGroups.{tail_of}
use Rattle.wq_plan.specs.Plan.{IsPlan, lanes_of, least_doubts, leads_best, chain_from, last_vertices}
use Rattle.wq_plan.specs.Plan.{chain_of_plan}
use Rattle.wq_plan.specs.LongestChain.{IsStepDown, IsChainDown, IsLongestChain, ComesFirst, unsure_arcs}
use Rattle.wq_plan.proofs.LeastOf.{least_by, least_by-le, least_by-some}
use Rattle.wq_plan.proofs.Arcs.{next_arc, next_arc-below, chain_from-some}
use Rattle.wq_plan.proofs.Doubts.{doubts_over}
use Rattle.wq_levels.proofs.Ranks.{AreRanks-next}
use Rattle.wq_levels.proofs.First.{IsFirst, IsFirst-find, Tells}
use Rattle.wq_levels.proofs.Graphs.{arcs_at-below, arcs_at-rise}
use Rattle.wq_levels.proofs.WaysOn.{same_place}
use Rattle.wq_plan.proofs.Lanes.{lanes_of-some}
use Rattle.wq_plan.proofs.Paths.{IsPath, Follows, Follows-joined, Follows-from_joined, Follows-begins, Follows-path}
use Rattle.wq_plan.proofs.Paths.{leaving-declared}
use Rattle.wq_plan.proofs.Places.{earlier_place}
use Rattle.wq_plan.proofs.Plans.{length-group_graph, AreRanks-from_plan}
use Rattle.wq_graph.proofs.Graphs.{IsGraph-group_graph, AreArcsFrom-group_graph}

-- ---- lists

-- what a filter keeps is there, and passes
Contains-from_filter : {X : Type 0} (p : X → Bool) (xs : List X) (x : X) → Contains (filter p xs) x → Contains xs x
    × (p x ≡ true)
Contains-from_filter p xs x there = (
  All-contains (Contains xs) (filter p xs) x (All-filter p (Contains xs) xs (All-contains_itself xs)) there,
  All-contains (λ y. p y ≡ true) (filter p xs) x (filter_passes p xs) there,
)

-- the numbers below another rise
range-rises : (n : ℕ) → AllPairs (λ (x y : ℕ). x < y) (range_with_len 0 n)
range-rises n i j d less within =
    let fits : j < n = omega (arith, within, length-range_with_len 0 n) in
    omega (arith, get_or-range_with_len 0 n i d (omega arith), get_or-range_with_len 0 n j d fits)

-- of rising numbers the first that has a property is the lowest
first-lowest : (P : ℕ → Type 0) (xs : List ℕ) (x v : ℕ) → AllPairs (λ (a b : ℕ). a < b) xs → IsFirst P xs x
    → Contains xs v → P v → x ≤ v
first-lowest P xs x v rise first there holds = elim (cases_lt there.0 first.place) [
  | inl less ↦ absurd (first.earlier there.0 v less (subst P (sym there.2) holds))
  | inr le ↦ elim (cases_eq first.place there.0) [
    | inl same ↦ omega (arith, sym first.here, same_at x v first.place there.0 same first.fits, there.2)
    | inr apart ↦ omega (arith, rise first.place there.0 x (omega arith) there.1, first.here, there_at)
  ]
]
  where
    same_at : (d e i j : ℕ) → i ≡ j → i < length xs → get_or xs i d ≡ get_or xs j e
    same_at d e i j same within = get_or_default xs i d e within ∙ ap (λ (k : ℕ). get_or xs k e) same

    there_at : get_or xs there.0 x ≡ v
    there_at = get_or_default xs there.0 x v there.1 ∙ there.2

-- ---- arcs that lead down

-- arcs of the graph, the first of which leaves v and each other one the vertex that the one before it led to, each one
-- lane down
abbrev pub GoesDown : List (List WaitArc) → List ℕ → ℕ → List WaitArc → Type 0
GoesDown graph lane v [] = Unit {0}
GoesDown graph lane v (a ∷ arcs) = Contains (arcs_at graph v) a × (slice_index lane a.head + 1 ≡ slice_index lane v)
    × GoesDown graph lane a.head arcs

IsPath-down : (graph : List (List WaitArc)) (lane : List ℕ) (v : ℕ) (arcs : List WaitArc) → GoesDown graph lane v arcs
    → IsPath graph v arcs
IsPath-down graph lane v [] down = tt
IsPath-down graph lane v (a ∷ arcs) down = (down.0, IsPath-down graph lane a.head arcs down.2)

-- how many of these arcs are of unsure flushes
abbrev pub doubts_on : (ℕ → Bool) → List WaitArc → ℕ
doubts_on unsure [] = 0
doubts_on unsure (a ∷ arcs) = doubts_on unsure arcs + cond (unsure a.place) 1 0

length-unsure : (unsure : ℕ → Bool) (arcs : List WaitArc) → length (filter (λ (a : WaitArc). unsure a.place) arcs)
    ≡ doubts_on unsure arcs
length-unsure unsure [] = refl
length-unsure unsure (a ∷ arcs) =
    let rest = length-unsure unsure arcs in
    elim (cases_Bool (unsure a.place)) [
      | inl here ↦ rw here (omega (arith, rest))
      | inr none ↦ rw none (omega (arith, rest))
    ]

module _ (unsure : ℕ → Bool) (graph : List (List WaitArc)) (lane : List ℕ) where
  -- the arc leads to the lane `below`, and with as few unsure flushes from v on as can be
  abbrev pub LeadsBest : ℕ → ℕ → WaitArc → Type 0
  LeadsBest below v a = (slice_index lane a.head ≡ below)
      × (doubts_over unsure graph lane below a ≡ least_doubts unsure graph lane (suc below) v)

  abbrev on : ℕ → WaitArc → Bool
  on below a = slice_index lane a.head == below

  Tells-best : (below v : ℕ) → Tells (LeadsBest below v) (leads_best unsure graph lane below v)
  Tells-best below v = record {
    passes = λ a best.
        let parts = and_parts (on below a) (doubts_over unsure graph lane below a ==
        least_doubts unsure graph lane (suc below) v) best in (
          eqb-true (slice_index lane a.head) below parts.0,
          eqb-true (doubts_over unsure graph lane below a) (least_doubts unsure graph lane (suc below) v) parts.1,
        );
    fails = λ a fails best.
        let is =
        and_from (on below a) (doubts_over unsure graph lane below a == least_doubts unsure graph lane (suc below) v)
        (eq-eqb (slice_index lane a.head) below best.0)
        (eq-eqb (doubts_over unsure graph lane below a) (least_doubts unsure graph lane (suc below) v) best.1) in
        true≢false (sym is ∙ fails);
  }

  -- no arc to the next lane leads on with fewer
  doubts-over : (below v : ℕ) (a : WaitArc) → Contains (arcs_at graph v) a → slice_index lane a.head ≡ below
      → least_doubts unsure graph lane (suc below) v ≤ doubts_over unsure graph lane below a
  doubts-over below v a there at =
      least_by-le (doubts_over unsure graph lane below) (filter (on below) (arcs_at graph v)) a
      (Contains-filtered (on below) (arcs_at graph v) a (eq-eqb (slice_index lane a.head) below at) there)

  -- and one leads on with as few
  doubts-best : (below v : ℕ) → Any (λ (a : WaitArc). slice_index lane a.head ≡ below) (arcs_at graph v)
      → Any (LeadsBest below v) (arcs_at graph v)
  doubts-best below v some =
      let arcs : List WaitArc = arcs_at graph v in
      let among : Contains (filter (on below) arcs) some.1 =
      Contains-filtered (on below) arcs some.1 (eq-eqb (slice_index lane some.1.head) below some.4)
      (some.0, some.2, some.3) in
      let best = least_by-some (doubts_over unsure graph lane below) (filter (on below) arcs) (omega (arith, among.1))
      in
      let from = Contains-from_filter (on below) arcs best.0 best.1 in
      (from.0.0, best.0, from.0.1, from.0.2, (eqb-true (slice_index lane best.0.head) below from.1, best.2))

  -- no arcs lead down with fewer
  pub doubts-least : (below v : ℕ) (arcs : List WaitArc) → slice_index lane v ≡ below → length arcs ≡ below
      → GoesDown graph lane v arcs → least_doubts unsure graph lane below v ≤ doubts_on unsure arcs
  doubts-least zero v arcs same count down = omega arith
  doubts-least (suc below) v [] same count down = absurd (omega arith)
  doubts-least (suc below) v (a ∷ arcs) same count down =
      let at : slice_index lane a.head ≡ below = omega (arith, down.1) in
      let rest : least_doubts unsure graph lane below a.head ≤ doubts_on unsure arcs =
      doubts-least below a.head arcs at (omega (arith, count)) down.2 in
      omega (arith, rest, doubts-over below v a down.0 at)

  module _ (sound : IsGraph graph) (are : AreRanks graph lane) where
    -- a vertex above lane 0 has an arc that leads on best, so a first one
    arc_on_best : (v below : ℕ) → v < length graph → slice_index lane v ≡ suc below → (arc : WaitArc)
        × (next_arc unsure graph lane below v ≡ Some arc) × IsFirst (LeadsBest below v) (arcs_at graph v) arc
    arc_on_best v below vertex same =
        IsFirst-find (LeadsBest below v) (leads_best unsure graph lane below v) (Tells-best below v) (arcs_at graph v)
        (doubts-best below v (AreRanks-next graph lane sound are v below vertex (omega arith)))

    -- of the arcs that lead on best the first has the least place
    best-first : (v below : ℕ) (x y : WaitArc) → IsFirst (LeadsBest below v) (arcs_at graph v) x
        → Contains (arcs_at graph v) y → LeadsBest below v y → x.place ≤ y.place
    best-first v below x y first there best = elim (cases_lt there.0 first.place) [
      | inl less ↦ absurd (first.earlier there.0 y less (subst (LeadsBest below v) (sym there.2) best))
      | inr le ↦ omega (
        arith,
        earlier_place (arcs_at graph v) x first.place there.0 y (arcs_at-rise graph sound v)
            first.fits first.here le there.1,
        ap (λ (a : WaitArc). a.place) there.2,
      )
    ]

    -- as many arcs as lanes are below the vertex, which lead down with as few unsure flushes as can be
    pub chain_from-best : (below v : ℕ) → v < length graph → slice_index lane v ≡ below
        → (length (chain_from unsure graph lane below v) ≡ below)
        × GoesDown graph lane v (chain_from unsure graph lane below v)
        × (doubts_on unsure (chain_from unsure graph lane below v) ≡ least_doubts unsure graph lane below v)
    chain_from-best zero v vertex same = (refl, tt, refl)
    chain_from-best (suc below) v vertex same =
        let found = arc_on_best v below vertex same in
        let arc : WaitArc = found.0 in
        let first = found.2 in
        let rest = chain_from-best below arc.head (next_arc-below unsure graph lane below v arc sound found.1)
        first.holds.0 in
        let falls : slice_index lane arc.head + 1 ≡ slice_index lane v = omega (arith, first.holds.0, same) in
        rw (chain_from-some unsure graph lane below v (suc below) arc refl found.1) (
          omega (arith, rest.0),
          ((first.place, first.fits, first.here), falls, rest.1),
          ap (λ (n : ℕ). n + cond (unsure arc.place) 1 0) rest.2 ∙ first.holds.1,
        )

module _ (d : Declaration) (is : IsDeclaration d) (a : Assignment) where
  -- an arc of a group one lane down, by the groups of its items
  IsStepDown-from_arc : (g : ℕ) (arc : WaitArc) → Contains (arcs_at (group_graph d) g) arc → group_lane a arc.head + 1
      ≡ group_lane a g → IsStepDown d a arc
  IsStepDown-from_arc g arc leaves falls =
      let here = leaving-declared d is g arc leaves in
      let to : group_lane a arc.head ≡ item_lane a d.group_of arc.dst = ap (group_lane a) here.0.head in
      let from : item_lane a d.group_of arc.src ≡ group_lane a g = ap (group_lane a) here.1 in
      record { declared = here.0; falls = omega (arith, to, from, falls) }

  AreStepsDown : (g : ℕ) (arcs : List WaitArc) → GoesDown (group_graph d) a.lane_of_group g arcs
      → AllByRecursion (IsStepDown d a) arcs
  AreStepsDown g [] down = tt
  AreStepsDown g (arc ∷ arcs) down = (IsStepDown-from_arc g arc down.0 down.1, AreStepsDown arc.head arcs down.2)

  -- and back
  GoesDown-from_steps : (g : ℕ) (arcs : List WaitArc) → Follows d g arcs → AllByRecursion (IsStepDown d a) arcs
      → GoesDown (group_graph d) a.lane_of_group g arcs
  GoesDown-from_steps g [] follows steps = tt
  GoesDown-from_steps g (arc ∷ arcs) follows steps =
      let step = steps.0 in
      let head = step.declared.head in
      let leaves : Contains (arcs_at (group_graph d) g) arc = (AreArcsFrom-group_graph d is g).all arc step.declared
      follows.0 in
      let to : group_lane a arc.head ≡ item_lane a d.group_of arc.dst = ap (group_lane a) head in
      let from : item_lane a d.group_of arc.src ≡ group_lane a g = ap (group_lane a) follows.0 in
      let falls : group_lane a arc.head + 1 ≡ group_lane a g = omega (arith, to, from, step.falls) in
      (leaves, falls, GoesDown-from_steps arc.head arcs (subst (λ h. Follows d h arcs) (sym head) follows.1) steps.1)

  module _ (plan : IsPlan d a) where
    abbrev lane : List ℕ
    lane = a.lane_of_group

    abbrev graph : List (List WaitArc)
    graph = group_graph d

    abbrev unsure : ℕ → Bool
    unsure = is_among (unsure_places d.waits)

    abbrev top : ℕ
    top = lanes_of lane - 1

    -- the doubts of a vertex on the last lane
    abbrev doubts_of : ℕ → ℕ
    doubts_of v = least_doubts unsure graph lane top v

    sound : IsGraph graph
    sound = IsGraph-group_graph d is

    ranked : AreRanks graph lane
    ranked = AreRanks-from_plan d is a plan

    -- of the chains down from a vertex with as few unsure flushes the one that goes on by the first arcs comes first
    chain-first : (below v : ℕ) (other : List WaitArc) → v < length graph → slice_index lane v ≡ below → length other
        ≡ below → GoesDown graph lane v other
        → doubts_on unsure other ≡ least_doubts unsure graph lane below v
        → ComesFirst d (chain_from unsure graph lane below v) other
    chain-first zero v other vertex same count down few = tt
    chain-first (suc below) v [] vertex same count down few = absurd (omega arith)
    chain-first (suc below) v (y ∷ ys) vertex same count down few =
        let found = arc_on_best unsure graph lane sound ranked v below vertex same in
        let x : WaitArc = found.0 in
        let first = found.2 in
        let leaves : Contains (arcs_at graph v) x = (first.place, first.fits, first.here) in
        let at : slice_index lane y.head ≡ below = omega (arith, down.1, same) in
        let long : length ys ≡ below = omega (arith, count) in
        let rest : least_doubts unsure graph lane below y.head ≤ doubts_on unsure ys =
        doubts-least unsure graph lane below y.head ys at long down.2 in
        let over : least_doubts unsure graph lane (suc below) v ≤ doubts_over unsure graph lane below y =
        doubts-over unsure graph lane below v y down.0 at in
        let tight : doubts_on unsure ys ≡ least_doubts unsure graph lane below y.head =
        omega (arith, rest, over, few) in
        let best : doubts_over unsure graph lane below y ≡ least_doubts unsure graph lane (suc below) v =
        omega (arith, rest, over, few) in
        let le : x.place ≤ y.place = best-first unsure graph lane sound ranked v below x y first down.0 (at, best) in
        let below_y : y.head < length graph = All-contains (λ (e : WaitArc). e.head < length graph) (arcs_at graph v) y
        (arcs_at-below graph sound v) down.0 in
        let on_y : ComesFirst d (chain_from unsure graph lane below y.head) ys =
        chain-first below y.head ys below_y at long down.2 tight in
        let tails : tail_of d x ≡ tail_of d y = (leaving-declared d is v x leaves).1
        ∙ sym (leaving-declared d is v y down.0).1 in
        rw (chain_from-some unsure graph lane below v (suc below) x refl found.1)
        (inr (
          tails,
          elim (cases_lt x.place y.place) [
            | inl less ↦ inl less
            | inr ge ↦
                let place : x.place ≡ y.place = omega (arith, le, ge) in
                let arc : x ≡ y = same_place (arcs_at graph v) x y (arcs_at-rise graph sound v) leaves down.0 place in
                inr (
                  place,
                  subst (λ (z : WaitArc). ComesFirst d (chain_from unsure graph lane below z.head) ys)
                      (sym arc) on_y,
                )
          ],
        ))

    -- another chain down begins at a vertex on the last lane
    module _ (y : WaitArc) (ys : List WaitArc) (other : IsChainDown d a (y ∷ ys)) where
      other-steps : AllByRecursion (IsStepDown d a) (y ∷ ys)
      other-steps = recursion_from_All (IsStepDown d a) (y ∷ ys) other.arcs

      other-vertex : tail_of d y < length lane
      other-vertex = elim (cases_lt (tail_of d y) (length lane)) [
        | inl within ↦ within
        | inr past ↦ absurd (omega (arith, other-steps.0.falls, get_or_past lane (tail_of d y) 0 past))
      ]

      other-last : slice_index lane (tail_of d y) + 1 ≡ lanes_of lane
      other-last = other.begins ∙ plan.count

      other-among : Contains (last_vertices lane) (tail_of d y)
      other-among =
          Contains-filtered (λ v. slice_index lane v + 1 == lanes_of lane) (range_with_len 0 (length lane))
          (tail_of d y)
          (eq-eqb (slice_index lane (tail_of d y) + 1) (lanes_of lane) other-last)
          (Contains-range_with_len (length lane) (tail_of d y) other-vertex)

      other-down : GoesDown graph lane (tail_of d y) (y ∷ ys)
      other-down = GoesDown-from_steps (tail_of d y) (y ∷ ys)
          (Follows-from_joined d (tail_of d y) (y ∷ ys) refl other.joined) other-steps

      other-count : length (y ∷ ys) ≡ top
      other-count = other.count ∙ ap (λ (n : ℕ). n - 1) plan.count

      other-least : doubts_of (tail_of d y) ≤ doubts_on unsure (y ∷ ys)
      other-least = doubts-least unsure graph lane top (tail_of d y) (y ∷ ys) (omega (arith, other-last)) other-count
          other-down

    module _ (first : ℕ) (vertex : first < length graph) (last : slice_index lane first + 1 ≡ lanes_of lane)
        (fewest : doubts_of first ≡ least_by doubts_of (last_vertices lane))
        (lowest : (v : ℕ) → Contains (last_vertices lane) v → doubts_of v ≡ least_by doubts_of (last_vertices lane)
        → first ≤ v) where
      abbrev chain : List WaitArc
      chain = chain_from unsure graph lane top first

      best : (length chain ≡ top) × GoesDown graph lane first chain × (doubts_on unsure chain ≡ doubts_of first)
      best = chain_from-best unsure graph lane sound ranked top first vertex (omega (arith, last))

      follows : Follows d first chain
      follows = Follows-path d is first chain (IsPath-down graph lane first chain best.1)

      is_down : IsChainDown d a chain
      is_down = record {
        count = best.0 ∙ sym (ap (λ (n : ℕ). n - 1) plan.count);
        arcs = All-from_recursion (IsStepDown d a) chain (AreStepsDown first chain best.1);
        joined = Follows-joined d first chain follows;
        begins = Follows-begins d (λ g. group_lane a g + 1 ≡ a.lanes) first chain follows (last ∙ sym plan.count);
      }

      -- a chain that is as long as none has no arc
      without_arcs : (arcs : List WaitArc) → length arcs ≡ 0 → length (unsure_arcs d arcs) ≡ 0
      without_arcs [] none = refl
      without_arcs (x ∷ xs) none = absurd (omega arith)

      is_fewest : (other : List WaitArc) → IsChainDown d a other → length (unsure_arcs d chain) ≤ length
          (unsure_arcs d other)
      is_fewest [] other = omega (arith, without_arcs chain (is_down.count ∙ sym other.count))
      is_fewest (y ∷ ys) other =
          omega (
            arith,
            length-unsure unsure chain,
            best.2,
            fewest,
            least_by-le doubts_of (last_vertices lane) (tail_of d y) (other-among y ys other),
            other-least y ys other,
            length-unsure unsure (y ∷ ys),
          )

      -- it begins at a lower-numbered group
      comes_first : (y : WaitArc) (ys arcs : List WaitArc) → Follows d first arcs → first < tail_of d y
          → ComesFirst d arcs (y ∷ ys)
      comes_first y ys [] follows less = tt
      comes_first y ys (x ∷ xs) follows less = inl (omega (arith, follows.0))

      nothing_first : (arcs : List WaitArc) → ComesFirst d arcs []
      nothing_first [] = tt
      nothing_first (x ∷ xs) = tt

      is_first : (other : List WaitArc) → IsChainDown d a other → length (unsure_arcs d other)
          ≡ length (unsure_arcs d chain) → ComesFirst d chain other
      is_first [] other few = nothing_first chain
      is_first (y ∷ ys) other few =
          let g : ℕ = tail_of d y in
          let among = other-among y ys other in
          let as_few : doubts_on unsure (y ∷ ys) ≡ doubts_of first = sym (length-unsure unsure (y ∷ ys)) ∙ few
          ∙ length-unsure unsure chain ∙ best.2 in
          let above : least_by doubts_of (last_vertices lane) ≤ doubts_of g =
          least_by-le doubts_of (last_vertices lane) g among in
          let least : doubts_of g ≡ least_by doubts_of (last_vertices lane) =
          omega (arith, above, other-least y ys other, as_few, fewest) in
          let low : first ≤ g = lowest g among least in
          elim (cases_lt first g) [
            | inl less ↦ comes_first y ys chain follows less
            | inr ge ↦
                let same : first ≡ g = omega (arith, low, ge) in
                chain-first top first (y ∷ ys) vertex (omega (arith, last)) (other-count y ys other)
                (subst (λ v. GoesDown graph lane v (y ∷ ys)) (sym same) (other-down y ys other)) as_few
          ]

      longest_from : chain_of_plan d lane ≡ chain → IsLongestChain d a (chain_of_plan d lane)
      longest_from same = subst (IsLongestChain d a) (sym same)
          (record { down = is_down; fewest = is_fewest; first = is_first })

    longest_from_some : 0 < length lane → IsLongestChain d a (chain_of_plan d lane)
    longest_from_some some =
        let lasts : List ℕ = last_vertices lane in
        let last = lanes_of-some lane some in
        let test : ℕ → Bool = λ v. doubts_of v == least_by doubts_of lasts in
        let P : ℕ → Type 0 = λ v. doubts_of v ≡ least_by doubts_of lasts in
        let among : Contains lasts last.0 =
        Contains-filtered (λ v. slice_index lane v + 1 == lanes_of lane) (range_with_len 0 (length lane)) last.0
        (eq-eqb (slice_index lane last.0 + 1) (lanes_of lane) last.2)
        (Contains-range_with_len (length lane) last.0 last.1) in
        let least = least_by-some doubts_of lasts (omega (arith, among.1)) in
        let tells : Tells P test = record {
          passes = λ v. eqb-true (doubts_of v) (least_by doubts_of lasts);
          fails = λ v fails is. true≢false (sym (eq-eqb (doubts_of v) (least_by doubts_of lasts) is) ∙ fails);
        } in
        let found = IsFirst-find P test tells lasts (least.1.0, least.0, least.1.1, least.1.2, least.2) in
        let first : ℕ = found.0 in
        let at = found.2 in
        let there = Contains-from_filter (λ v. slice_index lane v + 1 == lanes_of lane)
        (range_with_len 0 (length lane)) first (at.place, at.fits, at.here) in
        let within : first < length lane = All-contains (λ v. v < length lane) (range_with_len 0 (length lane)) first
        (range_with_len-below (length lane)) there.0 in
        let rise : AllPairs (λ (x y : ℕ). x < y) lasts =
        AllPairs-filter (λ (x y : ℕ). x < y) (λ v. slice_index lane v + 1 == lanes_of lane)
        (range_with_len 0 (length lane)) (range-rises (length lane)) in
        longest_from first (omega (arith, within, plan.one_each, length-group_graph d))
        (eqb-true (slice_index lane first + 1) (lanes_of lane) there.1) at.holds
        (λ v v_among v_least. first-lowest P lasts first v rise at v_among v_least)
        (ap (λ (o : Option ℕ). option_map_or (λ v. chain_from unsure graph lane top v) o []) found.1)

    longest_from_none : lane ≡ [] → IsLongestChain d a (chain_of_plan d lane)
    longest_from_none none =
        let count : 0 ≡ a.lanes - 1 = omega (arith, plan.count, ap lanes_of none) in
        rw none
        (record {
          down = record {
            count = count;
            arcs = λ k e fits. absurd (omega arith);
            joined =
                λ k e fits. absurd (omega arith);
            begins = tt;
          };
          fewest = λ other down. omega arith;
          first = λ other down few. tt;
        })

    -- what is printed for a plan
    pub chain_of-longest : IsLongestChain d a (chain_of_plan d lane)
    chain_of-longest = elim (cases_lt 0 (length lane)) [
      | inl some ↦ longest_from_some some
      | inr none ↦ longest_from_none (nil_from_length lane (omega (arith, none)))
    ]
