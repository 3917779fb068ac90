-- The best round so far, and the least walk in the end.
use Rattle.std.proofs.Common.{◌≡◌, ℕ, zero, suc, ◌+◌, ◌*◌, ◌<◌, ◌≤◌, ◌⊎◌, inl, inr, Bool, true, false, cond, List, []}
use Rattle.std.proofs.Common.{◌∷◌}
use Rattle.std.proofs.Common.{length, Option, Some, None, refl, sym, ap, subst, ◌∙◌, arith}
use Rattle.std.specs.Prelude.{flat_map, slice_index, slice_index_or, option_map, MatchOption, IfSome, IfNone, Contains}
use Rattle.std.specs.Prelude.{if◌then◌else◌}
use Rattle.std.specs.List.{All}
use Rattle.std.proofs.lemmas.List.Elements.{All-nil, All-cons}
use Rattle.wq_items.specs.declared.target.Target.{Target}
use Rattle.wq_core.specs.Wiring.{Wiring, IsWiring, HasRescuer, items, lane_of, declared_by}
use Rattle.wq_core.specs.Deadlock.{IsSafe}
use Rattle.wq_core.proofs.Wirings.{lane_of-within}
use Rattle.wq_hang.specs.declared.hop.Hop.{Hop}
use Rattle.wq_hang.specs.Walk.{IsHop, IsPath, IsRound, IsWalk, IsLeastWalk, IsRoundOrFirst, IsFirstToBare, ComesNoLater}
use Rattle.wq_hang.specs.Walk.{BeginsUnsure, AreAlike, AreFirstAlike, target_beside, unsure_part, walk_cost}
use Rattle.wq_hang.specs.Search.{hops_cost, Reach, IsSearched, IsBetter, IsNoBetter, IsLeastRound, ArePassed, AreMarked}
use Rattle.wq_hang.specs.Search.{AreBounds}
use Rattle.wq_hang.proofs.Declared.{declared-item, path_declares, unsure_part-most}
use Rattle.wq_hang.proofs.Rotations.{round_turned}
use Rattle.wq_hang.proofs.StuckRounds.{walk_cost-hops}
use Rattle.wq_hang.proofs.LeastWalks.{no_round}
use Rattle.wq_hang.proofs.Shortest.{IsSafe-no_walk}

-- what a round is, if one was found that costs less than the limit: it costs at most this
abbrev pub IsFound : Wiring → ℕ → ℕ → Option (List Hop) → Type 0
IsFound w limit least None = least ≡ limit
IsFound w limit least (Some hops) = IsRound w hops × (hops_cost hops ≤ least) × (least < limit)

-- after the searches from these items
pub record IsBest (w : Wiring) (limit : ℕ) (tried : List ℕ) (least : ℕ) (round : Option (List Hop)) : Type 0 where
  pub low : least ≤ limit
  pub found : IsFound w limit least round
  pub all : (hops : List Hop) (i : ℕ) → 0 < length hops → IsPath w i hops i → Contains tried i → least ≤ hops_cost hops

pub IsBest-none : (w : Wiring) (limit : ℕ) → IsBest w limit [] limit None
IsBest-none w limit = record { low = omega arith; found = refl; all = λ hops i some path there. absurd (omega (arith, there.1)) }

-- the first item of a path is on a lane that has a rescuer, and exists
pub path_rescuer : (w : Wiring) (i j : ℕ) (hops : List Hop) → 0 < length hops → IsPath w i hops j → (i < items w) × HasRescuer w (lane_of w i)
path_rescuer w i j [] some path = absurd (omega arith)
path_rescuer w i j (h ∷ hops) some path = (
  subst (λ (k : ℕ). k < items w) path.0 (declared-item w h.item h.flush path.1.declared),
  subst (λ (k : ℕ). HasRescuer w (lane_of w k)) path.0 path.1.rescuer,
)

-- one item more
module _ (w : Wiring) (limit : ℕ) (tried now : List ℕ) (i least : ℕ) (found : Option (List Hop)) (best : IsBest w limit tried least found) (more : (j : ℕ) → Contains now j → Contains tried j ⊎ (i ≡ j)) where
  pub IsBest-same : IsNoBetter w i least → IsBest w limit now least found
  IsBest-same none = record {
    low = best.low;
    found = best.found;
    all = λ hops j some path there. elim (more j there) [
      | inl before ↦ best.all hops j some path before
      | inr same ↦ none hops some (subst (λ (k : ℕ). IsPath w k hops k) (sym same) path)
    ];
  }

  pub IsBest-better : (cost : ℕ) (hops : List Hop) → IsBetter w i least cost hops → IsBest w limit now cost (Some hops)
  IsBest-better cost hops better = record {
    low = omega (arith, better.less, best.low);
    found = (better.round, better.costs, omega (arith, better.less, best.low));
    all = λ others j some path there. elim (more j there) [
      | inl before ↦ omega (arith, best.all others j some path before, better.less)
      | inr same ↦ better.all others some (subst (λ (k : ℕ). IsPath w k others k) (sym same) path)
    ];
  }

-- no round begins with an item on a bare lane
pub IsNoBetter-bare : (w : Wiring) (first least : ℕ) → (¬ HasRescuer w (lane_of w first)) → IsNoBetter w first least
IsNoBetter-bare w first least bare hops some path = absurd (bare (path_rescuer w first first hops some path).1)

-- no round begins with an item that flushes nothing
pub IsNoBetter-still : (w : Wiring) (first least : ℕ) → length (declared_by w first) ≡ 0 → IsNoBetter w first least
IsNoBetter-still w first least none [] some path = absurd (omega arith)
IsNoBetter-still w first least none (h ∷ hops) some path =
    let there : Contains (declared_by w first) h.flush =
    subst (λ (k : ℕ). Contains (declared_by w k) h.flush) path.0 path.1.declared in
    absurd (omega (arith, there.1, none))

-- no round costs less than the item's bound
pub IsNoBetter-bound : (w : Wiring) (bounds : List ℕ) (first least : ℕ) → AreBounds w bounds first
    → least ≤ slice_index bounds (lane_of w first) → IsNoBetter w first least
IsNoBetter-bound w bounds first least are low hops some path =
    omega (arith, low, are (path_declares w first first hops some path) first hops some path)

pub IsNoBetter-searched : (w : Wiring) (first least : ℕ) (s : Reach) → IsSearched w first least s → least ≤ slice_index s.costs first → IsNoBetter w first least
IsNoBetter-searched w first least s searched enough hops some path = omega (arith, searched.least hops some path, enough)

pub IsBetter-searched : (w : Wiring) (first least : ℕ) (s : Reach) (hops : List Hop) → IsSearched w first least s
    → slice_index s.costs first < least → IsRound w hops → IsPath w first hops first
    → hops_cost hops ≤ slice_index s.costs first
    → IsBetter w first least (slice_index s.costs first) hops
IsBetter-searched w first least s hops searched less round path cost = record {
  less = less;
  round = round;
  path = path;
  costs = cost;
  all = searched.least;
}

-- ---- after all searches

-- each round passes one of the items, so it is no cheaper
all_rounds : (w : Wiring) (passed tried : List ℕ) (limit least : ℕ) (found : Option (List Hop)) → ArePassed w passed → ((i : ℕ) → Contains passed i → Contains tried i) → IsBest w limit tried least found
    → (hops : List Hop) → IsRound w hops → least ≤ hops_cost hops
all_rounds w passed tried limit least found are enough best hops round =
    let at = are hops round in
    omega (arith, best.all at.2 at.0 at.3 at.4 (enough at.0 at.1), at.5)

IsLeastRound-best : (w : Wiring) (passed tried : List ℕ) (limit least : ℕ) (hops : List Hop) → ArePassed w passed → ((i : ℕ) → Contains passed i → Contains tried i) → IsBest w limit tried least (Some hops) → IsLeastRound w limit hops
IsLeastRound-best w passed tried limit least hops are enough best = record {
  round = best.found.0;
  less = omega (arith, best.found.1, best.found.2);
  least = λ others round. omega (arith, best.found.1, all_rounds w passed tried limit least (Some hops) are enough best others round);
}

no_round-best : (w : Wiring) (passed tried : List ℕ) (limit least : ℕ) → ArePassed w passed → ((i : ℕ) → Contains passed i → Contains tried i) → IsBest w limit tried least None → (hops : List Hop) → IsRound w hops → limit ≤ hops_cost hops
no_round-best w passed tried limit least are enough best hops round = omega (arith, best.found, all_rounds w passed tried limit least None are enough best hops round)

-- the same where a round is held in some way
pub IsBest-some : {V : Type 0} (found now : Option V) (v : V) (hops : V → List Hop) (w : Wiring) (limit : ℕ) (tried later : List ℕ) (i least cost after : ℕ) → IsBest w limit tried least (option_map hops found)
    → ((j : ℕ) → Contains later j → Contains tried j ⊎ (i ≡ j)) → IsBetter w i least cost (hops v) → after ≡ cost → now ≡ Some v → IsBest w limit later after (option_map hops now)
IsBest-some {V} found now v hops w limit tried later i least cost after best more better same is =
    subst (λ (o : Option V). IsBest w limit later after (option_map hops o)) (sym is) (subst (λ (k : ℕ). IsBest w limit later k (Some (hops v))) (sym same) (IsBest-better w limit tried later i least (option_map hops found) best more cost (hops v) better))

pub IsBest-kept : {V : Type 0} (found now : Option V) (hops : V → List Hop) (w : Wiring) (limit : ℕ) (tried later : List ℕ) (i least after : ℕ) → IsBest w limit tried least (option_map hops found)
    → ((j : ℕ) → Contains later j → Contains tried j ⊎ (i ≡ j)) → IsNoBetter w i least → after ≡ least → now ≡ found → IsBest w limit later after (option_map hops now)
IsBest-kept {V} found now hops w limit tried later i least after best more none same is =
    subst (λ (o : Option V). IsBest w limit later after (option_map hops o)) (sym is) (subst (λ (k : ℕ). IsBest w limit later k (option_map hops found)) (sym same) (IsBest-same w limit tried later i least (option_map hops found) best more none))

pub IfSome-best : {V : Type 0} (found : Option V) (hops : V → List Hop) (w : Wiring) (passed tried : List ℕ) (limit least : ℕ) → ArePassed w passed → ((i : ℕ) → Contains passed i → Contains tried i) → IsBest w limit tried least (option_map hops found)
    → IfSome found (λ v. IsLeastRound w limit (hops v))
IfSome-best None hops w passed tried limit least are enough best = tt
IfSome-best (Some v) hops w passed tried limit least are enough best = IsLeastRound-best w passed tried limit least (hops v) are enough best

pub IfNone-best : {V : Type 0} (found : Option V) (hops : V → List Hop) (w : Wiring) (passed tried : List ℕ) (limit least : ℕ) → ArePassed w passed → ((i : ℕ) → Contains passed i → Contains tried i) → IsBest w limit tried least (option_map hops found)
    → IfNone found ((others : List Hop) → IsRound w others → limit ≤ hops_cost others)
IfNone-best None hops w passed tried limit least are enough best = no_round-best w passed tried limit least are enough best
IfNone-best (Some v) hops w passed tried limit least are enough best = tt

-- ---- which items are passed

-- each round comes to a marked lane by one of its items there
pub ArePassed-marked : (w : Wiring) (numbers : List ℕ) (marks : List Bool) (passed : List ℕ) → AreMarked w numbers marks
    → ((i : ℕ) → i < items w → HasRescuer w (lane_of w i) → slice_index_or marks (lane_of w i) false ≡ true → Contains passed i) → ArePassed w passed
ArePassed-marked w numbers marks passed marked all hops round =
    let turn = round_turned w (slice_index numbers) round.first hops round.some round.path in
    let h : Hop = turn.hop in
    let falls : slice_index numbers (lane_of w h.flush.item) ≤ slice_index numbers (lane_of w h.item) = subst (λ (q : ℕ). slice_index numbers q ≤ slice_index numbers (lane_of w h.item)) turn.on turn.falls in
    let there : slice_index_or marks (lane_of w h.next) false ≡ true = ap (λ (q : ℕ). slice_index_or marks q false) turn.on ∙ marked h turn.is_hop falls in
    let first = path_rescuer w h.next h.next turn.turned turn.some turn.path in
    (h.next, all h.next first.0 first.1 there, turn.turned, turn.some, turn.path, turn.cost)

-- ---- the least walk

-- what a walk costs that leads to a bare lane
pub bare_cost : (h : Hop) (beside : List ℕ) → length beside ≡ 1 → walk_cost (h ∷ []) beside ≡ unsure_part h.flush + 4
bare_cost h beside one = by h.flush.unsure
  where
    by : (u : Bool) → 32768 * length (cond u (h ∷ []) []) + (3 * 1 + length beside) ≡ (if u then 32768 else 0) + 4
    by true = omega (arith, one)
    by false = omega (arith, one)

bare_walk_cost : (h : Hop) (others : List Hop) (more : List ℕ) → others ≡ h ∷ [] → more ≡ h.flush.item ∷ []
    → walk_cost others more ≡ unsure_part h.flush + 4
bare_walk_cost h others more one other =
    ap (λ (l : List Hop). walk_cost l more) one ∙ bare_cost h more (ap (λ (l : List ℕ). length l) other)

-- what comes no later costs no more
unsure_part-later : (t u : Target) → ComesNoLater t u → unsure_part t ≤ unsure_part u
unsure_part-later t u (inl same) = omega (arith, ap {B = ℕ} (λ (b : Bool). if b then 32768 else 0) same.0)
unsure_part-later t u (inr first) = omega (arith, ap {B = ℕ} (λ (b : Bool). if b then 32768 else 0) first.0)

-- each flush that leads to a bare lane costs at least the limit
abbrev pub BareCostsMore : Wiring → ℕ → Type 0
BareCostsMore w limit = (h : Hop) → IsHop w h → (¬ HasRescuer w (lane_of w h.flush.item))
    → limit ≤ unsure_part h.flush + 4

cost-round : (hops : List Hop) (beside : List ℕ) → beside ≡ flat_map target_beside hops
    → walk_cost hops beside ≡ hops_cost hops
cost-round hops beside same = ap (walk_cost hops) same ∙ walk_cost-hops hops

pub IsLeastWalk-round : (w : Wiring) (limit : ℕ) (hops : List Hop) (beside : List ℕ) → BareCostsMore w limit
    → IsLeastRound w limit hops → beside ≡ flat_map target_beside hops → IsLeastWalk w hops beside
IsLeastWalk-round w limit hops beside bare is same = record { walk = inl (is.round, same); least = least }
  where
    least : (others : List Hop) (more : List ℕ) → IsWalk w others more → walk_cost hops beside ≤ walk_cost others more
    least others more (inl (round, with_targets)) =
        omega (arith, cost-round hops beside same, is.least others round, cost-round others more with_targets)
    least others more (inr (h, hop, leads, one, other)) =
        omega (arith, cost-round hops beside same, is.less, bare h hop leads, bare_walk_cost h others more one other)

-- it costs less than each walk that leads to a bare lane
pub IsRoundOrFirst-round : (w : Wiring) (limit : ℕ) (hops : List Hop) (beside : List ℕ) → BareCostsMore w limit
    → IsLeastRound w limit hops → beside ≡ flat_map target_beside hops → IsRoundOrFirst w hops beside
IsRoundOrFirst-round w limit hops beside bare is same = inl (
  is.round,
  λ g hop leads. omega (
    arith,
    is.less,
    bare g hop leads,
    cost-round hops beside same,
    bare_cost g (g.flush.item ∷ []) refl,
  ),
)

pub IsLeastWalk-bare : (w : Wiring) (limit : ℕ) (h : Hop) (hops : List Hop) (beside : List ℕ) → IsFirstToBare w h
    → limit ≡ unsure_part h.flush + 4 → ((others : List Hop) → IsRound w others → limit ≤ hops_cost others)
    → hops ≡ h ∷ [] → beside ≡ h.flush.item ∷ [] → IsLeastWalk w hops beside
IsLeastWalk-bare w limit h hops beside first is rounds one other =
    record { walk = inr (h, first.to_bare.hop, first.to_bare.bare, one, other); least = least }
  where
    least : (others : List Hop) (more : List ℕ) → IsWalk w others more → walk_cost hops beside ≤ walk_cost others more
    least others more (inl (round, with_targets)) = omega (
      arith,
      is,
      bare_walk_cost h hops beside one other,
      rounds others round,
      cost-round others more with_targets,
    )
    least others more (inr (g, leads, to_bare, just, target)) = omega (
      arith,
      bare_walk_cost h hops beside one other,
      bare_walk_cost g others more just target,
      unsure_part-later h.flush g.flush (first.first g leads to_bare),
    )

-- the first flush that leads to a bare lane is the first with its words, too
pub AreFirstAlike-bare : (w : Wiring) (h : Hop) (hops : List Hop) → IsFirstToBare w h → hops ≡ h ∷ []
    → AreFirstAlike w hops
AreFirstAlike-bare w h hops first one = subst (AreFirstAlike w) (sym one) (λ g there. the_one g there)
  where
    by : (t : Target) → AreAlike t h.flush → ComesNoLater h.flush t → h.flush.place ≤ t.place
    by t alike (inl is) = is.1
    by t alike (inr is) = absurd (is.1 (alike.unsure ∙ is.0))

    own : (t : Target) → Contains (declared_by w h.item) t → AreAlike t h.flush → h.flush.place ≤ t.place
    own t there alike =
        let g : Hop = record { item = h.item; flush = t; next = h.next } in
        let hop : IsHop w g = record { declared = there; rescuer = first.to_bare.hop.rescuer } in
        let bare : ¬ HasRescuer w (lane_of w t.item) =
        λ has. first.to_bare.bare (subst (λ (i : ℕ). HasRescuer w (lane_of w i)) alike.item has) in
        by t alike (first.first g hop bare)

    the_one : (g : Hop) → Contains (h ∷ []) g → (t : Target) → Contains (declared_by w g.item) t → AreAlike t g.flush
        → g.flush.place ≤ t.place
    the_one g (zero, lt, at) = subst
        (λ (x : Hop). (t : Target) → Contains (declared_by w x.item) t → AreAlike t x.flush → x.flush.place ≤ t.place)
        at
        own
    the_one g (suc k, lt, at) = absurd (omega arith)

pub BeginsUnsure-one : (h : Hop) (hops : List Hop) → hops ≡ h ∷ [] → BeginsUnsure hops
BeginsUnsure-one h hops one = subst BeginsUnsure (sym one) (λ sure. refl)

pub IsSafe-no_round : (w : Wiring) (limit : ℕ) → IsWiring w → 32772 * w.lanes + 32772 ≤ limit
    → ((h : Hop) → IsHop w h → HasRescuer w (lane_of w h.flush.item))
    → ((hops : List Hop) → IsRound w hops → limit ≤ hops_cost hops) → IsSafe w
IsSafe-no_round w limit wiring few rescued rounds = IsSafe-no_walk w wiring none
  where
    none : (hops : List Hop) (beside : List ℕ) → ¬ IsWalk w hops beside
    none hops beside (inl (round, with_targets)) = no_round w limit wiring few rounds hops round
    none hops beside (inr (h, hop, bare, one, other)) = bare (rescued h hop)

-- the limit where a flush leads to a bare lane is what the first costs
pub limit-bare : (bare : Option Hop) (h : Hop) (limit : ℕ) → bare ≡ Some h
    → MatchOption bare (limit ≡ 134266884) (λ h. limit ≡ walk_cost (h ∷ []) (h.flush.item ∷ []))
    → limit ≡ unsure_part h.flush + 4
limit-bare None h limit one is = absurd cc
limit-bare (Some g) h limit one is =
    let same : g ≡ h = cc in
    is ∙ bare_cost g (g.flush.item ∷ []) refl ∙ ap (λ (x : Hop). unsure_part x.flush + 4) same

pub limit-enough : (w : Wiring) (bare : Option Hop) (limit : ℕ)
    → MatchOption bare (limit ≡ 134266884) (λ h. limit ≡ walk_cost (h ∷ []) (h.flush.item ∷ []))
    → IfSome bare (IsFirstToBare w) → IfNone bare ((h : Hop) → IsHop w h → HasRescuer w (lane_of w h.flush.item))
    → BareCostsMore w limit
limit-enough w None limit is some none h hop bare = absurd (bare (none h hop))
limit-enough w (Some x) limit is some none h hop bare = omega (
  arith,
  is,
  bare_cost x (x.flush.item ∷ []) refl,
  unsure_part-later x.flush h.flush (some.first h hop bare),
)

-- where there is no lane, nothing runs
pub IsSafe-no_lane : (w : Wiring) → IsWiring w → w.lanes ≡ 0 → IsSafe w
IsSafe-no_lane w wiring none = IsSafe-no_walk w wiring no_walk
  where
    no_hop : (h : Hop) → ¬ IsHop w h
    no_hop h hop = omega (arith, none, lane_of-within w wiring h.item (declared-item w h.item h.flush hop.declared))

    no_path : (i j : ℕ) (hops : List Hop) → 0 < length hops → ¬ IsPath w i hops j
    no_path i j [] some path = omega arith
    no_path i j (h ∷ hops) some path = no_hop h path.1

    no_walk : (hops : List Hop) (beside : List ℕ) → ¬ IsWalk w hops beside
    no_walk hops beside (inl (round, with_targets)) = no_path round.first round.first hops round.some round.path
    no_walk hops beside (inr (h, hop, bare, one, other)) = no_hop h hop

pub limit-low : (bare : Option Hop) (limit : ℕ)
    → MatchOption bare (limit ≡ 134266884) (λ h. limit ≡ walk_cost (h ∷ []) (h.flush.item ∷ [])) → limit ≤ 134266884
limit-low None limit is = omega (arith, is)
limit-low (Some h) limit is = omega (arith, is, bare_cost h (h.flush.item ∷ []) refl, unsure_part-most h.flush)

-- the items that wait exist
path_items : (w : Wiring) (i j : ℕ) (hops : List Hop) → IsPath w i hops j → All (λ (h : Hop). h.item < items w) hops
path_items w i j [] path = All-nil (λ (h : Hop). h.item < items w)
path_items w i j (h ∷ hops) path = All-cons (λ (g : Hop). g.item < items w) h hops (declared-item w h.item h.flush path.1.declared) (path_items w h.next j hops path.3)

pub walk_items : (w : Wiring) (hops : List Hop) (beside : List ℕ) → IsWalk w hops beside → All (λ (h : Hop). h.item < items w) hops
walk_items w hops beside (inl (round, with_targets)) = path_items w round.first round.first hops round.path
walk_items w hops beside (inr (h, hop, bare, one, other)) =
    subst (λ (l : List Hop). All (λ (g : Hop). g.item < items w) l) (sym one) (All-cons (λ (g : Hop). g.item < items w) h [] (declared-item w h.item h.flush hop.declared) (All-nil (λ (g : Hop). g.item < items w)))
