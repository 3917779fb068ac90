-- A walk that leaves no lane twice ends in one of three ways, and costs no less than a way to that end and the end.
use Rattle.std.proofs.Common.{◌≡◌, ◌≢◌, ℕ, zero, suc, ◌+◌, ◌*◌, ◌<◌, ◌≤◌, ◌⊎◌, inl, inr, Bool, true, false, cond, List}
use Rattle.std.proofs.Common.{[]}
use Rattle.std.proofs.Common.{◌∷◌, ◌++◌, length, refl, sym, ap, subst, ◌∙◌, arith}
use Rattle.std.specs.Prelude.{Contains, flat_map, slice_index, slice_index_or, if◌then◌else◌, ◌==◌}
use Rattle.std.specs.List.{All}
use Rattle.std.proofs.lemmas.Bool.{cases_lt, eqb-true}
use Rattle.std.proofs.lemmas.List.{length-append}
use Rattle.std.proofs.lemmas.List.Elements.{All-contains}
use Rattle.wq_core.specs.Wiring.{Wiring, IsWiring, HasRescuer, items, lane_of}
use Rattle.wq_hang.specs.declared.hop.Hop.{Hop}
use Rattle.wq_hang.specs.Walk.{IsHop, IsPath, IsToBare, target_beside, unsure_hops, max_walk_cost}
use Rattle.wq_hang.specs.WalkFor.{IsWalkFor, MeetsRound, MeetsBare, once, named_beside, pending_beside, pending_for}
use Rattle.wq_hang.specs.WalkFor.{cost_for}
use Rattle.wq_hang.specs.Search.{hop_cost, hops_cost, step}
use Rattle.wq_hang.specs.WaysFor.{BeginsAt, WaitsAlone}
use Rattle.wq_hang.specs.EndsFor.{Field, IsField, IsRoundAlone, NoneBare, NoneFrom, NoneAlone}
use Rattle.wq_hang.proofs.Apart.{Avoids, Apart, In, cases_In, not_in, Avoids-from, Apart-append, In-append_left}
use Rattle.wq_hang.proofs.Apart.{In-append_right, Apart-left, Apart-right, Apart-across, Apart-within}
use Rattle.wq_hang.proofs.Once.{once-In}
use Rattle.wq_hang.proofs.Declared.{declared-item}
use Rattle.wq_hang.proofs.StuckRounds.{lanes_to, unsure-more}
use Rattle.wq_hang.proofs.LeastWalks.{lanes_from, IsPath-append, hops_cost-append}
use Rattle.wq_hang.proofs.WalkRuns.{In_lane, In-append}
use Rattle.wq_hang.proofs.Shortest.{path_hop, path_lanes, round_lanes, lane_to_In}
use Rattle.wq_hang.proofs.CutWalks.{cut, path_parts, path_rescuer, lanes_from-append}
use Rattle.wq_hang.proofs.CutWalks.{unsure-append, pending_cases, pending_target, In-flat_left, In-flat_right}
use Rattle.wq_hang.proofs.StuckWalks.{named_is, target_is, pending_rescued, pending_hop, length-pending}
use Rattle.wq_hang.proofs.FewestFor.{few_hops}
use Rattle.wq_hang.proofs.EndCosts.{full_cost, full_cost-append, full_cost-path, last_step}

-- ---- items that are pending are on the lanes to which the hops lead

pending_lane : (w : Wiring) (hops : List Hop) (i : ℕ) → In i (flat_map (pending_beside w) hops)
    → In (lane_of w i) (lanes_to w hops)
pending_lane w hops i there =
    let h = pending_hop w hops i there in
    subst (λ (k : ℕ). In (lane_of w k) (lanes_to w hops)) (sym (pending_target w h.0 i h.2))
    (lane_to_In w hops h.0 h.1)

-- so they are apart if the lanes are
pending_apart : (w : Wiring) (hops : List Hop) → Apart (lanes_to w hops) → Apart (flat_map (pending_beside w) hops)
pending_apart w [] apart = tt
pending_apart w (h ∷ hops) apart =
    let rest : Apart (flat_map (pending_beside w) hops) = pending_apart w hops apart.1 in
    elim (pending_cases w h) [
      | inl none ↦ subst (λ (l : List ℕ). Apart (l ++ flat_map (pending_beside w) hops)) (sym none) rest
      | inr one ↦ subst (λ (l : List ℕ). Apart (l ++ flat_map (pending_beside w) hops)) (sym one) (
        Avoids-from h.flush.item (flat_map (pending_beside w) hops) (λ there.
            not_in (lane_of w h.flush.item) (lanes_to w hops) apart.0 (pending_lane w hops h.flush.item there)),
        rest,
      )
    ]

-- and x, too
front_apart : (w : Wiring) (x first end : ℕ) (all hops : List Hop) → IsPath w first all end → 0 < length all
    → lane_of w first ≡ lane_of w x → Apart (lane_of w first ∷ lanes_to w hops)
    → Apart (named_beside x all ++ flat_map (pending_beside w) hops)
front_apart w x first end all hops path some lane apart =
    Apart-append (named_beside x all) (flat_map (pending_beside w) hops) (one_apart all)
    (pending_apart w hops apart.1) (λ i there.
    let it = named_is w x first end all path some i there in
    Avoids-from i (flat_map (pending_beside w) hops) (λ again.
    not_in (lane_of w first) (lanes_to w hops) apart.0
    (subst (λ (q : ℕ). In q (lanes_to w hops)) (ap (lane_of w) it.0 ∙ sym lane) (pending_lane w hops i again))))
  where
    one_apart : (hs : List Hop) → Apart (named_beside x hs)
    one_apart [] = (tt, tt)
    one_apart (h ∷ hs) = by (h.item == x)
      where
        by : (b : Bool) → Apart (if b then [] else x ∷ [])
        by true = tt
        by false = (tt, tt)

-- ---- how a walk begins

begins_named : (w : Wiring) (starts : List ℕ) (x first end : ℕ) (hops : List Hop) → IsPath w first hops end
    → 0 < length hops → Contains starts x → lane_of w first ≡ lane_of w x
    → BeginsAt w starts first (length (named_beside x hops))
begins_named w starts x first end [] path some there lane = absurd (omega (arith, some))
begins_named w starts x first end (h ∷ hops) path some there lane = by (h.item == x) refl
  where
    below : first < items w
    below = subst (λ (i : ℕ). i < items w) path.0 (declared-item w h.item h.flush path.1.declared)

    by : (b : Bool) → (h.item == x) ≡ b → BeginsAt w starts first (length (if b then [] else x ∷ []))
    by true is = inl (
      subst (λ (i : ℕ). Contains starts i) (sym (eqb-true h.item x is) ∙ path.0) there,
      refl,
    )
    by false is = inr (x, there, sym lane, below, refl)

-- ---- what a walk costs at least

-- different items, each of which is pending, are no more than it costs
cost_for-least : (w : Wiring) (x : ℕ) (hops : List Hop) (ys : List ℕ) → Apart ys
    → ((i : ℕ) → In i ys → In i (named_beside x hops ++ flat_map (pending_beside w) hops))
    → (32768 * length (unsure_hops hops) + 3 * length hops) + length ys ≤ cost_for w x hops
cost_for-least w x hops ys apart each =
    let all : List ℕ = named_beside x hops ++ flat_map (pending_beside w) hops in
    let few : length ys ≤ length (once all) =
    Apart-within ys (once all) apart (λ i there. once-In i all (each i there)) in
    omega (arith, few)

common : (xs ys : List ℕ) → ((i : ℕ) × In i xs × In i ys) ⊎ ((i : ℕ) → In i xs → Avoids i ys)
common [] ys = inr (λ i there. absurd there)
common (x ∷ xs) ys = elim (cases_In x ys) [
  | inl both ↦ inl (x, inl refl, both)
  | inr avoids ↦ elim (common xs ys) [
    | inl found ↦ inl (found.0, inr found.1, found.2)
    | inr none ↦ inr (each avoids none)
  ]
]
  where
    each : Avoids x ys → ((i : ℕ) → In i xs → Avoids i ys) → (i : ℕ) → In i (x ∷ xs) → Avoids i ys
    each avoids none i (inl same) = subst (λ (k : ℕ). Avoids k ys) (sym same) avoids
    each avoids none i (inr later) = none i later

-- a hop among others, with what comes before and after
record IsAmong (hops : List Hop) (h : Hop) : Type 0 where
  before : List Hop
  after : List Hop
  parts : hops ≡ before ++ (h ∷ after)

among : (hops : List Hop) (h : Hop) → Contains hops h → IsAmong hops h
among [] h there = absurd (omega (arith, there.1))
among (g ∷ hops) h (zero, lt, at) =
    record { before = []; after = hops; parts = ap (λ (x : Hop). x ∷ hops) at }
among (g ∷ hops) h (suc k, lt, at) =
    let rest = among hops h (k, omega arith, at) in
    record {
      before = g ∷ rest.before;
      after = rest.after;
      parts = ap (λ (l : List Hop). g ∷ l) rest.parts;
    }

-- a round passes a hop that waits for its target alone, which isn't next: it is a round from there, and costs as much
round_alone : (w : Wiring) (at : ℕ) (round : List Hop) → IsPath w at round at → HasRescuer w (lane_of w at) → (h : Hop)
    → Contains round h → (i : ℕ) → In i (pending_beside w h)
    → (others : List Hop) × IsRoundAlone w i others (hops_cost round)
round_alone w at round path rescuer h there i pending = (
  (parts.after ++ parts.before) ++ (h ∷ []),
  record {
    way = parts.after ++ parts.before;
    last = h;
    before = 1 + hops_cost (parts.after ++ parts.before);
    are = refl;
    leads = record {
      first = h.next;
      before = 1;
      begins = inr (i, (0, omega arith, refl), ap (lane_of w) target.1 ∙ sym here.1.2, below, refl);
      path = IsPath-append w h.next at h.item parts.after parts.before here.1.3 here.0;
      costs = refl;
    };
    hop = here.1.1;
    waits_for = sym target.1;
    alone = target.0;
    next = refl;
    costs = omega (
      arith,
      hops_cost-append parts.after parts.before,
      hops_cost-append parts.before (h ∷ parts.after),
      ap hops_cost parts.parts,
      size,
    );
  },
)
  where
    parts : IsAmong round h
    parts = among round h there

    here : IsPath w at parts.before h.item × IsPath w h.item (h ∷ parts.after) at
    here = path_parts w at at parts.before h parts.after
        (subst (λ (l : List Hop). IsPath w at l at) parts.parts path)

    to : HasRescuer w (lane_of w h.flush.item)
    to = subst (HasRescuer w) here.1.2 (path_rescuer w h.next at parts.after here.1.3 rescuer)

    target : (h.flush.whole ≡ false) × (i ≡ h.flush.item) × (h.flush.item ≢ h.next)
    target = target_is h i (subst (λ (l : List ℕ). In i l) (pending_rescued w h to) pending)

    -- its target is pending, which costs 1
    one : target_beside h ≡ h.flush.item ∷ []
    one = elim (pending_cases w h) [
      | inl none ↦ absurd (subst (λ (l : List ℕ). In i l) none pending)
      | inr is ↦ sym (pending_rescued w h to) ∙ is
    ]

    size : hop_cost h ≡ step h.flush + 1
    size = omega (arith, ap (λ (l : List ℕ). length l) one)

    below : h.next < items w
    below = next_below parts.after here.1.3
      where
        at_below : (hops : List Hop) → IsPath w at hops at → 0 < length hops → at < items w
        at_below [] hops_path some = absurd (omega (arith, some))
        at_below (g ∷ gs) hops_path some =
            subst (λ (k : ℕ). k < items w) hops_path.0 (declared-item w g.item g.flush hops_path.1.declared)

        some_hops : 0 < length round
        some_hops = omega (arith, there.1)

        next_below : (after : List Hop) → IsPath w h.next after at → h.next < items w
        next_below [] same = subst (λ (k : ℕ). k < items w) (sym same) (at_below round path some_hops)
        next_below (g ∷ gs) on =
            subst (λ (k : ℕ). k < items w) on.0 (declared-item w g.item g.flush on.1.declared)

-- ---- no walk costs less than the best end

module _ (on : List (List ℕ)) (f : Field) (field : IsField on f) (cost : ℕ) (most : cost ≤ max_walk_cost)
    (none_bare : NoneBare f cost) (none_from : (i : ℕ) → NoneFrom f cost i)
    (none_alone : (t : ℕ) → NoneAlone f cost t) (x : ℕ) (is_named : Contains f.starts x) (hops : List Hop)
    (apart : Apart (lanes_from f.wiring hops)) (first : ℕ) (lane : lane_of f.wiring first ≡ lane_of f.wiring x) where
  abbrev w : Wiring
  w = f.wiring

  -- what it costs to come to where a path from the first leads
  comes_for : (j : ℕ) (way : List Hop) → 0 < length hops → (end : ℕ) → IsPath w first hops end
      → IsPath w first way j → HasRescuer w (lane_of w j)
      → slice_index f.ways.costs j ≤ length (named_beside x hops) + hops_cost way
  comes_for j way some end path on_way rescuer =
      field.ways.least j (length (named_beside x hops) + hops_cost way) way rescuer (record {
        first = first;
        before = length (named_beside x hops);
        begins = begins_named w f.starts x first end hops path some is_named lane;
        path = on_way;
        costs = refl;
      })

  bare_least : MeetsBare w first hops → cost ≤ cost_for w x hops
  bare_least meets =
      omega (
        arith,
        cost_for-least w x hops ys ys_apart (λ i there. there),
        comes_for h.item meets.way some h.next path meets.leads meets.to_bare.hop.rescuer,
        none_bare h meets.to_bare,
        length-append (named_beside x hops) (flat_map (pending_beside w) hops),
        ap (full_cost w) meets.are,
        full_cost-append w meets.way (h ∷ []),
        full_cost-path w first h.item meets.way meets.leads meets.to_bare.hop.rescuer,
        last_full,
      )
    where
      h : Hop
      h = meets.last

      path : IsPath w first hops h.next
      path = subst (λ (l : List Hop). IsPath w first l h.next) (sym meets.are)
          (IsPath-append w first h.item h.next meets.way (h ∷ []) meets.leads
          (refl, meets.to_bare.hop, ap (lane_of w) meets.to_bare.next, refl))

      some : 0 < length hops
      some = omega (arith, ap (λ (l : List Hop). length l) meets.are, length-append meets.way (h ∷ []))

      ys : List ℕ
      ys = named_beside x hops ++ flat_map (pending_beside w) hops

      -- the bare lane isn't left by any hop
      bare_end : ¬ HasRescuer w (lane_of w h.next)
      bare_end rescuer =
          meets.to_bare.bare (subst (λ (i : ℕ). HasRescuer w (lane_of w i)) meets.to_bare.next rescuer)

      lanes_apart : Apart (lanes_from w hops ++ (lane_of w h.next ∷ []))
      lanes_apart =
          Apart-append (lanes_from w hops) (lane_of w h.next ∷ []) apart (tt, tt) (λ q there. (
            (λ same.
                let g = In_lane w hops q there in
                let rescuer : HasRescuer w q =
                subst (HasRescuer w) g.2 (path_hop w first h.next hops path g.0 g.1).0.rescuer in
                bare_end (subst (HasRescuer w) same rescuer)),
            tt,
          ))

      ys_apart : Apart ys
      ys_apart = front_apart w x first h.next hops hops path some lane
          (subst Apart (sym (path_lanes w first h.next hops path)) lanes_apart)

      target : pending_beside w h ≡ h.flush.item ∷ []
      target = by (slice_index_or w.bare (lane_of w h.flush.item) false) refl
        where
          by : (b : Bool) → slice_index_or w.bare (lane_of w h.flush.item) false ≡ b
              → (if b then h.flush.item ∷ [] else target_beside h) ≡ h.flush.item ∷ []
          by true is = refl
          by false is = absurd (meets.to_bare.bare is)

      last_full : full_cost w (h ∷ []) ≡ step h.flush + 1
      last_full = omega (
        arith,
        last_step h,
        ap (λ (l : List ℕ). length l) target,
        length-append (pending_beside w h) [],
      )

  module _ (meets : MeetsRound w first hops) where
    path : IsPath w first hops meets.at
    path = subst (λ (l : List Hop). IsPath w first l meets.at) (sym meets.are)
        (IsPath-append w first meets.at meets.at meets.way meets.round meets.leads meets.goes_round)

    some : 0 < length hops
    some = omega (
      arith,
      meets.some,
      ap (λ (l : List Hop). length l) meets.are,
      length-append meets.way meets.round,
    )

    abbrev named : List ℕ
    named = named_beside x hops

    abbrev front : List ℕ
    front = named ++ flat_map (pending_beside w) meets.way

    abbrev back : List ℕ
    back = flat_map (pending_beside w) meets.round

    rescuer : HasRescuer w (lane_of w meets.at)
    rescuer = at_round meets.round meets.some meets.goes_round
      where
        at_round : (round : List Hop) → 0 < length round → IsPath w meets.at round meets.at
            → HasRescuer w (lane_of w meets.at)
        at_round [] none round_path = absurd (omega (arith, none))
        at_round (g ∷ gs) one round_path =
            subst (λ (k : ℕ). HasRescuer w (lane_of w k)) round_path.0 round_path.1.rescuer

    lanes : Apart (lanes_from w meets.way ++ lanes_from w meets.round)
    lanes = subst Apart (ap (lanes_from w) meets.are ∙ lanes_from-append w meets.way meets.round) apart

    at_left : In (lane_of w meets.at) (lanes_from w meets.round)
    at_left = first_left meets.round meets.some meets.goes_round
      where
        first_left : (round : List Hop) → 0 < length round → IsPath w meets.at round meets.at
            → In (lane_of w meets.at) (lanes_from w round)
        first_left [] none round_path = absurd (omega (arith, none))
        first_left (g ∷ gs) one round_path = inl (ap (lane_of w) (sym round_path.0))

    -- the lanes to which the round leads are those that it leaves
    back_lane : (i : ℕ) → In i back → In (lane_of w i) (lanes_from w meets.round)
    back_lane i there =
        let to : In (lane_of w i) (lane_of w meets.at ∷ lanes_to w meets.round) =
        inr (pending_lane w meets.round i there) in
        elim (In-append (lane_of w i) (lanes_from w meets.round) (lane_of w meets.at ∷ [])
        (subst (λ (l : List ℕ). In (lane_of w i) l)
        (path_lanes w meets.at meets.at meets.round meets.goes_round) to)) [
          | inl left ↦ left
          | inr last ↦ elim last [
            | inl same ↦ subst (λ (q : ℕ). In q (lanes_from w meets.round)) (sym same) at_left
            | inr none ↦ absurd none
          ]
        ]

    back_apart : Apart back
    back_apart = pending_apart w meets.round (round_lanes w meets.at meets.round meets.goes_round
        (Apart-right (lanes_from w meets.way) (lanes_from w meets.round) lanes))

    in_all_front : (i : ℕ) → In i (flat_map (pending_beside w) meets.way)
        → In i (named ++ flat_map (pending_beside w) hops)
    in_all_front i there = In-append_right i named (flat_map (pending_beside w) hops)
        (subst (λ (l : List Hop). In i (flat_map (pending_beside w) l)) (sym meets.are)
        (In-flat_left (pending_beside w) i meets.way meets.round there))

    in_all_back : (i : ℕ) → In i back → In i (named ++ flat_map (pending_beside w) hops)
    in_all_back i there = In-append_right i named (flat_map (pending_beside w) hops)
        (subst (λ (l : List Hop). In i (flat_map (pending_beside w) l)) (sym meets.are)
        (In-flat_right (pending_beside w) i meets.way meets.round there))

    in_all_named : (i : ℕ) → In i named → In i (named ++ flat_map (pending_beside w) hops)
    in_all_named i there = In-append_left i named (flat_map (pending_beside w) hops) there

    -- nothing is pending for the way and for the round
    front_too : Apart front
    front_too = front_apart w x first meets.at hops meets.way path some lane
        (subst Apart (sym (path_lanes w first meets.at meets.way meets.leads))
        (Apart-append (lanes_from w meets.way) (lane_of w meets.at ∷ [])
        (Apart-left (lanes_from w meets.way) (lanes_from w meets.round) lanes) (tt, tt) (λ q there. (
          (λ same. Apart-across (lanes_from w meets.way) (lanes_from w meets.round) q lanes there
              (subst (λ (r : ℕ). In r (lanes_from w meets.round)) (sym same) at_left)),
          tt,
        ))))

    apart_least : ((i : ℕ) → In i front → Avoids i back) → cost ≤ cost_for w x hops
    apart_least none =
        omega (
          arith,
          cost_for-least w x hops (front ++ back) (Apart-append front back front_too back_apart none)
              (λ i there. elim (In-append i front back there) [
                | inl one ↦ elim (In-append i named (flat_map (pending_beside w) meets.way) one) [
                  | inl is_named_one ↦ in_all_named i is_named_one
                  | inr on_way ↦ in_all_front i on_way
                ]
                | inr other ↦ in_all_back i other
              ]),
          comes_for meets.at meets.way some meets.at path meets.leads rescuer,
          none_from meets.at meets.round meets.some meets.goes_round,
          length-append front back,
          length-append named (flat_map (pending_beside w) meets.way),
          ap (λ (l : List Hop). length (unsure_hops l)) meets.are,
          ap (λ (l : List Hop). length l) meets.are,
          unsure-append meets.way meets.round,
          length-append meets.way meets.round,
          full_cost-path w first meets.at meets.way meets.leads rescuer,
          full_cost-path w meets.at meets.at meets.round meets.goes_round rescuer,
        )

    -- x is pending for both
    named_least : (t : ℕ) → t ≡ x → cost ≤ slice_index f.pending.costs t + hops_cost meets.round
        → cost ≤ cost_for w x hops
    named_least t same alone =
        let nothing : slice_index f.pending.costs x ≡ 0 =
        All-contains (λ (i : ℕ). slice_index f.pending.costs i ≡ 0) f.starts x field.pending.begun is_named in
        omega (
          arith,
          alone,
          nothing,
          ap (slice_index f.pending.costs) same,
          cost_for-least w x hops back back_apart in_all_back,
          ap (λ (l : List Hop). length (unsure_hops l)) meets.are,
          ap (λ (l : List Hop). length l) meets.are,
          unsure-append meets.way meets.round,
          length-append meets.way meets.round,
          full_cost-path w meets.at meets.at meets.round meets.goes_round rescuer,
        )

    -- the target of a hop on the way is
    module _ (t : ℕ) (g : Hop) (there : Contains meets.way g) (pending : In t (pending_beside w g)) where
      parts : IsAmong meets.way g
      parts = among meets.way g there

      at_hop : IsPath w first parts.before g.item × IsPath w g.item (g ∷ parts.after) meets.at
      at_hop = path_parts w first meets.at parts.before g parts.after
          (subst (λ (l : List Hop). IsPath w first l meets.at) parts.parts meets.leads)

      hop : IsHop w g
      hop = at_hop.1.1

      to : HasRescuer w (lane_of w g.flush.item)
      to = subst (HasRescuer w) at_hop.1.2 (path_rescuer w g.next meets.at parts.after at_hop.1.3 rescuer)

      target : (g.flush.whole ≡ false) × (t ≡ g.flush.item) × (g.flush.item ≢ g.next)
      target = target_is g t (subst (λ (l : List ℕ). In t l) (pending_rescued w g to) pending)

      abbrev early : List ℕ
      early = named ++ flat_map (pending_beside w) parts.before

      way_lanes : lanes_from w meets.way
          ≡ lanes_from w parts.before ++ (lane_of w g.item ∷ lanes_from w parts.after)
      way_lanes = ap (lanes_from w) parts.parts ∙ lanes_from-append w parts.before (g ∷ parts.after)

      way_apart : Apart (lanes_from w parts.before ++ (lane_of w g.item ∷ lanes_from w parts.after))
      way_apart = subst Apart way_lanes (Apart-left (lanes_from w meets.way) (lanes_from w meets.round) lanes)

      early_lanes : Apart (lane_of w first ∷ lanes_to w parts.before)
      early_lanes = subst Apart (sym (path_lanes w first g.item parts.before at_hop.0))
          (Apart-append (lanes_from w parts.before) (lane_of w g.item ∷ [])
          (Apart-left (lanes_from w parts.before) (lane_of w g.item ∷ lanes_from w parts.after) way_apart) (tt, tt)
          (λ q in_before. (
            (λ same. Apart-across (lanes_from w parts.before) (lane_of w g.item ∷ lanes_from w parts.after) q
                way_apart in_before (inl same)),
            tt,
          )))

      early_lane : (q : ℕ) → In q (lane_of w first ∷ lanes_to w parts.before) → In q (lanes_from w meets.way)
      early_lane q in_early =
          subst (λ (l : List ℕ). In q l) (sym way_lanes)
          (elim (In-append q (lanes_from w parts.before) (lane_of w g.item ∷ [])
          (subst (λ (l : List ℕ). In q l) (path_lanes w first g.item parts.before at_hop.0) in_early)) [
            | inl left ↦ In-append_left q (lanes_from w parts.before)
                (lane_of w g.item ∷ lanes_from w parts.after) left
            | inr last ↦ elim last [
              | inl same ↦ In-append_right q (lanes_from w parts.before)
                  (lane_of w g.item ∷ lanes_from w parts.after) (inl same)
              | inr none ↦ absurd none
            ]
          ])

      early_avoids : (i : ℕ) → In i early → Avoids i back
      early_avoids i in_early = Avoids-from i back (λ in_back.
          Apart-across (lanes_from w meets.way) (lanes_from w meets.round) (lane_of w i) lanes
          (early_lane (lane_of w i) (lane_early in_early)) (back_lane i in_back))
        where
          lane_early : In i early → In (lane_of w i) (lane_of w first ∷ lanes_to w parts.before)
          lane_early one = elim (In-append i named (flat_map (pending_beside w) parts.before) one) [
            | inl is_named_one ↦ (
                let it = named_is w x first meets.at hops path some i is_named_one in
                inl (ap (lane_of w) it.0 ∙ sym lane)
                )
            | inr on_way ↦ inr (pending_lane w parts.before i on_way)
          ]

      enough : (32768 * length (unsure_hops hops) + 3 * length hops) + length (early ++ back) ≤ cost_for w x hops
      enough = cost_for-least w x hops (early ++ back)
          (Apart-append early back
          (front_apart w x first meets.at hops parts.before path some lane early_lanes) back_apart early_avoids)
          (λ i in_ys. elim (In-append i early back in_ys) [
            | inl one ↦ elim (In-append i named (flat_map (pending_beside w) parts.before) one) [
              | inl is_named_one ↦ in_all_named i is_named_one
              | inr on_way ↦ in_all_front i
                  (subst (λ (l : List Hop). In i (flat_map (pending_beside w) l)) (sym parts.parts)
                  (In-flat_left (pending_beside w) i parts.before (g ∷ parts.after) on_way))
            ]
            | inr other ↦ in_all_back i other
          ])

      -- the way as far as the hop, the hop and the round cost no more than the walk
      all_least : ((length named + hops_cost parts.before) + step g.flush) + hops_cost meets.round
          ≤ cost_for w x hops
      all_least = omega (
        arith,
        enough,
        length-append early back,
        length-append named (flat_map (pending_beside w) parts.before),
        ap (λ (l : List Hop). length (unsure_hops l)) meets.are,
        ap (λ (l : List Hop). length l) meets.are,
        unsure-append meets.way meets.round,
        length-append meets.way meets.round,
        ap (λ (l : List Hop). length (unsure_hops l)) parts.parts,
        ap (λ (l : List Hop). length l) parts.parts,
        unsure-append parts.before (g ∷ parts.after),
        length-append parts.before (g ∷ parts.after),
        unsure-more g.flush.unsure g (unsure_hops parts.after),
        unsure-more g.flush.unsure g [],
        full_cost-path w first g.item parts.before at_hop.0 hop.rescuer,
        full_cost-path w meets.at meets.at meets.round meets.goes_round rescuer,
      )

      come : slice_index f.ways.costs g.item ≤ length named + hops_cost parts.before
      come = comes_for g.item parts.before some meets.at path at_hop.0 hop.rescuer

      target_least : cost ≤ slice_index f.pending.costs t + hops_cost meets.round → cost ≤ cost_for w x hops
      target_least alone = elim (cases_lt (slice_index f.ways.costs g.item) max_walk_cost) [
        | inr far ↦ omega (arith, far, most, come, all_least)
        | inl near ↦ (
            let waits : WaitsAlone w max_walk_cost f.ways g.item g.flush = record {
              item = declared-item w g.item g.flush hop.declared;
              reached = near;
              declared = hop.declared;
              alone = target.0;
              rescuer = to;
            } in
            omega (
              arith,
              alone,
              come,
              all_least,
              field.pending.least g.item g.flush waits,
              ap (slice_index f.pending.costs) target.1,
            )
            )
      ]

    round_cases : ((i : ℕ) × In i front × In i back) ⊎ ((i : ℕ) → In i front → Avoids i back)
        → cost ≤ cost_for w x hops
    round_cases (inr none) = apart_least none
    round_cases (inl (t, in_front, in_back)) =
        let h = pending_hop w meets.round t in_back in
        let round = round_alone w meets.at meets.round meets.goes_round rescuer h.0 h.1 t h.2 in
        let alone : cost ≤ slice_index f.pending.costs t + hops_cost meets.round =
        none_alone t round.0 (hops_cost meets.round) round.1 in
        elim (In-append t named (flat_map (pending_beside w) meets.way) in_front) [
          | inl is_named_one ↦ named_least t (named_is w x first meets.at hops path some t is_named_one).0 alone
          | inr on_way ↦ (
              let g = pending_hop w meets.way t on_way in
              target_least t g.0 g.1 g.2 alone
              )
        ]

    round_least : cost ≤ cost_for w x hops
    round_least = round_cases (common front back)

-- what no end costs less than, no walk does
module _ (on : List (List ℕ)) (f : Field) (field : IsField on f) (cost : ℕ) (most : cost ≤ max_walk_cost)
    (none_bare : NoneBare f cost) (none_from : (i : ℕ) → NoneFrom f cost i)
    (none_alone : (t : ℕ) → NoneAlone f cost t) where
  apart_enough : (x : ℕ) (hops : List Hop) → IsWalkFor f.wiring f.starts x hops → Apart (lanes_from f.wiring hops)
      → cost ≤ cost_for f.wiring x hops
  apart_enough x hops walk apart = elim walk.holds_up [
    | inl none ↦ absurd (none.1 (All-contains
        (λ (i : ℕ). (i < items f.wiring) × HasRescuer f.wiring (lane_of f.wiring i)) f.starts x field.begin
        walk.is_named).1)
    | inr meets ↦ elim meets.2 [
      | inl round ↦ round_least on f field cost most none_bare none_from none_alone x walk.is_named hops apart
          meets.0 meets.1 round
      | inr bare ↦ bare_least on f field cost most none_bare none_from none_alone x walk.is_named hops apart
          meets.0 meets.1 bare
    ]
  ]

  pub no_walk_less : (x : ℕ) (hops : List Hop) → IsWalkFor f.wiring f.starts x hops → cost ≤ cost_for f.wiring x hops
  no_walk_less x hops walk = elim (cut f.wiring x hops walk.holds_up) [
    | inl apart ↦ apart_enough x hops walk apart
    | inr shorter ↦ omega (
      arith,
      shorter.1.cheaper,
      apart_enough x shorter.0
          (record { is_named = walk.is_named; item = walk.item; holds_up = shorter.1.holds_up })
          shorter.1.apart,
    )
  ]

-- no walk that leaves no lane twice costs as much as the most
pub few_enough : (w : Wiring) (named : List ℕ) (x : ℕ) (hops : List Hop) → IsWiring w → w.lanes ≤ 4096
    → IsWalkFor w named x hops → Apart (lanes_from w hops) → cost_for w x hops < max_walk_cost
few_enough w named x hops wiring low walk apart =
    let hops_few : length hops ≤ w.lanes = few_hops w x hops wiring walk.holds_up apart in
    omega (arith, hops_few, low, length-pending w x hops, unsure_few hops)
  where
    unsure_few : (hs : List Hop) → length (unsure_hops hs) ≤ length hs
    unsure_few [] = omega arith
    unsure_few (h ∷ hs) =
        let rest : length (unsure_hops hs) ≤ length hs = unsure_few hs in
        omega (arith, rest, by h.flush.unsure)
      where
        by : (b : Bool) → length (cond b (h ∷ unsure_hops hs) (unsure_hops hs)) ≤ length (unsure_hops hs) + 1
        by true = omega arith
        by false = omega arith
