-- A round from where somebody waits for an item alone is no better than rounds from its items, but where all of these
-- are farther away.
use Rattle.std.proofs.Common.{◌≡◌, ◌≢◌, ℕ, zero, suc, ◌+◌, ◌<◌, ◌≤◌, ◌⊎◌, inl, inr, Bool, true, false, eqb, List}
use Rattle.std.proofs.Common.{[], ◌∷◌, ◌++◌, length, refl, sym, ap, subst, ◌∙◌, arith}
use Rattle.std.specs.Prelude.{Contains, slice_index, slice_index_or, if◌then◌else◌, ◌||◌}
use Rattle.std.proofs.lemmas.Bool.{cases_eq, cases_lt, eq-eqb, both_ways}
use Rattle.std.proofs.lemmas.List.Elements.{All-contains}
use Rattle.wq_items.specs.declared.target.Target.{Target}
use Rattle.wq_core.specs.Wiring.{Wiring, IsWiring, HasRescuer, items, lane_of}
use Rattle.wq_hang.specs.declared.hop.Hop.{Hop}
use Rattle.wq_hang.specs.Walk.{IsHop, IsPath, unsure_part, max_walk_cost}
use Rattle.wq_hang.specs.Search.{hop_cost, hops_cost, hop_to, step, IsNoBetter}
use Rattle.wq_hang.specs.WaysFor.{BeginsAt, IsWayFrom, AreLatest}
use Rattle.wq_hang.specs.EndsFor.{Field, IsBelowRounds, IsField, IsRoundAlone, NoneFrom, NoneAlone}
use Rattle.wq_hang.proofs.Declared.{declared-item, declared-target}
use Rattle.wq_hang.proofs.LeastWalks.{IsPath-append, hops_cost-append}
use Rattle.wq_hang.proofs.CutWalks.{path_rescuer}
use Rattle.wq_hang.proofs.WaysFound.{way_exists}
use Rattle.wq_hang.proofs.EndCosts.{first_lane, last_path, alone_path, alone_some}

-- ---- a hop that waits for its target alone

-- costs at most 1 more than to wait
hop_most : (i : ℕ) (t : Target) (j : ℕ) → hop_cost (hop_to i t j) ≤ step t + 1
hop_most i t j = by t.whole (eqb t.item j)
  where
    by : (whole same : Bool)
        → unsure_part t + (3 + length (if whole || same then [] else t.item ∷ [])) ≤ (unsure_part t + 3) + 1
    by true same = omega arith
    by false true = omega arith
    by false false = omega arith

-- and no more if the target is next
hop_itself : (i : ℕ) (t : Target) (j : ℕ) → t.item ≡ j → hop_cost (hop_to i t j) ≤ step t
hop_itself i t j same = by t.whole (eqb t.item j) refl
  where
    by : (whole is : Bool) → eqb t.item j ≡ is
        → unsure_part t + (3 + length (if whole || is then [] else t.item ∷ [])) ≤ unsure_part t + 3
    by true is test = omega arith
    by false true test = omega arith
    by false false test = absurd (both_ways (eqb t.item j) test (eq-eqb t.item j same))

below_next : (a b : ℕ) → a ≤ b + 1 → a ≢ b + 1 → a ≤ b
below_next a b le other = elim (cases_lt b a) [
  | inl more_than ↦ absurd (other (omega (arith, le, more_than)))
  | inr few ↦ few
]

module _ (on : List (List ℕ)) (f : Field) (field : IsField on f) (wiring : IsWiring f.wiring) where
  abbrev w : Wiring
  w = f.wiring

  -- what it costs to come to an item
  abbrev d : ℕ → ℕ
  d i = slice_index f.ways.costs i

  -- a way and hops from there
  comes_on : (d_hop : Hop) (i j : ℕ) (hops : List Hop) → i < items w → d i < max_walk_cost → IsPath w i hops j
      → HasRescuer w (lane_of w j) → d j ≤ d i + hops_cost hops
  comes_on d_hop i j hops below low path rescuer =
      let way = way_exists w f.starts max_walk_cost f.ways field.ways.reach d_hop i below low in
      let from : IsWayFrom w f.starts way.0 i way.1.cost = way.1.way in
      let least : d j ≤ way.1.cost + hops_cost hops =
      field.ways.least j (way.1.cost + hops_cost hops) (way.0 ++ hops) rescuer (record {
        first = from.first;
        before = from.before;
        begins = from.begins;
        path = IsPath-append w from.first i j way.0 hops from.path path;
        costs = omega (arith, from.costs, hops_cost-append way.0 hops);
      }) in
      omega (arith, least, way.1.least)

  -- to come to an item costs no more than 1 more than to where somebody waits for one of its lane alone; and no more
  -- than that for the item itself
  near_lane : (d_hop : Hop) (t y : ℕ) → t < items w → y < items w → lane_of w y ≡ lane_of w t
      → HasRescuer w (lane_of w t) → slice_index f.pending.costs t < max_walk_cost
      → (d y ≤ slice_index f.pending.costs t + 1) × (t ≡ y → d y ≤ slice_index f.pending.costs t)
  near_lane d_hop t y below y_below lane rescuer low = by (cases_lt 0 (slice_index f.pending.costs t))
    where
      y_rescuer : HasRescuer w (lane_of w y)
      y_rescuer = subst (HasRescuer w) (sym lane) rescuer

      begins : (cost : ℕ) → BeginsAt w f.starts y cost → d y ≤ cost
      begins cost at = field.ways.least y cost [] y_rescuer (record {
        first = y;
        before = cost;
        begins = at;
        path = refl;
        costs = omega arith;
      })

      by : (0 < slice_index f.pending.costs t) ⊎ (slice_index f.pending.costs t ≤ 0)
          → (d y ≤ slice_index f.pending.costs t + 1) × (t ≡ y → d y ≤ slice_index f.pending.costs t)
      by (inr nothing) =
          let start : Contains f.starts t = field.pending.no_others t below (omega (arith, nothing)) in (
            omega (arith, begins 1 (inr (t, start, sym lane, y_below, refl))),
            λ same. omega (arith, begins 0 (inl (subst (λ (k : ℕ). Contains f.starts k) same start, refl))),
          )
      by (inl some) =
          let h : Hop = slice_index_or f.pending.by t d_hop in
          let found = field.pending.by t d_hop below some low in
          let hop : IsHop w h = record {
            declared = found.0.declared;
            rescuer = field.ways.reach.rescuer h.item found.0.item found.0.reached;
          } in
          let path : IsPath w h.item (hop_to h.item h.flush y ∷ []) y = (
            refl,
            record { declared = hop.declared; rescuer = hop.rescuer },
            lane ∙ ap (lane_of w) (sym found.1),
            refl,
          ) in
          let come : d y ≤ d h.item + hops_cost (hop_to h.item h.flush y ∷ []) =
          comes_on d_hop h.item y (hop_to h.item h.flush y ∷ []) found.0.item found.0.reached path y_rescuer in (
            omega (arith, come, found.2, hop_most h.item h.flush y),
            λ same. omega (arith, come, found.2, hop_itself h.item h.flush y (found.1 ∙ same)),
          )

  -- ---- a round alone

  module _ (best : ℕ) (most : best ≤ max_walk_cost) (none_from : (i : ℕ) → NoneFrom f best i) (t : ℕ)
      (hops : List Hop) (more : ℕ) (is : IsRoundAlone f.wiring t hops more) where
    abbrev y : ℕ
    y = is.leads.first

    abbrev from : ℕ
    from = slice_index f.pending.costs t

    t_below : t < items w
    t_below = subst (λ (k : ℕ). k < items w) is.waits_for
        (declared-target w is.last.item is.last.flush wiring is.hop.declared)

    lane : lane_of w y ≡ lane_of w t
    lane = first_lane w t more hops is

    y_rescuer : HasRescuer w (lane_of w y)
    y_rescuer = path_rescuer w y is.last.item is.way is.leads.path is.hop.rescuer

    rescuer : HasRescuer w (lane_of w t)
    rescuer = subst (HasRescuer w) lane y_rescuer

    y_below : y < items w
    y_below = at is.way is.leads.path
      where
        at : (way : List Hop) → IsPath w y way is.last.item → y < items w
        at [] same = subst (λ (k : ℕ). k < items w) (sym same)
            (declared-item w is.last.item is.last.flush is.hop.declared)
        at (g ∷ gs) path =
            subst (λ (k : ℕ). k < items w) path.0 (declared-item w g.item g.flush path.1.declared)

    -- the round itself
    hops_few : hops_cost hops ≤ (hops_cost is.way + step is.last.flush) + 1
    hops_few = omega (
      arith,
      ap hops_cost is.are,
      hops_cost-append is.way (is.last ∷ []),
      hop_most is.last.item is.last.flush is.last.next,
    )

    hops_itself : t ≡ y → hops_cost hops ≤ hops_cost is.way + step is.last.flush
    hops_itself same = omega (
      arith,
      ap hops_cost is.are,
      hops_cost-append is.way (is.last ∷ []),
      hop_itself is.last.item is.last.flush is.last.next (is.waits_for ∙ same ∙ sym is.next),
    )

    from_first : best ≤ d y + hops_cost hops
    from_first = none_from y hops (alone_some w t more hops is) (alone_path w t more hops is)

    -- it begins at t, or 1 more is pending
    begins_itself : (t ≡ y) ⊎ ((t ≢ y) × (is.leads.before ≡ 1))
    begins_itself = by is.leads.begins
      where
        only : Contains (t ∷ []) y → t ≡ y
        only (zero, lt, same) = same
        only (suc k, lt, same) = absurd (omega (arith, lt))

        by : BeginsAt w (t ∷ []) y is.leads.before → (t ≡ y) ⊎ ((t ≢ y) × (is.leads.before ≡ 1))
        by (inl at) = inl (only at.0)
        by (inr at) = elim (cases_eq t y) [ inl same ↦ inl same | inr other ↦ inr (other, at.4) ]

    itself_enough : t ≡ y → from < max_walk_cost → best ≤ from + more
    itself_enough same low =
        let near = near_lane is.last t y t_below y_below lane rescuer low in
        omega (arith, near.1 same, from_first, hops_itself same, is.leads.costs, is.costs)

    -- it is enough to know of a round that begins in front of t
    in_front : (from < max_walk_cost → t ≢ y → is.leads.before ≡ 1 → best ≤ from + more) → best ≤ from + more
    in_front other = elim (cases_lt from max_walk_cost) [
      | inr far ↦ omega (arith, far, most)
      | inl low ↦ elim begins_itself [
        | inl same ↦ itself_enough same low
        | inr before ↦ other low before.0 before.1
      ]
    ]

    -- one in front costs 1, and a wait 3
    near_enough : best ≤ from + 4 → best ≤ from + more
    near_enough few = in_front (λ low unlike one. omega (arith, few, one, is.leads.costs, is.costs))

    -- none is better by more than 1
    less_enough : best ≤ (from + more) + 1
    less_enough = elim (cases_lt from max_walk_cost) [
      | inr far ↦ omega (arith, far, most)
      | inl low ↦ elim begins_itself [
        | inl same ↦ omega (arith, itself_enough same low)
        | inr before ↦ (
            let near = near_lane is.last t y t_below y_below lane rescuer low in
            omega (arith, near.0, before.1, from_first, hops_few, is.leads.costs, is.costs)
            )
      ]
    ]

    -- a round that begins no farther away than where somebody waits for t is as good
    first_enough : d y ≤ from → best ≤ from + more
    first_enough near = in_front (λ low unlike one.
        omega (arith, near, one, from_first, hops_few, is.leads.costs, is.costs))

    -- from the last item it goes round, too
    last_enough : d is.last.item ≤ from → best ≤ from + more
    last_enough near = in_front (λ low unlike one. omega (
      arith,
      near,
      one,
      none_from is.last.item (is.last ∷ is.way) (omega arith) turned,
      hop_most is.last.item is.last.flush is.last.next,
      is.leads.costs,
      is.costs,
    ))
      where
        turned : IsPath w is.last.item (is.last ∷ is.way) is.last.item
        turned = (
          refl,
          is.hop,
          (last_path w t more hops is).2,
          subst (λ (i : ℕ). IsPath w i is.way is.last.item) (sym is.next) is.leads.path,
        )

    -- as far away as the last item is, if that isn't reached
    far_enough : max_walk_cost ≤ d is.last.item → best ≤ from + more
    far_enough far = in_front (λ low unlike one.
        let near = near_lane is.last t y t_below y_below lane rescuer low in
        elim (cases_lt (d y) max_walk_cost) [
          | inr y_far ↦ omega (arith, y_far, near.0, most, one, is.leads.costs, is.costs)
          | inl y_near ↦ omega (
            arith,
            far,
            most,
            near.0,
            one,
            comes_on is.last y is.last.item is.way y_below y_near is.leads.path is.hop.rescuer,
            is.leads.costs,
            is.costs,
          )
        ])

    latest_enough : (latest : List ℕ) → AreLatest w max_walk_cost f.ways.costs latest
        → slice_index latest t ≤ from + 1 → best ≤ from + more
    latest_enough latest are few = elim (cases_lt (d is.last.item) max_walk_cost) [
      | inr far ↦ far_enough far
      | inl low ↦ last_enough (omega (
        arith,
        few,
        are is.last is.hop is.alone low,
        ap (slice_index latest) is.waits_for,
      ))
    ]

    no_one_before : ((i : ℕ) → i < items w → i ≢ t → lane_of w i ≡ lane_of w t → d i ≢ from + 1) → best ≤ from + more
    no_one_before none = in_front (λ low unlike one.
        let near = near_lane is.last t y t_below y_below lane rescuer low in
        let other : d y ≢ from + 1 = none y y_below (λ same. unlike (sym same)) lane in
        first_enough (omega (arith, near.0, below_next (d y) from near.0 other)))

    -- a round from one in front, to come to which costs 1 more, costs no less than this
    round_enough : (limit : ℕ)
        → ((i : ℕ) → i < items w → i ≢ t → lane_of w i ≡ lane_of w t → d i ≡ from + 1 → IsNoBetter w i limit)
        → best ≤ from + limit → best ≤ from + more
    round_enough limit none few = in_front (λ low unlike one.
        let near = near_lane is.last t y t_below y_below lane rescuer low in
        elim (cases_eq (d y) (from + 1)) [
          | inl same ↦ omega (
            arith,
            few,
            one,
            none y y_below (λ it. unlike (sym it)) lane same hops (alone_some w t more hops is)
                (alone_path w t more hops is),
            hops_few,
            is.leads.costs,
            is.costs,
          )
          | inr other ↦ first_enough (omega (arith, near.0, below_next (d y) from near.0 other))
        ])

-- ---- for which items none is looked for

-- a hop where there is none
no_hop : Hop
no_hop = record { item = 0; flush = record { item = 0; whole = false; unsure = false; place = 0 }; next = 0 }

-- if somebody waits for an item alone, for less than the limit, the lane of the item has a rescuer
pub pending_rescuer : (on : List (List ℕ)) (f : Field) → IsField on f → (t : ℕ) → t < items f.wiring
    → slice_index f.pending.costs t < max_walk_cost → HasRescuer f.wiring (lane_of f.wiring t)
pending_rescuer on f field t below low = elim (cases_lt 0 (slice_index f.pending.costs t)) [
  | inl some ↦ (
      let found = field.pending.by t no_hop below some low in
      subst (λ (k : ℕ). HasRescuer f.wiring (lane_of f.wiring k)) found.1 found.0.rescuer
      )
  | inr nothing ↦ (
      let start : Contains f.starts t = field.pending.no_others t below (omega (arith, nothing)) in
      (All-contains (λ (i : ℕ). (i < items f.wiring) × HasRescuer f.wiring (lane_of f.wiring i)) f.starts t field.begin
      start).1
      )
]

module _ (on : List (List ℕ)) (f : Field) (field : IsField on f) (wiring : IsWiring f.wiring) (best : ℕ)
    (most : best ≤ max_walk_cost) (none_from : (i : ℕ) → NoneFrom f best i) (t : ℕ) where
  abbrev from_t : ℕ
  from_t = slice_index f.pending.costs t

  -- a wait costs 3, and one before it 1
  pub NoneAlone-near : best ≤ from_t + 4 → NoneAlone f best t
  NoneAlone-near few hops more is = near_enough on f field wiring best most none_from t hops more is few

  -- none is better by more than 1 than rounds from items
  pub NoneAlone-less : (now : ℕ) → now < best → NoneAlone f now t
  NoneAlone-less now less hops more is =
      omega (arith, less, less_enough on f field wiring best most none_from t hops more is)

  pub NoneAlone-round : (limit : ℕ)
      → ((i : ℕ) → i < items f.wiring → i ≢ t → lane_of f.wiring i ≡ lane_of f.wiring t
      → slice_index f.ways.costs i ≡ from_t + 1 → IsNoBetter f.wiring i limit)
      → best ≤ from_t + limit → NoneAlone f best t
  NoneAlone-round limit none few hops more is =
      round_enough on f field wiring best most none_from t hops more is limit none few

  pub NoneAlone-left : (latest : List ℕ) → AreLatest f.wiring max_walk_cost f.ways.costs latest
      → (least : ℕ) → IsBelowRounds f.wiring least
      → (best ≤ from_t + least)
      ⊎ ((slice_index latest t ≤ from_t + 1)
      ⊎ ((i : ℕ) → i < items f.wiring → i ≢ t → lane_of f.wiring i ≡ lane_of f.wiring t
      → slice_index f.ways.costs i ≢ from_t + 1))
      → NoneAlone f best t
  NoneAlone-left latest are least below (inl few) hops more is =
      NoneAlone-round least (λ i i_below other lane one others some path. below others (record {
        some = some;
        first = i;
        path = path;
      })) few hops more is
  NoneAlone-left latest are least below (inr (inl few)) hops more is =
      latest_enough on f field wiring best most none_from t hops more is latest are few
  NoneAlone-left latest are least below (inr (inr none)) hops more is =
      no_one_before on f field wiring best most none_from t hops more is none

  -- nobody waits for an item that doesn't exist
  pub NoneAlone-past : items f.wiring ≤ t → NoneAlone f best t
  NoneAlone-past past hops more is =
      absurd (omega (
        arith,
        past,
        t_below on f field wiring best most none_from t hops more is,
      ))
