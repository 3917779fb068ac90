-- What a walk costs that is found: no more than the way to its end, and the end.
use Rattle.std.proofs.Common.{◌≡◌, ◌≢◌, ℕ, zero, suc, ◌+◌, ◌*◌, ◌<◌, ◌≤◌, ◌⊎◌, inl, inr, Bool, true, false, List, []}
use Rattle.std.proofs.Common.{◌∷◌, ◌++◌, length, refl, sym, ap, subst, ◌∙◌, arith}
use Rattle.std.specs.Prelude.{Contains, flat_map, slice_index, if◌then◌else◌, ◌==◌}
use Rattle.std.specs.List.{All}
use Rattle.std.proofs.lemmas.Bool.{eq-eqb}
use Rattle.std.proofs.lemmas.List.{append_assoc, length-append}
use Rattle.std.proofs.lemmas.List.Elements.{All-contains}
use Rattle.wq_core.specs.Wiring.{Wiring, HasRescuer, items, lane_of}
use Rattle.wq_hang.specs.declared.hop.Hop.{Hop}
use Rattle.wq_hang.specs.Walk.{IsHop, IsPath, IsToBare, unsure_hops, max_walk_cost}
use Rattle.wq_hang.specs.WalkFor.{HoldsUp, once, named_beside, pending_beside, pending_for, cost_for}
use Rattle.wq_hang.specs.Search.{hop_cost, hops_cost, step}
use Rattle.wq_hang.specs.WaysFor.{BeginsAt, IsWayFrom, WaitsAlone}
use Rattle.wq_hang.specs.EndsFor.{Field, IsField, IsRoundAlone, EndsBare, EndsRound, EndsAlone, IsWalkAt, IsLedTo}
use Rattle.wq_hang.proofs.Apart.{In, In-append_left, In-append_right}
use Rattle.wq_hang.proofs.Once.{length-once}
use Rattle.wq_hang.proofs.StuckRounds.{unsure-more}
use Rattle.wq_hang.proofs.LeastWalks.{IsPath-append}
use Rattle.wq_hang.proofs.WalkRuns.{In-append}
use Rattle.wq_hang.proofs.CutWalks.{path_rescuer, unsure-append, In-flat_append}
use Rattle.wq_hang.proofs.StuckWalks.{named_is, target_is, pending_rescued, length-named, length-pending_beside}

-- ---- what hops cost with all that is pending for each of them

abbrev pub full_cost : Wiring → List Hop → ℕ
full_cost w hops =
    32768 * length (unsure_hops hops) + (3 * length hops + length (flat_map (pending_beside w) hops))

length-flat_append : {X : Type 0} (f : X → List ℕ) (xs ys : List X)
    → length (flat_map f (xs ++ ys)) ≡ length (flat_map f xs) + length (flat_map f ys)
length-flat_append f [] ys = omega arith
length-flat_append f (x ∷ xs) ys =
    let rest : length (flat_map f (xs ++ ys)) ≡ length (flat_map f xs) + length (flat_map f ys) =
    length-flat_append f xs ys in
    omega (arith, rest, length-append (f x) (flat_map f (xs ++ ys)), length-append (f x) (flat_map f xs))

pub full_cost-append : (w : Wiring) (xs ys : List Hop) → full_cost w (xs ++ ys) ≡ full_cost w xs + full_cost w ys
full_cost-append w xs ys =
    omega (
      arith,
      unsure-append xs ys,
      length-append xs ys,
      length-flat_append (pending_beside w) xs ys,
    )

-- on lanes that have a rescuer these are what hops cost
full_cost-hop : (w : Wiring) (h : Hop) (hops : List Hop) → HasRescuer w (lane_of w h.flush.item)
    → full_cost w (h ∷ hops) ≡ hop_cost h + full_cost w hops
full_cost-hop w h hops rescuer =
    omega (
      arith,
      length-append (pending_beside w h) (flat_map (pending_beside w) hops),
      ap (λ (l : List ℕ). length l) (pending_rescued w h rescuer),
      unsure-more h.flush.unsure h (unsure_hops hops),
    )

pub full_cost-path : (w : Wiring) (i j : ℕ) (hops : List Hop) → IsPath w i hops j → HasRescuer w (lane_of w j)
    → full_cost w hops ≡ hops_cost hops
full_cost-path w i j [] path rescuer = omega arith
full_cost-path w i j (h ∷ hops) path rescuer =
    let to : HasRescuer w (lane_of w h.flush.item) =
    subst (HasRescuer w) path.2 (path_rescuer w h.next j hops path.3 rescuer) in
    omega (arith, full_cost-hop w h hops to, full_cost-path w h.next j hops path.3 rescuer)

-- the last hop, without what is pending for it
pub last_step : (h : Hop) → 32768 * length (unsure_hops (h ∷ [])) + 3 ≡ step h.flush
last_step h = omega (arith, unsure-more h.flush.unsure h [])

full_cost-last : (w : Wiring) (h : Hop) → full_cost w (h ∷ []) ≤ step h.flush + 1
full_cost-last w h =
    omega (
      arith,
      last_step h,
      length-pending_beside w h,
      length-append (pending_beside w h) [],
    )

-- ---- what a walk costs

cost_for-most : (w : Wiring) (x : ℕ) (hops : List Hop)
    → cost_for w x hops ≤ length (named_beside x hops) + full_cost w hops
cost_for-most w x hops =
    let all : List ℕ = named_beside x hops ++ flat_map (pending_beside w) hops in
    let few : length (once all) ≤ length all = length-once all all (λ i there. there) in
    omega (arith, few, length-append (named_beside x hops) (flat_map (pending_beside w) hops))

-- x is pending only if a way begins in front of it
named_few : (w : Wiring) (starts : List ℕ) (x first before end : ℕ) (hops : List Hop) → BeginsAt w starts first before
    → (Contains starts first → x ≡ first) → IsPath w first hops end → 0 < length hops
    → length (named_beside x hops) ≤ before
named_few w starts x first before end [] begins itself path some = absurd (omega (arith, some))
named_few w starts x first before end (h ∷ hops) (inl at) itself path some =
    let same : (h.item == x) ≡ true = eq-eqb h.item x (path.0 ∙ sym (itself at.0)) in
    omega (arith, ap (λ (b : Bool). length (if b then [] else x ∷ [])) same)
named_few w starts x first before end (h ∷ hops) (inr at) itself path some =
    omega (arith, length-named x (h ∷ hops), at.4)

module _ (on : List (List ℕ)) (f : Field) (field : IsField on f) where
  abbrev w : Wiring
  w = f.wiring

  item_of : (x : ℕ) → Contains f.starts x → x < items w
  item_of x there =
      (All-contains (λ (i : ℕ). (i < items w) × HasRescuer w (lane_of w i)) f.starts x field.begin there).0

  -- ---- to a bare lane

  pub IsWalkAt-bare : (cost x : ℕ) (h : Hop) (all : List Hop) → IsLedTo f h.item (h ∷ []) x all → EndsBare f cost h
      → IsWalkAt f cost x all
  IsWalkAt-bare cost x h all led ends = (
    record {
      is_named = led.is_named;
      item = item_of x led.is_named;
      holds_up = inr (
        led.led.way.first,
        sym led.on,
        inr (record {
          way = led.way;
          last = h;
          are = led.are;
          leads = led.led.way.path;
          to_bare = ends.0;
        }),
      );
    },
    subst (λ (l : List Hop). cost_for w x l ≤ cost) (sym led.are) (omega (
      arith,
      cost_for-most w x (led.way ++ (h ∷ [])),
      named_few w f.starts x led.led.way.first led.led.way.before h.next (led.way ++ (h ∷ []))
          led.led.way.begins led.itself path (omega (arith, length-append led.way (h ∷ []))),
      full_cost-append w led.way (h ∷ []),
      full_cost-path w led.led.way.first h.item led.way led.led.way.path ends.0.hop.rescuer,
      full_cost-last w h,
      led.led.way.costs,
      led.led.least,
      ends.1,
    )),
  )
    where
      path : IsPath w led.led.way.first (led.way ++ (h ∷ [])) h.next
      path = IsPath-append w led.led.way.first h.item h.next led.way (h ∷ []) led.led.way.path
          (refl, ends.0.hop, ap (lane_of w) ends.0.next, refl)

  -- ---- round

  round_rescuer : (i : ℕ) (hops : List Hop) → 0 < length hops → IsPath w i hops i → HasRescuer w (lane_of w i)
  round_rescuer i [] some path = absurd (omega (arith, some))
  round_rescuer i (h ∷ hops) some path = subst (λ (k : ℕ). HasRescuer w (lane_of w k)) path.0 path.1.rescuer

  pub IsWalkAt-round : (cost x i : ℕ) (hops all : List Hop) → IsLedTo f i hops x all → EndsRound f cost i hops
      → IsWalkAt f cost x all
  IsWalkAt-round cost x i hops all led ends = (
    record {
      is_named = led.is_named;
      item = item_of x led.is_named;
      holds_up = inr (
        led.led.way.first,
        sym led.on,
        inl (record {
          way = led.way;
          round = hops;
          at = i;
          are = led.are;
          leads = led.led.way.path;
          some = ends.0;
          goes_round = ends.1;
        }),
      );
    },
    subst (λ (l : List Hop). cost_for w x l ≤ cost) (sym led.are) (omega (
      arith,
      cost_for-most w x (led.way ++ hops),
      named_few w f.starts x led.led.way.first led.led.way.before i (led.way ++ hops) led.led.way.begins led.itself
          (IsPath-append w led.led.way.first i i led.way hops led.led.way.path ends.1)
          (omega (arith, ends.0, length-append led.way hops)),
      full_cost-append w led.way hops,
      full_cost-path w led.led.way.first i led.way led.led.way.path (round_rescuer i hops ends.0 ends.1),
      full_cost-path w i i hops ends.1 (round_rescuer i hops ends.0 ends.1),
      led.led.way.costs,
      led.led.least,
      ends.2,
    )),
  )

-- ---- where somebody waits for an item alone

-- t is pending if it isn't the first of the round, and queued once then
record IsExtra (t first before : ℕ) (extra : List ℕ) : Type 0 where
  many : length extra ≡ before
  has : first ≢ t → In t extra

extra_of : (w : Wiring) (t first before : ℕ) → BeginsAt w (t ∷ []) first before
    → (extra : List ℕ) × IsExtra t first before extra
extra_of w t first before (inl at) = ([], record { many = sym at.1; has = λ other. absurd (other (only at.0)) })
  where
    only : Contains (t ∷ []) first → first ≡ t
    only (zero, lt, is) = sym is
    only (suc k, lt, is) = absurd (omega (arith, lt))
extra_of w t first before (inr at) = (t ∷ [], record { many = sym at.4; has = λ other. inl refl })

-- the first item of the round comes first
pub first_alone : (w : Wiring) (t cost : ℕ) (h : Hop) (hops : List Hop) (is : IsRoundAlone w t (h ∷ hops) cost)
    → h.item ≡ is.leads.first
first_alone w t cost h hops is = by is.way is.are is.leads.path
  where
    first_item : List Hop → ℕ
    first_item [] = 0
    first_item (g ∷ gs) = g.item

    by : (way : List Hop) → h ∷ hops ≡ way ++ (is.last ∷ []) → IsPath w is.leads.first way is.last.item
        → h.item ≡ is.leads.first
    by [] same path = ap (λ (l : List Hop). first_item l) same ∙ sym path
    by (g ∷ gs) same path = ap (λ (l : List Hop). first_item l) same ∙ path.0

module _ (w : Wiring) (t cost : ℕ) (hops : List Hop) (is : IsRoundAlone w t hops cost) where
  abbrev first : ℕ
  first = is.leads.first

  abbrev before : ℕ
  before = is.leads.before

  -- on the lane of t
  pub first_lane : lane_of w first ≡ lane_of w t
  first_lane = by is.leads.begins
    where
      by : BeginsAt w (t ∷ []) first before → lane_of w first ≡ lane_of w t
      by (inl at) = ap (lane_of w) (only at.0)
        where
          only : Contains (t ∷ []) first → first ≡ t
          only (zero, lt, same) = sym same
          only (suc k, lt, same) = absurd (omega (arith, lt))
      by (inr at) = sym at.2 ∙ ap (lane_of w) (sym (only at.1))
        where
          only : Contains (t ∷ []) at.0 → t ≡ at.0
          only (zero, lt, same) = same
          only (suc k, lt, same) = absurd (omega (arith, lt))

  pub last_path : IsPath w is.last.item (is.last ∷ []) first
  last_path = (
    refl,
    is.hop,
    ap (lane_of w) is.next ∙ first_lane ∙ ap (lane_of w) (sym is.waits_for),
    is.next,
  )

  pub alone_path : IsPath w first hops first
  alone_path = subst (λ (l : List Hop). IsPath w first l first) (sym is.are)
      (IsPath-append w first is.last.item first is.way (is.last ∷ []) is.leads.path last_path)

  pub alone_some : 0 < length hops
  alone_some = omega (arith, ap (λ (l : List Hop). length l) is.are, length-append is.way (is.last ∷ []))

  -- an item that is t alone is pending once
  extra_In : (extra : List ℕ) → IsExtra t first before extra → (i : ℕ) → i ≡ t → first ≢ t → In i extra
  extra_In extra one i same other = subst (λ (k : ℕ). In k extra) (sym same) (one.has other)

  -- what is pending for a hop that waits for t alone, and is followed by the first
  alone_extra : (extra : List ℕ) → IsExtra t first before extra → (h : Hop) → h.flush.item ≡ t → h.next ≡ first
      → HasRescuer w (lane_of w t) → (i : ℕ) → In i (pending_beside w h) → In i extra
  alone_extra extra one h waits_for next rescuer i there =
      let to : HasRescuer w (lane_of w h.flush.item) =
      subst (λ (k : ℕ). HasRescuer w (lane_of w k)) (sym waits_for) rescuer in
      let target = target_is h i (subst (λ (l : List ℕ). In i l) (pending_rescued w h to) there) in
      extra_In extra one i (target.1 ∙ waits_for)
      (λ same. target.2 (waits_for ∙ sym same ∙ sym next))

  -- what is pending for the round
  round_extra : (extra : List ℕ) → IsExtra t first before extra → HasRescuer w (lane_of w t) → (i : ℕ)
      → In i (flat_map (pending_beside w) hops) → In i (extra ++ flat_map (pending_beside w) is.way)
  round_extra extra one rescuer i there =
      elim (In-flat_append (pending_beside w) i is.way (is.last ∷ [])
      (subst (λ (l : List Hop). In i (flat_map (pending_beside w) l)) is.are there)) [
        | inl on_way ↦ In-append_right i extra (flat_map (pending_beside w) is.way) on_way
        | inr at_last ↦ In-append_left i extra (flat_map (pending_beside w) is.way)
            (alone_extra extra one is.last is.waits_for is.next rescuer i (only at_last))
      ]
    where
      only : In i (pending_beside w is.last ++ []) → In i (pending_beside w is.last)
      only here = elim (In-append i (pending_beside w is.last) [] here) [
        | inl it ↦ it
        | inr none ↦ absurd none
      ]

  -- the round has as many unsure hops, and as many hops
  round_sizes : (32768 * length (unsure_hops hops) + 3 * length hops) + length (flat_map (pending_beside w) is.way)
      ≡ full_cost w is.way + step is.last.flush
  round_sizes =
      omega (
        arith,
        ap (λ (l : List Hop). length (unsure_hops l)) is.are,
        ap (λ (l : List Hop). length l) is.are,
        unsure-append is.way (is.last ∷ []),
        length-append is.way (is.last ∷ []),
        last_step is.last,
      )

  -- the round alone is a walk for t
  pub HoldsUp-alone : HoldsUp w t hops
  HoldsUp-alone = inr (
    first,
    first_lane,
    inl (record {
      way = [];
      round = hops;
      at = first;
      are = refl;
      leads = refl;
      some = alone_some;
      goes_round = alone_path;
    }),
  )

  pub cost_for-alone : HasRescuer w (lane_of w t) → cost_for w t hops ≤ cost
  cost_for-alone rescuer =
      let extra = extra_of w t first before is.leads.begins in
      let all : List ℕ = named_beside t hops ++ flat_map (pending_beside w) hops in
      let ys : List ℕ = extra.0 ++ flat_map (pending_beside w) is.way in
      let few : length (once all) ≤ length ys = length-once all ys (λ i there.
      elim (In-append i (named_beside t hops) (flat_map (pending_beside w) hops) there) [
        | inl named ↦ (
            let it = named_is w t first first hops alone_path alone_some i named in
            In-append_left i extra.0 (flat_map (pending_beside w) is.way) (extra_In extra.0 extra.1 i it.0 it.1)
            )
        | inr later ↦ round_extra extra.0 extra.1 rescuer i later
      ]) in
      let way : full_cost w is.way ≡ hops_cost is.way =
      full_cost-path w first is.last.item is.way is.leads.path is.hop.rescuer in
      omega (
        arith,
        few,
        length-append extra.0 (flat_map (pending_beside w) is.way),
        extra.1.many,
        round_sizes,
        way,
        is.leads.costs,
        is.costs,
      )

  -- and so is one with a way to a hop that waits for t alone
  module _ (starts : List ℕ) (x : ℕ) (way : List Hop) (from before_way : ℕ) (h : Hop)
      (begins : BeginsAt w starts from before_way) (itself : Contains starts from → x ≡ from)
      (leads : IsPath w from way h.item) (hop : IsHop w h) (waits_for : h.flush.item ≡ t) (next : h.next ≡ first)
      (rescuer : HasRescuer w (lane_of w t)) where
    abbrev all_hops : List Hop
    all_hops = way ++ (h ∷ hops)

    hop_path : IsPath w h.item (h ∷ hops) first
    hop_path = (
      refl,
      hop,
      ap (lane_of w) next ∙ first_lane ∙ ap (lane_of w) (sym waits_for),
      subst (λ (i : ℕ). IsPath w i hops first) (sym next) alone_path,
    )

    all_path : IsPath w from all_hops first
    all_path = IsPath-append w from h.item first way (h ∷ hops) leads hop_path

    pub HoldsUp-led : lane_of w from ≡ lane_of w x → HoldsUp w x all_hops
    HoldsUp-led lane = inr (
      from,
      lane,
      inl (record {
        way = way ++ (h ∷ []);
        round = hops;
        at = first;
        are = sym (append_assoc way (h ∷ []) hops);
        leads = IsPath-append w from h.item first way (h ∷ []) leads (
          refl,
          hop,
          ap (lane_of w) next ∙ first_lane ∙ ap (lane_of w) (sym waits_for),
          next,
        );
        some = alone_some;
        goes_round = alone_path;
      }),
    )

    pub cost_for-led : cost_for w x all_hops ≤ ((before_way + hops_cost way) + step h.flush) + cost
    cost_for-led =
        let extra = extra_of w t first before is.leads.begins in
        let named : List ℕ = named_beside x all_hops in
        let targets : List ℕ = flat_map (pending_beside w) all_hops in
        let rest : List ℕ = extra.0 ++ flat_map (pending_beside w) is.way in
        let ys : List ℕ = named ++ (flat_map (pending_beside w) way ++ rest) in
        let few : length (once (named ++ targets)) ≤ length ys = length-once (named ++ targets) ys (λ i there.
        elim (In-append i named targets there) [
          | inl here ↦ In-append_left i named (flat_map (pending_beside w) way ++ rest) here
          | inr later ↦ In-append_right i named (flat_map (pending_beside w) way ++ rest)
              (elim (In-flat_append (pending_beside w) i way (h ∷ hops) later) [
                | inl on_way ↦ In-append_left i (flat_map (pending_beside w) way) rest on_way
                | inr past ↦ In-append_right i (flat_map (pending_beside w) way) rest
                    (elim (In-append i (pending_beside w h) (flat_map (pending_beside w) hops) past) [
                      | inl at_hop ↦ In-append_left i extra.0 (flat_map (pending_beside w) is.way)
                          (alone_extra extra.0 extra.1 h waits_for next rescuer i at_hop)
                      | inr round ↦ round_extra extra.0 extra.1 rescuer i round
                    ])
              ])
        ]) in
        let on_way : full_cost w way ≡ hops_cost way =
        full_cost-path w from h.item way leads hop.rescuer in
        let in_round : full_cost w is.way ≡ hops_cost is.way =
        full_cost-path w first is.last.item is.way is.leads.path is.hop.rescuer in
        omega (
          arith,
          few,
          length-append named (flat_map (pending_beside w) way ++ rest),
          length-append (flat_map (pending_beside w) way) rest,
          length-append extra.0 (flat_map (pending_beside w) is.way),
          extra.1.many,
          named_few w starts x from before_way first all_hops begins itself all_path
              (omega (arith, length-append way (h ∷ hops))),
          unsure-append way (h ∷ hops),
          length-append way (h ∷ hops),
          unsure-more h.flush.unsure h (unsure_hops hops),
          round_sizes,
          on_way,
          in_round,
          is.leads.costs,
          is.costs,
        )
