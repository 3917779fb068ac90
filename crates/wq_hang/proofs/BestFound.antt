-- The least walk in the end: the best end, with a way to it.
use Rattle.std.proofs.Common.{◌≡◌, ℕ, ◌+◌, ◌*◌, ◌<◌, ◌≤◌, ◌⊎◌, inl, inr, List, [], ◌∷◌, ◌++◌, length, Some, None}
use Rattle.std.proofs.Common.{Option}
use Rattle.std.proofs.Common.{refl, sym, ap, subst, ◌∙◌, arith}
use Rattle.std.specs.Prelude.{Contains, slice_index, slice_index_or}
use Rattle.std.proofs.lemmas.List.Elements.{All-contains}
use Rattle.wq_core.specs.Wiring.{Wiring, IsWiring, HasRescuer, items, lane_of}
use Rattle.wq_hang.specs.declared.hop.Hop.{Hop}
use Rattle.wq_hang.specs.declared.least_for.End.{End}
use Rattle.wq_hang.specs.Walk.{IsHop, IsPath, max_walk_cost}
use Rattle.wq_hang.specs.Search.{step}
use Rattle.wq_hang.specs.WalkFor.{HoldsUp, IsWalkFor, IsLeastWalkFor, cost_for}
use Rattle.wq_hang.specs.WaysFor.{BeginsAt, IsWay, WaitsAlone}
use Rattle.wq_hang.specs.EndsFor.{Field, IsField, NoneBare, NoneFrom, NoneAlone, IsBest, IsBestEnd, IsWalkAt, IsLedTo}
use Rattle.wq_hang.specs.EndsFor.{IsRoundAlone, EndsAlone, first_or}
use Rattle.wq_hang.proofs.Declared.{declared-item}
use Rattle.wq_hang.proofs.CutWalks.{LeadsFrom, leads_from, cut}
use Rattle.wq_hang.proofs.NoEnds.{no_walk_less, few_enough}
use Rattle.wq_hang.proofs.EndCosts.{first_alone, alone_some, HoldsUp-alone, cost_for-alone, HoldsUp-led, cost_for-led}
use Rattle.wq_hang.proofs.EndsFound.{NoneBare-less, NoneFrom-less, NoneAlone-fewer}

-- ---- a way, and hops that follow it

-- the first item that waits is the one at which the way begins
pub first_of_way : (w : Wiring) (first i : ℕ) (way : List Hop) → IsPath w first way i → first_or i way ≡ first
first_of_way w first i [] path = sym path
first_of_way w first i (h ∷ hops) path = path.0

pub first_below : (w : Wiring) (first i : ℕ) (way : List Hop) → IsPath w first way i → i < items w
    → first_or i way < items w
first_below w first i [] path below = below
first_below w first i (h ∷ hops) path below = declared-item w h.item h.flush path.1.declared

-- one of the starts is on the lane of the first
pub one_on_lane_of : (w : Wiring) (starts : List ℕ) (first before : ℕ) → BeginsAt w starts first before
    → (j : ℕ) × Contains starts j × (lane_of w j ≡ lane_of w first)
one_on_lane_of w starts first before (inl at) = (first, at.0, refl)
one_on_lane_of w starts first before (inr at) = (at.0, at.1, at.2)

pub IsLedTo-way : (f : Field) (i : ℕ) (way hops all : List Hop) (x : ℕ) → IsWay f.wiring f.starts f.ways i way
    → all ≡ way ++ hops → Contains f.starts x → lane_of f.wiring x ≡ lane_of f.wiring (first_or i way)
    → (Contains f.starts (first_or i way) → x ≡ first_or i way) → IsLedTo f i hops x all
IsLedTo-way f i way hops all x is are is_named on itself =
    let first : first_or i way ≡ is.way.first = first_of_way f.wiring is.way.first i way is.way.path in
    record {
      way = way;
      are = are;
      led = is;
      is_named = is_named;
      on = on ∙ ap (lane_of f.wiring) first;
      itself = λ there. itself (subst (λ (k : ℕ). Contains f.starts k) (sym first) there) ∙ first;
    }

-- ---- after all searches

-- what was found costs less and less; for these few items it was looked for where somebody waits for them alone
pub IsBestEnd-all : {A : Type 0} (f : Field) (found : Option (End A)) (bare items last : ℕ) (few : List ℕ)
    → IsBest f last found → last ≤ items → items ≤ bare → NoneBare f bare → ((i : ℕ) → NoneFrom f items i)
    → ((t : ℕ) → Contains few t → NoneAlone f last t) → ((t : ℕ) → Contains few t ⊎ NoneAlone f items t)
    → IsBestEnd f found
IsBestEnd-all f found bare items last few best less lower none_bare none_from none_few others = record {
  cost = last;
  best = best;
  bare = NoneBare-less f bare last (omega (arith, less, lower)) none_bare;
  round = λ i. NoneFrom-less f items last i less (none_from i);
  alone = λ t. elim (others t) [
    | inl there ↦ none_few t there
    | inr none ↦ NoneAlone-fewer f items last t less none
  ];
}

module _ {A : Type 0} (on : List (List ℕ)) (f : Field) (field : IsField on f) where
  -- no walk costs less than the best end
  best_enough : (found : Option (End A)) (best : IsBestEnd f found) (x : ℕ) (hops : List Hop)
      → IsWalkFor f.wiring f.starts x hops → best.cost ≤ cost_for f.wiring x hops
  best_enough found best x hops walk =
      no_walk_less on f field best.cost best.best.most best.bare best.round best.alone x hops walk

  pub IsLeastWalkFor-best : (found : Option (End A)) (best : IsBestEnd f found) (x : ℕ) (hops : List Hop)
      → IsWalkAt f best.cost x hops → IsLeastWalkFor f.wiring f.starts x hops
  IsLeastWalkFor-best found best x hops at = record {
    walk = at.0;
    least = λ y others walk. omega (arith, at.1, best_enough found best y others walk);
  }

  -- where there is no end there is no walk
  pub no_walk-none : IsWiring f.wiring → f.wiring.lanes ≤ 4096 → IsBestEnd {A = A} f None → (x : ℕ) (hops : List Hop)
      → ¬ IsWalkFor f.wiring f.starts x hops
  no_walk-none wiring low best x hops walk = elim (cut f.wiring x hops walk.holds_up) [
    | inl apart ↦ omega (
      arith,
      best.best.is_end,
      best_enough None best x hops walk,
      few_enough f.wiring f.starts x hops wiring low walk apart,
    )
    | inr shorter ↦ (
        let cut_walk : IsWalkFor f.wiring f.starts x shorter.0 =
        record { is_named = walk.is_named; item = walk.item; holds_up = shorter.1.holds_up } in
        omega (
          arith,
          best.best.is_end,
          best_enough None best x shorter.0 cut_walk,
          few_enough f.wiring f.starts x shorter.0 wiring low cut_walk shorter.1.apart,
        )
        )
  ]

-- ---- a round from where somebody waits for an item alone

module _ (on : List (List ℕ)) (f : Field) (field : IsField on f) (cost t : ℕ) (hops : List Hop)
    (ends : EndsAlone f cost t hops) where
  -- if it is queued at the beginning it is held up by the round
  pub IsWalkAt-start : slice_index f.pending.costs t ≡ 0 → IsWalkAt f cost t hops
  IsWalkAt-start nothing =
      let start : Contains f.starts t = field.pending.no_others t ends.0 nothing in
      let begun = All-contains (λ (i : ℕ). (i < items f.wiring) × HasRescuer f.wiring (lane_of f.wiring i)) f.starts t
      field.begin start in (
        record { is_named = start; item = ends.0; holds_up = HoldsUp-alone f.wiring t ends.1 hops ends.2 },
        omega (arith, ends.3, cost_for-alone f.wiring t ends.1 hops ends.2 begun.1),
      )

  -- and else by a way to the hop that waits for it
  module _ (d h : Hop) (most : cost ≤ max_walk_cost) (some : 0 < slice_index f.pending.costs t)
      (is : h ≡ slice_index_or f.pending.by t d) where
    low : slice_index f.pending.costs t < max_walk_cost
    low = omega (arith, most, ends.3, ends.2.costs)

    found : WaitsAlone f.wiring max_walk_cost f.ways h.item h.flush × (h.flush.item ≡ t)
        × (slice_index f.ways.costs h.item + step h.flush ≤ slice_index f.pending.costs t)
    found = subst (λ (g : Hop). WaitsAlone f.wiring max_walk_cost f.ways g.item g.flush × (g.flush.item ≡ t)
        × (slice_index f.ways.costs g.item + step g.flush ≤ slice_index f.pending.costs t)) (sym is)
        (field.pending.by t d ends.0 some low)

    pub waits_from : (h.item < items f.wiring) × (slice_index f.ways.costs h.item < max_walk_cost)
    waits_from = (found.0.item, found.0.reached)

    pub IsWalkAt-led : (next x : ℕ) (all : List Hop) → next ≡ first_or h.next hops
        → IsLedTo f h.item (record h { next = next } ∷ hops) x all → IsWalkAt f cost x all
    IsWalkAt-led next x all same led = (
      record {
        is_named = led.is_named;
        item = (All-contains (λ (i : ℕ). (i < items f.wiring) × HasRescuer f.wiring (lane_of f.wiring i)) f.starts x
            field.begin led.is_named).0;
        holds_up = subst (λ (l : List Hop). HoldsUp f.wiring x l) (sym led.are)
            (HoldsUp-led f.wiring t ends.1 hops ends.2 f.starts x led.way led.led.way.first led.led.way.before g
            led.led.way.begins led.itself led.led.way.path hop found.1 first rescuer (sym led.on));
      },
      subst (λ (l : List Hop). cost_for f.wiring x l ≤ cost) (sym led.are) (omega (
        arith,
        cost_for-led f.wiring t ends.1 hops ends.2 f.starts x led.way led.led.way.first led.led.way.before g
            led.led.way.begins led.itself led.led.way.path hop found.1 first rescuer,
        led.led.way.costs,
        led.led.least,
        found.2,
        ends.3,
      )),
    )
      where
        g : Hop
        g = record h { next = next }

        hop : IsHop f.wiring g
        hop = record {
          declared = found.0.declared;
          rescuer = field.ways.reach.rescuer h.item found.0.item found.0.reached;
        }

        rescuer : HasRescuer f.wiring (lane_of f.wiring t)
        rescuer = subst (λ (k : ℕ). HasRescuer f.wiring (lane_of f.wiring k)) found.1 found.0.rescuer

        -- the first of the round comes after the hop
        first_of : (others : List Hop) (round : IsRoundAlone f.wiring t others ends.1)
            → first_or h.next others ≡ round.leads.first
        first_of [] round = absurd (omega (arith, alone_some f.wiring t ends.1 [] round))
        first_of (k ∷ others) round = first_alone f.wiring t ends.1 k others round

        first : next ≡ ends.2.leads.first
        first = same ∙ first_of hops ends.2

-- ---- an item on a bare lane

-- is held up by itself, and nothing costs less
pub IsLeastWalkFor-bare : (w : Wiring) (named : List ℕ) (x : ℕ) → Contains named x → x < items w
    → (¬ HasRescuer w (lane_of w x)) → IsLeastWalkFor w named x []
IsLeastWalkFor-bare w named x there item bare = record {
  walk = record { is_named = there; item = item; holds_up = inl (refl, bare) };
  least = λ y others walk. elim (leads_from w y others walk.holds_up) [
    | inl none ↦ subst (λ (l : List Hop). cost_for w x [] ≤ cost_for w y l) (sym none.0) (omega arith)
    | inr leads ↦ omega (arith, leads.some)
  ];
}

-- ---- which of several walks

-- another walk for x that costs as much
pub IsLeastWalkFor-same : (w : Wiring) (named : List ℕ) (x : ℕ) (hops now : List Hop) → IsLeastWalkFor w named x hops
    → HoldsUp w x now → cost_for w x now ≡ cost_for w x hops → IsLeastWalkFor w named x now
IsLeastWalkFor-same w named x hops now is holds same = record {
  walk = record { is_named = is.walk.is_named; item = is.walk.item; holds_up = holds };
  least = λ y others walk. omega (arith, same, is.least y others walk);
}
