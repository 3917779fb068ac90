-- Rounds of one hop.
use Rattle.std.proofs.Common.{◌≡◌, ℕ, ◌+◌, ◌<◌, ◌≤◌, ◌⊎◌, inl, inr, List, [], ◌∷◌, length, Option, Some, None}
use Rattle.std.proofs.Common.{refl, sym, ap, subst, ◌∙◌, arith}
use Rattle.std.specs.Prelude.{Contains, IfSome, IfNone}
use Rattle.wq_items.specs.declared.target.Target.{Target}
use Rattle.wq_core.specs.Wiring.{Wiring, lane_of, declared_by}
use Rattle.wq_hang.specs.declared.hop.Hop.{Hop}
use Rattle.wq_hang.specs.Walk.{IsHop, IsPath}
use Rattle.wq_hang.specs.Search.{hop_cost, hops_cost, hop_to, IsHopBack, IsCheapestBack, IsBetter, IsNoBetter}
use Rattle.wq_hang.specs.Search.{least_hop}
use Rattle.wq_hang.proofs.Declared.{least_hop-enough}

-- the cheapest of the hops back by these flushes, and what it costs; or none costs less than the limit
abbrev pub IsFoundBack : Wiring → ℕ → ℕ → ℕ → Option Hop → Type 0
IsFoundBack w i limit least None = least ≡ limit
IsFoundBack w i limit least (Some h) = IsHopBack w i h × (hop_cost h ≡ least) × (least < limit)

pub record IsBackSoFar (w : Wiring) (i limit : ℕ) (flushes : List Target) (least : ℕ) (found : Option Hop) : Type 0
  where
    pub low : least ≤ limit
    pub is : IsFoundBack w i limit least found
    pub all : (t : Target) → Contains flushes t → lane_of w t.item ≡ lane_of w i → least ≤ hop_cost (hop_to i t i)

pub IsBackSoFar-none : (w : Wiring) (i limit : ℕ) → IsBackSoFar w i limit [] limit None
IsBackSoFar-none w i limit = record {
  low = omega arith;
  is = refl;
  all = λ t there same. absurd
      (omega (arith, there.1));
}

module _ (w : Wiring) (i limit : ℕ) (flushes more : List Target) (u : Target) (least : ℕ) (found : Option Hop)
    (was : IsBackSoFar w i limit flushes least found)
    (which : (t : Target) → Contains more t → Contains flushes t ⊎ (u ≡ t)) where
  -- this flush leads elsewhere, or costs as much
  pub IsBackSoFar-kept : (lane_of w u.item ≡ lane_of w i → least ≤ hop_cost (hop_to i u i)) → IsBackSoFar w i limit more
      least found
  IsBackSoFar-kept enough = record {
    low = was.low;
    is = was.is;
    all = λ t there same. elim (which t there) [
      | inl before ↦ was.all t before same
      | inr it ↦ subst (λ (t : Target). least ≤ hop_cost (hop_to i t i)) it
          (enough (ap (λ (t : Target). lane_of w t.item) it ∙ same))
    ];
  }

  pub IsBackSoFar-better : (cost : ℕ) → cost ≡ hop_cost (hop_to i u i) → cost < least → IsHop w (hop_to i u i)
      → lane_of w u.item ≡ lane_of w i → IsBackSoFar w i limit more cost (Some (hop_to i u i))
  IsBackSoFar-better cost costs less hop lane = record {
    low = omega (arith, less, was.low);
    is = ((refl, hop, sym lane, refl), sym costs, omega (arith, less, was.low));
    all = λ t there same. elim (which t there) [
      | inl before ↦ omega (arith, less, was.all t before same)
      | inr it ↦ omega (arith, costs, ap (λ (t : Target). hop_cost (hop_to i t i)) it)
    ];
  }

-- a hop back is that of its flush
back-cost : (w : Wiring) (i : ℕ) (h : Hop) → IsHopBack w i h → hop_cost h ≡ hop_cost (hop_to i h.flush i)
back-cost w i h back = ap (λ (n : ℕ). hop_cost (record { item = h.item; flush = h.flush; next = n })) back.3
    ∙ ap (λ (n : ℕ). hop_cost (hop_to n h.flush i)) back.0

back-all : (w : Wiring) (i limit least : ℕ) (found : Option Hop) → IsBackSoFar w i limit (declared_by w i) least found
    → (h : Hop) → IsHopBack w i h → least ≤ hop_cost h
back-all w i limit least found so_far h back =
    let there : Contains (declared_by w i) h.flush =
    subst (λ (k : ℕ). Contains (declared_by w k) h.flush) back.0 back.1.declared in
    let lane : lane_of w h.flush.item ≡ lane_of w i = sym back.2 ∙ ap (lane_of w) back.3 in
    omega (arith, so_far.all h.flush there lane, back-cost w i h back)

pub IfSome-back : (w : Wiring) (i limit least : ℕ) (found : Option Hop) → IsBackSoFar w i limit (declared_by w i) least
    found
    → IfSome found (λ h. IsCheapestBack w i limit h)
IfSome-back w i limit least None so_far = tt
IfSome-back w i limit least (Some h) so_far = record {
  back = so_far.is.0;
  less = omega (arith, so_far.is.1, so_far.is.2);
  least = λ g back. omega (arith, so_far.is.1, back-all w i limit least (Some h) so_far g back);
}

pub IfNone-back : (w : Wiring) (i limit least : ℕ) (found : Option Hop) → IsBackSoFar w i limit (declared_by w i) least
    found
    → IfNone found ((h : Hop) → IsHopBack w i h → limit ≤ hop_cost h)
IfNone-back w i limit least None so_far = λ h back. omega (
  arith,
  so_far.is,
  back-all w i limit least None so_far h
      back,
)
IfNone-back w i limit least (Some h) so_far = tt

-- ---- as a round

-- any round costs what its one hop costs, or what the item's cheapest hop does and 3 more
round-cost : (w : Wiring) (i cost : ℕ) → cost ≤ least_hop w i + 3 → ((h : Hop) → IsHopBack w i h → cost ≤ hop_cost h)
    → (hops : List Hop) → 0 < length hops → IsPath w i hops i → cost ≤ hops_cost hops
round-cost w i cost low least [] some path = absurd (omega arith)
round-cost w i cost low least (h ∷ []) some path = omega (arith, least h path)
round-cost w i cost low least (h ∷ g ∷ hops) some path =
    omega (arith, low, least_hop-enough w h path.1.declared, ap (least_hop w) path.0)

pub IsNoBetter-back : (w : Wiring) (i least : ℕ) → least ≤ least_hop w i + 3
    → ((h : Hop) → IsHopBack w i h → least ≤ hop_cost h) → IsNoBetter w i least
IsNoBetter-back w i least low none hops some path = round-cost w i least low none hops some path

pub IsBetter-back : (w : Wiring) (i least : ℕ) (h : Hop) → least ≤ least_hop w i + 3 → IsCheapestBack w i least h
    → IsBetter w i least (hop_cost (hop_to i h.flush i)) (h ∷ [])
IsBetter-back w i least h low is =
    let same = back-cost w i h is.back in
    record {
      less = omega (arith, same, is.less);
      round = record { some = omega arith; first = i; path = is.back };
      path = is.back;
      costs = omega (arith, same);
      all = λ others some path. omega (
        arith,
        same,
        round-cost w i (hop_cost h) (omega (arith, is.less, low)) is.least others some path,
      );
    }
