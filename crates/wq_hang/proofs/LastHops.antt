-- The hop that closes a round from where somebody waits for an item alone: the cheapest with a way to it.
use Rattle.std.proofs.Common.{◌≡◌, ℕ, ◌+◌, ◌<◌, ◌≤◌, ◌⊎◌, inl, inr, false, List, [], ◌∷◌, ◌++◌, length, Option, Some}
use Rattle.std.proofs.Common.{None}
use Rattle.std.proofs.Common.{refl, sym, ap, subst, ◌∙◌, arith}
use Rattle.std.specs.Prelude.{Contains, slice_index}
use Rattle.wq_items.specs.declared.target.Target.{Target}
use Rattle.wq_core.specs.Wiring.{Wiring, HasRescuer, items, lane_of, declared_by}
use Rattle.wq_hang.specs.declared.hop.Hop.{Hop}
use Rattle.wq_hang.specs.Walk.{IsHop, IsPath}
use Rattle.wq_hang.specs.Search.{Reach, step}
use Rattle.wq_hang.specs.WaysFor.{AreWays, IsWay, IsWayFrom}
use Rattle.wq_hang.specs.EndsFor.{IsRoundAlone}

-- the hop waits for t alone
pub record ClosesAlone (w : Wiring) (t : ℕ) (h : Hop) : Type 0 where
  pub hop : IsHop w h
  pub waits_for : h.flush.item ≡ t
  pub alone : h.flush.whole ≡ false

-- the hop that was found, which costs so much with a way to it; as long as there is none, as much as the limit
abbrev pub IsClosing : Wiring → ℕ → ℕ → Reach → ℕ → Option Hop → Type 0
IsClosing w t limit s least None = least ≡ limit
IsClosing w t limit s least (Some h) =
    ClosesAlone w t h × (slice_index s.costs h.item + step h.flush ≡ least) × (least < limit)

pub closing_found : (w : Wiring) (t limit : ℕ) (s : Reach) (least : ℕ) (last : Option Hop) (h : Hop)
    → IsClosing w t limit s least last → last ≡ Some h
    → ClosesAlone w t h × (slice_index s.costs h.item + step h.flush ≡ least) × (least < limit)
closing_found w t limit s least last h found is = subst (λ (o : Option Hop). IsClosing w t limit s least o) is found

pub closing_none : (w : Wiring) (t limit : ℕ) (s : Reach) (least : ℕ) (last : Option Hop)
    → IsClosing w t limit s least last → last ≡ None → least ≡ limit
closing_none w t limit s least last found is = subst (λ (o : Option Hop). IsClosing w t limit s least o) is found

-- by these flushes none costs less
pub record IsClosingOf (w : Wiring) (t limit : ℕ) (s : Reach) (done : ℕ → Target → Type 0) (least : ℕ)
    (last : Option Hop) : Type 0 where
  pub low : least ≤ limit
  pub found : IsClosing w t limit s least last
  pub all : (h : Hop) → ClosesAlone w t h → done h.item h.flush → least ≤ slice_index s.costs h.item + step h.flush

module _ (w : Wiring) (t limit : ℕ) (s : Reach) where
  pub IsClosingOf-none : (done : ℕ → Target → Type 0) → ((i : ℕ) (u : Target) → done i u → ⊥)
      → IsClosingOf w t limit s done limit None
  IsClosingOf-none done none = record {
    low = omega arith;
    found = refl;
    all = λ h closes is. absurd (none h.item h.flush is);
  }

  -- a flush that doesn't close it, or costs no less
  pub IsClosingOf-kept : (done more : ℕ → Target → Type 0) (least : ℕ) (last : Option Hop)
      → IsClosingOf w t limit s done least last
      → ((h : Hop) → ClosesAlone w t h → more h.item h.flush
      → done h.item h.flush ⊎ (least ≤ slice_index s.costs h.item + step h.flush))
      → IsClosingOf w t limit s more least last
  IsClosingOf-kept done more least last are either = record {
    low = are.low;
    found = are.found;
    all = λ h closes is. elim (either h closes is) [
      | inl before ↦ are.all h closes before
      | inr enough ↦ enough
    ];
  }

  -- one that costs less
  pub IsClosingOf-less : (done more : ℕ → Target → Type 0) (least now : ℕ) (last : Option Hop) (h : Hop)
      → IsClosingOf w t limit s done least last → ClosesAlone w t h
      → slice_index s.costs h.item + step h.flush ≡ now → now < least
      → ((j : ℕ) (u : Target) → more j u → done j u ⊎ ((j ≡ h.item) × (u ≡ h.flush)))
      → IsClosingOf w t limit s more now (Some h)
  IsClosingOf-less done more least now last h are closes same less either = record {
    low = omega (arith, less, are.low);
    found = (closes, same, omega (arith, less, are.low));
    all = λ g g_closes is. elim (either g.item g.flush is) [
      | inl before ↦ omega (arith, are.all g g_closes before, less)
      | inr it ↦ omega (
        arith,
        same,
        ap (λ (k : ℕ). slice_index s.costs k) it.0,
        ap step it.1,
      )
    ];
  }

  module _ (ways : AreWays w (t ∷ []) limit s) (done : ℕ → Target → Type 0) (least : ℕ) (last : Option Hop)
      (are : IsClosingOf w t limit s done least last) (all : (h : Hop) → IsHop w h → done h.item h.flush) where
    -- no round from there costs less
    pub alone_least : (hops : List Hop) (cost : ℕ) → IsRoundAlone w t hops cost → least ≤ cost
    alone_least hops cost is =
        let come : slice_index s.costs is.last.item ≤ is.before =
        ways.least is.last.item is.before is.way is.hop.rescuer is.leads in
        let closes : ClosesAlone w t is.last =
        record { hop = is.hop; waits_for = is.waits_for; alone = is.alone } in
        omega (arith, come, are.all is.last closes (all is.last is.hop), is.costs)

-- the way to the hop, and the hop, after which the first one comes again
pub IsRoundAlone-closed : (w : Wiring) (t : ℕ) (s : Reach) (h : Hop) (way : List Hop) → ClosesAlone w t h
    → IsWay w (t ∷ []) s h.item way → (next : ℕ) → ((first : ℕ) → IsPath w first way h.item → next ≡ first)
    → (cost : ℕ) × IsRoundAlone w t (way ++ (record h { next = next } ∷ [])) cost
    × (cost ≤ slice_index s.costs h.item + step h.flush)
IsRoundAlone-closed w t s h way closes is next same = (
  is.cost + step h.flush,
  record {
    way = way;
    last = record h { next = next };
    before = is.cost;
    are = refl;
    leads = is.way;
    hop = record { declared = closes.hop.declared; rescuer = closes.hop.rescuer };
    waits_for = closes.waits_for;
    alone = closes.alone;
    next = same is.way.first is.way.path;
    costs = refl;
  },
  omega (arith, is.least),
)
