-- The round that a search found.
use Rattle.std.proofs.Common.{◌≡◌, ◌≢◌, ℕ, ◌+◌, ◌<◌, ◌≤◌, inl, inr, eqb, cond, List, [], ◌∷◌, ◌++◌, length, reverse, refl, sym, subst, arith}
use Rattle.std.specs.Prelude.{slice_index}
use Rattle.std.proofs.lemmas.Bool.{cases_eq, cond-true, cond-false, eq-eqb, ne_eqb}
use Rattle.std.proofs.lemmas.List.{reverse-append, length-reverse}
use Rattle.wq_core.specs.Wiring.{Wiring, items}
use Rattle.wq_hang.specs.declared.hop.Hop.{Hop}
use Rattle.wq_hang.specs.Walk.{IsPath, IsRound}
use Rattle.wq_hang.specs.Search.{hop_cost, hops_cost, Reach, IsReachedBy, IsReach}
use Rattle.wq_hang.proofs.Declared.{declared-item}

-- what it costs to come to the item, nothing if it is the first
abbrev pub cost_before : ℕ → Reach → ℕ → ℕ
cost_before first s i = cond (eqb i first) 0 (slice_index s.costs i)

-- the hops, the last one first, lead from the last hop's item to the first item, and cost at most what is left
pub record IsTrace (w : Wiring) (first limit : ℕ) (s : Reach) (hop : Hop) (hops : List Hop) : Type 0 where
  pub some : 0 < length hops
  pub path : IsPath w hop.item (reverse hops) first
  pub below : hop.item < items w
  pub cost : cost_before first s hop.item + hops_cost (reverse hops) ≤ slice_index s.costs first
  pub low : hop.item ≢ first → slice_index s.costs hop.item < limit

module _ (w : Wiring) (first limit : ℕ) (s : Reach) (reach : IsReach w first limit s) where
  -- what it costs to come to a hop's item, and the hop
  before : (i : ℕ) (h : Hop) → IsReachedBy w first s i h → cost_before first s h.item + hop_cost h ≤ slice_index s.costs i
  before i h is = elim (cases_eq h.item first) [
    | inl same ↦ omega (arith, is.from_first same, cond-true (eqb h.item first) 0 (slice_index s.costs h.item) (eq-eqb h.item first same))
    | inr other ↦ omega (arith, is.from_other other, cond-false (eqb h.item first) 0 (slice_index s.costs h.item) (ne_eqb h.item first other))
  ]

  lower : (i : ℕ) (h : Hop) → IsReachedBy w first s i h → slice_index s.costs i < limit → h.item ≢ first → slice_index s.costs h.item < limit
  lower i h is less other = omega (arith, is.from_other other, less)

  pub IsTrace-first : (h : Hop) → IsReachedBy w first s first h → slice_index s.costs first < limit → IsTrace w first limit s h (h ∷ [])
  IsTrace-first h is less = record {
    some = omega arith;
    path = (refl, is.hop, is.on, is.next);
    below = declared-item w h.item h.flush is.hop.declared;
    cost = omega (arith, before first h is);
    low = λ other. lower first h is less other;
  }

  pub IsTrace-next : (h : Hop) (hops : List Hop) (g : Hop) → IsTrace w first limit s h hops → h.item ≢ first → IsReachedBy w first s h.item g → IsTrace w first limit s g (hops ++ (g ∷ []))
  IsTrace-next h hops g trace other is =
      let turned : reverse (hops ++ (g ∷ [])) ≡ g ∷ reverse hops = reverse-append hops (g ∷ []) in
      let less : slice_index s.costs h.item < limit = trace.low other in
      let all : cost_before first s h.item ≡ slice_index s.costs h.item = cond-false (eqb h.item first) 0 (slice_index s.costs h.item) (ne_eqb h.item first other) in
      record {
        some = some hops;
        path = subst (λ (l : List Hop). IsPath w g.item l first) (sym turned) (refl, is.hop, is.on, subst (λ (i : ℕ). IsPath w i (reverse hops) first) (sym is.next) trace.path);
        below = declared-item w g.item g.flush is.hop.declared;
        cost = subst (λ (l : List Hop). cost_before first s g.item + hops_cost l ≤ slice_index s.costs first) (sym turned) (omega (arith, before h.item g is, trace.cost, all));
        low = λ unlike. lower h.item g is less unlike;
      }
    where
      some : (hs : List Hop) → 0 < length (hs ++ (g ∷ []))
      some [] = omega arith
      some (x ∷ hs) = omega arith

  -- the next hop is from an item that costs less
  pub trace_left : (h g : Hop) → h.item ≢ first → IsReachedBy w first s h.item g → cost_before first s g.item < cost_before first s h.item
  trace_left h g other is =
      let all : cost_before first s h.item ≡ slice_index s.costs h.item = cond-false (eqb h.item first) 0 (slice_index s.costs h.item) (ne_eqb h.item first other) in
      omega (arith, before h.item g is, all)

  pub path_traced : (h : Hop) (hops : List Hop) → IsTrace w first limit s h hops → h.item ≡ first
      → IsPath w first (reverse hops) first
  path_traced h hops trace same = subst (λ (i : ℕ). IsPath w i (reverse hops) first) same trace.path

  pub IsRound-traced : (h : Hop) (hops : List Hop) → IsTrace w first limit s h hops → h.item ≡ first → IsRound w (reverse hops) × (hops_cost (reverse hops) ≤ slice_index s.costs first)
  IsRound-traced h hops trace same = (
    record { some = turned_some hops trace.some; first = first; path = subst (λ (i : ℕ). IsPath w i (reverse hops) first) same trace.path },
    omega (arith, trace.cost),
  )
    where
      turned_some : (hs : List Hop) → 0 < length hs → 0 < length (reverse hs)
      turned_some hs some = omega (arith, some, length-reverse hs)
