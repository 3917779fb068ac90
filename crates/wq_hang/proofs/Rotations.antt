-- A round may begin with any of its hops, and numbers of lanes can't rise all the way round.
use Rattle.std.proofs.Common.{◌≡◌, ℕ, ◌+◌, ◌<◌, ◌≤◌, ◌⊎◌, inl, inr, List, [], ◌∷◌, ◌++◌, length, refl, sym, ap, arith}
use Rattle.std.proofs.lemmas.Bool.{cases_lt}
use Rattle.std.proofs.lemmas.List.{length-append}
use Rattle.wq_core.specs.Wiring.{Wiring, lane_of}
use Rattle.wq_hang.specs.declared.hop.Hop.{Hop}
use Rattle.wq_hang.specs.Walk.{IsHop, IsPath}
use Rattle.wq_hang.specs.Search.{hops_cost}
use Rattle.wq_hang.proofs.LeastWalks.{IsPath-append, hops_cost-append}

-- a path in two parts, between which a hop leads to a lane whose number isn't greater than that of its own
record Falls (w : Wiring) (number : ℕ → ℕ) (i j : ℕ) (hops : List Hop) : Type 0 where
  before : List Hop
  hop : Hop
  after : List Hop
  parts : hops ≡ before ++ (hop ∷ after)
  to : IsPath w i before hop.item
  is_hop : IsHop w hop
  on : lane_of w hop.next ≡ lane_of w hop.flush.item
  from : IsPath w hop.next after j
  falls : number (lane_of w hop.next) ≤ number (lane_of w hop.item)

falls_or_rises : (w : Wiring) (number : ℕ → ℕ) (i j : ℕ) (hops : List Hop) → IsPath w i hops j → Falls w number i j hops ⊎ (number (lane_of w i) + length hops ≤ number (lane_of w j))
falls_or_rises w number i j [] path = inr (omega (arith, ap (λ (k : ℕ). number (lane_of w k)) path))
falls_or_rises w number i j (h ∷ hops) path = elim (cases_lt (number (lane_of w h.item)) (number (lane_of w h.next))) [
  | inr not_above ↦ inl (record { before = []; hop = h; after = hops; parts = refl; to = sym path.0; is_hop = path.1; on = path.2; from = path.3; falls = not_above })
  | inl rises ↦ elim (falls_or_rises w number h.next j hops path.3) [
    | inl later ↦ inl (record {
      before = h ∷ later.before;
      hop = later.hop;
      after = later.after;
      parts = ap (λ (l : List Hop). h ∷ l) later.parts;
      to = (path.0, path.1, path.2, later.to);
      is_hop = later.is_hop;
      on = later.on;
      from = later.from;
      falls = later.falls;
    })
    | inr higher ↦ inr (omega (arith, rises, higher, ap (λ (k : ℕ). number (lane_of w k)) path.0))
  ]
]

-- the same round, which begins after a hop that leads to a lane whose number isn't greater than that of its own
pub record Turned (w : Wiring) (number : ℕ → ℕ) (hops : List Hop) : Type 0 where
  pub turned : List Hop
  pub hop : Hop
  pub some : 0 < length turned
  pub path : IsPath w hop.next turned hop.next
  pub cost : hops_cost turned ≡ hops_cost hops
  pub is_hop : IsHop w hop
  pub on : lane_of w hop.next ≡ lane_of w hop.flush.item
  pub falls : number (lane_of w hop.next) ≤ number (lane_of w hop.item)

pub round_turned : (w : Wiring) (number : ℕ → ℕ) (i : ℕ) (hops : List Hop) → 0 < length hops → IsPath w i hops i → Turned w number hops
round_turned w number i hops some path = elim (falls_or_rises w number i i hops path) [
  | inr rises ↦ absurd (omega (arith, rises, some))
  | inl at ↦ (
      let start : List Hop = at.before ++ (at.hop ∷ []) in
      let first : IsPath w i start at.hop.next = IsPath-append w i at.hop.item at.hop.next at.before (at.hop ∷ []) at.to (refl, at.is_hop, at.on, refl) in
      record {
        turned = at.after ++ start;
        hop = at.hop;
        some = omega (arith, length-append at.after start, length-append at.before (at.hop ∷ []));
        path = IsPath-append w at.hop.next i at.hop.next at.after start at.from first;
        cost = omega (arith, hops_cost-append at.after start, hops_cost-append at.before (at.hop ∷ []), ap hops_cost at.parts, hops_cost-append at.before (at.hop ∷ at.after));
        is_hop = at.is_hop;
        on = at.on;
        falls = at.falls;
      }
      )
]
