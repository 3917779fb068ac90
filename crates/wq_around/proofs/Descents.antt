-- Chains that lead down by heights.
use Rattle.std.proofs.Common.{◌≡◌, ◌≢◌, ℕ, zero, suc, ◌<◌, ◌≤◌, ◌⊎◌, inl, inr, List, [], ◌∷◌, length, slice_index}
use Rattle.std.proofs.Common.{true, false, nat_le, ◌==◌, refl, sym, ◌∙◌, eq-eqb, eqb-true, arith}
use Rattle.std.specs.Prelude.{◌&&◌}
use Rattle.std.proofs.lemmas.Bool.{cases_eq, cases_lt, and_parts, and_from, leb-true, le-leb, true≢false}
use Rattle.std.proofs.lemmas.List.{get_or_past}
use Rattle.wq_graph.specs.declared.arc.WaitArc.{WaitArc}
use Rattle.wq_graph.specs.Graph.{IsGraph}
use Rattle.wq_levels.specs.Ranks.{AreRanks}
use Rattle.wq_levels.proofs.Ranks.{AreRanks-fall}
use Rattle.wq_fixed.specs.Fixed.{Fixed, fixed_lanes}
use Rattle.wq_around.specs.Heights.{AreHeights}
use Rattle.wq_around.specs.Down.{LeadsDown, AllLeadDown}
use Rattle.wq_around.proofs.HeightLemmas.{one_if_new-cases, heights-within, heights-next}

-- a chain ends at a lane, or it leads on
pub ends_or_not : (new : ℕ) (heights : List ℕ) (q : ℕ) → ((new ≤ q) × (slice_index heights q ≡ 1))
    ⊎ (new ≤ q → slice_index heights q ≢ 1)
ends_or_not new heights q = elim (cases_eq (slice_index heights q) 1) [
  | inl one ↦ elim (cases_lt q new) [
    | inl low ↦ inr (λ from. absurd (omega (arith, low, from)))
    | inr from ↦ inl (from, one)
  ]
  | inr other ↦ inr (λ from. other)
]

-- a height above 0 is that of a lane
pub height-within : (heights : List ℕ) (q : ℕ) → 0 < slice_index heights q → q < length heights
height-within heights q some = elim (cases_lt q (length heights)) [
  | inl within ↦ within
  | inr past ↦ absurd (omega (arith, some, get_or_past heights q 0 past))
]

-- the test tells which
pub ends_by : (new : ℕ) (heights : List ℕ) (q : ℕ) → (nat_le new q && (slice_index heights q == 1)) ≡ true → (new ≤ q)
    × (slice_index heights q ≡ 1)
ends_by new heights q passes =
    let parts = and_parts (nat_le new q) (slice_index heights q == 1) passes in
    (leb-true new q parts.0, eqb-true (slice_index heights q) 1 parts.1)

pub leads_by : (new : ℕ) (heights : List ℕ) (q : ℕ) → (nat_le new q && (slice_index heights q == 1)) ≡ false → new ≤ q
    → slice_index heights q ≢ 1
leads_by new heights q fails from one =
    let passes =
    and_from (nat_le new q) (slice_index heights q == 1) (le-leb new q from) (eq-eqb (slice_index heights q) 1 one) in
    true≢false (sym passes ∙ fails)

module _ (graph : List (List WaitArc)) (new : ℕ) (heights : List ℕ) where
  -- they begin at a height above 0
  pub down-above : (q : ℕ) (arcs : List WaitArc) → LeadsDown graph new heights q arcs → 0 < slice_index heights q
  down-above q [] down = omega (arith, down.1)
  down-above q (a ∷ arcs) down = omega (arith, down.1, down.2)

  -- and pass a new lane of each height below that
  pub down-passes : (m q : ℕ) (arcs : List WaitArc) → LeadsDown graph new heights q arcs → 0 < m
      → m ≤ slice_index heights q → (p : ℕ) × (new ≤ p) × (slice_index heights p ≡ m)
  down-passes m q [] down some le = (q, down.0, omega (arith, down.1, some, le))
  down-passes m q (a ∷ arcs) down some le = elim (cases_lt (slice_index heights a.head) m) [
    | inl below ↦ elim (one_if_new-cases new q) [
      | inl fixed ↦ absurd (omega (arith, below, le, down.1, fixed.1))
      | inr from ↦ (q, from.0, omega (arith, below, le, down.1, from.1))
    ]
    | inr above ↦ down-passes m a.head arcs down.3 some above
  ]

-- from each height above 0 a chain leads down
module _ (graph : List (List WaitArc)) (f : Fixed) (heights ranks : List ℕ) (sound : IsGraph graph)
    (are : AreHeights graph f heights) (ranked : AreRanks graph ranks) where
  leads : (r q : ℕ) → slice_index ranks q ≤ r → 0 < slice_index heights q → (arcs : List WaitArc)
      × LeadsDown graph (fixed_lanes f) heights q arcs
  leads zero q low some = elim (ends_or_not (fixed_lanes f) heights q) [
    | inl end ↦ ([], end)
    | inr more ↦
        let next = heights-next graph f heights sound are q some more in
        let falls = AreRanks-fall graph ranks sound ranked q next.1.head
        (heights-within graph f heights sound are q some) (next.0, next.1, next.2, next.3, refl) in
        absurd (omega (arith, low, falls))
  ]
  leads (suc r) q low some = elim (ends_or_not (fixed_lanes f) heights q) [
    | inl end ↦ ([], end)
    | inr more ↦
        let next = heights-next graph f heights sound are q some more in
        let falls = AreRanks-fall graph ranks sound ranked q next.1.head
        (heights-within graph f heights sound are q some) (next.0, next.1, next.2, next.3, refl) in
        let rest = leads r next.1.head (omega (arith, low, falls)) next.4.1 in
        (next.1 ∷ rest.0, ((next.0, next.2, next.3), next.4.0, next.4.1, rest.1))
  ]

  pub AllLeadDown-heights : AllLeadDown graph (fixed_lanes f) heights
  AllLeadDown-heights q some = leads (slice_index ranks q) q (omega arith) some
