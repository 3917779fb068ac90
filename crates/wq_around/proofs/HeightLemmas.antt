-- Heights: what the arcs of a lane say of its height.
use Rattle.std.proofs.Common.{◌≡◌, ◌≢◌, ℕ, ◌+◌, ◌<◌, ◌≤◌, ◌⊎◌, inl, inr, Bool, true, false, cond}
use Rattle.std.proofs.Common.{nat_le, List, [], ◌∷◌, length}
use Rattle.std.proofs.Common.{map, fold, max, slice_index, refl, sym, ap, subst, arith}
use Rattle.std.specs.Prelude.{Contains}
use Rattle.std.specs.List.{Any}
use Rattle.std.proofs.lemmas.Bool.{cases_lt, lt-leb, le-leb}
use Rattle.std.proofs.lemmas.List.{get_or_past}
use Rattle.std.proofs.lemmas.List.Sums.{sum_by-cons, count_by-le-length}
use mir.Val.{bool_byte}
use Rattle.wq_items.specs.Chain.{IsChain}
use Rattle.wq_items.proofs.Chains.{IsRank-greatest}
use Rattle.wq_items.proofs.Lists.{Contains-later}
use Rattle.wq_graph.specs.declared.arc.WaitArc.{WaitArc}
use Rattle.wq_graph.specs.Graph.{IsGraph, HasArc, arcs_at}
use Rattle.wq_graph.proofs.ListLemmas.{Contains-cases, Contains-map, Contains-from_map}
use Rattle.wq_levels.specs.Ranks.{AreRanks}
use Rattle.wq_levels.proofs.Graphs.{HasArc-below}
use Rattle.wq_levels.proofs.Ranks.{AreRanks-few}
use Rattle.wq_fixed.specs.Fixed.{Fixed, fixed_lanes, new_among}
use Rattle.wq_around.specs.Heights.{IsHeight, AreHeights}
use Rattle.wq_around.specs.Down.{one_if_new}

-- ---- the greatest of some numbers

most_from-start : (n : ℕ) (ns : List ℕ) → n ≤ fold max n ns
most_from-start n [] = omega arith
most_from-start n (m ∷ ns) =
    let rest : max n m ≤ fold max (max n m) ns = most_from-start (max n m) ns in omega arith

pub most_from-le : (n : ℕ) (ns : List ℕ) (m : ℕ) → Contains ns m → m ≤ fold max n ns
most_from-le n [] m there = absurd (omega (arith, there.1))
most_from-le n (k ∷ ns) m there = elim (Contains-cases k ns m there) [
  | inl here ↦ let rest : max n k ≤ fold max (max n k) ns = most_from-start (max n k) ns in omega arith
  | inr later ↦ most_from-le (max n k) ns m later
]

pub most_from-some : (n : ℕ) (ns : List ℕ) → (fold max n ns ≡ n) ⊎ Contains ns (fold max n ns)
most_from-some n [] = inl refl
most_from-some n (m ∷ ns) = elim (most_from-some (max n m) ns) [
  | inl same ↦ elim (cases_lt n m) [
    | inl less ↦ let is : m ≡ fold max (max n m) ns = omega arith in inr (0, omega arith, is)
    | inr most ↦ inl (omega arith)
  ]
  | inr later ↦ inr (Contains-later m ns (fold max (max n m) ns) later)
]

-- ---- new lanes

pub one_if_new-cases : (new q : ℕ) → ((q < new) × (one_if_new new q ≡ 0)) ⊎ ((new ≤ q) × (one_if_new new q ≡ 1))
one_if_new-cases new q = elim (cases_lt q new) [
  | inl low ↦ inl (low, ap (λ (b : Bool). cond b 1 0) (lt-leb new q low))
  | inr from ↦ inr (from, ap (λ (b : Bool). cond b 1 0) (le-leb new q from))
]

-- as a number of a test
pub one_if_new-byte : (new q : ℕ) → bool_byte (nat_le new q) ≡ one_if_new new q
one_if_new-byte new q = by (nat_le new q)
  where
    by : (b : Bool) → bool_byte b ≡ cond b 1 0
    by true = refl
    by false = refl

pub new_among-cons : (f : Fixed) (q : ℕ) (qs : List ℕ) → new_among f (q ∷ qs) ≡ one_if_new (fixed_lanes f) q
    + new_among f qs
new_among-cons f q qs = sum_by-cons (λ (p : ℕ). cond (nat_le (fixed_lanes f) p) 1 0) q qs

-- ---- the height of one lane

module _ (graph : List (List WaitArc)) (f : Fixed) where
  pub IsHeight-unique : (q m n : ℕ) → IsHeight graph f q m → IsHeight graph f q n → m ≡ n
  IsHeight-unique q m n one other =
      let up : m ≤ n = omega (arith, one.count, other.most one.others one.chain) in
      let down : n ≤ m = omega (arith, other.count, one.most other.others other.chain) in
      omega arith

  -- a new lane is on the chain that begins at it
  IsHeight-new : (q n : ℕ) → IsHeight graph f q n → one_if_new (fixed_lanes f) q ≤ n
  IsHeight-new q n is = omega (arith, new_among-cons f q [], is.most [] tt)

  IsHeight-falls : (p q m n : ℕ) → HasArc graph p q → IsHeight graph f p m → IsHeight graph f q n → n
      + one_if_new (fixed_lanes f) p ≤ m
  IsHeight-falls p q m n arc one other =
      omega (
        arith,
        other.count,
        new_among-cons f p (q ∷ other.others),
        one.most (q ∷ other.others) (arc, other.chain),
      )

  -- from the heights of the lanes that its arcs lead to
  module _ (heights : List ℕ) (v n : ℕ) (each : (w : ℕ) → HasArc graph v w → IsHeight graph f w (slice_index heights w))
    where
      abbrev over : WaitArc → ℕ
      over a = slice_index heights a.head

      abbrev most_over : ℕ
      most_over = fold max 0 (map over (arcs_at graph v))

      module _ (is : n ≡ most_over + one_if_new (fixed_lanes f) v) where
        step-most : (more : List ℕ) → IsChain (HasArc graph) (v ∷ more) → new_among f (v ∷ more) ≤ n
        step-most [] chain = omega (arith, new_among-cons f v [], is)
        step-most (w ∷ ws) chain =
            let arc = chain.0 in
            let on : new_among f (w ∷ ws) ≤ slice_index heights w = (each w arc).most ws chain.1 in
            let le : over arc.1 ≤ most_over =
            most_from-le 0 (map over (arcs_at graph v)) (over arc.1)
            (Contains-map over (arcs_at graph v) arc.1 (arc.0, arc.2, arc.3)) in
            let same : over arc.1 ≡ slice_index heights w = ap (slice_index heights) arc.4 in
            omega (arith, new_among-cons f v (w ∷ ws), on, le, same, is)

        pub IsHeight-step : IsHeight graph f v n
        IsHeight-step = elim (most_from-some 0 (map over (arcs_at graph v))) [
          | inl none ↦ record {
            others = [];
            chain = tt;
            count = omega (arith, new_among-cons f v [], none, is);
            most = step-most;
          }
          | inr there ↦
              let found = Contains-from_map over (arcs_at graph v) most_over there in
              let arc : HasArc graph v found.0.head = (found.1.0, found.0, found.1.1, found.1.2, refl) in
              let on = each found.0.head arc in
              record {
                others = found.0.head ∷ on.others;
                chain = (arc, on.chain);
                count = omega (arith, new_among-cons f v (found.0.head ∷ on.others), on.count, found.2, is);
                most = step-most;
              }
        ]

  -- heights are small
  module _ (ranks : List ℕ) (sound : IsGraph graph) (ranked : AreRanks graph ranks) where
    pub IsHeight-few : (q n : ℕ) → q < length graph → IsHeight graph f q n → n ≤ 4096
    IsHeight-few q n within is =
        omega (
          arith,
          is.count,
          count_by-le-length (λ (p : ℕ). nat_le (fixed_lanes f) p) (q ∷ is.others),
          IsRank-greatest (HasArc graph) q (slice_index ranks q) (length (q ∷ is.others)) (ranked.longest q within)
              (is.others, is.chain, refl),
          AreRanks-few graph ranks sound ranked q 0 (omega (arith, within, ranked.one_each)),
          sound.few,
        )

-- ---- the heights of all lanes

module _ (graph : List (List WaitArc)) (f : Fixed) (heights : List ℕ) (sound : IsGraph graph)
    (are : AreHeights graph f heights) where
  -- one above 0 is that of a lane
  pub heights-within : (q : ℕ) → 0 < slice_index heights q → q < length graph
  heights-within q some = elim (cases_lt q (length graph)) [
    | inl within ↦ within
    | inr past ↦ absurd (omega (arith, some, get_or_past heights q 0 (omega (arith, past, are.one_each))))
  ]

  pub heights-new : (q : ℕ) → fixed_lanes f ≤ q → q < length graph → 0 < slice_index heights q
  heights-new q from within =
      let least = IsHeight-new graph f q (slice_index heights q) (are.greatest q within) in
      elim (one_if_new-cases (fixed_lanes f) q) [
        | inl fixed ↦ absurd (omega (arith, from, fixed.0))
        | inr new ↦ omega (arith, least, new.1)
      ]

  pub heights-fall : (p q : ℕ) → p < length graph → HasArc graph p q → slice_index heights q
      + one_if_new (fixed_lanes f) p ≤ slice_index heights p
  heights-fall p q within arc =
      IsHeight-falls graph f p q (slice_index heights p) (slice_index heights q) arc (are.greatest p within)
      (are.greatest q (HasArc-below graph sound p q arc))

  -- an arc leads on from a lane with a height above 0, unless it is a new one of height 1
  abbrev pub LeadsOn : ℕ → WaitArc → Type 0
  LeadsOn q a =
      (slice_index heights a.head + one_if_new (fixed_lanes f) q ≡ slice_index heights q)
      × (0 < slice_index heights a.head)

  pub heights-next : (q : ℕ) → 0 < slice_index heights q → (fixed_lanes f ≤ q → slice_index heights q ≢ 1)
      → Any (LeadsOn q) (arcs_at graph q)
  heights-next q some more =
      let within = heights-within q some in
      let is = are.greatest q within in
      by within is.others is.chain is.count
    where
      by : q < length graph → (others : List ℕ) → IsChain (HasArc graph) (q ∷ others) → new_among f (q ∷ others)
          ≡ slice_index heights q → Any (LeadsOn q) (arcs_at graph q)
      by within [] chain count = elim (one_if_new-cases (fixed_lanes f) q) [
        | inl fixed ↦ absurd (omega (arith, some, count, fixed.1, new_among-cons f q []))
        | inr new ↦ absurd (more new.0 (omega (arith, count, new.1, new_among-cons f q [])))
      ]
      by within (w ∷ ws) chain count =
          let arc = chain.0 in
          let most : new_among f (w ∷ ws) ≤ slice_index heights w =
          (are.greatest w (HasArc-below graph sound q w arc)).most ws chain.1 in
          let same : slice_index heights w + one_if_new (fixed_lanes f) q ≡ slice_index heights q =
          omega (arith, heights-fall q w within arc, most, count, new_among-cons f q (w ∷ ws)) in
          let up : 0 < slice_index heights w = elim (one_if_new-cases (fixed_lanes f) q) [
            | inl fixed ↦ omega (arith, same, some, fixed.1)
            | inr new ↦ omega (arith, same, some, new.1, more new.0)
          ] in (
            arc.0,
            arc.1,
            arc.2,
            arc.3,
            subst (λ (u : ℕ). (slice_index heights u + one_if_new (fixed_lanes f) q ≡ slice_index heights q)
                × (0 < slice_index heights u)) (sym arc.4) (same, up),
          )
