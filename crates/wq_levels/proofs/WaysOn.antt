-- The way on from a vertex that remains: there is one, and only one.
use Rattle.std.proofs.Common.{◌≡◌, ℕ, ◌<◌, ◌≤◌, ◌==◌, ◌↔◌, Bool, inl, inr, List, length, map, get_or, slice_index, Some, find, position, Any, Contains, sym, ◌∙◌, subst, ap, eq-eqb, arith}
use Rattle.std.proofs.lemmas.Bool.{cases_lt, cases_order, eqb-true, eqb-false}
use Rattle.std.proofs.lemmas.List.{get_or_past, get_or-map, length-map, get_or_default}
use Rattle.std.proofs.lemmas.List.Elements.{All-contains}
use Rattle.std.proofs.lemmas.List.Kept.{AllPairs-from_increasing}
use Rattle.std.proofs.lemmas.List.Quantifiers.{position-Some}
use Rattle.wq_graph.specs.declared.arc.WaitArc.{WaitArc}
use Rattle.wq_graph.specs.Graph.{IsGraph, HasArc, arcs_at}
use Rattle.wq_levels.specs.Walks.{Remains, MarkRemaining, IsLeastRemaining, IsWayOn}
use Rattle.wq_levels.proofs.Graphs.{ArcsRise, HasArc-below, arcs_at-rise}
use Rattle.wq_levels.proofs.Endless.{IsEndless, IsEndless-next}
use Rattle.wq_levels.proofs.First.{IsFirst, IsFirst-find, Tells, position-is}

-- an arc that comes later has a greater place
pub later_place : (arcs : List WaitArc) (i j : ℕ) (d e : WaitArc) → ArcsRise arcs → i < j → j < length arcs → (get_or arcs i d).place < (get_or arcs j e).place
later_place arcs i j d e rise lt fits =
    let place_of : WaitArc → ℕ = λ (a : WaitArc). a.place in
    let own = get_or-map place_of arcs i d 0 (omega arith) in
    let other = get_or-map place_of arcs j e 0 fits in
    omega (arith, own, other, AllPairs-from_increasing (map place_of arcs) rise i j 0 lt (omega (arith, length-map arcs place_of)))

-- two arcs of a vertex with the same place are the same
pub same_place : (arcs : List WaitArc) (a b : WaitArc) → ArcsRise arcs → Contains arcs a → Contains arcs b → a.place ≡ b.place → a ≡ b
same_place arcs a b rise one other same = elim (cases_order one.0 other.0) [
  | inl here ↦ sym one.2 ∙ get_or_default arcs one.0 a b one.1 ∙ ap (λ (k : ℕ). get_or arcs k b) here ∙ other.2
  | inr apart ↦ elim apart [
    | inl before ↦ absurd (omega (arith, later_place arcs one.0 other.0 a b rise before other.1, ap (λ (x : WaitArc). x.place) one.2, ap (λ (x : WaitArc). x.place) other.2))
    | inr after ↦ absurd (omega (arith, later_place arcs other.0 one.0 b a rise after one.1, ap (λ (x : WaitArc). x.place) one.2, ap (λ (x : WaitArc). x.place) other.2))
  ]
]

module _ (graph : List (List WaitArc)) (sound : IsGraph graph) where
  -- the first arc into what remains
  pub IsWayOn-first : (v : ℕ) (a : WaitArc) → IsFirst (λ (b : WaitArc). Remains graph b.head) (arcs_at graph v) a → IsWayOn graph v a
  IsWayOn-first v a first = record {
    leaves = (first.place, first.fits, first.here);
    remains = first.holds;
    least = λ k d fits remains. elim (cases_order k first.place) [
      | inl same ↦
          let here : get_or (arcs_at graph v) k d ≡ a = ap (λ (m : ℕ). get_or (arcs_at graph v) m d) same ∙ get_or_default (arcs_at graph v) first.place d a first.fits ∙ first.here in
          omega (arith, ap (λ (x : WaitArc). x.place) here)
      | inr apart ↦ elim apart [
        | inl before ↦ absurd (first.earlier k d before remains)
        | inr after ↦ omega (arith, later_place (arcs_at graph v) first.place k a d (arcs_at-rise graph sound v) after fits, ap (λ (x : WaitArc). x.place) first.here)
      ]
    ];
  }

  pub IsWayOn-unique : (v : ℕ) (a b : WaitArc) → IsWayOn graph v a → IsWayOn graph v b → a ≡ b
  IsWayOn-unique v a b one other =
      let arcs = arcs_at graph v in
      let up : a.place ≤ b.place = All-contains (λ (x : WaitArc). Remains graph x.head → a.place ≤ x.place) arcs b one.least other.leaves other.remains in
      let down : b.place ≤ a.place = All-contains (λ (x : WaitArc). Remains graph x.head → b.place ≤ x.place) arcs a other.least one.leaves one.remains in
      same_place arcs a b (arcs_at-rise graph sound v) one.leaves other.leaves (omega arith)

  -- an endless vertex remains
  pub Remains-endless : (v : ℕ) → v < length graph → IsEndless (HasArc graph) v → Remains graph v
  Remains-endless v vertex endless = (vertex, endless (length graph))

  -- a vertex that remains has an arc into what remains
  pub Remains-next : (v : ℕ) → Remains graph v → Any (λ (a : WaitArc). Remains graph a.head) (arcs_at graph v)
  Remains-next v remains =
      let on = IsEndless-next (HasArc graph) (length graph) v (HasArc-below graph sound) remains.0 remains.1 in
      let arc = on.1 in
      (arc.0, arc.1, arc.2, arc.3, subst (λ w. Remains graph w) (sym arc.4) (Remains-endless on.0 (HasArc-below graph sound v on.0 arc) on.2))

-- the ranks tell for each number whether it remains, also past the last vertex
pub MarkRemaining-any : (graph : List (List WaitArc)) (ranks : List ℕ) → MarkRemaining graph ranks → (v : ℕ) → (slice_index ranks v ≡ length graph) ↔ Remains graph v
MarkRemaining-any graph ranks marks v = elim (cases_lt v (length graph)) [
  | inl vertex ↦ marks.marked v vertex
  | inr past ↦ (
    λ top. absurd (omega (arith, marks.one_each, marks.some.1, get_or_past ranks v 0 (omega (arith, marks.one_each)))),
    λ remains. absurd (omega (arith, remains.0)),
  )
]

pub Tells-top : (graph : List (List WaitArc)) (ranks : List ℕ) → MarkRemaining graph ranks → Tells (λ (a : WaitArc). Remains graph a.head) (λ (a : WaitArc). slice_index ranks a.head == length graph)
Tells-top graph ranks marks = record {
  passes = λ a top. (MarkRemaining-any graph ranks marks a.head).0 (eqb-true (slice_index ranks a.head) (length graph) top);
  fails = λ a other remains. eqb-false (slice_index ranks a.head) (length graph) other ((MarkRemaining-any graph ranks marks a.head).1 remains);
}

-- the first arc to a vertex of the top rank
pub IsWayOn-find : (graph : List (List WaitArc)) (ranks : List ℕ) → IsGraph graph → MarkRemaining graph ranks → (v : ℕ) → Remains graph v
    → (a : WaitArc) × (find (λ (b : WaitArc). slice_index ranks b.head == length graph) (arcs_at graph v) ≡ Some a) × IsWayOn graph v a
IsWayOn-find graph ranks sound marks v remains =
    let found = IsFirst-find (λ (b : WaitArc). Remains graph b.head) (λ (b : WaitArc). slice_index ranks b.head == length graph) (Tells-top graph ranks marks) (arcs_at graph v) (Remains-next graph sound v remains) in
    (found.0, found.1, IsWayOn-first graph sound v found.0 found.2)

-- the lowest-numbered vertex of the top rank
pub IsLeastRemaining-position : (graph : List (List WaitArc)) (ranks : List ℕ) → MarkRemaining graph ranks → (v : ℕ) × (position (λ r. r == length graph) ranks ≡ Some v) × IsLeastRemaining graph v
IsLeastRemaining-position graph ranks marks =
    let top : ℕ → Bool = λ (r : ℕ). r == length graph in
    let found = position-is top ranks marks.some.0 0 marks.some.1 (eq-eqb (slice_index ranks marks.some.0) (length graph) marks.some.2) in
    let v = found.0 in
    let here = position-Some top ranks v 0 found.1 in (
      v,
      found.1,
      record {
        remains = (MarkRemaining-any graph ranks marks v).0 (eqb-true (slice_index ranks v) (length graph) here.1);
        least = λ w less remains. eqb-false (slice_index ranks w) (length graph) (here.2 w less) ((MarkRemaining-any graph ranks marks w).1 remains);
      },
    )
