-- Chains that lead down by heights, in any wait graph with ranks. The lanes from `new` on are new, and each lane has a
-- height.
use Rattle.std.specs.Prelude.{◌≡◌, ◌⊎◌, ⊤, ℕ, ◌+◌, ◌<◌, ◌≤◌, ◌==◌, nat_le, Bool, if◌then◌else◌, List, [], ◌∷◌}
use Rattle.std.specs.Prelude.{length, slice_index, Contains}
use Rattle.std.specs.List.{count_by}
use Rattle.wq_graph.specs.declared.arc.WaitArc.{WaitArc}
use Rattle.wq_graph.specs.Graph.{arcs_at}

-- 1 if lane q is new, and else 0
abbrev pub one_if_new : ℕ → ℕ → ℕ
one_if_new new q = if nat_le new q then 1 else 0

-- a chain may follow the arc from lane q: from a new lane to one whose height is less by one, and from a fixed one to
-- one of the same height
abbrev pub leads_on : List ℕ → ℕ → ℕ → WaitArc → Bool
leads_on heights new q arc = slice_index heights arc.head + one_if_new new q == slice_index heights q

-- these arcs lead on from lane q to a new lane of height 1
abbrev pub LeadsDown : List (List WaitArc) → ℕ → List ℕ → ℕ → List WaitArc → Type 0
LeadsDown graph new heights q [] = (new ≤ q) × (slice_index heights q ≡ 1)
LeadsDown graph new heights q (arc ∷ arcs) =
    Contains (arcs_at graph q) arc
    × (slice_index heights arc.head + one_if_new new q ≡ slice_index heights q)
    × (0 < slice_index heights arc.head)
    × LeadsDown graph new heights arc.head arcs

-- from each lane whose height is above 0 arcs lead down
abbrev pub AllLeadDown : List (List WaitArc) → ℕ → List ℕ → Type 0
AllLeadDown graph new heights =
    (q : ℕ) → 0 < slice_index heights q → (arcs : List WaitArc) × LeadsDown graph new heights q arcs

-- ---- unsure flushes, where `unsure` tells of each place whether the flush there is unsure

-- how many of these arcs are of an unsure flush
abbrev pub doubts_on : (ℕ → Bool) → List WaitArc → ℕ
doubts_on unsure arcs = count_by (λ (arc : WaitArc). unsure arc.place) arcs

-- with how few a chain leads on by way of an arc, where `doubts` has that number of the lane that it leads to
abbrev pub doubts_by : (ℕ → Bool) → List ℕ → WaitArc → ℕ
doubts_by unsure doubts arc = slice_index doubts arc.head + (if unsure arc.place then 1 else 0)

-- n is the fewest on arcs that lead down from lane q
pub record IsFewest (unsure : ℕ → Bool) (graph : List (List WaitArc)) (new : ℕ) (heights : List ℕ) (q n : ℕ)
    : Type 0 where
  pub arcs : List WaitArc
  pub down : LeadsDown graph new heights q arcs
  pub count : doubts_on unsure arcs ≡ n
  pub least : (others : List WaitArc) → LeadsDown graph new heights q others → n ≤ doubts_on unsure others

-- for each lane whose height is above 0 the fewest on arcs that lead down from it
pub record AreDoubts (unsure : ℕ → Bool) (graph : List (List WaitArc)) (new : ℕ) (heights doubts : List ℕ)
    : Type 0 where
  pub one_each : length doubts ≡ length graph
  pub fewest : (q : ℕ) → 0 < slice_index heights q → IsFewest unsure graph new heights q (slice_index doubts q)

-- ---- where a chain begins, and which of several comes first

-- lane q is a new one of this height
abbrev pub IsTop : ℕ → List ℕ → ℕ → ℕ → Type 0
IsTop new heights most q = (new ≤ q) × (q < length heights) × (slice_index heights q ≡ most)

-- of the new lanes of this height it is one with the fewest doubts, and the lowest-numbered of those
pub record IsFirstTop (new : ℕ) (heights : List ℕ) (most : ℕ) (doubts : List ℕ) (first : ℕ) : Type 0 where
  pub top : IsTop new heights most first
  pub fewest : (q : ℕ) → IsTop new heights most q → slice_index doubts first ≤ slice_index doubts q
  pub lowest : (q : ℕ) → IsTop new heights most q → slice_index doubts q ≡ slice_index doubts first → first ≤ q

-- the arcs from lane p come no later than the others from lane q, where the two part: p is lower, or of two arcs of one
-- lane they go on by the one of lower place
abbrev pub GoesFirst : ℕ → List WaitArc → ℕ → List WaitArc → Type 0
GoesFirst p [] q others = ⊤
GoesFirst p (x ∷ arcs) q [] = ⊤
GoesFirst p (x ∷ arcs) q (y ∷ others) =
    (p < q)
    ⊎ ((p ≡ q) × ((x.place < y.place) ⊎ ((x.place ≡ y.place) × GoesFirst x.head arcs y.head others)))

-- of the arcs that lead down from lane q these have the fewest unsure flushes, as many as `doubts` says, and come first
pub record IsFirstDown (unsure : ℕ → Bool) (graph : List (List WaitArc)) (new : ℕ) (heights doubts : List ℕ) (q : ℕ)
    (arcs : List WaitArc) : Type 0 where
  pub down : LeadsDown graph new heights q arcs
  pub count : doubts_on unsure arcs ≡ slice_index doubts q
  pub first : (others : List WaitArc) → LeadsDown graph new heights q others
      → doubts_on unsure others ≡ slice_index doubts q → GoesFirst q arcs q others

-- the arcs lead down from a new lane of this height; none that do have fewer unsure flushes; and of those that have as
-- few these come first
pub record IsBestDown (unsure : ℕ → Bool) (graph : List (List WaitArc)) (new : ℕ) (heights : List ℕ) (most : ℕ)
    (arcs : List WaitArc) : Type 0 where
  pub begin : ℕ
  pub top : IsTop new heights most begin
  pub down : LeadsDown graph new heights begin arcs
  pub fewest : (q : ℕ) (others : List WaitArc) → IsTop new heights most q → LeadsDown graph new heights q others
      → doubts_on unsure arcs ≤ doubts_on unsure others
  pub first : (q : ℕ) (others : List WaitArc) → IsTop new heights most q → LeadsDown graph new heights q others
      → doubts_on unsure others ≡ doubts_on unsure arcs → GoesFirst begin arcs q others
