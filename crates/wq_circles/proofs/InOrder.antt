-- The order of components, and of the arcs of each.
use Rattle.std.proofs.Common.{◌≡◌, ℕ, ◌<◌, ◌==◌, not, inl, Bool, List, length, map, get_or, refl, sym, subst, ◌∙◌, arith}
use Rattle.std.specs.Prelude.{AllPairs, Contains}
use Rattle.std.specs.List.{All, range_with_len}
use Rattle.std.specs.List.Sorted.{IsStrictlyIncreasing}
use Rattle.std.proofs.lemmas.List.Elements.{All-contains}
use Rattle.std.proofs.lemmas.List.FromFn.{length-map-range_with_len, get_or-map-range_with_len}
use Rattle.std.proofs.lemmas.List.Kept.{AllPairs-filter, AllPairs-from_increasing}
use Rattle.wq_groups.specs.Declaration.{Declaration, IsDeclaration}
use Rattle.wq_groups.specs.Assignment.{Assignment, IsAssignment, item_lane}
use Rattle.wq_graph.specs.declared.arc.WaitArc.{WaitArc}
use Rattle.wq_graph.specs.Graph.{HasArc, arcs_at}
use Rattle.wq_circles.proofs.KeptLanes.{AreArcsFrom-kept}
use Rattle.wq_graph.proofs.ListLemmas.{IsStrictlyIncreasing-map, AllPairs-from_map}
use Rattle.wq_circles.specs.Leading.{IsLowest, AreLowest}
use Rattle.wq_circles.proofs.Leading.{IsLowest-same}
use Rattle.wq_circles.specs.Components.{joined, kept_graph, loops_at, loops}
use Rattle.wq_circles.specs.Flushes.{IsBefore}
use Rattle.wq_circles.proofs.OnCircles.{AreTogether-keeps, AreLoops-loops, IsLoop, IsLoop-loops_at, assigned, flush-items, lane-below, loop-vertex}

-- for relations that hold alike, the lowest are the same
IsLowest-keeps : (R S : ℕ → ℕ → Type 0) → ((v w : ℕ) → R v w → S v w) → ((v w : ℕ) → S v w → R v w) → (v c : ℕ) → IsLowest R v c → IsLowest S v c
IsLowest-keeps R S keeps back v c lowest = record { together = AreTogether-keeps R S keeps v c lowest.together; least = λ w together. lowest.least w (AreTogether-keeps S R back v w together) }

module _ (d : Declaration) (a : Assignment) (bare : List Bool) (declaration : IsDeclaration d) (assignment : IsAssignment d.groups a) where
  -- the places of the loops of a vertex rise
  rising : (v : ℕ) → IsStrictlyIncreasing (map (λ (b : WaitArc). b.place) (loops_at (kept_graph d a bare) v))
  rising v =
      let arcs = arcs_at (kept_graph d a bare) v in
      let rise = AllPairs-from_map (λ (m n : ℕ). m < n) (λ (b : WaitArc). b.place) arcs (AllPairs-from_increasing (map (λ (b : WaitArc). b.place) arcs) (AreArcsFrom-kept d a bare declaration assignment v).in_order) in
      IsStrictlyIncreasing-map (λ (b : WaitArc). b.place) (loops_at (kept_graph d a bare) v) (record { src = 0; dst = 0; head = 0; place = 0 })
      (AllPairs-filter (λ (b c : WaitArc). b.place < c.place) (λ (b : WaitArc). b.head == v) arcs rise)

  pub rising-loops : All (λ (arcs : List WaitArc). IsStrictlyIncreasing (map (λ (b : WaitArc). b.place) arcs)) (loops (kept_graph d a bare))
  rising-loops k e within =
      let l = AreLoops-loops d a bare declaration assignment k e within in
      subst (λ (arcs : List WaitArc). IsStrictlyIncreasing (map (λ (b : WaitArc). b.place) arcs)) (sym l.are) (rising l.vertex)

module _ (d : Declaration) (a : Assignment) (bare : List Bool) (declaration : IsDeclaration d) (assignment : IsAssignment d.groups a) (lowest : List ℕ) (are : AreLowest (HasArc (kept_graph d a bare)) a.lanes lowest)
    (S : ℕ → ℕ → Type 0) (keeps : (v w : ℕ) → HasArc (kept_graph d a bare) v w → S v w) (back : (v w : ℕ) → S v w → HasArc (kept_graph d a bare) v w) where
  -- the lowest workqueue of a component is its vertex
  vertex : (v c : ℕ) (b : WaitArc) → Contains (loops_at (kept_graph d (joined a lowest) bare) v) b → IsLowest S (item_lane a d.group_of b.src) c → c ≡ v
  vertex v c b there low =
      let loop = All-contains (IsLoop d (joined a lowest) bare declaration (assigned d a bare declaration assignment lowest are) v) (loops_at (kept_graph d (joined a lowest) bare) v) b (IsLoop-loops_at d (joined a lowest) bare declaration (assigned d a bare declaration assignment lowest are) v) there in
      let src = (flush-items d a bare declaration assignment lowest are b loop.arc.declared).0 in
      let own = are.is (item_lane a d.group_of b.src) (lane-below d a bare declaration assignment lowest are b.src src) in
      let other = IsLowest-keeps S (HasArc (kept_graph d a bare)) back keeps (item_lane a d.group_of b.src) c low in
      IsLowest-same (HasArc (kept_graph d a bare)) (item_lane a d.group_of b.src) (item_lane a d.group_of b.src) c _ (inl refl) other own
      ∙ loop-vertex d a bare declaration assignment lowest are v b loop

  before : (v w : ℕ) → v < w → IsBefore S (item_lane a d.group_of) (loops_at (kept_graph d (joined a lowest) bare) v) (loops_at (kept_graph d (joined a lowest) bare) w)
  before v w lt b c low other one two is_low is_other = omega (arith, lt, vertex v low b one is_low, vertex w other c two is_other)

  pub IsBefore-loops : AllPairs (IsBefore S (item_lane a d.group_of)) (loops (kept_graph d (joined a lowest) bare))
  IsBefore-loops =
      let n = length (kept_graph d (joined a lowest) bare) in
      let lists = map (loops_at (kept_graph d (joined a lowest) bare)) (range_with_len 0 n) in
      let at = λ (i : ℕ) (e : List WaitArc) (lt : i < n). get_or-map-range_with_len (loops_at (kept_graph d (joined a lowest) bare)) 0 n i i e lt (omega arith) in
      AllPairs-filter (IsBefore S (item_lane a d.group_of)) (λ (arcs : List WaitArc). not (length arcs == 0)) lists
      (λ i j e lt within.
      let inside : j < n = omega (arith, within, length-map-range_with_len (loops_at (kept_graph d (joined a lowest) bare)) 0 n) in
      subst (λ (l : List WaitArc). IsBefore S (item_lane a d.group_of) l (get_or lists j e)) (sym (at i e (omega (arith, lt, inside))))
      (subst (λ (l : List WaitArc). IsBefore S (item_lane a d.group_of) (loops_at (kept_graph d (joined a lowest) bare) i) l) (sym (at j e inside)) (before i j lt)))
