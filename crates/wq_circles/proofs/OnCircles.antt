-- Which flushes are in a component: those whose target's workqueue leads back to their item's.
use Rattle.std.proofs.Common.{◌≡◌, ◌≢◌, ℕ, ◌<◌, ◌==◌, not, Bool, true, inl, inr, List, [], ◌∷◌, length, map, get_or, refl, sym, ap, subst, ◌∙◌, arith}
use Rattle.std.specs.Prelude.{Contains, slice_index}
use Rattle.std.specs.List.{All, range_with_len}
use Rattle.std.proofs.lemmas.Bool.{eqb-true, eq-eqb, ne_eqb}
use Rattle.std.proofs.lemmas.List.{get_or-map}
use Rattle.std.proofs.lemmas.List.Elements.{All-filter, All-map, All-contains, filter_passes}
use Rattle.wq_items.specs.Chain.{IsChain}
use Rattle.wq_items.proofs.Lists.{Contains-filtered, Contains-range_with_len}
use Rattle.wq_groups.specs.Declaration.{Declaration, IsDeclaration}
use Rattle.wq_groups.specs.Assignment.{Assignment, IsAssignment, item_lane, item_lanes}
use Rattle.wq_groups.proofs.Lanes.{item_lanes-at}
use Rattle.wq_graph.specs.declared.arc.WaitArc.{WaitArc}
use Rattle.wq_graph.specs.Graph.{HasArc, arcs_at, IsArc}
use Rattle.wq_circles.proofs.KeptLanes.{IsKept, AreArcsFrom-kept, Leads-first, Leads-last, IsKept-together, IsKept-back}
use Rattle.wq_graph.proofs.ListLemmas.{Contains-map}
use Rattle.wq_circles.specs.Leading.{Leads, AreTogether, AreLowest}
use Rattle.wq_circles.proofs.Leading.{Leads-arc, IsLowest-same, AreTogether-lowest}
use Rattle.wq_circles.specs.Components.{joined, kept_graph, loops_at, loops}
use Rattle.wq_circles.specs.Flushes.{IsSameFlush, HasFlush, IsInComponents, AreInOneComponent, IsDeclaredFlush}
use Rattle.wq_circles.proofs.Joined.{AreLowest-within, IsAssignment-joined}
use Rattle.wq_circles.proofs.Loops.{IsArc-items, size}

-- ---- one relation for another

module _ (R S : ℕ → ℕ → Type 0) (keeps : (v w : ℕ) → R v w → S v w) where
  IsChain-keeps : (vs : List ℕ) → IsChain R vs → IsChain S vs
  IsChain-keeps [] chain = tt
  IsChain-keeps (v ∷ []) chain = tt
  IsChain-keeps (v ∷ w ∷ ws) chain = (keeps v w chain.0, IsChain-keeps (w ∷ ws) chain.1)

  pub Leads-keeps : (v w : ℕ) → Leads R v w → Leads S v w
  Leads-keeps v w leads = record { others = leads.others; some = leads.some; chain = IsChain-keeps (v ∷ leads.others) leads.chain; ends = leads.ends }

  pub AreTogether-keeps : (v w : ℕ) → AreTogether R v w → AreTogether S v w
  AreTogether-keeps v w (inl same) = inl same
  AreTogether-keeps v w (inr both) = inr (Leads-keeps v w both.0, Leads-keeps w v both.1)

-- ---- loops

not_nil : (arcs : List WaitArc) → not (length arcs == 0) ≡ true → arcs ≢ []
not_nil [] full = absurd cc
not_nil (b ∷ bs) full = λ same. (let bad : b ∷ bs ≡ [] = same in absurd cc)

-- no list of loops is empty
pub not_nil-loops : (graph : List (List WaitArc)) → All (λ (arcs : List WaitArc). arcs ≢ []) (loops graph)
not_nil-loops graph k e within = not_nil _ (filter_passes (λ (arcs : List WaitArc). not (length arcs == 0)) (map (loops_at graph) (range_with_len 0 (length graph))) k e within)

module _ (d : Declaration) (a : Assignment) (bare : List Bool) (declaration : IsDeclaration d) (assignment : IsAssignment d.groups a) where
  -- an arc that leads to the lane of its own item
  pub record IsLoop (v : ℕ) (b : WaitArc) : Type 0 where
    pub arc : IsArc d.waits (item_lanes a d.group_of) b
    pub leaves : slice_index (item_lanes a d.group_of) b.src ≡ v
    pub comes_back : slice_index (item_lanes a d.group_of) b.dst ≡ v
    pub kept : IsKept bare v

  pub IsLoop-loops_at : (v : ℕ) → All (IsLoop v) (loops_at (kept_graph d a bare) v)
  IsLoop-loops_at v k e within =
      let arcs = arcs_at (kept_graph d a bare) v in
      let own = All-filter (λ (b : WaitArc). b.head == v) (λ (b : WaitArc). IsArc d.waits (item_lanes a d.group_of) b × (slice_index (item_lanes a d.group_of) b.src ≡ v)) arcs
      (AreArcsFrom-kept d a bare declaration assignment v).declared k e within in
      let head = eqb-true (get_or (loops_at (kept_graph d a bare) v) k e).head v (filter_passes (λ (b : WaitArc). b.head == v) arcs k e within) in
      let kept = All-filter (λ (b : WaitArc). b.head == v) (λ (b : WaitArc). IsKept bare v × IsKept bare b.head) arcs (AreArcsFrom-kept d a bare declaration assignment v).kept k e within in
      record { arc = own.0; leaves = own.1; comes_back = sym own.0.head ∙ head; kept = kept.0 }

  -- the loops of a vertex
  pub record AreLoops (arcs : List WaitArc) : Type 0 where
    pub vertex : ℕ
    pub are : arcs ≡ loops_at (kept_graph d a bare) vertex

  pub AreLoops-loops : All AreLoops (loops (kept_graph d a bare))
  AreLoops-loops k e within =
      let n = length (kept_graph d a bare) in
      let test : List WaitArc → Bool = λ (arcs : List WaitArc). not (length arcs == 0) in
      let lists = map (loops_at (kept_graph d a bare)) (range_with_len 0 n) in
      let found = All-filter test (λ (arcs : List WaitArc). (v : ℕ) × (arcs ≡ loops_at (kept_graph d a bare) v)) lists
      (All-map (λ (arcs : List WaitArc). (v : ℕ) × (arcs ≡ loops_at (kept_graph d a bare) v)) (loops_at (kept_graph d a bare)) (range_with_len 0 n) (λ i f inside. (get_or (range_with_len 0 n) i f, refl))) k e within in
      record { vertex = found.0; are = found.1 }

  -- each loop is among them
  pub Contains-loops : (v : ℕ) (b : WaitArc) → v < a.lanes → IsLoop v b → Contains (loops (kept_graph d a bare)) (loops_at (kept_graph d a bare) v) × Contains (loops_at (kept_graph d a bare) v) b
  Contains-loops v b lane loop =
      let n = length (kept_graph d a bare) in
      let test : List WaitArc → Bool = λ (arcs : List WaitArc). not (length arcs == 0) in
      let leaves = (AreArcsFrom-kept d a bare declaration assignment v).all b loop.arc loop.leaves loop.kept (subst (IsKept bare) (sym (loop.arc.head ∙ loop.comes_back)) loop.kept) in
      let here = Contains-filtered (λ (c : WaitArc). c.head == v) (arcs_at (kept_graph d a bare) v) b (eq-eqb b.head v (loop.arc.head ∙ loop.comes_back)) leaves in
      let full = ap not (ne_eqb (length (loops_at (kept_graph d a bare) v)) 0 (λ none. absurd (omega (arith, none, here.1)))) in (
        Contains-filtered test (map (loops_at (kept_graph d a bare)) (range_with_len 0 n)) (loops_at (kept_graph d a bare) v) full
            (Contains-map (loops_at (kept_graph d a bare)) (range_with_len 0 n) v (Contains-range_with_len n v (omega (arith, lane, size d a bare declaration assignment)))),
        here,
      )

-- ---- loops of the joined assignment

module _ (d : Declaration) (a : Assignment) (bare : List Bool) (declaration : IsDeclaration d) (assignment : IsAssignment d.groups a) (lowest : List ℕ) (are : AreLowest (HasArc (kept_graph d a bare)) a.lanes lowest) where
  pub assigned : IsAssignment d.groups (joined a lowest)
  assigned = IsAssignment-joined (HasArc (kept_graph d a bare)) d.groups a lowest are assignment

  pub lane-below : (i : ℕ) → i < length d.group_of → item_lane a d.group_of i < a.lanes
  lane-below i item =
      let group : slice_index d.group_of i < d.groups = declaration.partition.within i 0 item in
      assignment.within (slice_index d.group_of i) 0 (omega (arith, group, assignment.one_each))

  joined-lane : (i : ℕ) → i < length d.group_of → slice_index (item_lanes (joined a lowest) d.group_of) i ≡ slice_index lowest (item_lane a d.group_of i)
  joined-lane i item =
      let group : slice_index d.group_of i < d.groups = declaration.partition.within i 0 item in
      item_lanes-at (joined a lowest) d.group_of i item ∙ get_or-map (slice_index lowest) a.lane_of_group (slice_index d.group_of i) 0 0 (omega (arith, group, assignment.one_each))

  -- ---- declared flushes

  -- the arc of a flush under this assignment
  abbrev pub arc_in : Assignment → WaitArc → WaitArc
  arc_in x b = record { src = b.src; dst = b.dst; head = slice_index (item_lanes x d.group_of) b.dst; place = b.place }

  IsArc-arc_in : (x : Assignment) (b : WaitArc) → IsDeclaredFlush d.waits b → IsArc d.waits (item_lanes x d.group_of) (arc_in x b)
  IsArc-arc_in x b flush = record { declared = flush; head = refl }

  pub flush-items : (b : WaitArc) → IsDeclaredFlush d.waits b → (b.src < length d.group_of) × (b.dst < length d.group_of)
  flush-items b flush = IsArc-items d a bare declaration assignment (arc_in a b) (IsArc-arc_in a b flush)

  -- the lane of its item waits for that of its target, if neither is bare
  pub flush-waits : (b : WaitArc) → IsDeclaredFlush d.waits b → IsKept bare (item_lane a d.group_of b.src) → IsKept bare (item_lane a d.group_of b.dst) → HasArc (kept_graph d a bare) (item_lane a d.group_of b.src) (item_lane a d.group_of b.dst)
  flush-waits b flush tail head =
      let items = flush-items b flush in
      let there = (AreArcsFrom-kept d a bare declaration assignment (item_lane a d.group_of b.src)).all (arc_in a b) (IsArc-arc_in a b flush) (item_lanes-at a d.group_of b.src items.0) tail
      (subst (IsKept bare) (sym (item_lanes-at a d.group_of b.dst items.1)) head) in
      (there.0, arc_in a b, there.1, there.2, item_lanes-at a d.group_of b.dst items.1)

  -- the two lanes are joined exactly if the second leads back to the first
  back-leads : (v w : ℕ) → v < a.lanes → w < a.lanes → HasArc (kept_graph d a bare) v w → slice_index lowest v ≡ slice_index lowest w → Leads (HasArc (kept_graph d a bare)) w v
  back-leads v w first second arc same = elim (AreTogether-lowest (HasArc (kept_graph d a bare)) w v (slice_index lowest w) (slice_index lowest v) (sym same) (are.is w second) (are.is v first)) [
    | inl one ↦ subst (λ (x : ℕ). Leads (HasArc (kept_graph d a bare)) x v) (sym one) (subst (λ (x : ℕ). Leads (HasArc (kept_graph d a bare)) v x) one (Leads-arc (HasArc (kept_graph d a bare)) v w arc))
    | inr both ↦ both.0
  ]

  leads-back : (v w : ℕ) → v < a.lanes → w < a.lanes → HasArc (kept_graph d a bare) v w → Leads (HasArc (kept_graph d a bare)) w v → slice_index lowest v ≡ slice_index lowest w
  leads-back v w first second arc leads =
      IsLowest-same (HasArc (kept_graph d a bare)) v w (slice_index lowest v) (slice_index lowest w) (inr (Leads-arc (HasArc (kept_graph d a bare)) v w arc, leads)) (are.is v first) (are.is w second)

  -- ---- what is in a component

  loop-flush : (v : ℕ) (b : WaitArc) → IsLoop d (joined a lowest) bare declaration assigned v b → IsDeclaredFlush d.waits b
  loop-flush v b loop = loop.arc.declared

  pub loop-vertex : (v : ℕ) (b : WaitArc) → IsLoop d (joined a lowest) bare declaration assigned v b → slice_index lowest (item_lane a d.group_of b.src) ≡ v
  loop-vertex v b loop = sym (joined-lane b.src (flush-items b loop.arc.declared).0) ∙ loop.leaves

  -- a lane is bare exactly if the one to which it is joined is bare
  kept-lane : (i : ℕ) → i < length d.group_of → IsKept bare (slice_index (item_lanes (joined a lowest) d.group_of) i) → IsKept bare (item_lane a d.group_of i)
  kept-lane i item kept =
      let lane = lane-below i item in
      IsKept-back d a bare declaration assignment (item_lane a d.group_of i) (slice_index lowest (item_lane a d.group_of i)) (are.is (item_lane a d.group_of i) lane).together (subst (IsKept bare) (joined-lane i item) kept)

  lane-kept : (i : ℕ) → i < length d.group_of → IsKept bare (item_lane a d.group_of i) → IsKept bare (slice_index lowest (item_lane a d.group_of i))
  lane-kept i item kept =
      let lane = lane-below i item in
      IsKept-together d a bare declaration assignment (item_lane a d.group_of i) (slice_index lowest (item_lane a d.group_of i)) (are.is (item_lane a d.group_of i) lane).together kept

  pub loop-leads : (v : ℕ) (b : WaitArc) → IsLoop d (joined a lowest) bare declaration assigned v b
      → Leads (HasArc (kept_graph d a bare)) (item_lane a d.group_of b.dst) (item_lane a d.group_of b.src)
  loop-leads v b loop =
      let items = flush-items b loop.arc.declared in
      let tail = kept-lane b.src items.0 (subst (IsKept bare) (sym loop.leaves) loop.kept) in
      let head = kept-lane b.dst items.1 (subst (IsKept bare) (sym loop.comes_back) loop.kept) in
      back-leads (item_lane a d.group_of b.src) (item_lane a d.group_of b.dst) (lane-below b.src items.0) (lane-below b.dst items.1) (flush-waits b loop.arc.declared tail head)
      (sym (joined-lane b.src items.0) ∙ loop.leaves ∙ sym loop.comes_back ∙ joined-lane b.dst items.1)

  pub IsLoop-leads : (b : WaitArc) → IsDeclaredFlush d.waits b
      → Leads (HasArc (kept_graph d a bare)) (item_lane a d.group_of b.dst) (item_lane a d.group_of b.src)
      → IsLoop d (joined a lowest) bare declaration assigned (slice_index lowest (item_lane a d.group_of b.src)) (arc_in (joined a lowest) b)
  IsLoop-leads b flush leads =
      let items = flush-items b flush in
      let tail = Leads-last d a bare declaration assignment (item_lane a d.group_of b.dst) (item_lane a d.group_of b.src) leads in
      let head = Leads-first d a bare declaration assignment (item_lane a d.group_of b.dst) (item_lane a d.group_of b.src) leads in
      record {
        arc = IsArc-arc_in (joined a lowest) b flush;
        leaves = joined-lane b.src items.0;
        comes_back = joined-lane b.dst items.1 ∙ sym (leads-back (item_lane a d.group_of b.src) (item_lane a d.group_of b.dst) (lane-below b.src items.0) (lane-below b.dst items.1) (flush-waits b flush tail head) leads);
        kept = lane-kept b.src items.0 tail;
      }

  -- a flush that is found among the loops of a vertex
  found : (v : ℕ) (b : WaitArc) → HasFlush b (loops_at (kept_graph d (joined a lowest) bare) v) → (c : WaitArc) × IsLoop d (joined a lowest) bare declaration assigned v c × IsSameFlush c b
  found v b has =
      (has.1, All-contains (IsLoop d (joined a lowest) bare declaration assigned v) (loops_at (kept_graph d (joined a lowest) bare) v) has.1 (IsLoop-loops_at d (joined a lowest) bare declaration assigned v) (has.0, has.2, has.3), has.4)

  vertex-of : (v : ℕ) (b : WaitArc) → HasFlush b (loops_at (kept_graph d (joined a lowest) bare) v) → slice_index lowest (item_lane a d.group_of b.src) ≡ v
  vertex-of v b has =
      let f = found v b has in
      ap (λ (i : ℕ). slice_index lowest (item_lane a d.group_of i)) (sym f.2.0) ∙ loop-vertex v f.0 f.1

  src-lane : (v : ℕ) (b : WaitArc) → HasFlush b (loops_at (kept_graph d (joined a lowest) bare) v) → item_lane a d.group_of b.src < a.lanes
  src-lane v b has =
      let f = found v b has in
      subst (λ (i : ℕ). item_lane a d.group_of i < a.lanes) f.2.0 (lane-below f.0.src (flush-items f.0 f.1.arc.declared).0)

  -- the component of a flush
  component : (b : WaitArc) → IsInComponents (loops (kept_graph d (joined a lowest) bare)) b → (v : ℕ) × HasFlush b (loops_at (kept_graph d (joined a lowest) bare) v)
  component b is =
      let l = All-contains (AreLoops d (joined a lowest) bare declaration assigned) (loops (kept_graph d (joined a lowest) bare)) is.1 (AreLoops-loops d (joined a lowest) bare declaration assigned) (is.0, is.2, is.3) in
      (l.vertex, subst (HasFlush b) l.are is.4)

  pub Leads-component : (b : WaitArc) → IsInComponents (loops (kept_graph d (joined a lowest) bare)) b → Leads (HasArc (kept_graph d a bare)) (item_lane a d.group_of b.dst) (item_lane a d.group_of b.src)
  Leads-component b is =
      let at = component b is in
      let f = found at.0 b at.1 in
      subst (λ (i : ℕ). Leads (HasArc (kept_graph d a bare)) (item_lane a d.group_of i) (item_lane a d.group_of b.src)) f.2.1
      (subst (λ (i : ℕ). Leads (HasArc (kept_graph d a bare)) (item_lane a d.group_of f.0.dst) (item_lane a d.group_of i)) f.2.0 (loop-leads at.0 f.0 f.1))

  pub IsInComponents-leads : (b : WaitArc) → IsDeclaredFlush d.waits b → Leads (HasArc (kept_graph d a bare)) (item_lane a d.group_of b.dst) (item_lane a d.group_of b.src)
      → IsInComponents (loops (kept_graph d (joined a lowest) bare)) b
  IsInComponents-leads b flush leads =
      let v = slice_index lowest (item_lane a d.group_of b.src) in
      let lane : v < a.lanes = AreLowest-within (HasArc (kept_graph d a bare)) a.lanes lowest are (item_lane a d.group_of b.src) 0 (omega (arith, lane-below b.src (flush-items b flush).0, are.one_each)) in
      let there = Contains-loops d (joined a lowest) bare declaration assigned v (arc_in (joined a lowest) b) lane (IsLoop-leads b flush leads) in
      let c = arc_in (joined a lowest) b in
      (there.0.0, loops_at (kept_graph d (joined a lowest) bare) v, there.0.1, there.0.2, (there.1.0, c, there.1.1, there.1.2, (refl, refl, refl)))

  pub IsDeclaredFlush-components : All (All (IsDeclaredFlush d.waits)) (loops (kept_graph d (joined a lowest) bare))
  IsDeclaredFlush-components k e within =
      let l = AreLoops-loops d (joined a lowest) bare declaration assigned k e within in
      subst (All (IsDeclaredFlush d.waits)) (sym l.are) (λ m f inside. (IsLoop-loops_at d (joined a lowest) bare declaration assigned l.vertex m f inside).arc.declared)

  -- ---- what is in one component

  pub AreTogether-component : (b c : WaitArc) → AreInOneComponent (loops (kept_graph d (joined a lowest) bare)) b c → AreTogether (HasArc (kept_graph d a bare)) (item_lane a d.group_of b.src) (item_lane a d.group_of c.src)
  AreTogether-component b c is =
      let l = All-contains (AreLoops d (joined a lowest) bare declaration assigned) (loops (kept_graph d (joined a lowest) bare)) is.1 (AreLoops-loops d (joined a lowest) bare declaration assigned) (is.0, is.2, is.3) in
      let one = subst (HasFlush b) l.are is.4.0 in
      let other = subst (HasFlush c) l.are is.4.1 in
      AreTogether-lowest (HasArc (kept_graph d a bare)) (item_lane a d.group_of b.src) (item_lane a d.group_of c.src) _ _ (vertex-of l.vertex b one ∙ sym (vertex-of l.vertex c other))
      (are.is (item_lane a d.group_of b.src) (src-lane l.vertex b one)) (are.is (item_lane a d.group_of c.src) (src-lane l.vertex c other))

  pub AreInOneComponent-together : (b c : WaitArc) → IsInComponents (loops (kept_graph d (joined a lowest) bare)) b → IsInComponents (loops (kept_graph d (joined a lowest) bare)) c
      → AreTogether (HasArc (kept_graph d a bare)) (item_lane a d.group_of b.src) (item_lane a d.group_of c.src) → AreInOneComponent (loops (kept_graph d (joined a lowest) bare)) b c
  AreInOneComponent-together b c one other together =
      let graph = kept_graph d (joined a lowest) bare in
      let l = All-contains (AreLoops d (joined a lowest) bare declaration assigned) (loops graph) one.1 (AreLoops-loops d (joined a lowest) bare declaration assigned) (one.0, one.2, one.3) in
      let m = All-contains (AreLoops d (joined a lowest) bare declaration assigned) (loops graph) other.1 (AreLoops-loops d (joined a lowest) bare declaration assigned) (other.0, other.2, other.3) in
      let first = subst (HasFlush b) l.are one.4 in
      let second = subst (HasFlush c) m.are other.4 in
      let same : m.vertex ≡ l.vertex =
      sym (vertex-of m.vertex c second)
      ∙ sym (IsLowest-same (HasArc (kept_graph d a bare)) (item_lane a d.group_of b.src) (item_lane a d.group_of c.src) _ _ together (are.is _ (src-lane l.vertex b first)) (are.is _ (src-lane m.vertex c second)))
      ∙ vertex-of l.vertex b first in
      (one.0, one.1, one.2, one.3, (one.4, subst (HasFlush c) (ap (loops_at graph) same ∙ sym l.are) second))
