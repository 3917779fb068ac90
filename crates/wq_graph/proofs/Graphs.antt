-- Graphs of declarations: which arcs a vertex has, and what holds for every such graph.
use Rattle.std.proofs.Common.{◌≡◌, ℕ, ◌*◌, ◌<◌, ◌≤◌, ◌==◌, Bool, inl, inr, List, [], ◌∷◌, length, map, get_or, Some, refl, sym, ap, subst, ◌∙◌, arith}
use Rattle.std.specs.Prelude.{IsPermutation, AllPairs, Contains, slice_index, filter, flat_map, ◌↔◌}
use Rattle.std.specs.List.{All, range_with_len}
use Rattle.std.specs.List.Sorted.{IsStrictlyIncreasing}
use Rattle.std.proofs.lemmas.Bool.{cases_lt, eqb-true, eq-eqb}
use Rattle.std.proofs.lemmas.List.{get_or_past, length-append, length-map}
use Rattle.std.proofs.lemmas.List.Elements.{All-map, All-filter, All-contains, filter_passes}
use Rattle.std.proofs.lemmas.List.Folds.{flat_map-map}
use Rattle.std.proofs.lemmas.List.FromFn.{length-range_with_len, length-map-range_with_len, get_or-map-range_with_len}
use Rattle.std.proofs.lemmas.List.Kept.{AllPairs-filter, AllPairs-from_increasing}
use Rattle.std.proofs.lemmas.List.Sums.{length-filter, count_by-le-length}
use Rattle.std.proofs.lemmas.Option.{get_or_from_slice_get, slice_get-get_or}
use Rattle.wq_items.specs.declared.target.Target.{Target}
use Rattle.wq_items.specs.Table.{TargetsBelow, flush_count, places, VertexWaits}
use Rattle.wq_items.proofs.Lists.{Contains-filtered}
use Rattle.wq_items.proofs.Tables.{ItemWaits-below}
use Rattle.wq_groups.specs.Declaration.{Declaration, GroupWaits, IsDeclaration}
use Rattle.wq_groups.specs.Assignment.{Assignment, IsAssignment, group_lane, item_lanes}
use Rattle.wq_groups.proofs.Lanes.{item_lanes-within}
use Rattle.wq_graph.specs.declared.arc.WaitArc.{WaitArc}
use Rattle.wq_graph.specs.Graph.{arc_of, arcs_by_item, arcs_by_place, arcs_from, graph_of, group_graph, lane_graph, arcs_at, HasArc, IsArc, AreArcsFrom, IsGraph}
use Rattle.wq_graph.specs.Building.{arcs_leaving}
use Rattle.wq_graph.proofs.ListLemmas.{IsStrictlyIncreasing-map, AllPairs-from_map, same_from_rising}
use Rattle.wq_graph.proofs.Arcs.{IsArc-by_item, Contains-by_item, src-below, ByPlace, ByPlace-arc, ByPlace-arcs_by_place, place-below}

-- ---- the arcs of a vertex

module _ (waits : List (List Target)) (vertex_of : List ℕ) (numbered : IsPermutation (range_with_len 0 (flush_count waits)) (places waits)) where
  by_place : ByPlace waits vertex_of (arcs_by_place waits vertex_of)
  by_place = ByPlace-arcs_by_place waits vertex_of numbered

  pub IsArc-by_place : All (IsArc waits vertex_of) (arcs_by_place waits vertex_of)
  IsArc-by_place k d within =
      All-contains (IsArc waits vertex_of) (arcs_by_item waits vertex_of) (get_or (arcs_by_place waits vertex_of) k d) (IsArc-by_item waits vertex_of)
      (ByPlace-arc waits vertex_of numbered (arcs_by_place waits vertex_of) by_place k d within).0

  pub Contains-by_place : (a : WaitArc) → IsArc waits vertex_of a → Contains (arcs_by_place waits vertex_of) a
  Contains-by_place a h =
      let there = Contains-by_item waits vertex_of a h in
      (a.place, omega (arith, place-below waits vertex_of numbered a there, by_place.long), by_place.at a a there)

  rise-by_place : AllPairs (λ (a b : WaitArc). a.place < b.place) (arcs_by_place waits vertex_of)
  rise-by_place i j d lt within =
      let at = λ (k : ℕ) (inside : k < length (arcs_by_place waits vertex_of)). (ByPlace-arc waits vertex_of numbered (arcs_by_place waits vertex_of) by_place k d inside).1 in
      omega (arith, at i (omega arith), at j within)

  pub AreArcsFrom-arcs_from : (v : ℕ) → AreArcsFrom waits vertex_of v (arcs_from waits vertex_of v)
  AreArcsFrom-arcs_from v =
      let leaves : WaitArc → Bool = λ (a : WaitArc). slice_index vertex_of a.src == v in
      let arcs : List WaitArc = arcs_by_place waits vertex_of in
      record {
        declared = λ k d within. (All-filter leaves (IsArc waits vertex_of) arcs IsArc-by_place k d within, eqb-true (slice_index vertex_of (get_or (filter leaves arcs) k d).src) v (filter_passes leaves arcs k d within));
        all = λ a h leaves_v. Contains-filtered leaves arcs a (eq-eqb (slice_index vertex_of a.src) v leaves_v) (Contains-by_place a h);
        in_order =
            IsStrictlyIncreasing-map (λ (a : WaitArc). a.place) (filter leaves arcs) (record { src = 0; dst = 0; head = 0; place = 0 }) (
            AllPairs-filter (λ (a b : WaitArc). a.place < b.place) leaves arcs rise-by_place
            );
      }

pub arcs_at-graph_of : (waits : List (List Target)) (vertex_of : List ℕ) (n v : ℕ) → v < n → arcs_at (graph_of waits vertex_of n) v ≡ arcs_from waits vertex_of v
arcs_at-graph_of waits vertex_of n v lt = get_or-map-range_with_len (arcs_from waits vertex_of) 0 n v v [] lt (omega arith)

-- ---- graphs by the vertices of the items

-- flushes of items, each at a place of its own, and for each item one of this many vertices
pub record AreVertices (waits : List (List Target)) (vertex_of : List ℕ) (n : ℕ) : Type 0 where
  pub one_each : length waits ≡ length vertex_of
  pub within : All (λ v. v < n) vertex_of
  pub targets_are_items : All (TargetsBelow (length vertex_of)) waits
  pub numbered : IsPermutation (range_with_len 0 (flush_count waits)) (places waits)

module _ (waits : List (List Target)) (vertex_of : List ℕ) (n : ℕ) (are : AreVertices waits vertex_of n) where
  -- an arc leads from an item to an item
  dst-below : (a : WaitArc) → IsArc waits vertex_of a → a.dst < length vertex_of
  dst-below a arc = ItemWaits-below (length vertex_of) waits are.targets_are_items a.src a.dst (arc.declared.0, arc.declared.1, arc.declared.2, arc.declared.3, arc.declared.4.0)

  head-below : (a : WaitArc) → IsArc waits vertex_of a → a.head < n
  head-below a arc = let inside = are.within a.dst 0 (dst-below a arc) in omega (arith, inside, arc.head)

  pub IsGraph-graph_of : n ≤ 4096 → IsGraph (graph_of waits vertex_of n)
  IsGraph-graph_of few =
      let long : length (graph_of waits vertex_of n) ≡ n = length-map-range_with_len (arcs_from waits vertex_of) 0 n in
      record {
        few = omega (arith, long, few);
        heads =
            subst (λ m. All (λ (arcs : List WaitArc). All (λ (a : WaitArc). a.head < m) arcs) (graph_of waits vertex_of n)) (sym long) (
            All-map (λ (arcs : List WaitArc). All (λ (a : WaitArc). a.head < n) arcs) (arcs_from waits vertex_of) (range_with_len 0 n) (
            λ k e within m a inside. let arcs = AreArcsFrom-arcs_from waits vertex_of are.numbered (get_or (range_with_len 0 n) k e) in
            head-below (get_or (arcs_from waits vertex_of (get_or (range_with_len 0 n) k e)) m a) (arcs.declared m a inside).0
            )
            );
        places_rise =
            All-map (λ (arcs : List WaitArc). IsStrictlyIncreasing (map (λ (a : WaitArc). a.place) arcs)) (arcs_from waits vertex_of) (range_with_len 0 n) (
            λ k e within. (AreArcsFrom-arcs_from waits vertex_of are.numbered (get_or (range_with_len 0 n) k e)).in_order
            );
      }

  -- the arcs of any number, also past the last vertex
  pub AreArcsFrom-graph_of : (v : ℕ) → AreArcsFrom waits vertex_of v (arcs_at (graph_of waits vertex_of n) v)
  AreArcsFrom-graph_of v = elim (cases_lt v n) [
    | inl vertex ↦ subst (AreArcsFrom waits vertex_of v) (sym (arcs_at-graph_of waits vertex_of n v vertex)) (AreArcsFrom-arcs_from waits vertex_of are.numbered v)
    | inr past ↦
        subst (AreArcsFrom waits vertex_of v) (sym (get_or_past (graph_of waits vertex_of n) v [] (omega (arith, length-map-range_with_len (arcs_from waits vertex_of) 0 n)))) (
        record {
          declared = λ k e within. absurd (omega (arith, within));
          all = λ a arc leaves. let inside = are.within a.src 0 (omega (arith, src-below waits vertex_of a arc, are.one_each)) in absurd (omega (arith, inside, leaves));
          in_order = λ k within. absurd (omega (arith, within));
        }
        )
  ]

  arc_from_wait : (v w : ℕ) → VertexWaits waits vertex_of v w → HasArc (graph_of waits vertex_of n) v w
  arc_from_wait v w g =
      let t = g.declares.1 in
      let a : WaitArc = arc_of vertex_of g.item t in
      let target : t.item ≡ g.target = g.declares.4 in
      let arc : IsArc waits vertex_of a = record { declared = (g.declares.0, t, g.declares.2, g.declares.3, (refl, refl)); head = refl } in
      let there = (AreArcsFrom-graph_of v).all a arc (get_or_from_slice_get vertex_of g.item v 0 g.of_item) in
      (there.0, a, there.1, there.2, ap (slice_index vertex_of) target ∙ get_or_from_slice_get vertex_of g.target w 0 g.of_target)

  wait_from_arc : (v w : ℕ) → HasArc (graph_of waits vertex_of n) v w → VertexWaits waits vertex_of v w
  wait_from_arc v w has =
      let a = has.1 in
      let arcs = arcs_at (graph_of waits vertex_of n) v in
      let own = All-contains (λ (b : WaitArc). IsArc waits vertex_of b × (slice_index vertex_of b.src ≡ v)) arcs a (AreArcsFrom-graph_of v).declared (has.0, has.2, has.3) in
      let arc : IsArc waits vertex_of a = own.0 in
      record {
        item = a.src;
        target = a.dst;
        declares = (arc.declared.0, arc.declared.1, arc.declared.2, arc.declared.3, arc.declared.4.0);
        of_item = slice_get-get_or vertex_of a.src 0 (omega (arith, src-below waits vertex_of a arc, are.one_each)) ∙ ap (λ (g : ℕ). Some g) own.1;
        of_target = slice_get-get_or vertex_of a.dst 0 (dst-below a arc) ∙ ap (λ (g : ℕ). Some g) (sym arc.head ∙ has.4);
      }

  -- a vertex waits for a vertex exactly if an arc leads from the first to the second
  pub VertexWaits-HasArc : (v w : ℕ) → VertexWaits waits vertex_of v w ↔ HasArc (graph_of waits vertex_of n) v w
  VertexWaits-HasArc v w = (arc_from_wait v w, wait_from_arc v w)

-- ---- graphs of groups

module _ (d : Declaration) (h : IsDeclaration d) where
  AreVertices-groups : AreVertices d.waits d.group_of d.groups
  AreVertices-groups = record {
    one_each = h.one_list_each;
    within = h.partition.within;
    targets_are_items = h.targets_are_items;
    numbered = h.places_are_numbered;
  }

  pub IsGraph-group_graph : IsGraph (group_graph d)
  IsGraph-group_graph = IsGraph-graph_of d.waits d.group_of d.groups AreVertices-groups (omega (arith, h.partition.few_groups, h.partition.few_items))

  pub AreArcsFrom-group_graph : (v : ℕ) → AreArcsFrom d.waits d.group_of v (arcs_at (group_graph d) v)
  AreArcsFrom-group_graph v = AreArcsFrom-graph_of d.waits d.group_of d.groups AreVertices-groups v

  -- a group waits for a group exactly if an arc leads from the first to the second
  pub GroupWaits-HasArc : (v w : ℕ) → GroupWaits d v w ↔ HasArc (group_graph d) v w
  GroupWaits-HasArc v w = VertexWaits-HasArc d.waits d.group_of d.groups AreVertices-groups v w

-- ---- graphs of lanes

module _ (d : Declaration) (a : Assignment) (h : IsDeclaration d) (assignment : IsAssignment d.groups a) where
  AreVertices-lanes : AreVertices d.waits (item_lanes a d.group_of) a.lanes
  AreVertices-lanes =
      let long : length (item_lanes a d.group_of) ≡ length d.group_of = length-map d.group_of (group_lane a) in
      record {
        one_each = h.one_list_each ∙ sym long;
        within = item_lanes-within d.group_of d.groups a h.partition.within assignment;
        targets_are_items = subst (λ n. All (TargetsBelow n) d.waits) (sym long) h.targets_are_items;
        numbered = h.places_are_numbered;
      }

  pub IsGraph-lane_graph : a.lanes ≤ 4096 → IsGraph (lane_graph d a)
  IsGraph-lane_graph few = IsGraph-graph_of d.waits (item_lanes a d.group_of) a.lanes AreVertices-lanes few

  pub AreArcsFrom-lane_graph : (q : ℕ) → AreArcsFrom d.waits (item_lanes a d.group_of) q (arcs_at (lane_graph d a) q)
  AreArcsFrom-lane_graph q = AreArcsFrom-graph_of d.waits (item_lanes a d.group_of) a.lanes AreVertices-lanes q

  -- a lane waits for a lane exactly if an arc leads from the first to the second
  pub VertexWaits-lane_graph : (p q : ℕ) → VertexWaits d.waits (item_lanes a d.group_of) p q ↔ HasArc (lane_graph d a) p q
  VertexWaits-lane_graph p q = VertexWaits-HasArc d.waits (item_lanes a d.group_of) a.lanes AreVertices-lanes p q

-- what making a graph asks of the arcs that it spreads: each leaves an item with a vertex
pub src-by_place : (waits : List (List Target)) (vertex_of : List ℕ) (arcs : List WaitArc) (n : ℕ) → IsPermutation (range_with_len 0 (flush_count waits)) (places waits) → arcs ≡ arcs_by_place waits vertex_of → length waits ≡ n
    → All (λ (a : WaitArc). a.src < n) arcs
src-by_place waits vertex_of arcs n numbered is long =
    subst (All (λ (a : WaitArc). a.src < n)) (sym is) (
    λ k d within. let item = src-below waits vertex_of (get_or (arcs_by_place waits vertex_of) k d) (IsArc-by_place waits vertex_of numbered k d within) in omega (arith, item, long)
    )

-- the arcs of at most 4,096 vertices, at most 16,384 of each, can be told apart by numbers below 2^32
few_joined : {X Y : Type 0} (f : X → List Y) → ((x : X) → length (f x) ≤ 16384) → (xs : List X) → length (flat_map f xs) ≤ 16384 * length xs
few_joined f each [] = omega arith
few_joined f each (x ∷ xs) = omega (arith, length-append (f x) (flat_map f xs), each x, few_joined f each xs)

pub few_arcs : (vertex_of : List ℕ) (arcs : List WaitArc) (n : ℕ) → length arcs ≤ 16384 → n ≤ 4096
    → length (flat_map (λ (l : List WaitArc). l) (map (arcs_leaving vertex_of arcs) (range_with_len 0 n))) < 4294967296
few_arcs vertex_of arcs n few few_vertices =
    let of : ℕ → List WaitArc = arcs_leaving vertex_of arcs in
    let each : (v : ℕ) → length (of v) ≤ 16384 = λ v. (let leaves : WaitArc → Bool = λ (a : WaitArc). slice_index vertex_of a.src == v in
    omega (arith, length-filter leaves arcs, count_by-le-length leaves arcs, few)) in
    let joined : length (flat_map (λ (l : List WaitArc). l) (map of (range_with_len 0 n))) ≡ length
    (flat_map of (range_with_len 0 n)) =
    ap length (flat_map-map (λ (l : List WaitArc). l) of (range_with_len 0 n)) in
    omega (arith, joined, few_joined of each (range_with_len 0 n), length-range_with_len 0 n, few_vertices)

-- ---- no other arcs

-- the arcs of a vertex rise by place
rise-AreArcsFrom : (waits : List (List Target)) (vertex_of : List ℕ) (v : ℕ) (arcs : List WaitArc) → AreArcsFrom waits vertex_of v arcs → AllPairs (λ (a b : WaitArc). a.place < b.place) arcs
rise-AreArcsFrom waits vertex_of v arcs h =
    AllPairs-from_map (λ (m n : ℕ). m < n) (λ (a : WaitArc). a.place) arcs (AllPairs-from_increasing (map (λ (a : WaitArc). a.place) arcs) h.in_order)

pub same_from_AreArcsFrom : (waits : List (List Target)) (vertex_of : List ℕ) (v : ℕ) (arcs others : List WaitArc) → AreArcsFrom waits vertex_of v arcs → AreArcsFrom waits vertex_of v others → arcs ≡ others
same_from_AreArcsFrom waits vertex_of v arcs others h k =
    same_from_rising (λ (a : WaitArc). a.place) arcs others (rise-AreArcsFrom waits vertex_of v arcs h) (rise-AreArcsFrom waits vertex_of v others k)
    (λ i d within. let one = h.declared i d within in k.all (get_or arcs i d) one.0 one.1)
    (λ i d within. let one = k.declared i d within in h.all (get_or others i d) one.0 one.1)
