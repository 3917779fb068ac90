-- Lines of a drawing, counted: the lines of items, and the arrows.
use Rattle.std.proofs.Common.{◌≡◌, ℕ, ◌+◌, ◌<◌, ◌==◌, Bool, false, cond, inl, inr, List, [], ◌∷◌, ◌++◌, length, map, get_or, refl, sym, ap, ◌∙◌, arith}
use Rattle.std.specs.Prelude.{bytes_eq, codes, decimal, flat_map, slice_index, slice_index_or}
use Rattle.std.specs.List.{All, count_by, sum_by, range_with_len}
use Rattle.std.proofs.Math.Bool.{or-false}
use Rattle.std.proofs.lemmas.Bool.{cases_Bool, cases_eq, cases_lt, eq-eqb, ne_eqb}
use Rattle.std.proofs.lemmas.List.{append_cancel_right, length-map, get_or-map, map-id}
use Rattle.std.proofs.lemmas.List.FromFn.{fill_by_all}
use Rattle.std.proofs.lemmas.List.Sums.{sum_by-cons, sum_by-append}
use Rattle.wq_items.specs.Table.{Table, IsTable, items_at, flush_count}
use Rattle.wq_items.proofs.Lists.{range_with_len-below}
use Rattle.wq_groups.specs.Partition.{Partition, IsPartition}
use Rattle.wq_groups.specs.Assignment.{Assignment, IsAssignment, group_lane}
use Rattle.wq_groups.proofs.Among.{bytes_eq-same, same_name}
use Rattle.wq_graph.specs.declared.arc.WaitArc.{WaitArc}
use Rattle.wq_graph.specs.Graph.{arcs_by_place}
use Rattle.wq_graph.proofs.Arcs.{ByPlace-arc, ByPlace-arcs_by_place}
use Rattle.wq_core.specs.Workqueues.{Workqueues}
use Rattle.wq_dot.specs.declared.look.FlushLook.{FlushLook}
use Rattle.wq_cert.specs.PlanText.{name_of}
use Rattle.wq_dot.specs.Labels.{is_shared}
use Rattle.wq_dot.specs.Drawing.{head_lines, single_line, member_line, group_lines, frame_line, workqueue_box_lines, groups_on, flush_line, drawing_lines}
use Rattle.wq_dot.specs.Laws.{is_line_of, is_arrow}
use Rattle.wq_dot.proofs.Sums.{sum_by-map, sum_by-flat_map, sum_by-same, sum_by-zero, sum_by-parts, spot}

-- ---- numbers from 0 on

All-range : (P : ℕ → Type 0) (n : ℕ) → ((k : ℕ) → k < n → P k) → All P (range_with_len 0 n)
All-range P n each k d within = each (get_or (range_with_len 0 n) k d) (range_with_len-below n k d within)

sum_by-each : {X : Type 0} (v w : X → ℕ) (xs : List X) → ((x : X) → v x ≡ w x) → sum_by v xs ≡ sum_by w xs
sum_by-each v w xs same = sum_by-same v w xs (λ k d within. same (get_or xs k d))

sum_by-ones : {X : Type 0} (xs : List X) → sum_by (λ (x : X). 1) xs ≡ length xs
sum_by-ones [] = refl
sum_by-ones (x ∷ xs) = omega (arith, sum_by-cons (λ y. 1) x xs, sum_by-ones xs)

-- what passes a test counts one
abbrev one_if : Bool → ℕ
one_if b = cond b 1 0

-- ---- a test of lines that stands for a test of items: of the lines of a workqueue, exactly the lines of items that
-- pass the other test pass it

record TellsItems (p : List ℕ → Bool) (names : List (List ℕ)) (s : ℕ → Bool) : Type 0 where
  single : (j : ℕ) → p (single_line names j) ≡ s j
  member : (j : ℕ) → p (member_line names j) ≡ s j
  ordered_first : (name : List ℕ) → p (codes "    subgraph \"cluster ordered " ++ name ++ codes "\" {") ≡ false
  ordered_second : (name : List ℕ) → p (codes "      graph [label=\"\", style=dashed, color=black]; \"ordered " ++ name ++ codes "\" [label=\"ordered\", shape=plaintext, style=\"\"];") ≡ false
  ordered_last : p (codes "    }") ≡ false
  first : (digits : List ℕ) → p (codes "  subgraph \"cluster wq " ++ digits ++ codes "\" {") ≡ false
  second : (name : List ℕ) (shared bare : Bool) (q : ℕ) → p (frame_line name shared bare q) ≡ false
  last : p (codes "  }") ≡ false

module _ (p : List ℕ → Bool) (names : List (List ℕ)) (s : ℕ → Bool) (h : TellsItems p names s) where
  -- what a line counts
  abbrev w : List ℕ → ℕ
  w line = one_if (p line)

  none : (line : List ℕ) → p line ≡ false → w line ≡ 0
  none line e = ap one_if e

  -- a box: neither its first two lines nor its last one count
  count-box : (first second last : List ℕ) (lines : List (List ℕ)) → p first ≡ false → p second ≡ false → p last ≡ false → count_by p (first ∷ second ∷ (lines ++ (last ∷ []))) ≡ count_by p lines
  count-box first second last lines e f g =
      omega (
        arith,
        sum_by-cons w first (second ∷ (lines ++ (last ∷ []))),
        sum_by-cons w second (lines ++ (last ∷ [])),
        sum_by-append w lines (last ∷ []),
        sum_by-cons w last [],
        none first e,
        none second f,
        none last g,
      )

  count-members : (members : List ℕ) → count_by p (map (member_line names) members) ≡ count_by s members
  count-members members = sum_by-map w (member_line names) members ∙ sum_by-each (λ j. w (member_line names j)) (λ j. one_if (s j)) members (λ j. ap one_if (h.member j))

  count-group : (members : List ℕ) → count_by p (group_lines names members) ≡ count_by s members
  count-group [] = refl
  count-group (i ∷ []) = ap (λ (b : Bool). 0 + one_if b) (h.single i)
  count-group (i ∷ j ∷ ks) =
      count-box (codes "    subgraph \"cluster ordered " ++ name_of names i ++ codes "\" {") (codes "      graph [label=\"\", style=dashed, color=black]; \"ordered " ++ name_of names i ++ codes "\" [label=\"ordered\", shape=plaintext, style=\"\"];") (codes "    }") (map (member_line names) (i ∷ j ∷ ks))
      (h.ordered_first (name_of names i)) (h.ordered_second (name_of names i)) h.ordered_last
      ∙ count-members (i ∷ j ∷ ks)

  module _ (group_of : List ℕ) where
    -- what a group counts
    abbrev of_group : ℕ → ℕ
    of_group k = count_by s (items_at group_of k)

    count-groups : (own : List ℕ) → count_by p (flat_map (λ k. group_lines names (items_at group_of k)) own) ≡ sum_by of_group own
    count-groups own =
        sum_by-flat_map w (λ k. group_lines names (items_at group_of k)) own
        ∙ sum_by-each (λ k. count_by p (group_lines names (items_at group_of k))) of_group own (λ k. count-group (items_at group_of k))

    count-workqueue : (ws : Workqueues) (called : List (List ℕ)) (q : ℕ) → count_by p (workqueue_box_lines names group_of ws called q) ≡ sum_by of_group (groups_on ws.assignment q)
    count-workqueue ws called q =
        let own = groups_on ws.assignment q in
        let bare = slice_index_or ws.bare q false in
        let name : List ℕ = slice_index_or called q [] in
        let shared : Bool = is_shared called name in
        count-box (codes "  subgraph \"cluster wq " ++ decimal q ++ codes "\" {") (frame_line name shared bare q) (codes "  }")
        (flat_map (λ k. group_lines names (items_at group_of k)) own) (h.first (decimal q)) (h.second name shared bare q) h.last
        ∙ count-groups own

  -- each item is in one group, and each group on one workqueue
  count-workqueues : (r : Partition) (ws : Workqueues) (called : List (List ℕ)) → IsPartition r → IsAssignment r.groups ws.assignment → count_by p (flat_map (workqueue_box_lines names r.group_of ws called) (range_with_len 0 ws.assignment.lanes)) ≡ count_by s (range_with_len 0 (length r.group_of))
  count-workqueues r ws called partition assigned =
      let a : Assignment = ws.assignment in
      let items : List ℕ = range_with_len 0 (length r.group_of) in
      let groups : List ℕ = range_with_len 0 (length a.lane_of_group) in
      let on_lane : All (λ k. group_lane a k < a.lanes) groups = All-range (λ k. group_lane a k < a.lanes) (length a.lane_of_group) (λ k below. assigned.within k 0 below) in
      let in_group : All (λ i. slice_index r.group_of i < r.groups) items = All-range (λ i. slice_index r.group_of i < r.groups) (length r.group_of) (λ i below. partition.within i 0 below) in
      sum_by-flat_map w (workqueue_box_lines names r.group_of ws called) (range_with_len 0 a.lanes)
      ∙ sum_by-each (λ q. count_by p (workqueue_box_lines names r.group_of ws called q)) (λ q. sum_by (of_group r.group_of) (groups_on a q)) (range_with_len 0 a.lanes) (count-workqueue r.group_of ws called)
      ∙ sum_by-parts (of_group r.group_of) (group_lane a) a.lanes groups on_lane
      ∙ ap (λ (n : ℕ). sum_by (of_group r.group_of) (range_with_len 0 n)) assigned.one_each
      ∙ sum_by-parts (λ i. one_if (s i)) (λ i. slice_index r.group_of i) r.groups items in_group

-- the parts of a drawing
count-drawing : (p : List ℕ → Bool) (t : Table) (r : Partition) (ws : Workqueues) (called : List (List ℕ)) (title : List ℕ) (looks : List FlushLook) (comments : List (List ℕ)) → count_by p (head_lines title) ≡ 0 → p (codes "}") ≡ false
    → count_by p (drawing_lines t r ws called title looks comments)
    ≡ count_by p (flat_map (workqueue_box_lines t.names r.group_of ws called) (range_with_len 0 ws.assignment.lanes)) + count_by p (map (flush_line t.names t.waits looks comments) (arcs_by_place t.waits r.group_of))
count-drawing p t r ws called title looks comments head end =
    let w : List ℕ → ℕ = λ line. one_if (p line) in
    let workqueues : List (List ℕ) = flat_map (workqueue_box_lines t.names r.group_of ws called) (range_with_len 0 ws.assignment.lanes) in
    let arrows : List (List ℕ) = map (flush_line t.names t.waits looks comments) (arcs_by_place t.waits r.group_of) in
    let none : w (codes "}") ≡ 0 = ap one_if end in
    omega (
      arith,
      head,
      sum_by-append w (head_lines title ++ workqueues ++ arrows) (codes "}" ∷ []),
      sum_by-append w (head_lines title ++ workqueues) arrows,
      sum_by-append w (head_lines title) workqueues,
      sum_by-cons w (codes "}") [],
      none,
    )

-- ---- the line of an item

-- whether two items have one name
abbrev named_as : List (List ℕ) → ℕ → ℕ → Bool
named_as names i j = bytes_eq (name_of names i ++ codes "\";") (name_of names j ++ codes "\";")

TellsItems-line : (names : List (List ℕ)) (i : ℕ) → TellsItems (is_line_of names i) names (named_as names i)
TellsItems-line names i = record {
  single = λ j. or-false (named_as names i j);
  member = λ j. refl;
  ordered_first = λ name. refl;
  ordered_second = λ name. refl;
  ordered_last = refl;
  first = λ digits. refl;
  second = λ name shared bare q. refl;
  last = refl;
}

-- items with one name are one
named_as-is : (t : Table) → IsTable t → (i j : ℕ) → i < length t.names → j < length t.names → named_as t.names i j ≡ (i == j)
named_as-is t table i j item other =
    elim (cases_eq i j) [
      | inl same ↦ bytes_eq-same _ _ (ap (λ (k : ℕ). name_of t.names k ++ codes "\";") same) ∙ sym (eq-eqb i j same)
      | inr apart ↦ elim (cases_Bool (named_as t.names i j)) [
        | inl passes ↦
            let one : name_of t.names i ≡ name_of t.names j = append_cancel_right (name_of t.names i) (name_of t.names j) (codes "\";") (same_name _ _ passes) in
            absurd (elim (cases_lt i j) [
              | inl before ↦ table.distinct i j [] before other one
              | inr rest ↦ table.distinct j i [] (omega (arith, rest, apart)) item (sym one)
            ])
        | inr fails ↦ fails ∙ sym (ne_eqb i j apart)
      ]
    ]

pub one_line_each : (t : Table) (r : Partition) (ws : Workqueues) (called : List (List ℕ)) (title : List ℕ) (looks : List FlushLook) (comments : List (List ℕ)) (i : ℕ) → IsTable t → IsPartition r → length r.group_of ≡ length t.names → IsAssignment r.groups ws.assignment → i < length t.names
    → count_by (is_line_of t.names i) (drawing_lines t r ws called title looks comments) ≡ 1
one_line_each t r ws called title looks comments i table partition long assigned item =
    let p : List ℕ → Bool = is_line_of t.names i in
    let arcs : List WaitArc = arcs_by_place t.waits r.group_of in
    let arrows : count_by p (map (flush_line t.names t.waits looks comments) arcs) ≡ 0 = sum_by-map (λ line. one_if (p line)) (flush_line t.names t.waits looks comments) arcs ∙ sum_by-zero arcs in
    let items : count_by (named_as t.names i) (range_with_len 0 (length r.group_of)) ≡ 1 =
    sum_by-same (λ j. one_if (named_as t.names i j)) (λ j. one_if (i == j)) (range_with_len 0 (length r.group_of)) (
    All-range (λ j. one_if (named_as t.names i j) ≡ one_if (i == j)) (length r.group_of) (λ j below. ap one_if (named_as-is t table i j item (omega (arith, below, long))))
    )
    ∙ spot 1 i (length r.group_of) (omega (arith, item, long)) in
    omega (arith, count-drawing p t r ws called title looks comments refl refl, count-workqueues p t.names (named_as t.names i) (TellsItems-line t.names i) r ws called partition assigned, items, arrows)

-- ---- the arrow of a flush

TellsItems-arrow : (names : List (List ℕ)) → TellsItems is_arrow names (λ j. false)
TellsItems-arrow names = record {
  single = λ j. refl;
  member = λ j. refl;
  ordered_first = λ name. refl;
  ordered_second = λ name. refl;
  ordered_last = refl;
  first = λ digits. refl;
  second = λ name shared bare q. refl;
  last = refl;
}

pub one_arrow_each : (t : Table) (r : Partition) (ws : Workqueues) (called : List (List ℕ)) (title : List ℕ) (looks : List FlushLook) (comments : List (List ℕ)) → IsTable t → IsPartition r → IsAssignment r.groups ws.assignment → count_by is_arrow (drawing_lines t r ws called title looks comments) ≡ flush_count t.waits
one_arrow_each t r ws called title looks comments table partition assigned =
    let arcs : List WaitArc = arcs_by_place t.waits r.group_of in
    let arrows : count_by is_arrow (map (flush_line t.names t.waits looks comments) arcs) ≡ length arcs = sum_by-map (λ line. one_if (is_arrow line)) (flush_line t.names t.waits looks comments) arcs ∙ sum_by-ones arcs in
    let items : count_by (λ (j : ℕ). false) (range_with_len 0 (length r.group_of)) ≡ 0 = sum_by-zero (range_with_len 0 (length r.group_of)) in
    omega (
      arith,
      count-drawing is_arrow t r ws called title looks comments refl refl,
      count-workqueues is_arrow t.names (λ j. false) (TellsItems-arrow t.names) r ws called partition assigned,
      items,
      arrows,
      (ByPlace-arcs_by_place t.waits r.group_of table.places_are_numbered).long,
    )

-- the places of the flushes are 0, 1, 2 and so on
pub places_are : (t : Table) (vertex_of : List ℕ) → IsTable t → map (λ (arc : WaitArc). arc.place) (arcs_by_place t.waits vertex_of) ≡ range_with_len 0 (flush_count t.waits)
places_are t vertex_of table =
    let arcs : List WaitArc = arcs_by_place t.waits vertex_of in
    let place : WaitArc → ℕ = λ (arc : WaitArc). arc.place in
    let none : WaitArc = record { src = 0; dst = 0; head = 0; place = 0 } in
    let by_place = ByPlace-arcs_by_place t.waits vertex_of table.places_are_numbered in
    fill_by_all (λ k. k) (map place arcs) (flush_count t.waits) 0 (length-map arcs place ∙ by_place.long) (
    λ k below. let within : k < length arcs = omega (arith, below, by_place.long) in
    get_or-map place arcs k none 0 within ∙ (ByPlace-arc t.waits vertex_of table.places_are_numbered arcs by_place k none within).1
    )
    ∙ map-id (range_with_len 0 (flush_count t.waits))
