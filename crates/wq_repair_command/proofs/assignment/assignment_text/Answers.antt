use Rattle.std.proofs.Common.{◌≡◌, ◌<◌, ◌++◌, [], ℕ, false, List, length, map, sym, ap, subst, ◌∙◌, arith}
use Rattle.std.specs.Prelude.{slice_index_or, flat_map}
use Rattle.std.specs.List.{All, range_with_len}
use Rattle.std.proofs.lemmas.List.{length-map}
use Rattle.std.proofs.lemmas.List.FromFn.{length-map-range_with_len}
use Rattle.wq_buckets.specs.Places.{places_of}
use Rattle.wq_groups.specs.Partition.{Partition}
use Rattle.wq_core.specs.Workqueues.{Workqueues}
use Rattle.wq_groups.specs.Assignment.{Assignment, group_lane, item_lanes}
use Rattle.wq_groups.proofs.Lanes.{item_lanes-within}
use Rattle.wq_cert.proofs.LineLemmas.{items_at-bucket, items_at-below}
use Rattle.wq_items.specs.Table.{Table, items_at}
use Rattle.wq_repair_command.specs.AssignmentText.{workqueue_text, assignment_text}
use Rattle.wq_repair_command.proofs.Lines.{lines-more, same-line}
use Rattle.wq_repair_command.proofs.assignment.assignment_text.Goals as goal

pub new-requires-clause-keys : goal.new-requires-clause-keys
new-requires-clause-keys g c =
    let p = c.groups.result.now in
    let a = c.assignment-assignment.result.now in
    let each : length a.lane_of_group ≡ p.groups = ap (λ (x : Assignment). length x.lane_of_group)
    c.assignment-assignment.ensures ∙ ap (λ (w : Workqueues). length w.assignment.lane_of_group)
    c.workqueues-workqueues.ensures.is
    ∙ c.workqueues-workqueues.ensures.assigned.assignment.assignment.one_each ∙ sym
    (ap (λ (x : Partition). x.groups) c.groups.ensures.is) in
    let within =
    item_lanes-within p.group_of p.groups a c.in_ok-lane.ensures.partition.within
    (record { one_each = each; within = c.lanes-lanes.ensures.within }) in
    subst (λ (ls : List ℕ). All (λ l. l < c.lanes-lanes.result) ls)
    (sym (c.deref.ensures.value ∙ c.in_ok-lane.ensures.lanes))
    (subst (λ n. All (λ l. l < n) (item_lanes a p.group_of)) (sym c.lanes-lanes.ensures.lanes) within)

pub places-requires : goal.places-requires
places-requires g c =
    let many = ap length c.in_ok-items.ensures.buckets ∙ length-map-range_with_len (places_of c.deref.result.now) 0
    c.lanes-lanes.result in
    omega (arith, many, c.loop-q-test.true)

pub put_line-requires : goal.put_line-requires
put_line-requires g c =
    let n = length c.table-table.result.now.names in
    let lane = c.deref.result.now in
    let long : length lane ≡ n =
    ap length (c.deref.ensures.value ∙ c.in_ok-lane.ensures.lanes)
    ∙ length-map c.groups.result.now.group_of (group_lane c.assignment-assignment.result.now)
    ∙ ap (λ (x : Partition). length x.group_of) c.groups.ensures.is ∙ c.groups.ensures.assigned.declared.one_group_each
    ∙ sym (ap (λ (t : Table). length t.names) c.table-table.ensures.is) in
    let own = items_at-bucket lane c.in_ok-items.items c.lanes-lanes.result c.loop-q.q c.places.result.now
    c.in_ok-items.ensures.buckets c.loop-q-test.true c.places.ensures in
    subst (λ (is : List ℕ). All (λ i. i < n) is) (sym own) (items_at-below lane c.loop-q.q n long)

pub loop-q-preserved : goal.loop-q-preserved
loop-q-preserved g c =
    let names = c.table-table.result.now.names in
    let group_of = c.args.assigned.now.declared.partition.group_of in
    let a = c.workqueues-workqueues.result.now.assignment in
    let called = map (λ n. n.now) c.args.names.now in
    let bare = c.workqueues-workqueues.result.now.bare in
    let lane = c.deref.result.now in
    let q = c.loop-q.q in
    let lanes_are : lane ≡ item_lanes a group_of =
    c.deref.ensures.value ∙ c.in_ok-lane.ensures.lanes
    ∙ ap (λ (x : Partition). item_lanes c.assignment-assignment.result.now x.group_of) c.groups.ensures.is
    ∙ ap (λ (x : Assignment). item_lanes x group_of) c.assignment-assignment.ensures in
    let own : c.places.result.now ≡ items_at (item_lanes a group_of) q =
    items_at-bucket lane c.in_ok-items.items c.lanes-lanes.result q c.places.result.now c.in_ok-items.ensures.buckets
    c.loop-q-test.true c.places.ensures
    ∙ ap (λ (l : List ℕ). items_at l q) lanes_are in
    let is_bare : c.is_bare-is_bare.result ≡ slice_index_or bare q false =
    c.is_bare-is_bare.ensures ∙ ap (λ (k : ℕ). slice_index_or bare k false) c.new-in-loop-q.ensures in
    let line = workqueue_text names (item_lanes a group_of) bare called in
    c.in_ok-put_line.ensures
    ∙ ap (λ (l : List ℕ). c.loop-q.out.items ++ l)
    (same-line names q c.is_bare-is_bare.result (slice_index_or bare q false) c.places.result.now
    (items_at (item_lanes a group_of) q) c.name_at.result.now (slice_index_or called q []) is_bare own
    c.name_at.ensures)
    ∙ ap (λ (o : List ℕ). o ++ line q) c.loop-q.invariant ∙ lines-more line q

pub returns : goal.returns
returns g c =
    let p = c.args.assigned.now.declared.partition in
    let w = c.workqueues-workqueues.result.now in
    let called = map (λ n. n.now) c.args.names.now in
    let line = workqueue_text c.table-table.result.now.names (item_lanes w.assignment p.group_of) w.bare called in
    let all : c.loop-q.q ≡ w.assignment.lanes =
    omega (
      arith,
      c.loop-q-test.false,
      c.lanes-lanes.ensures.lanes,
      ap (λ (a : Assignment). a.lanes)
          c.assignment-assignment.ensures,
    ) in
    let text : c.loop-q.out.items ≡ assignment_text c.table-table.result.now.names p w called =
    c.loop-q.invariant ∙ ap (λ (n : ℕ). flat_map line (range_with_len 0 n)) all in
    text ∙ ap (λ (x : Workqueues). assignment_text c.table-table.result.now.names p x called)
    c.workqueues-workqueues.ensures.is
    ∙ ap (λ (t : Table). assignment_text t.names p c.args.assigned.now.workqueues called) c.table-table.ensures.is
