use Rattle.std.proofs.Common.{◌≡◌, ◌<◌, ◌++◌, ℕ, Bool, false, List, [], length, map, sym, ap, subst, ◌∙◌, arith}
use Rattle.std.specs.Prelude.{flat_map, slice_index_or}
use Rattle.std.specs.List.{All, range_with_len}
use Rattle.std.proofs.lemmas.List.FromFn.{length-map-range_with_len}
use Rattle.wq_items.proofs.TableLemmas.{range_with_len-push}
use Rattle.wq_buckets.specs.Places.{places_of, buckets_of}
use Rattle.wq_groups.specs.Assignment.{Assignment}
use Rattle.wq_core.specs.Assigned.{Assigned}
use Rattle.wq_dot.specs.Labels.{is_shared}
use Rattle.wq_dot.specs.Drawing.{box_lines, groups_on, workqueue_box_lines}
use Rattle.wq_dot.proofs.Lines.{text_of, text_of-more}
use Rattle.wq_dot.proofs.Workqueues.{groups_on-below, groups_on-bucket}
use Rattle.wq_dot.proofs.drawing.put_workqueues.Goals as goal

pub new-requires-clause-few : goal.new-requires-clause-few
new-requires-clause-few g c =
    let is = c.assigned.invariant in
    let long =
    ap length (c.deref.ensures.value ∙ c.in_ok-lanes.ensures.lanes)
    ∙ ap (λ (a : Assignment). length a.lane_of_group) c.assignment-assignment.ensures in
    omega (
      arith,
      long,
      is.assignment.assignment.one_each,
      is.declared.partition.few_groups,
      is.declared.partition.few_items,
    )

pub places-own-requires : goal.places-own-requires
places-own-requires g c =
    let many =
    ap length c.in_ok-by_workqueue.ensures.buckets
    ∙ length-map-range_with_len (places_of c.deref.result.now) 0 c.lanes-workqueues.result in
    omega (arith, many, c.loop-number-test.true)

pub put_workqueue-requires : goal.put_workqueue-requires
put_workqueue-requires g c =
    let a = c.assigned.inside.workqueues.now.assignment in
    let groups = c.assigned.inside.declared.now.partition.groups in
    let number = c.loop-number.number in
    let lanes =
    c.lanes-workqueues.ensures.lanes ∙ ap (λ (x : Assignment). x.lanes) c.assignment-assignment.ensures in
    let made =
    subst (λ n. c.in_ok-by_workqueue.by_workqueue ≡ buckets_of c.deref.result.now n) lanes
    c.in_ok-by_workqueue.ensures.buckets in
    let own =
    groups_on-bucket a c.deref.result.now c.in_ok-by_workqueue.by_workqueue number c.places-own.result.now
    (c.deref.ensures.value ∙ c.in_ok-lanes.ensures.lanes
    ∙ ap (λ (x : Assignment). x.lane_of_group) c.assignment-assignment.ensures) made
    (omega (arith, c.loop-number-test.true, lanes)) c.places-own.ensures in
    subst (λ (is : List ℕ). All (λ i. i < groups) is) (sym own)
    (groups_on-below a groups number c.assigned.invariant.assignment.assignment.one_each)

pub loop-number-preserved : goal.loop-number-preserved
loop-number-preserved g c =
    let ws = c.assigned.inside.workqueues.now in
    let a = ws.assignment in
    let names = c.assigned.inside.declared.now.table.names in
    let group_of = c.assigned.inside.declared.now.partition.group_of in
    let number = c.loop-number.number in
    let out = c.args.out.now.items in
    let lanes =
    c.lanes-workqueues.ensures.lanes ∙ ap (λ (x : Assignment). x.lanes) c.assignment-assignment.ensures in
    let made =
    subst (λ n. c.in_ok-by_workqueue.by_workqueue ≡ buckets_of c.deref.result.now n) lanes
    c.in_ok-by_workqueue.ensures.buckets in
    let own =
    groups_on-bucket a c.deref.result.now c.in_ok-by_workqueue.by_workqueue number c.places-own.result.now
    (c.deref.ensures.value ∙ c.in_ok-lanes.ensures.lanes
    ∙ ap (λ (x : Assignment). x.lane_of_group) c.assignment-assignment.ensures) made
    (omega (arith, c.loop-number-test.true, lanes)) c.places-own.ensures in
    let called = map (λ v. v.now) c.args.called.now in
    let name = slice_index_or called number [] in
    let bare = c.is_bare-bare.ensures ∙ ap (λ (q : ℕ). slice_index_or ws.bare q false) c.new-in-loop-number.ensures in
    let lines = workqueue_box_lines names group_of ws called in
    let so_far = c.loop-number.out.items in
    c.in_ok-put_workqueue.ensures
    ∙ ap (λ (is : List ℕ). so_far ++ text_of (box_lines names group_of c.name_at-name.result.now c.contains.result
    c.is_bare-bare.result number is)) own
    ∙ ap (λ (b : Bool). so_far ++ text_of (box_lines names group_of c.name_at-name.result.now c.contains.result b number
    (groups_on a number))) bare
    ∙ ap (λ (shared : Bool). so_far ++ text_of (box_lines names group_of c.name_at-name.result.now shared
    (slice_index_or ws.bare number false) number (groups_on a number)))
    (c.contains.ensures ∙ c.in_ok-shared.ensures c.name_at-name.result)
    ∙ ap (λ (n : List ℕ). so_far ++ text_of (box_lines names group_of n (is_shared called n)
    (slice_index_or ws.bare number false) number (groups_on a number))) c.name_at-name.ensures
    ∙ ap (λ (o : List ℕ). o ++ text_of (lines number)) c.loop-number.invariant
    ∙ text_of-more lines out (range_with_len 0 number) number
    ∙ ap (λ (qs : List ℕ). out ++ text_of (flat_map lines qs)) (sym (range_with_len-push number))

pub returns : goal.returns
returns g c =
    let ws = c.assigned.inside.workqueues.now in
    let s = c.assigned.inside.declared.now in
    let out = c.args.out.now.items in
    let called = map (λ v. v.now) c.args.called.now in
    let lanes =
    c.lanes-workqueues.ensures.lanes ∙ ap (λ (x : Assignment). x.lanes) c.assignment-assignment.ensures in
    let all : c.loop-number.number ≡ ws.assignment.lanes =
    omega (arith, c.loop-number-test.false, c.loop-number.auto.number-end, lanes) in
    c.loop-number.invariant
    ∙ ap (λ (n : ℕ). out ++ text_of (flat_map (workqueue_box_lines s.table.names s.partition.group_of ws called)
    (range_with_len 0 n))) all
    ∙ ap (λ (x : Assigned). out ++ text_of (flat_map (workqueue_box_lines x.declared.table.names
    x.declared.partition.group_of x.workqueues called) (range_with_len 0 x.workqueues.assignment.lanes)))
    c.assigned.view_is
