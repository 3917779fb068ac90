use Rattle.std.proofs.Common.{◌≡◌, ◌<◌, length, false, sym, ◌∙◌, arith, rules}
use Rattle.std.proofs.lemmas.Slice.Zip.{zip_turn, zip_end}
use Rattle.std.specs.Iterator.Adapters.{zip_first, zip_second}
use Rattle.std.specs.Slice.Iter.{iter_rest}
use Rattle.wq_cert.proofs.PartLanes.{all_whole, one_split, is_split}
use Rattle.wq_cert.proofs.noted_workqueues.are_whole.Goals as goal

pub returns-then-splits : goal.returns-then-splits
returns-then-splits g c = λ workqueues marked settled.
    let p = c.args.groups.now in
    let stood = c.args.stood.now in
    let lanes = c.args.lane_of_group.now in
    let k = length c.loop-group.yielded in
    let first : iter_rest (zip_first c.into_iter-group-iterator.result) ≡ p.group_of = first_of (cc, search rules) in
    let second : iter_rest (zip_second c.into_iter-group-iterator.result) ≡ stood = first_of (cc, search rules) in
    let turn =
    zip_turn p.group_of stood c.loop-group.yielded c.into_iter-group-iterator.result c.loop-group.group-iterator
    c.next.new.self c.next.result first second c.loop-group.yielded_by (c.in-Some.group, c.in-Some.is_marked)
    c.in-Some.is c.next.ensures.steps in
    one_split p stood lanes workqueues c.numbers.ensures.partition marked settled k turn.0
    (is_split p stood lanes k c.in-Some.group.now c.from.result c.in-Some.is_marked.now
    c.index-lane_of_group-from.result c.numbers.ensures.partition c.requires.groups turn.0 (turn.2 0) c.from.ensures
    (turn.3 false) c.index-lane_of_group-from.is (sym c.splits.ensures ∙ c.if-splits.true))

pub returns : goal.returns
returns g c = λ workqueues marked settled.
    let p = c.args.groups.now in
    let stood = c.args.stood.now in
    let first : iter_rest (zip_first c.into_iter-group-iterator.result) ≡ p.group_of = first_of (cc, search rules) in
    let second : iter_rest (zip_second c.into_iter-group-iterator.result) ≡ stood = first_of (cc, search rules) in
    let end =
    zip_end p.group_of stood c.loop-group.yielded c.into_iter-group-iterator.result c.loop-group.group-iterator
    c.next.new.self c.next.result first second c.loop-group.yielded_by c.in-None.is c.next.ensures.steps in
    all_whole p stood c.args.lane_of_group.now workqueues c.numbers.ensures.partition marked settled
    (λ i lt.
    let within : i < length c.loop-group.yielded = omega (arith, lt, end, c.requires.items) in
    c.loop-group.invariant i within)
