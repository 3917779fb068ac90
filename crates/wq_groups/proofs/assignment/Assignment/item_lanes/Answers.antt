use Rattle.std.proofs.Common.{◌≡◌, ℕ, sym, subst}
use Rattle.std.specs.Prelude.{slice_get, Some}
use Rattle.std.proofs.lemmas.Option.{slice_get-get_or}
use Rattle.wq_groups.proofs.Lanes.{item_lanes-more}
use Rattle.wq_groups.proofs.assignment.Assignment.item_lanes.Goals as goal

pub loop-number-preserved : goal.loop-number-preserved
loop-number-preserved g c =
    let a = c.args.self.now in
    let numbers = c.numbers-numbers.result.now in
    let i = c.loop-number.number-index in
    let number = slice_get-get_or numbers i 0 c.loop-number-test.true in
    let group = subst (λ (n : ℕ). slice_get numbers i ≡ Some n) (sym c.new.ensures) number in
    let lane = subst (λ (n : ℕ). slice_get a.lane_of_group c.new.result ≡ Some n) (sym c.get.ensures) c.lane.ensures in
    item_lanes-more a numbers c.loop-number.lanes.items c.push.new.self.items i c.new.result c.get.result
    c.loop-number-test.true group lane c.loop-number.invariant c.in_ok-push.ensures.items
