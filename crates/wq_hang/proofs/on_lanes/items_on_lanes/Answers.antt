use Rattle.std.proofs.Common.{◌<◌, ℕ, List, length, sym, ap, subst, ◌∙◌, arith}
use Rattle.std.specs.List.{All}
use Rattle.wq_buckets.specs.Places.{buckets_of}
use Rattle.wq_hang.specs.Search.{AreItemsOn}
use Rattle.wq_hang.proofs.LaneItems.{item_lanes-within, length-item_lanes, AreItemsOn-buckets}
use Rattle.wq_hang.proofs.Taken.{IfOk-is}
use Rattle.wq_hang.proofs.on_lanes.items_on_lanes.Goals as goal

pub new-requires-clause-keys : goal.new-requires-clause-keys
new-requires-clause-keys g c =
    let w = c.args.waits.now in
    let same = c.deref.ensures.value ∙ c.in_ok-lanes.ensures in
    let within : All (λ q. q < w.lanes) c.deref.result.now = subst (λ (l : List ℕ). All (λ q. q < w.lanes) l) (sym same) (item_lanes-within w c.items-items.ensures.wiring) in
    subst (λ (n : ℕ). All (λ q. q < n) c.deref.result.now) (sym c.lanes.ensures.lanes) within

pub new-requires-clause-few : goal.new-requires-clause-few
new-requires-clause-few g c =
    let w = c.args.waits.now in
    let same = c.deref.ensures.value ∙ c.in_ok-lanes.ensures in
    omega (arith, ap (λ (l : List ℕ). length l) same, length-item_lanes w, c.items-items.ensures.few, c.items-items.ensures.items)

pub returns : goal.returns
returns g c =
    let w = c.args.waits.now in
    let same = c.deref.ensures.value ∙ c.in_ok-lanes.ensures in
    let are : AreItemsOn w (buckets_of c.deref.result.now c.lanes.result) =
    subst (λ (n : ℕ). AreItemsOn w (buckets_of c.deref.result.now n)) (sym c.lanes.ensures.lanes) (subst (λ (l : List ℕ). AreItemsOn w (buckets_of l w.lanes)) (sym same) (AreItemsOn-buckets w c.items-items.ensures.wiring)) in
    IfOk-is (AreItemsOn w) (buckets_of c.deref.result.now c.lanes.result) c.new.result c.new.ensures.buckets are
