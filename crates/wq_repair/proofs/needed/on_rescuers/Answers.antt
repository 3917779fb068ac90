use Rattle.std.proofs.Common.{◌≡◌, ℕ, Bool, List, replicate, sym, ap, ◌∙◌, arith}
use Rattle.std.specs.Prelude.{false, slice_index_or}
use Rattle.std.proofs.lemmas.Bool.{false≢true}
use Rattle.wq_repair.specs.Changes.{IsRescued, lane_in}
use Rattle.wq_repair.proofs.NeededRescuers.{AreOnRescuers-none, AreOnRescuers-skip, AreOnRescuers-add}
use Rattle.wq_repair.proofs.LaneReads.{lane-read}
use Rattle.wq_repair.proofs.needed.on_rescuers.Goals as goal

pub loop-group-init : goal.loop-group-init
loop-group-init g c =
    let marks : List Bool = c.in_ok-vec.field-0.items in
    let list : List ℕ = c.new.result.items in
    let unmarked : marks ≡ replicate c.args.groups false =
    c.in_ok-vec.ensures.items_if_clones_equal (λ y same. same) ∙ ap (λ (n : ℕ). replicate n false) c.from.ensures in
    AreOnRescuers-none c.args.workqueues.now c.args.groups (record { marks = marks; list = list }) unmarked c.new.ensures.items

pub loop-group-preserved-then-is_bare : goal.loop-group-preserved-then-is_bare
loop-group-preserved-then-is_bare g c =
    let ws = c.args.workqueues.now in
    let i = c.loop-group.group in
    let here : lane_in ws i ≡ c.lane-lane.result =
    lane-read ws.assignment c.assignment.result.now i c.new-group.result c.lane-lane.result c.assignment.ensures
    c.new-group.ensures c.lane-lane.ensures in
    AreOnRescuers-skip ws c.args.groups i c.loop-group.found c.loop-group.invariant
    (λ rescued. false≢true (sym rescued ∙ ap (λ (q : ℕ). slice_index_or ws.bare q false) here ∙ sym c.is_bare.ensures ∙ c.if-is_bare.true))

pub loop-group-preserved : goal.loop-group-preserved
loop-group-preserved g c =
    let ws = c.args.workqueues.now in
    let i = c.loop-group.group in
    let here : lane_in ws i ≡ c.lane-lane.result =
    lane-read ws.assignment c.assignment.result.now i c.new-group.result c.lane-lane.result c.assignment.ensures
    c.new-group.ensures c.lane-lane.ensures in
    let rescued : IsRescued ws (lane_in ws i) = ap (λ (q : ℕ). slice_index_or ws.bare q false) here ∙ sym c.is_bare.ensures ∙ c.if-is_bare.false in
    AreOnRescuers-add ws c.args.groups i c.loop-group.found c.add.new.self c.loop-group.invariant rescued
    (rw c.new-group.ensures at c.in_ok-add.ensures)

pub returns-clause-exactly : goal.returns-clause-exactly
returns-clause-exactly g c k below =
    let is = c.loop-group.invariant in
    ((λ marked. ((is.exactly k).0 marked).1), (λ rescued. (is.exactly k).1 (omega (arith, below, c.loop-group-test.false), rescued)))
