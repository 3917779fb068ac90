use Rattle.std.proofs.Common.{◌≡◌, List, drop, sym, ◌∙◌, subst, arith}
use Rattle.std.proofs.lemmas.List.{length_push}
use Rattle.std.proofs.lemmas.Result.{IfOk-weaker}
use Rattle.wq_graph.specs.declared.arc.WaitArc.{WaitArc}
use Rattle.wq_levels.specs.Walks.{IsWalkedCircle}
use Rattle.wq_levels.proofs.UnderWay.{IsNoted-remains, IsNoted-index, IsNoted-read, IsNoted-fits, IsNoted-circle, IsNoted-room, IsNoted-more}
use Rattle.wq_levels.proofs.walk.walk_circle.Goals as goal

pub index-before-requires : goal.index-before-requires
index-before-requires g c = omega (arith, IsNoted-index c.args.graph.now c.walk.walked.items c.walk.left.items c.walk.vertex c.walk.invariant, c.walk.left.ok.0, c.from-at.ensures)

pub split_off-requires : goal.split_off-requires
split_off-requires g c =
    let graph = c.args.graph.now in
    let read = rw c.from-at.ensures at c.index-before.ensures in
    let noted = IsNoted-read graph c.walk.walked.items c.walk.left.items c.walk.vertex c.walk.invariant c.index-before.result.now read ∙ c.in-Some.is in
    omega (arith, IsNoted-fits graph c.walk.walked.items c.walk.left.items c.walk.vertex c.walk.invariant c.in-Some.first noted, c.walk.walked.ok.0)

pub returns-in-Some : goal.returns-in-Some
returns-in-Some g c =
    let graph = c.args.graph.now in
    let read = rw c.from-at.ensures at c.index-before.ensures in
    let noted = IsNoted-read graph c.walk.walked.items c.walk.left.items c.walk.vertex c.walk.invariant c.index-before.result.now read ∙ c.in-Some.is in
    let circle = IsNoted-circle graph c.walk.walked.items c.walk.left.items c.walk.vertex c.walk.invariant c.in-Some.first noted in
    IfOk-weaker c.split_off.result (λ w. w.items ≡ drop c.in-Some.first c.walk.walked.items) (λ w. IsWalkedCircle graph w.items)
    (λ w tail. subst (λ (l : List WaitArc). IsWalkedCircle graph l) (sym tail) circle) c.split_off.ensures.tail

pub index_mut-requires : goal.index_mut-requires
index_mut-requires g c = omega (arith, IsNoted-index c.args.graph.now c.walk.walked.items c.walk.left.items c.walk.vertex c.walk.invariant, c.walk.left.ok.0, c.from-at.ensures)

pub way_on-arc-requires-clause-remains : goal.way_on-arc-requires-clause-remains
way_on-arc-requires-clause-remains g c = IsNoted-remains c.args.graph.now c.walk.walked.items c.walk.left.items c.walk.vertex c.walk.invariant

pub walk-smaller : goal.walk-smaller
walk-smaller g c =
    let graph = c.args.graph.now in
    let read = rw c.from-at.ensures at c.index-before.ensures in
    let noted = IsNoted-read graph c.walk.walked.items c.walk.left.items c.walk.vertex c.walk.invariant c.index-before.result.now read ∙ c.in_default.is in
    let room = IsNoted-room graph c.walk.walked.items c.walk.left.items c.walk.vertex c.walk.invariant noted in
    rw c.in_ok-push.ensures.items (omega (arith, room, length_push c.walk.walked.items c.way_on-arc.result))

pub walk-preserved : goal.walk-preserved
walk-preserved g c =
    let graph = c.args.graph.now in
    let read = rw c.from-at.ensures at c.index-before.ensures in
    let noted = IsNoted-read graph c.walk.walked.items c.walk.left.items c.walk.vertex c.walk.invariant c.index-before.result.now read ∙ c.in_default.is in
    let more = IsNoted-more graph c.walk.walked.items c.walk.left.items c.walk.vertex c.walk.invariant c.way_on-arc.result noted c.way_on-arc.ensures in
    rw (c.in_ok-push.ensures.items, c.from-at.ensures, c.len.ensures, c.walk.walked.ok.0) more
