use Rattle.std.proofs.Common.{◌≡◌, ℕ, ◌+◌, nat_le, sym, ◌∙◌, arith}
use Rattle.std.proofs.lemmas.Bool.{cond-true, cond-false}
use Rattle.wq_groups.specs.DeclaredGroups.{declared_waits}
use Rattle.wq_core.specs.Wiring.{lane_of}
use Rattle.wq_core.specs.Workqueues.{wiring_of}
use Rattle.wq_checker.specs.Around.{new_along}
use Rattle.wq_checker.proofs.NewLanes.{one_new, new_along-counted}
use Rattle.wq_checker.proofs.checking_around.new_along.Goals as goal

pub returns-then-is_on_new : goal.returns-then-is_on_new
returns-then-is_on_new g c f same lanes =
    let d = declared_waits c.args.start.now.declared in
    let ws = c.args.start.now.workqueues in
    let arcs = c.args.arcs.now in
    let arc = c.in-Some.first.now in
    let new = c.args.new in
    let q : ℕ = lane_of (wiring_of d ws) arc.0 in
    let first : 1 ≡ one_new new q =
    sym (cond-true (nat_le new q) 1 0 (sym c.is_on_new.ensures ∙ c.if-is_on_new.true)) in
    let all : 1 + c.count_new-behind.result ≡ new_along d f c.args.chain arcs =
    new_along-counted d f c.args.chain arcs arc ws new 1 c.count_new-behind.result (sym c.in-Some.ensures.value) same
    lanes first c.count_new-behind.ensures.count in
    let turned : c.count_new-behind.result + 1 ≡ 1 + c.count_new-behind.result = omega arith in
    turned ∙ all

pub returns-else-is_on_new : goal.returns-else-is_on_new
returns-else-is_on_new g c f same lanes =
    let d = declared_waits c.args.start.now.declared in
    let ws = c.args.start.now.workqueues in
    let arcs = c.args.arcs.now in
    let arc = c.in-Some.first.now in
    let new = c.args.new in
    let q : ℕ = lane_of (wiring_of d ws) arc.0 in
    let first : 0 ≡ one_new new q =
    sym (cond-false (nat_le new q) 1 0 (sym c.is_on_new.ensures ∙ c.if-is_on_new.false)) in
    let all : 0 + c.count_new-behind.result ≡ new_along d f c.args.chain arcs =
    new_along-counted d f c.args.chain arcs arc ws new 0 c.count_new-behind.result (sym c.in-Some.ensures.value) same
    lanes first c.count_new-behind.ensures.count in
    let plain : c.count_new-behind.result ≡ 0 + c.count_new-behind.result = omega arith in
    plain ∙ all
