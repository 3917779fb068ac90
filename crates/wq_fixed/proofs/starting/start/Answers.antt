use Rattle.std.proofs.Common.{◌≡◌, ◌<◌, ◌≤◌, ◌+◌, ℕ, List, Option, length, sym, ap, subst, ◌∙◌, arith}
use Rattle.std.specs.List.{All, count_by}
use Rattle.wq_core.specs.Workqueues.{Workqueues}
use Rattle.wq_fixed.specs.Fixed.{fixed_lanes, free_groups, has_none, start_lanes}
use Rattle.wq_fixed.proofs.StartKeeps.{IsAssignmentOf-start}
use Rattle.wq_fixed.proofs.StartLanes.{length-start_lanes}
use Rattle.wq_fixed.proofs.starting.start.Goals as goal

pub unwrap-requires : goal.unwrap-requires
unwrap-requires g c =
    let f = c.args.fixed.now in
    let is = IsAssignmentOf-start (length f.lane_of_group) f c.lanes-first.ensures.fixed in
    let free : c.count_free.result ≡ free_groups f =
    c.count_free.ensures ∙ ap (λ (l : List (Option ℕ)). count_by has_none l) c.lane_of_group.ensures in
    let lanes : fixed_lanes f + free_groups f ≡ c.lanes-first.result + c.count_free.result =
    omega (arith, free, c.lanes-first.ensures.lanes) in
    let of : c.in_ok-of_group.of_group.items ≡ start_lanes (fixed_lanes f) f.lane_of_group =
    c.in_ok-of_group.ensures.lanes
    ∙ ap (start_lanes c.lanes-first.result) c.lane_of_group-2.ensures
    ∙ ap (λ (n : ℕ). start_lanes n f.lane_of_group) c.lanes-first.ensures.lanes in
    let within : All (λ l. l < c.lanes-first.result + c.count_free.result) c.in_ok-of_group.of_group.items =
    subst (λ (n : ℕ). All (λ l. l < n) c.in_ok-of_group.of_group.items) lanes
    (subst (All (λ l. l < fixed_lanes f + free_groups f)) (sym of) is.assignment.within) in
    c.new.ensures.exactly.1 (omega (arith, is.few, lanes), within)

pub returns-clause-assigned : goal.returns-clause-assigned
returns-clause-assigned g c =
    let f = c.args.fixed.now in
    let made = rw c.unwrap.ensures at c.new.ensures.some in
    ap (λ (ws : Workqueues). length ws.assignment.lane_of_group) c.new-2.ensures
    ∙ ap (λ (l : List ℕ). length l) made.1
    ∙ ap (λ (l : List ℕ). length l)
    (c.in_ok-of_group.ensures.lanes ∙ ap (start_lanes c.lanes-first.result) c.lane_of_group-2.ensures)
    ∙ length-start_lanes c.lanes-first.result f.lane_of_group
