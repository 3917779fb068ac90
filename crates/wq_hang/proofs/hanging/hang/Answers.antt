use Rattle.std.proofs.Common.{◌≡◌, ◌<◌, List, ap, ◌∙◌, sym, subst, arith}
use Rattle.std.specs.List.{All}
use Rattle.wq_groups.specs.DeclaredGroups.{declared_waits}
use Rattle.wq_core.specs.Wiring.{Wiring, IsWiring, items}
use Rattle.wq_core.specs.Workqueues.{wiring_of}
use Rattle.wq_core.specs.Deadlock.{IsSafe}
use Rattle.wq_core.proofs.Results.{OnErr-holds}
use Rattle.wq_hang.specs.declared.hop.Hop.{Hop}
use Rattle.wq_hang.specs.Shortest.{IsFewest}
use Rattle.wq_hang.specs.Walk.{IsLeastWalk, IsRoundOrFirst, BeginsUnsure, AreFirstAlike, ArePlacesApart, needs}
use Rattle.wq_hang.specs.Walk.{run_of_walk}
use Rattle.wq_hang.proofs.LeastFound.{IsSafe-no_lane, walk_items}
use Rattle.wq_hang.proofs.Fewest.{one_each, IsFewest-least}
use Rattle.wq_hang.proofs.SomeLanes.{IsWiring-assigned, ArePlacesApart-assigned, same_bare}
use Rattle.wq_hang.proofs.hanging.hang.Goals as goal

pub returns-then-lanes-eq0-clause-answer : goal.returns-then-lanes-eq0-clause-answer
returns-then-lanes-eq0-clause-answer g c =
    let a = c.args.assigned.now in
    let is = c.workqueues-workqueues.ensures.assigned in
    let d = declared_waits a.declared in
    let ws = a.workqueues in
    let lanes = rw (c.assignment.ensures, c.workqueues-workqueues.ensures.is) at c.lanes.ensures.lanes in
    let none : ws.assignment.lanes ≡ 0 = sym lanes ∙ c.if-lanes-eq0.true in
    (is.assignment.assignment, IsSafe-no_lane (wiring_of d ws) (IsWiring-assigned a is) none)

pub run_of_walk-requires : goal.run_of_walk-requires
run_of_walk-requires g c =
    let w = c.new-waits.result in
    let least : IsLeastWalk w c.in-Some.hops.items c.in-Some.beside.items = rw c.in-Some.is at c.in_ok-hops.ensures.some
    in
    subst (λ (l : List Hop). All (λ (h : Hop). h.item < items w) l) (sym c.as_slice.ensures.value)
    (walk_items w c.in-Some.hops.items c.in-Some.beside.items least.walk)

pub returns-in_err-steps-in-Some-clause-memory : goal.returns-in_err-steps-in-Some-clause-memory
returns-in_err-steps-in-Some-clause-memory g c =
    let lanes = rw (c.assignment.ensures, c.workqueues-workqueues.ensures.is) at c.lanes.ensures.lanes in
    OnErr-holds c.from_residual-in_err-steps-in-Some.result (omega (arith, c.if-lanes-eq0.false, lanes))

pub returns-in-Some-clause-answer : goal.returns-in-Some-clause-answer
returns-in-Some-clause-answer g c =
    let a = c.args.assigned.now in
    let is = c.workqueues-workqueues.ensures.assigned in
    let d = declared_waits a.declared in
    let ws = a.workqueues in
    let v : Wiring = wiring_of d ws in
    let hops = c.in-Some.hops.items in
    let beside = c.in-Some.beside.items in
    let of : c.in_ok-wires.wires ≡ v = c.in_ok-wires.ensures in
    let bare = rw c.workqueues-workqueues.ensures.is at c.bare.ensures in
    let same : c.new-waits.result ≡ v =
    c.new-waits.ensures ∙ same_bare c.in_ok-wires.wires d ws c.bare.result.now of bare ∙ of in
    let found : IsLeastWalk c.new-waits.result hops beside = rw c.in-Some.is at c.in_ok-hops.ensures.some in
    let chosen : IsRoundOrFirst c.new-waits.result hops beside = rw c.in-Some.is at c.in_ok-hops.ensures.first in
    let least : IsLeastWalk v hops beside = subst (λ (x : Wiring). IsLeastWalk x hops beside) same found in
    let run : c.in_ok-steps-in-Some.steps.items ≡ run_of_walk v hops beside =
    c.in_ok-steps-in-Some.ensures
    ∙ ap (λ (x : Wiring). run_of_walk x c.as_slice.result.now c.as_slice-in-Some.result.now) same
    ∙ ap (λ (l : List Hop). run_of_walk v l c.as_slice-in-Some.result.now) c.as_slice.ensures.value
    ∙ ap (run_of_walk v hops) c.as_slice-in-Some.ensures.value in
    let wiring : IsWiring v = IsWiring-assigned a is in
    let places : ArePlacesApart v = ArePlacesApart-assigned a is in
    let begins : BeginsUnsure hops = rw c.in-Some.is at c.in_ok-hops.ensures.begins in
    let alike : AreFirstAlike c.new-waits.result hops = rw c.in-Some.is at c.in_ok-hops.ensures.alike in
    record {
      assignment = is.assignment.assignment;
      fewest = subst (IsFewest v (needs hops)) (sym run)
          (IsFewest-least v hops beside wiring places least is.assignment.few);
      one_each = one_each v hops beside wiring places least;
      beside = beside;
      walk = least.walk;
      first = subst (λ (x : Wiring). IsRoundOrFirst x hops beside) same chosen;
      begins = begins;
      alike = subst (λ (x : Wiring). AreFirstAlike x hops) same alike;
      run = run;
    }

pub returns-clause-answer : goal.returns-clause-answer
returns-clause-answer g c =
    let a = c.args.assigned.now in
    let d = declared_waits a.declared in
    let ws = a.workqueues in
    let of : c.in_ok-wires.wires ≡ wiring_of d ws = c.in_ok-wires.ensures in
    let bare = rw c.workqueues-workqueues.ensures.is at c.bare.ensures in
    let same : c.new-waits.result ≡ wiring_of d ws =
    c.new-waits.ensures ∙ same_bare c.in_ok-wires.wires d ws c.bare.result.now of bare ∙ of in
    let safe : IsSafe c.new-waits.result = rw c.in-None.is at c.in_ok-hops.ensures.none in
    (c.workqueues-workqueues.ensures.assigned.assignment.assignment, subst IsSafe same safe)
