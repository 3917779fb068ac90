use Rattle.std.proofs.Common.{◌≡◌, ◌<◌, ℕ, List, ap, ◌∙◌, sym, subst}
use Rattle.std.specs.List.{All}
use Rattle.wq_groups.specs.DeclaredGroups.{declared_waits}
use Rattle.wq_core.specs.Wiring.{Wiring, IsWiring, items}
use Rattle.wq_core.specs.Workqueues.{wiring_of}
use Rattle.wq_hang.specs.declared.hop.Hop.{Hop}
use Rattle.wq_hang.specs.ShortestFor.{IsFewestFor}
use Rattle.wq_hang.specs.Walk.{AreFirstAlike, ArePlacesApart, needs, run_of_walk}
use Rattle.wq_hang.specs.WalkFor.{IsWalkFor, IsLeastWalkFor, pending_for}
use Rattle.wq_hang.proofs.SomeLanes.{IsWiring-assigned, ArePlacesApart-assigned, same_bare}
use Rattle.wq_hang.proofs.FewestFor.{IsFewestFor-least, IsSafeFor-no_walk, one_each_for, walk_for_items}
use Rattle.wq_hang.proofs.FewestFor.{walk_for_targets}
use Rattle.wq_hang.proofs.holding.held_up.Goals as goal

pub pending_for-requires-clause-targets : goal.pending_for-requires-clause-targets
pending_for-requires-clause-targets g c =
    let a = c.args.assigned.now in
    let is = c.workqueues-workqueues.ensures.assigned in
    let d = declared_waits a.declared in
    let ws = a.workqueues in
    let v : Wiring = wiring_of d ws in
    let w : Wiring = c.new-waits.result in
    let x : ℕ = c.in-Some.walk.named in
    let hops = c.in-Some.walk.hops.items in
    let of : c.in_ok-wires.wires ≡ v = c.in_ok-wires.ensures in
    let bare = rw c.workqueues-workqueues.ensures.is at c.bare.ensures in
    let same : w ≡ v = c.new-waits.ensures ∙ same_bare c.in_ok-wires.wires d ws c.bare.result.now of bare ∙ of in
    let wiring : IsWiring w = subst IsWiring (sym same) (IsWiring-assigned a is) in
    let least : IsLeastWalkFor w c.args.named.now x hops = rw c.in-Some.is at c.in_ok-walk.ensures.some in
    subst (λ (l : List Hop). All (λ (h : Hop). h.flush.item < items w) l) (sym c.as_slice.ensures.value)
    (walk_for_targets w x hops wiring least.walk.holds_up)

pub run_of_walk-requires : goal.run_of_walk-requires
run_of_walk-requires g c =
    let w = c.new-waits.result in
    let least : IsLeastWalkFor w c.args.named.now c.in-Some.walk.named c.in-Some.walk.hops.items =
    rw c.in-Some.is at c.in_ok-walk.ensures.some in
    subst (λ (l : List Hop). All (λ (h : Hop). h.item < items w) l) (sym c.as_slice-in-Some.ensures.value)
    (walk_for_items w c.in-Some.walk.named c.in-Some.walk.hops.items least.walk.holds_up)

pub returns-in-Some : goal.returns-in-Some
returns-in-Some g c =
    let a = c.args.assigned.now in
    let is = c.workqueues-workqueues.ensures.assigned in
    let d = declared_waits a.declared in
    let ws = a.workqueues in
    let v : Wiring = wiring_of d ws in
    let named : List ℕ = c.args.named.now in
    let x : ℕ = c.in-Some.walk.named in
    let hops = c.in-Some.walk.hops.items in
    let of : c.in_ok-wires.wires ≡ v = c.in_ok-wires.ensures in
    let bare = rw c.workqueues-workqueues.ensures.is at c.bare.ensures in
    let same : c.new-waits.result ≡ v =
    c.new-waits.ensures ∙ same_bare c.in_ok-wires.wires d ws c.bare.result.now of bare ∙ of in
    let found : IsLeastWalkFor c.new-waits.result named x hops = rw c.in-Some.is at c.in_ok-walk.ensures.some in
    let least : IsLeastWalkFor v named x hops = subst (λ (k : Wiring). IsLeastWalkFor k named x hops) same found in
    let beside : c.in_ok-beside-in-Some.beside.items ≡ pending_for v x hops =
    c.in_ok-beside-in-Some.ensures
    ∙ ap (λ (k : Wiring). pending_for k x c.as_slice.result.now) same
    ∙ ap (pending_for v x) c.as_slice.ensures.value in
    let run : c.in_ok-steps-in-Some.steps.items ≡ run_of_walk v hops (pending_for v x hops) =
    c.in_ok-steps-in-Some.ensures
    ∙ ap (λ (k : Wiring). run_of_walk k c.as_slice-in-Some.result.now c.as_slice-in-Some-2.result.now) same
    ∙ ap (λ (l : List Hop). run_of_walk v l c.as_slice-in-Some-2.result.now) c.as_slice-in-Some.ensures.value
    ∙ ap (run_of_walk v hops) (c.as_slice-in-Some-2.ensures.value ∙ beside) in
    let wiring : IsWiring v = IsWiring-assigned a is in
    let places : ArePlacesApart v = ArePlacesApart-assigned a is in
    let alike : AreFirstAlike c.new-waits.result hops = rw c.in-Some.is at c.in_ok-walk.ensures.alike in
    record {
      assignment = is.assignment.assignment;
      fewest = subst (IsFewestFor v named (needs hops)) (sym run)
          (IsFewestFor-least v named x hops wiring places least is.assignment.few);
      one_each = one_each_for v named x hops wiring places least;
      walk = least.walk;
      alike = subst (λ (k : Wiring). AreFirstAlike k hops) same alike;
      run = run;
    }

pub returns : goal.returns
returns g c =
    let a = c.args.assigned.now in
    let is = c.workqueues-workqueues.ensures.assigned in
    let d = declared_waits a.declared in
    let ws = a.workqueues in
    let v : Wiring = wiring_of d ws in
    let named : List ℕ = c.args.named.now in
    let of : c.in_ok-wires.wires ≡ v = c.in_ok-wires.ensures in
    let bare = rw c.workqueues-workqueues.ensures.is at c.bare.ensures in
    let same : c.new-waits.result ≡ v =
    c.new-waits.ensures ∙ same_bare c.in_ok-wires.wires d ws c.bare.result.now of bare ∙ of in
    let none : (x : ℕ) (hops : List Hop) → ¬ IsWalkFor c.new-waits.result named x hops =
    rw c.in-None.is at c.in_ok-walk.ensures.none in (
      is.assignment.assignment,
      IsSafeFor-no_walk v named (IsWiring-assigned a is)
          (λ x hops walk. none x hops (subst (λ (k : Wiring). IsWalkFor k named x hops) (sym same) walk)),
    )
