use Rattle.std.proofs.Common.{◌≡◌, ◌<◌, ◌++◌, ◌∷◌, [], ℕ, List, length, map, take, sym, ap, subst, ◌∙◌, arith}
use Rattle.std.proofs.lemmas.List.{take_all}
use Rattle.wq_groups.specs.DeclaredGroups.{declared_waits}
use Rattle.wq_deadlock.proofs.BareLanes.{IsDeclaration-assigned}
use Rattle.wq_circles.specs.Held.{FindsAll}
use Rattle.wq_circles.proofs.HeldCounts.{heads-count, heads-within}
use Rattle.wq_circles.proofs.HeldLists.{lane-within}
use Rattle.wq_circles.proofs.HeldMarks.{AreMarksOf-led, rescued_lanes, rescued-passed, rescued-pushed}
use Rattle.wq_circles.proofs.HeldSearch.{FindsAll-begun, FindsAll-then, marks-count, none_found}
use Rattle.wq_circles.proofs.held.led_to.Goals as goal
use Rattle.wq_circles.proofs.held.led_to.Goals.{then-not-is_on_bare+in_ok-find, else-not-is_on_bare}

pub loop-item-init : goal.loop-item-init
loop-item-init g c =
    FindsAll-begun (map (λ l. l.items) c.args.heads.now) (length c.args.heads.now) c.in_ok-found.found
    c.in_ok-found.ensures.marks c.in_ok-found.ensures.order

pub is_on_bare-requires : goal.is_on_bare-requires
is_on_bare-requires g c =
    let k : ℕ = c.loop-item.item-index in
    let i : ℕ = c.item-item.result in
    omega (
      arith,
      c.requires.named k i c.loop-item-test.true,
      c.item-item.is,
      c.table-table.ensures.assigned.declared.one_group_each,
    )

pub lane_of-requires : goal.lane_of-requires
lane_of-requires g c =
    let k : ℕ = c.loop-item.item-index in
    let i : ℕ = c.item-item.result in
    omega (
      arith,
      c.requires.named k i c.loop-item-test.true,
      c.item-item.is,
      c.table-table.ensures.assigned.declared.one_group_each,
    )

pub find-requires-clause-one_each : goal.find-requires-clause-one_each
find-requires-clause-one_each g c =
    marks-count (map (λ l. l.items) c.args.heads.now) (length c.args.heads.now) _ c.loop-item.found
    c.loop-item.invariant

pub find-requires-clause-found : goal.find-requires-clause-found
find-requires-clause-found g c = c.loop-item.invariant.found

pub find-requires-clause-closed : goal.find-requires-clause-closed
find-requires-clause-closed g c = c.loop-item.invariant.closed

pub find-requires-clause-vertex : goal.find-requires-clause-vertex
find-requires-clause-vertex g c =
    let a = c.args.assigned.now in
    let is = c.table-table.ensures.assigned in
    let k : ℕ = c.loop-item.item-index in
    let i : ℕ = c.item-item.result in
    let item : i < length a.declared.partition.group_of =
    omega (arith, c.requires.named k i c.loop-item-test.true, c.item-item.is, is.declared.one_group_each) in
    omega (
      arith,
      c.lane_of.ensures.lane,
      lane-within a is i item,
      heads-count a is c.args.heads.now c.requires.heads,
    )

pub find-requires-clause-within : goal.find-requires-clause-within
find-requires-clause-within g c =
    heads-within c.args.assigned.now c.table-table.ensures.assigned c.args.heads.now c.requires.heads

pub loop-item-preserved : goal.loop-item-preserved
loop-item-preserved g c =
    let shown : List (List ℕ) = map (λ l. l.items) c.args.heads.now in
    let d = declared_waits c.args.assigned.now.declared in
    let ws = c.args.assigned.now.workqueues in
    let named = c.args.named.now in
    let k : ℕ = c.loop-item.item-index in
    let i : ℕ = c.item-item.result in
    let s = none_found (length c.args.heads.now) in
    elim c.if-not-is_on_bare.branch [
      | then-not-is_on_bare+in_ok-find w ↦
          let both : FindsAll shown s (rescued_lanes d ws (take k named) ++ (w.lane_of.result ∷ [])) w.find.new.found =
          FindsAll-then shown s (rescued_lanes d ws (take k named)) c.loop-item.found (w.lane_of.result ∷ [])
          w.find.new.found c.loop-item.invariant w.in_ok-find.ensures in
          rw w.found-is
          (subst (λ (vs : List ℕ). FindsAll shown s vs w.find.new.found)
          (ap (λ (q : ℕ). rescued_lanes d ws (take k named) ++ (q ∷ [])) w.lane_of.ensures.lane
          ∙ sym (rescued-pushed d ws named k i c.loop-item-test.true c.item-item.is
          (sym c.is_on_bare.ensures ∙ w.if-not-is_on_bare.true))) both)
      | else-not-is_on_bare w ↦
          rw w.found-is
          (subst (λ (vs : List ℕ). FindsAll shown s vs c.loop-item.found)
          (sym (rescued-passed d ws named k i c.loop-item-test.true c.item-item.is
          (sym c.is_on_bare.ensures ∙ w.if-not-is_on_bare.false))) c.loop-item.invariant)
    ]

pub returns : goal.returns
returns g c =
    let a = c.args.assigned.now in
    let is = c.table-table.ensures.assigned in
    let d = declared_waits a.declared in
    let ws = a.workqueues in
    let named = c.args.named.now in
    let n = length c.args.heads.now in
    let all : take c.loop-item.item-index named ≡ named =
    take_all c.loop-item.item-index named (omega (arith, c.loop-item-test.false)) in
    AreMarksOf-led d ws (IsDeclaration-assigned a is) is.assignment.assignment named n c.loop-item.found
    (heads-count a is c.args.heads.now c.requires.heads)
    (subst (λ (lists : List (List ℕ)). FindsAll lists (none_found n) (rescued_lanes d ws named) c.loop-item.found)
    c.requires.heads
    (subst (λ (l : List ℕ). FindsAll (map (λ v. v.items) c.args.heads.now) (none_found n) (rescued_lanes d ws l)
    c.loop-item.found) all c.loop-item.invariant))
