use Rattle.std.proofs.Common.{◌≡◌, ℕ, ◌<◌, inl, inr, List, [], length, get_or, refl, sym, ap, subst, ◌∙◌, arith}
use Rattle.std.specs.Prelude.{◌↔◌, true, false, slice_index_or, Contains}
use Rattle.std.proofs.lemmas.Bool.{false≢true}
use Rattle.std.proofs.lemmas.List.Elements.{Contains-get_or}
use Rattle.wq_graph.specs.Graph.{HasArc}
use Rattle.wq_repair.specs.Changes.{lane_in}
use Rattle.wq_repair.specs.Marks.{IsMarked}
use Rattle.wq_repair.specs.Following.{BringsAlongBy}
use Rattle.wq_repair.proofs.NeededFound.{HasGrown-as, HasGrown-then}
use Rattle.wq_repair.proofs.LaneReads.{lane-read}
use Rattle.wq_repair.proofs.needed.Found.follow.Goals as goal

pub returns-then-not-is_bare : goal.returns-then-not-is_bare
returns-then-not-is_bare g c =
    let ws = c.args.workqueues.now in
    let i = c.args.group in
    let graph = c.args.graph.now in
    let here : lane_in ws i ≡ c.lane-lane.result =
    lane-read ws.assignment c.assignment-2.result.now i i c.lane-lane.result c.assignment-2.ensures refl
    c.lane-lane.ensures in
    let grown = rw (c.arcs.ensures, c.get.ensures) at c.in_ok-add_awaited.ensures in
    HasGrown-as c.args.self.now c.add_awaited.new.self (HasArc graph i) (BringsAlongBy graph ws c.args.named.now i)
    grown (λ h arc. inl arc)
    (λ h by. elim by [
      | inl arc ↦ arc
      | inr beside ↦ absurd (false≢true (sym c.if-not-is_bare.true ∙ c.is_bare.ensures
          ∙ ap (λ (q : ℕ). slice_index_or ws.bare q false) (sym here) ∙ beside.bare))
    ])

pub returns-then-not-has_lane : goal.returns-then-not-has_lane
returns-then-not-has_lane g c =
    let ws = c.args.workqueues.now in
    let i = c.args.group in
    let graph = c.args.graph.now in
    let here : lane_in ws i ≡ c.lane-lane.result =
    lane-read ws.assignment c.assignment-2.result.now i i c.lane-lane.result c.assignment-2.ensures refl
    c.lane-lane.ensures in
    let grown = rw (c.arcs.ensures, c.get.ensures) at c.in_ok-add_awaited.ensures in
    HasGrown-as c.args.self.now c.add_awaited.new.self (HasArc graph i) (BringsAlongBy graph ws c.args.named.now i)
    grown (λ h arc. inl arc)
    (λ h by. elim by [
      | inl arc ↦ arc
      | inr beside ↦ absurd (false≢true (sym c.if-not-has_lane.true ∙ c.has_lane.ensures
          ∙ ap (λ (q : ℕ). slice_index_or c.args.named.now.lanes q false) (sym here) ∙ beside.named_lane))
    ])

pub add_lane-requires-clause-within : goal.add_lane-requires-clause-within
add_lane-requires-clause-within g c k d lt =
    let there : Contains (slice_index_or c.args.on.now c.get-2.result []) (get_or c.places.result.now k d) =
    subst (λ (l : List ℕ). Contains l (get_or c.places.result.now k d)) c.places.ensures
    (Contains-get_or c.places.result.now k d lt) in
    omega (
      arith,
      ((c.requires.can.exactly c.get-2.result (get_or c.places.result.now k d)).0 there).0,
      c.in_ok-add_awaited.ensures.one_each,
      c.requires.can.marks,
    )

pub returns : goal.returns
returns g c =
    let ws = c.args.workqueues.now in
    let i = c.args.group in
    let graph = c.args.graph.now in
    let n = c.args.named.now in
    let here : lane_in ws i ≡ c.lane-lane.result =
    lane-read ws.assignment c.assignment-2.result.now i i c.lane-lane.result c.assignment-2.ensures refl
    c.lane-lane.ensures in
    let grown = rw (c.arcs.ensures, c.get.ensures) at c.in_ok-add_awaited.ensures in
    let key : lane_in ws i ≡ c.get-2.result = omega (arith, here, c.get-2.ensures) in
    let unnamed : ¬ IsMarked n.groups i = λ marked. false≢true (sym c.if-has_group.false ∙ c.has_group.ensures
    ∙ marked) in
    let bare : slice_index_or ws.bare (lane_in ws i) false ≡ true =
    ap (λ (q : ℕ). slice_index_or ws.bare q false) here ∙ sym c.is_bare.ensures ∙ c.if-not-is_bare.false in
    let named_lane : IsMarked n.lanes (lane_in ws i) =
    ap (λ (q : ℕ). slice_index_or n.lanes q false) here ∙ sym c.has_lane.ensures ∙ c.if-not-has_lane.false in
    let groups : ℕ = length ws.assignment.lane_of_group in
    let on : (h : ℕ) → Contains c.places.result.now h ↔ ((h < groups) × (lane_in ws h ≡ c.get-2.result)) =
    λ h. subst (λ (l : List ℕ). Contains l h ↔ ((h < groups) × (lane_in ws h ≡ c.get-2.result))) (sym c.places.ensures)
    (c.requires.can.exactly c.get-2.result h) in
    HasGrown-then c.args.self.now c.add_awaited.new.self c.add_lane.new.self (HasArc graph i)
    (Contains c.places.result.now) (BringsAlongBy graph ws n i) grown c.in_ok-add_lane.ensures (λ h arc. inl arc)
    (λ h there.
    let known = (on h).0 there in
    inr (record {
      unnamed = unnamed;
      bare = bare;
      named_lane = named_lane;
      is_group = known.0;
      beside = known.1 ∙ sym
          key;
    }))
    (λ h by. elim by [ inl arc ↦ inl arc | inr beside ↦ inr ((on h).1 (beside.is_group, beside.beside ∙ key)) ])
