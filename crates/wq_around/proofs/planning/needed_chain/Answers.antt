use Rattle.std.proofs.Common.{◌≡◌, ◌<◌, ℕ, Bool, false, inr, List, map, slice_index_or, sym, ap, subst, ◌∙◌}
use Rattle.std.proofs.Common.{arith}
use Rattle.std.specs.List.{range_with_len}
use Rattle.wq_items.specs.Readings.{is_among, unsure_places}
use Rattle.wq_items.specs.Table.{Table, flush_count}
use Rattle.wq_groups.specs.DeclaredGroups.{declared_waits}
use Rattle.wq_graph.specs.declared.arc.WaitArc.{WaitArc}
use Rattle.wq_graph.specs.Graph.{IsGraph}
use Rattle.wq_deadlock.proofs.BareLanes.{IsDeclaration-assigned}
use Rattle.wq_fixed.specs.Fixed.{fixed_lanes, start as start_of}
use Rattle.wq_fixed.proofs.StartKeeps.{IsAssignmentOf-start}
use Rattle.wq_plan.proofs.UnsureFlushes.{marks-tell}
use Rattle.wq_around.specs.Heights.{AreHeights, start_graph}
use Rattle.wq_around.specs.Down.{AllLeadDown, IsTop, IsBestDown}
use Rattle.wq_around.specs.Around.{IsChainOf}
use Rattle.wq_around.proofs.BestChain.{IsBestChain-down}
use Rattle.wq_around.proofs.Descents.{AllLeadDown-heights}
use Rattle.wq_around.proofs.Outcomes.{IfOk-then}
use Rattle.wq_around.proofs.RescuedGraphs.{rescued-sound}
use Rattle.wq_around.proofs.planning.needed_chain.Goals as goal

pub best_chain-requires : goal.best_chain-requires
best_chain-requires g c =
    let s = c.args.start.now in
    let d = declared_waits s.declared in
    let f = c.args.fixed.now in
    let graph = c.args.graph.now in
    let heights : List ℕ = c.args.heights.now in
    let is = c.table.ensures.assigned in
    let sound : IsGraph graph =
    subst IsGraph (sym c.requires.graph)
    (rescued-sound d (start_of f) (IsDeclaration-assigned s is) (IsAssignmentOf-start d.groups f c.requires.fixed)) in
    let new : fixed_lanes f ≡ c.lanes-new.result = sym c.lanes-new.ensures.lanes in
    let some : 0 < c.args.most = omega (arith, c.if-most-eq0.false) in
    let top = c.requires.top some in
    record {
      graph = sound;
      ranks = c.requires.ranks;
      one_each = c.requires.heights.one_each;
      heights = c.requires.few;
      down = subst (λ (n : ℕ). AllLeadDown graph n heights) new
          (AllLeadDown-heights graph f heights c.args.ranks.now sound c.requires.heights c.requires.ranks);
      some = some;
      top = (top.0, subst (λ (n : ℕ). IsTop n heights c.args.most top.0) new top.1);
    }

pub returns : goal.returns
returns g c =
    let s = c.args.start.now in
    let d = declared_waits s.declared in
    let f = c.args.fixed.now in
    let heights : List ℕ = c.args.heights.now in
    let is = c.table.ensures.assigned in
    let declaration = IsDeclaration-assigned s is in
    let assignment = (IsAssignmentOf-start d.groups f c.requires.fixed).assignment in
    let marks : List Bool = c.as_slice.result.now in
    let unsure : (λ place. slice_index_or marks place false) ≡ is_among (unsure_places d.waits) =
    marks-tell d.waits marks declaration.places_are_numbered
    (c.as_slice.ensures.value ∙ c.in_ok-unsure.ensures.unsure
    ∙ ap (λ (t : Table). map (is_among (unsure_places t.waits)) (range_with_len 0 (flush_count t.waits)))
    c.table.ensures.is) in
    let are : AreHeights (start_graph d f) f heights =
    subst (λ (l : List (List WaitArc)). AreHeights l f heights) c.requires.graph c.requires.heights in
    IfOk-then
    (λ chain. IsBestDown (λ place. slice_index_or marks place false) c.args.graph.now c.lanes-new.result heights
    c.args.most chain.items)
    (λ chain. IsChainOf d f c.args.most chain.items) c.best_chain.result c.best_chain.ensures.chain
    (λ chain best.
    let on_graph = subst (λ (l : List (List WaitArc)). IsBestDown (λ place. slice_index_or marks place false) l
    c.lanes-new.result heights c.args.most chain.items) c.requires.graph best in
    let by_lanes = subst (λ (n : ℕ). IsBestDown (λ place. slice_index_or marks place false) (start_graph d f) n heights
    c.args.most chain.items) c.lanes-new.ensures.lanes on_graph in
    let by_marks = subst (λ (u : ℕ → Bool). IsBestDown u (start_graph d f) (fixed_lanes f) heights c.args.most
    chain.items) unsure by_lanes in
    inr (heights, are, IsBestChain-down d f declaration assignment heights c.args.most chain.items by_marks))
