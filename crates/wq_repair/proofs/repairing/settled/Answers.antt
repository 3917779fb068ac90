use Rattle.std.proofs.Common.{sym, ap, subst, ◌∙◌}
use Rattle.std.proofs.lemmas.Result.{IfOk-weaker}
use Rattle.wq_groups.specs.DeclaredGroups.{declared_waits}
use Rattle.wq_repair.specs.Marks.{Marks}
use Rattle.wq_repair.specs.Ready.{Scope, IsButNot, IsGraphOfNeeded}
use Rattle.wq_repair.proofs.RepairedBy.{Marks-but_not, graph-by, IsTrial-ready}
use Rattle.wq_repair.proofs.repairing.settled.Goals as goal

pub settle-requires-clause-fixed : goal.settle-requires-clause-fixed
settle-requires-clause-fixed g c =
    let d = declared_waits c.args.start.now.declared in
    let s = c.args.scope.now in
    let ready = c.requires.ready.1 in
    let fixed = c.in_ok-fixed.fixed.items in
    let are_fixed : Marks (IsButNot s.needed s.movable) d.groups fixed =
    Marks-but_not s.needed s.movable c.as_slice-2.result.now c.as_slice-3.result.now fixed d.groups
    (c.as_slice-2.ensures.value ∙ ap (λ (x : Scope). x.needed) c.scope.view_is)
    (c.as_slice-3.ensures.value ∙ ap (λ (x : Scope). x.movable) c.scope.view_is) ready.scope.one_each
    c.in_ok-fixed.ensures in
    subst (Marks (IsButNot s.needed s.movable) d.groups) (sym c.as_slice-else-branch.ensures.value) are_fixed

pub settle-requires-clause-tried : goal.settle-requires-clause-tried
settle-requires-clause-tried g c = c.requires.tried.one_each

pub returns-then-branch : goal.returns-then-branch
returns-then-branch g c =
    let d = declared_waits c.args.start.now.declared in
    let s = c.args.scope.now in
    let ready = c.requires.ready.1 in
    let fixed = c.in_ok-fixed.fixed.items in
    let are_fixed : Marks (IsButNot s.needed s.movable) d.groups fixed =
    Marks-but_not s.needed s.movable c.as_slice-2.result.now c.as_slice-3.result.now fixed d.groups
    (c.as_slice-2.ensures.value ∙ ap (λ (x : Scope). x.needed) c.scope.view_is)
    (c.as_slice-3.ensures.value ∙ ap (λ (x : Scope). x.movable) c.scope.view_is) ready.scope.one_each
    c.in_ok-fixed.ensures in
    let of : IsGraphOfNeeded d s.needed c.in_ok-graph.graph =
    graph-by c.workqueues_of-few.ensures.declaration ready.scope.one_each c.scope.view_is c.as_slice.ensures.value
    c.in_ok-graph.ensures in
    record {
      graph = c.in_ok-graph.graph;
      fixed = fixed;
      of = of;
      are_fixed = are_fixed;
      is = rw (
        c.assignment-assignment.ensures,
        c.as_slice-6.ensures.value,
        c.as_slice-7.ensures.value,
        c.as_slice-8.ensures.value,
      ) at (c.in_ok-is_settled.ensures c.if-branch.true);
    }

pub returns : goal.returns
returns g c =
    let d = declared_waits c.args.start.now.declared in
    let s = c.args.scope.now in
    let ready = c.requires.ready.1 in
    let fixed = c.in_ok-fixed.fixed.items in
    let are_fixed : Marks (IsButNot s.needed s.movable) d.groups fixed =
    Marks-but_not s.needed s.movable c.as_slice-2.result.now c.as_slice-3.result.now fixed d.groups
    (c.as_slice-2.ensures.value ∙ ap (λ (x : Scope). x.needed) c.scope.view_is)
    (c.as_slice-3.ensures.value ∙ ap (λ (x : Scope). x.movable) c.scope.view_is) ready.scope.one_each
    c.in_ok-fixed.ensures in
    let of : IsGraphOfNeeded d s.needed c.in_ok-graph.graph =
    graph-by c.workqueues_of-few.ensures.declaration ready.scope.one_each c.scope.view_is c.as_slice.ensures.value
    c.in_ok-graph.ensures in
    let same = subst (Marks (IsButNot s.needed s.movable) d.groups) (sym c.as_slice-else-branch.ensures.value)
    are_fixed in
    IfOk-weaker c.settle.result _ _ (λ settled all. record {
      graph = c.in_ok-graph.graph;
      fixed = c.as_slice-else-branch.result.now;
      of = of;
      are_fixed = same;
      is = all c.in_ok-graph.graph
          (IsTrial-ready c.workqueues_of-few.ensures.declaration ready c.requires.tried of same);
    }) c.settle.ensures
