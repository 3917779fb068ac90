use Rattle.std.proofs.Common.{◌≡◌, ℕ, ◌<◌, ◌≤◌, List, length, sym, ap, subst, ◌∙◌, arith}
use Rattle.std.specs.Prelude.{slice_index}
use Rattle.std.proofs.lemmas.List.{get_or_default}
use Rattle.std.proofs.lemmas.List.FromFn.{length-map-range_with_len}
use Rattle.wq_groups.specs.Declaration.{Declaration}
use Rattle.wq_groups.specs.DeclaredGroups.{declared_waits}
use Rattle.wq_groups.specs.Assignment.{Assignment}
use Rattle.wq_groups.specs.Partition.{Partition}
use Rattle.wq_core.specs.Workqueues.{Workqueues}
use Rattle.wq_graph.specs.declared.arc.WaitArc.{WaitArc}
use Rattle.wq_graph.specs.Graph.{group_graph, arcs_from}
use Rattle.wq_repair.specs.Needed.{NeedsRescuerOf}
use Rattle.wq_repair.specs.Marks.{Marks}
use Rattle.wq_repair.specs.Steps.{Named, AreNamed}
use Rattle.wq_repair.specs.Following.{FoundGroups, HasGrown, BringsAlongBy}
use Rattle.wq_repair.proofs.NeededGroups.{IsFollowed-first, IsFollowed-next, listed-below, work-less, Marks-followed}
use Rattle.wq_repair.proofs.needed.needed_groups.Goals as goal

pub loop-done-init : goal.loop-done-init
loop-done-init g c =
    let known = c.workqueues_of-workqueues.ensures in
    let ws = c.workqueues_of-workqueues.result.now in
    let names : List ℕ = c.args.names.now in
    let d : Declaration = declared_waits c.args.assigned.now.declared in
    let n : Named = c.in_ok-named.named in
    let are : AreNamed d ws names n = rw (← known.is) at c.in_ok-named.ensures in
    let number : c.len-groups.result ≡ d.groups =
    c.len-groups.ensures.len ∙ ap (λ (p : Partition). p.groups) c.groups.ensures.is in
    IsFollowed-first d ws names known.declaration known.assignment.assignment n are c.in_ok-found.found
    (omega (arith, c.in_ok-found.ensures.one_each, number))
    (λ k below. c.in_ok-found.ensures.exactly k (omega (arith, below, number))) c.in_ok-found.ensures.lists

pub follow-requires-clause-group : goal.follow-requires-clause-group
follow-requires-clause-group g c =
    let known = c.workqueues_of-workqueues.ensures in
    let ws = c.workqueues_of-workqueues.result.now in
    let names : List ℕ = c.args.names.now in
    let d : Declaration = declared_waits c.args.assigned.now.declared in
    let n : Named = c.in_ok-named.named in
    let are : AreNamed d ws names n = rw (← known.is) at c.in_ok-named.ensures in
    let f : FoundGroups = c.loop-done.found in
    let done : ℕ = c.loop-done.done in
    let lt : done < length f.list =
    omega (arith, c.loop-done-test.true, c.len.ensures, ap (λ (s : FoundGroups). length s.list) c.found.view_is) in
    let own : done < length c.found.inside.list.items = omega (arith, c.loop-done-test.true, c.len.ensures) in
    let read : slice_index f.list done ≡ c.index-group.result.now =
    ap (λ (s : FoundGroups). slice_index s.list done) (sym c.found.view_is)
    ∙ get_or_default c.found.inside.list.items done 0 c.index-group.result.now own ∙ sym c.index-group.ensures in
    let below = listed-below d ws names known.declaration known.assignment.assignment n are f done c.loop-done.invariant
    done lt in
    omega (arith, read, below, known.assignment.assignment.one_each)

pub follow-requires-clause-can : goal.follow-requires-clause-can
follow-requires-clause-can g c =
    let known = c.workqueues_of-workqueues.ensures in
    let d : Declaration = declared_waits c.args.assigned.now.declared in
    let long = known.assignment.assignment.one_each in
    let number : c.len-groups.result ≡ d.groups =
    c.len-groups.ensures.len ∙ ap (λ (p : Partition). p.groups) c.groups.ensures.is in
    record {
      few = omega (arith, long, known.few);
      marks = c.loop-done.invariant.one_each ∙ sym long;
      graph_of = ap (λ (arcs : List (List WaitArc)). length arcs) c.in_ok-graph.ensures
          ∙ length-map-range_with_len (arcs_from d.waits d.group_of) 0 d.groups ∙ sym long;
      on_each = c.in_ok-on.ensures.one_each ∙ ap (λ (a : Assignment). a.lanes) c.assignment.ensures;
      exactly = λ q k.
          let exactly = c.in_ok-on.ensures.on q k in
          let same = ap (λ (a : Assignment). slice_index a.lane_of_group k) c.assignment.ensures in (
            λ there. let both = exactly.0 there in (omega (arith, both.0, long, number), sym same ∙ both.1),
            λ both. exactly.1 (omega (arith, both.0, long, number), same ∙ both.1),
          );
    }

pub loop-done-smaller : goal.loop-done-smaller
loop-done-smaller g c =
    let known = c.workqueues_of-workqueues.ensures in
    let ws = c.workqueues_of-workqueues.result.now in
    let names : List ℕ = c.args.names.now in
    let d : Declaration = declared_waits c.args.assigned.now.declared in
    let n : Named = c.in_ok-named.named in
    let are : AreNamed d ws names n = rw (← known.is) at c.in_ok-named.ensures in
    let f : FoundGroups = c.loop-done.found in
    let lt : c.loop-done.done < length f.list =
    omega (arith, c.loop-done-test.true, c.len.ensures, ap (λ (s : FoundGroups). length s.list) c.found.view_is) in
    work-less d ws names known.declaration known.assignment.assignment n are f c.loop-done.done c.loop-done.invariant lt

pub loop-done-preserved : goal.loop-done-preserved
loop-done-preserved g c =
    let known = c.workqueues_of-workqueues.ensures in
    let ws = c.workqueues_of-workqueues.result.now in
    let names : List ℕ = c.args.names.now in
    let d : Declaration = declared_waits c.args.assigned.now.declared in
    let n : Named = c.in_ok-named.named in
    let are : AreNamed d ws names n = rw (← known.is) at c.in_ok-named.ensures in
    let f : FoundGroups = c.loop-done.found in
    let done : ℕ = c.loop-done.done in
    let lt : done < length f.list =
    omega (arith, c.loop-done-test.true, c.len.ensures, ap (λ (s : FoundGroups). length s.list) c.found.view_is) in
    let own : done < length c.found.inside.list.items = omega (arith, c.loop-done-test.true, c.len.ensures) in
    let read : slice_index f.list done ≡ c.index-group.result.now =
    ap (λ (s : FoundGroups). slice_index s.list done) (sym c.found.view_is)
    ∙ get_or_default c.found.inside.list.items done 0 c.index-group.result.now own ∙ sym c.index-group.ensures in
    let next : FoundGroups = c.follow.new.self in
    let grown : HasGrown f next (BringsAlongBy (group_graph d) ws n (slice_index f.list done)) =
    subst (λ (x : ℕ). HasGrown f next (BringsAlongBy (group_graph d) ws n x)) (sym read)
    (subst (λ (graph : List (List WaitArc)). HasGrown f next (BringsAlongBy graph ws n c.index-group.result.now))
    c.in_ok-graph.ensures c.in_ok-follow.ensures) in
    IsFollowed-next d ws names known.declaration known.assignment.assignment n are f done c.loop-done.invariant next lt
    grown

pub returns : goal.returns
returns g c =
    let known = c.workqueues_of-workqueues.ensures in
    let ws = c.workqueues_of-workqueues.result.now in
    let names : List ℕ = c.args.names.now in
    let d : Declaration = declared_waits c.args.assigned.now.declared in
    let n : Named = c.in_ok-named.named in
    let are : AreNamed d ws names n = rw (← known.is) at c.in_ok-named.ensures in
    let f : FoundGroups = c.loop-done.found in
    let done : ℕ = c.loop-done.done in
    let all : length f.list ≤ done =
    omega (arith, c.loop-done-test.false, c.len.ensures, ap (λ (s : FoundGroups). length s.list) c.found.view_is) in
    subst (λ (old : Workqueues). Marks (NeedsRescuerOf d old names) d.groups c.found.inside.marks.items) known.is
    (subst (λ (s : FoundGroups). Marks (NeedsRescuerOf d ws names) d.groups s.marks) (sym c.found.view_is)
    (Marks-followed d ws names known.declaration known.assignment.assignment n are f done c.loop-done.invariant all))
