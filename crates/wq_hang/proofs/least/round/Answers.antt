use Rattle.std.proofs.Common.{◌≡◌, ◌≢◌, ◌≤◌, eqb, List, [], ◌∷◌, ◌++◌, sym, ap, subst, ◌∙◌}
use Rattle.std.specs.Prelude.{slice_index}
use Rattle.std.proofs.lemmas.Bool.{eqb-true, eqb-false, not-true, not-false}
use Rattle.wq_hang.specs.declared.hop.Hop.{Hop}
use Rattle.wq_hang.specs.Walk.{IsPath, IsRound}
use Rattle.wq_hang.specs.Search.{IsReachedBy, hops_cost}
use Rattle.wq_hang.proofs.RoundsFound.{IsTrace, IsTrace-first, IsTrace-next, trace_left, path_traced, IsRound-traced}
use Rattle.wq_hang.proofs.least.round.Goals as goal

pub loop-first-init : goal.loop-first-init
loop-first-init g c =
    let w = c.args.waits.now in
    let first = c.args.first in
    let s = c.args.search.now in
    let h : Hop = c.hop_to-hop.result in
    let by : IsReachedBy w first s first h = subst (IsReachedBy w first s first) (sym (c.hop_to-hop.ensures h)) (c.requires.reach.reached first h c.requires.first c.requires.less) in
    let items = c.in_ok-push.ensures.items ∙ ap (λ (l : List Hop). l ++ (h ∷ [])) c.new-hops.ensures.items in
    subst (IsTrace w first c.args.limit s h) (sym items) (IsTrace-first w first c.args.limit s c.requires.reach h by c.requires.less)

pub loop-first-preserved : goal.loop-first-preserved
loop-first-preserved g c =
    let w = c.args.waits.now in
    let first = c.args.first in
    let s = c.args.search.now in
    let h : Hop = c.loop-first.hop in
    let next : Hop = c.hop_to-hop-in-loop-first.result in
    let trace = c.loop-first.invariant in
    let other : h.item ≢ first = eqb-false h.item first (not-true (eqb h.item first) (sym c.ne.ensures ∙ c.loop-first-test.true)) in
    let by : IsReachedBy w first s h.item next = subst (IsReachedBy w first s h.item) (sym (c.hop_to-hop-in-loop-first.ensures next)) (c.requires.reach.reached h.item next trace.below (trace.low other)) in
    subst (IsTrace w first c.args.limit s next) (sym c.in_ok-push-2.ensures.items) (IsTrace-next w first c.args.limit s c.requires.reach h c.loop-first.hops.items next trace other by)

pub loop-first-smaller : goal.loop-first-smaller
loop-first-smaller g c =
    let w = c.args.waits.now in
    let first = c.args.first in
    let s = c.args.search.now in
    let h : Hop = c.loop-first.hop in
    let next : Hop = c.hop_to-hop-in-loop-first.result in
    let trace = c.loop-first.invariant in
    let other : h.item ≢ first = eqb-false h.item first (not-true (eqb h.item first) (sym c.ne.ensures ∙ c.loop-first-test.true)) in
    let by : IsReachedBy w first s h.item next = subst (IsReachedBy w first s h.item) (sym (c.hop_to-hop-in-loop-first.ensures next)) (c.requires.reach.reached h.item next trace.below (trace.low other)) in
    trace_left w first c.args.limit s c.requires.reach h next other by

pub returns-clause-round : goal.returns-clause-round
returns-clause-round g c =
    let w = c.args.waits.now in
    let same : c.loop-first.hop.item ≡ c.args.first = eqb-true c.loop-first.hop.item c.args.first (not-false (eqb c.loop-first.hop.item c.args.first) (sym c.ne.ensures ∙ c.loop-first-test.false)) in
    let traced = IsRound-traced w c.args.first c.args.limit c.args.search.now c.requires.reach c.loop-first.hop c.loop-first.hops.items c.loop-first.invariant same in
    subst (IsRound w) (sym c.reverse.ensures.items) traced.0

pub returns-clause-cost : goal.returns-clause-cost
returns-clause-cost g c =
    let w = c.args.waits.now in
    let same : c.loop-first.hop.item ≡ c.args.first = eqb-true c.loop-first.hop.item c.args.first (not-false (eqb c.loop-first.hop.item c.args.first) (sym c.ne.ensures ∙ c.loop-first-test.false)) in
    let traced = IsRound-traced w c.args.first c.args.limit c.args.search.now c.requires.reach c.loop-first.hop c.loop-first.hops.items c.loop-first.invariant same in
    subst (λ (l : List Hop). hops_cost l ≤ slice_index c.args.search.now.costs c.args.first) (sym c.reverse.ensures.items) traced.1

pub returns-clause-path : goal.returns-clause-path
returns-clause-path g c =
    let w = c.args.waits.now in
    let first = c.args.first in
    let same : c.loop-first.hop.item ≡ first =
    eqb-true c.loop-first.hop.item first
    (not-false (eqb c.loop-first.hop.item first) (sym c.ne.ensures ∙ c.loop-first-test.false)) in
    subst (λ (l : List Hop). IsPath w first l first) (sym c.reverse.ensures.items)
    (path_traced w first c.args.limit c.args.search.now c.requires.reach c.loop-first.hop c.loop-first.hops.items
    c.loop-first.invariant same)
