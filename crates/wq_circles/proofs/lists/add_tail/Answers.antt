use Rattle.std.proofs.Common.{◌≡◌, ◌<◌, ◌∷◌, [], ◌++◌, ℕ, List, ◌+◌, length, map, take, set, refl, sym, subst, ap, ◌∙◌, arith}
use Rattle.std.proofs.lemmas.List.{length-map, take_more}
use Rattle.wq_graph.proofs.BuildingLemmas.{lists_grown}
use Rattle.wq_circles.specs.Lists.{HasTails, listed_at}
use Rattle.wq_circles.proofs.Turned.{HasTails-more}
use Rattle.wq_circles.proofs.lists.add_tail.Goals as goal

pub loop-head-preserved : goal.loop-head-preserved
loop-head-preserved g c =
    let heads = c.args.heads.now in
    let before : List ℕ = take c.loop-head.head-index heads in
    let h : ℕ = c.from.result in
    let old : List (List ℕ) = map (λ list. list.items) c.args.lists.now.items in
    let now : List (List ℕ) = map (λ list. list.items) c.loop-head.lists.items in
    let long : length old ≡ length c.args.lists.now.items = length-map c.args.lists.now.items (λ list. list.items) in
    let same = c.loop-head.invariant.one_each in
    let within : h < length old = omega (arith, c.requires c.loop-head.head-index 0 c.loop-head-test.true, c.from.ensures, long) in
    let grown = lists_grown c.loop-head.lists.items h c.index_mut-list.result.now c.push.new.self now (c.args.vertex ∷ []) refl (omega (arith, within, same)) c.index_mut-list.ensures.value c.in_ok-push.ensures.items in
    let taken : take (c.loop-head.head-index + 1) heads ≡ before ++ (h ∷ []) = take_more heads c.loop-head.head-index 0 c.loop-head-test.true ∙ ap (λ (x : ℕ). before ++ (x ∷ [])) (sym c.from.ensures) in
    let more : HasTails old (set now h (listed_at now h ++ (c.args.vertex ∷ []))) c.args.vertex (before ++ (h ∷ [])) = HasTails-more old now c.args.vertex before h c.loop-head.invariant within in
    subst (HasTails old (map (λ list. list.items) (set c.loop-head.lists.items h c.push.new.self)) c.args.vertex) (sym taken)
    (subst (λ (l : List (List ℕ)). HasTails old l c.args.vertex (before ++ (h ∷ []))) (sym grown) more)
