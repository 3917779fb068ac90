use Rattle.std.proofs.Common.{List, map, subst, sym, ◌∙◌, ℕ, arith}
use Rattle.std.proofs.lemmas.List.{length-map}
use Rattle.wq_circles.specs.Finishing.{IsVisited, Walk, WentOn}
use Rattle.wq_circles.proofs.Walked.{WentOn-root, few_steps, no_top}
use Rattle.wq_circles.proofs.finishing.walk_from.Goals as goal

pub loop-vertex-init : goal.loop-vertex-init
loop-vertex-init g c =
    let shown : List (List ℕ) = map (λ list. list.items) c.args.lists.now in
    let at = WentOn-root shown c.args.walk.now c.args.root c.requires.walk c.requires.at_rest (omega (arith, c.requires.root, length-map c.args.lists.now (λ list. list.items))) c.requires.new in
    record {
      went_on = subst (WentOn shown c.args.walk.now) (sym c.in_ok-visit.ensures) at.0;
      root = subst (λ (w : Walk). IsVisited w c.args.root) (sym c.in_ok-visit.ensures) at.1;
    }

pub loop-vertex-smaller : goal.loop-vertex-smaller
loop-vertex-smaller g c =
    let shown : List (List ℕ) = map (λ list. list.items) c.args.lists.now in
    omega (arith, few_steps shown c.step.new.self c.in_ok-step.ensures.goes_on.walk, c.in_ok-step.ensures.counts, length-map c.args.lists.now (λ list. list.items))

pub returns-clause-at_rest : goal.returns-clause-at_rest
returns-clause-at_rest g c = no_top c.loop-vertex.walk.path (sym c.top.ensures ∙ c.in_default.is)
