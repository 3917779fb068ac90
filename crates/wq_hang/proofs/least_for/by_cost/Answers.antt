use Rattle.std.proofs.Common.{◌≡◌, ◌+◌, ◌∷◌, ◌++◌, [], ℕ, List, length, get_or, map, sym, ap, subst, ◌∙◌, arith}
use Rattle.std.specs.Prelude.{Contains}
use Rattle.std.proofs.lemmas.List.{map_push}
use Rattle.wq_hang.specs.WaysFor.{AreNear}
use Rattle.wq_hang.proofs.Taken.{IfOk-both}
use Rattle.wq_hang.proofs.EndsFound.{AreNearBelow, AreNearBelow-none, AreNearBelow-more, AreNearBelow-same}
use Rattle.wq_hang.proofs.EndsFound.{AreNear-ordered}
use Rattle.wq_hang.proofs.least_for.by_cost.Goals as goal
use Rattle.wq_hang.proofs.least_for.by_cost.Goals.{then-cost-limit+in_ok-push, else-cost-limit}

pub loop-i-init : goal.loop-i-init
loop-i-init g c =
    subst (λ l. AreNearBelow c.args.limit c.args.ways.now.costs 0 (map (λ key. key.1) l)) (sym c.new-keys.ensures.items)
    (AreNearBelow-none c.args.limit c.args.ways.now.costs)

pub cost-cost-requires : goal.cost-cost-requires
cost-cost-requires g c =
    omega (arith, c.new.ensures, c.loop-i-test.true, c.items-i-end.ensures.items, c.requires)

pub loop-i-preserved : goal.loop-i-preserved
loop-i-preserved g c =
    let limit = c.args.limit in
    let costs = c.args.ways.now.costs in
    let n : ℕ = c.loop-i.i in
    let near : List ℕ = map (λ key. key.1) c.loop-i.keys.items in
    let cost = c.cost-cost.ensures ∙ ap (λ (k : ℕ). get_or costs k 0) c.new.ensures in
    elim c.if-cost-limit.branch [
      | then-cost-limit+in_ok-push w ↦ (
          let is = ap (λ v. map (λ key. key.1) v.items) w.keys-is
          ∙ ap (λ l. map (λ key. key.1) l) w.in_ok-push.ensures.items
          ∙ map_push (λ key. key.1) c.loop-i.keys.items (c.cost-cost.result, w.from.result)
          ∙ ap (λ (m : ℕ). near ++ (m ∷ [])) w.from.ensures in
          subst (AreNearBelow limit costs (n + 1)) (sym is)
          (AreNearBelow-more limit costs n near c.loop-i.invariant (omega (arith, cost, w.if-cost-limit.true)))
          )
      | else-cost-limit w ↦
          subst (λ v. AreNearBelow limit costs (n + 1) (map (λ key. key.1) v.items)) (sym w.keys-is)
          (AreNearBelow-same limit costs n near c.loop-i.invariant (omega (arith, cost, w.if-cost-limit.false)))
    ]

pub returns : goal.returns
returns g c =
    let limit = c.args.limit in
    let costs = c.args.ways.now.costs in
    let near : List ℕ = map (λ key. key.1) c.loop-i.keys.items in
    let same : c.loop-i.i ≡ length costs =
    omega (arith, c.loop-i-test.false, c.loop-i.auto.i-end, c.items-i-end.ensures.items, c.requires) in
    let are : AreNearBelow limit costs (length costs) near =
    subst (λ (n : ℕ). AreNearBelow limit costs n near) same c.loop-i.invariant in
    IfOk-both c.cheapest_first.result (λ list. (i : ℕ) → Contains near i → Contains list.items i)
    (λ list. (i : ℕ) → Contains list.items i → Contains near i) (λ list. AreNear limit costs list.items)
    (λ list all no_others. AreNear-ordered limit costs near list.items are all no_others)
    c.cheapest_first.ensures.all c.cheapest_first.ensures.no_others
