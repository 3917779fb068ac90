use Rattle.std.proofs.Common.{◌≡◌, List, Some, sym, ap, subst, ◌∙◌}
use Rattle.std.specs.Prelude.{position}
use Rattle.wq_hang.specs.declared.hop.Hop.{Hop}
use Rattle.wq_hang.specs.Walk.{IsRound, BeginsUnsure, AreFirstAlike}
use Rattle.wq_hang.specs.Search.{hops_cost}
use Rattle.wq_hang.proofs.SettledHops.{
  is_unsure,
  IsRound-turned,
  hops_cost-turned,
  AreFirstAlike-turned,
  BeginsUnsure-turned,
  BeginsUnsure-none,
  unsure_none,
}
use Rattle.wq_hang.proofs.settling.settle.Goals as goal

pub returns-in-Some-clause-round : goal.returns-in-Some-clause-round
returns-in-Some-clause-round g c =
    subst (IsRound c.args.waits.now) (sym c.rotate_left.ensures.after)
    (IsRound-turned c.args.waits.now c.in-Some.first c.put_first_alike.new.hops c.put_first_alike.ensures.round)

pub returns-in-Some-clause-cost : goal.returns-in-Some-clause-cost
returns-in-Some-clause-cost g c =
    ap hops_cost c.rotate_left.ensures.after
    ∙ hops_cost-turned c.in-Some.first c.put_first_alike.new.hops
    ∙ c.put_first_alike.ensures.cost

pub returns-in-Some-clause-begins : goal.returns-in-Some-clause-begins
returns-in-Some-clause-begins g c =
    let hops : List Hop = c.put_first_alike.new.hops in
    let at : position is_unsure hops ≡ Some c.in-Some.first = sym c.first_unsure.ensures ∙ c.in-Some.is in
    subst BeginsUnsure (sym c.rotate_left.ensures.after) (BeginsUnsure-turned hops c.in-Some.first at).1

pub returns-in-Some-clause-alike : goal.returns-in-Some-clause-alike
returns-in-Some-clause-alike g c =
    subst (AreFirstAlike c.args.waits.now) (sym c.rotate_left.ensures.after)
    (AreFirstAlike-turned c.args.waits.now c.in-Some.first c.put_first_alike.new.hops c.put_first_alike.ensures.alike)

pub returns-in_default-clause-begins : goal.returns-in_default-clause-begins
returns-in_default-clause-begins g c =
    let hops : List Hop = c.put_first_alike.new.hops in
    BeginsUnsure-none hops (unsure_none hops (sym c.first_unsure.ensures ∙ c.in_default.is))
