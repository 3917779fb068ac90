use Rattle.std.proofs.Common.{subst, arith}
use Rattle.std.proofs.lemmas.Result.{IfOk-weaker}
use Rattle.wq_repair.specs.Settled.{AreInVain}
use Rattle.wq_repair.proofs.Settling.{IsSettled-checked}
use Rattle.wq_repair.proofs.checking.is_right.Goals as goal

pub returns : goal.returns
returns g c =
    let vain = c.in_ok-vain.vain.items in
    IfOk-weaker c.are_in_vain.result _ _ (λ is sound yes.
    IsSettled-checked c.args.graph.now c.args.assignment.now c.args.fixed.now c.args.tried.now
    vain (record { stays = c.args.stays.now; ranks = c.args.ranks.now })
    c.args.homes.now c.args.vertices.now c.vertices-groups.ensures.graph c.requires.stays
    (c.are_within.ensures c.if-not-are_within.false) c.requires.tried
    c.requires.homes c.requires.vertices
    (c.have_ranks.ensures c.if-not-have_ranks.false)
    (λ v lt marked out. (c.in_ok-vain.ensures.exactly v (omega (arith, lt, c.requires.tried))).1 (marked, out))
    (subst (AreInVain c.args.graph.now c.args.assignment.now c.args.homes.now c.args.vertices.now)
    c.as_slice.ensures.value (sound yes)))
    c.are_in_vain.ensures
