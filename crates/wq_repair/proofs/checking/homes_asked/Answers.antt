use Rattle.std.proofs.Common.{ℕ, inl, inr, List, [], ◌∷◌, Option, length, length-append, sym, ap, subst}
use Rattle.std.proofs.Common.{◌∙◌, arith}
use Rattle.wq_groups.specs.Assignment.{group_lane}
use Rattle.wq_repair.specs.Near.{IsAsked}
use Rattle.wq_repair.specs.Settled.{IsHomeOf}
use Rattle.wq_repair.proofs.Homes.{asked-cases}
use Rattle.wq_repair.proofs.checking.homes_asked.Goals as goal

pub loop-group-preserved : goal.loop-group-preserved
loop-group-preserved g c =
    let a = c.args.assignment.now in
    let xs = c.loop-group.asked.items in
    let o : Option ℕ = c.home_asked.result in
    let is = c.loop-group.invariant in
    let pushed = c.in_ok-push.ensures.items in
    record {
      one_each = ap length pushed ∙ length-append xs (o ∷ []) ∙ omega (arith, is.one_each);
      homes = λ k v asked. elim (asked-cases xs o c.loop-group.group is.one_each k v
          (subst (λ (ys : List (Option ℕ)). IsAsked ys k v) pushed asked)) [
            | inl was ↦ is.homes k v was
            | inr last ↦ subst (λ (x : ℕ). IsHomeOf c.args.homes.now (group_lane a x) v) (c.new.ensures ∙ sym last.0)
                (c.home_asked.ensures v last.1)
          ];
    }
