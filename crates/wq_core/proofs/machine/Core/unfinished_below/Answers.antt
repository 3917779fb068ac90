use Rattle.std.proofs.Common.{◌≡◌, true, false, inl, inr, sym, ◌∙◌}
use Rattle.wq_core.proofs.Machines.{unfinished_below-either, cases_unfinished_below}
use Rattle.wq_core.proofs.machine.Core.unfinished_below.Goals as goal

pub returns-then-has_pending_below : goal.returns-then-has_pending_below
returns-then-has_pending_below g c =
    let s = c.args.self.now.state in
    ((λ h. unfinished_below-either s c.args.item c.args.mark (inl (c.has_pending_below.ensures.0 h))), (λ h. c.if-has_pending_below.true))

pub returns-else-has_pending_below : goal.returns-else-has_pending_below
returns-else-has_pending_below g c =
    let s = c.args.self.now.state in (
      (λ h. unfinished_below-either s c.args.item c.args.mark (inr (c.runs_below.ensures.0 h))),
      (λ h. elim (cases_unfinished_below s c.args.item c.args.mark h) [
        | inl pending ↦ absurd (let never : false ≡ true = sym c.if-has_pending_below.false ∙ c.has_pending_below.ensures.1 pending in cc)
        | inr runs ↦ c.runs_below.ensures.1 runs
      ]),
    )
