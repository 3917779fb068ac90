use Rattle.std.proofs.Common.{sym, subst, ◌∙◌}
use Rattle.std.proofs.lemmas.Bool.{false≢true}
use Rattle.wq_core.specs.Deadlock.{IsStuck}
use Rattle.wq_core.proofs.Helpers.{no_help-run}
use Rattle.wq_checker.proofs.running.end_of.Goals as goal
use Rattle.wq_checker.proofs.running.end_of.Goals.{else-in_order-via-then-in_order+in_ok-is_once+else-branch, else-in_order-via-else-in_order}

pub returns-then-branch-clause-end : goal.returns-then-branch-clause-end
returns-then-branch-clause-end g c =
    let played = c.requires.played in
    record {
      run = played.run;
      once = c.in_ok-is_once.ensures.once.0 c.if-branch.true;
      as_declared = played.declared.0 c.if-in_order.true;
      no_help = no_help-run c.args.core.now.wiring c.args.steps.now c.requires.helpers played.run;
      stuck = subst (λ s. IsStuck c.args.core.now.wiring s) played.state (c.is_stuck.ensures.0 c.if-not-is_stuck.false);
    }

pub returns-else-in_order-clause-end : goal.returns-else-in_order-clause-end
returns-else-in_order-clause-end g c =
    let played = c.requires.played in (
      played.run,
      subst (λ s. IsStuck c.args.core.now.wiring s) played.state (c.is_stuck.ensures.0 c.if-not-is_stuck.false),
      elim c.else-in_order.branch [
        | else-in_order-via-then-in_order+in_ok-is_once+else-branch w ↦ (λ deadlock. false≢true (sym w.if-branch.false ∙ w.in_ok-is_once.ensures.once.1 deadlock.once))
        | else-in_order-via-else-in_order w ↦ (λ deadlock. false≢true (sym w.if-in_order.false ∙ played.declared.1 deadlock.as_declared))
      ],
    )
