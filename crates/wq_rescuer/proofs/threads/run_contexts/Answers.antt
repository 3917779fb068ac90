use Rattle.std.proofs.Common.{◌≡◌, ◌∙◌, reverse, subst}
use Rattle.wq_rescuer.specs.Executing.{HasWorked}
use Rattle.wq_rescuer.proofs.Doing.{done_through}
use Rattle.wq_rescuer.proofs.threads.run_contexts.Goals as goal

pub returns-clause-served : goal.returns-clause-served
returns-clause-served g c all =
    let w = g.N.Naming.wiring in
    let rows = g.N.Naming.rows in
    let may = g.B.Body.may w in
    done_through _ _ (λ job end. (end.context ≡ job.context)
    × HasWorked w rows job.context (may job.body) end.seat end.rescued)
    (λ job thread end has kept. (
      kept.0 ∙ has.0,
      subst (λ body. HasWorked w rows job.context (may body) end.seat end.rescued) has.1
          (subst (λ context. HasWorked w rows context (may thread.promise.body.value) end.seat end.rescued) has.0
          kept.1),
    ))
    c.args.board.now.contexts.waiting.items (reverse c.start_all-all.new.board.contexts.threads.items)
    c.join_all.new.ends.items (c.start_all-all.ensures.started all) c.join_all.ensures.kept
