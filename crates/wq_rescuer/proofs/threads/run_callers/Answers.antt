use Rattle.std.proofs.Common.{reverse, subst}
use Rattle.wq_rescuer.specs.Executing.{no_counts}
use Rattle.wq_rescuer.proofs.Doing.{done_through}
use Rattle.wq_rescuer.proofs.threads.run_callers.Goals as goal

pub returns-clause-all : goal.returns-clause-all
returns-clause-all g c all =
    let w = g.N.Naming.wiring in
    done_through _ _ (λ job end. g.C.Caller.did w job.caller end.caller end.result (no_counts w) end.seat)
    (λ job thread end has kept.
    subst (λ before. g.C.Caller.did w before end.caller end.result (no_counts w) end.seat) has kept)
    c.args.jobs.now.waiting.items (reverse c.start_callers-all.new.threads.items) c.join_all.new.ends.items
    (c.start_callers-all.ensures.all all) c.join_all.ensures.kept
