use Rattle.std.proofs.Common.{◌∙◌, ap, reverse, sym}
use Rattle.wq_rescuer.proofs.Handovers.{nothing_in}
use Rattle.wq_rescuer.proofs.running.make_jobs.Goals as goal

pub returns-clause-contexts : goal.returns-clause-contexts
returns-clause-contexts g c = c.add_contexts.ensures.contexts ∙ ap reverse c.requires.all.1

pub invariant_of-result : goal.invariant_of-result
invariant_of-result g c =
    let contexts = c.args.space.board.contexts in
    let callers = c.args.space.board.callers in
    record {
      no_contexts = (
        nothing_in contexts.ends.items (sym contexts.ends.ok.0 ∙ c.requires.contexts.1.0),
        nothing_in contexts.threads.items (sym contexts.threads.ok.0 ∙ c.requires.contexts.3.0),
      );
      no_callers = (
        nothing_in callers.ends.items (sym callers.ends.ok.0 ∙ c.requires.callers.1.0),
        nothing_in callers.threads.items (sym callers.threads.ok.0 ∙ c.requires.callers.3.0),
      );
    }

pub add_callers-requires-clause-none : goal.add_callers-requires-clause-none
add_callers-requires-clause-none g c =
    let waiting = c.args.space.board.callers.waiting in
    nothing_in waiting.items (sym waiting.ok.0 ∙ c.requires.callers.0.0)
