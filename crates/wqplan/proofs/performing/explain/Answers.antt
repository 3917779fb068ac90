use Rattle.std.specs.Prelude.{option_map}
use Rattle.wqplan.proofs.CauseLemmas.{alone_by}
use Rattle.wqplan.proofs.EndedLemmas.{explain_ended_by}
use Rattle.wqplan.proofs.performing.explain.Goals as goal

pub returns-clause-ended : goal.returns-clause-ended
returns-clause-ended g c =
    explain_ended_by g.W.Write.contents c.args.writer.now c.explain_cmd-ended.new.writer
    (option_map (λ s. s.now) c.args.code) c.explain_cmd-ended.result c.end_of_explain.result
    c.end_of_explain.ensures
    c.explain_cmd-ended.ensures.answered c.explain_cmd-ended.ensures.written c.explain_cmd-ended.ensures.prefix
    c.explain_cmd-ended.ensures.untouched
    c.explain_cmd-ended.ensures.never_reads c.explain_cmd-ended.ensures.write_failed
    c.explain_cmd-ended.ensures.no_write_failed

pub returns-clause-caused : goal.returns-clause-caused
returns-clause-caused g c =
    alone_by c.explain_cmd-ended.result c.end_of_explain.result c.end_of_explain.ensures
    c.explain_cmd-ended.ensures.never_reads
