use Rattle.wq_meter.specs.Input.{IsInput}
use Rattle.wqplan.specs.CommandLine.{spelled}
use Rattle.wqplan.specs.Ended.{Has}
use Rattle.wqplan.proofs.PromiseLemmas.{promised_by}
use Rattle.wqplan.proofs.performing.perform.Goals as goal

pub returns-clause-promised : goal.returns-clause-promised
returns-clause-promised g c =
    promised_by g.W.Write.contents c.args.writer.now c.carry_out_asked.new.writer
    (Has (g.O.World.opens c.args.world.now) g.O.File.Read.remaining)
    (IsInput (g.I.Read.remaining c.args.input.now.device))
    (spelled c.args.request) c.carry_out_asked.result c.carry_out_asked.ensures.ended
