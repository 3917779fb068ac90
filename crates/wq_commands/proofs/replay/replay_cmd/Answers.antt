use Rattle.std.proofs.lemmas.Result.{IfOk-weaker}
use Rattle.std.proofs.Common.{◌≡◌, List, ℕ}
use Rattle.wq_meter.specs.declared.fault.Fault.TheVariants.{Memory, Read, Write}
use Rattle.wq_meter.specs.Meter.{WritesWhole}
use Rattle.wq_commands.specs.CheckInput.{ReplaysInput}
use Rattle.wq_commands.proofs.CommandLemmas.{stopped_by}
use Rattle.wq_commands.proofs.FoundLemmas.{replay-kept}
use Rattle.wq_commands.proofs.replay.replay_cmd.Goals as goal

pub returns-clause-answered : goal.returns-clause-answered
returns-clause-answered g c =
    IfOk-weaker c.carry_out.result _ _ (λ end h. (
      h.out,
      record {
        text = h.texts.first;
        declaration = h.from.0;
        lanes = h.texts.second;
        assignment = h.from.1;
        steps =
            h.texts.third;
        run = h.from.2;
        answer = replay-kept h.texts end h.out h.found h.answer;
      },
      h.written,
    ))
    c.carry_out.ensures.answered

pub returns-clause-prefix : goal.returns-clause-prefix
returns-clause-prefix g c = λ is.
    let h = c.carry_out.ensures.prefix is in (
      h.0,
      h.1.out,
      record {
        text = h.1.texts.first;
        declaration = h.1.from.0;
        lanes = h.1.texts.second;
        assignment =
            h.1.from.1;
        steps = h.1.texts.third;
        run = h.1.from.2;
        answer = replay-kept h.1.texts h.0 h.1.out h.1.found
            h.1.answer;
      },
      h.1.written,
    )

pub returns-clause-untouched : goal.returns-clause-untouched
returns-clause-untouched g c = λ is.
    stopped_by c.carry_out.result Memory _ _ is c.carry_out.ensures.untouched
    (λ other. let never : Memory ≡ Write = other in cc)

pub returns-clause-unwritten : goal.returns-clause-unwritten
returns-clause-unwritten g c = λ is.
    stopped_by c.carry_out.result Read _ _ is c.carry_out.ensures.untouched
    (λ other. let never : Read ≡ Write = other in cc)

pub returns-clause-lost : goal.returns-clause-lost
returns-clause-lost g c = c.carry_out.ensures.lost

pub returns-clause-order : goal.returns-clause-order
returns-clause-order g c = c.carry_out.ensures.order

pub returns-clause-reads : goal.returns-clause-reads
returns-clause-reads g c = c.carry_out.ensures.reads

pub returns-clause-bytes_read : goal.returns-clause-bytes_read
returns-clause-bytes_read g c = c.carry_out.ensures.bytes_read

pub returns-clause-read_failed : goal.returns-clause-read_failed
returns-clause-read_failed g c = λ is. c.carry_out.ensures.read_failed is

pub returns-clause-no_read_failed : goal.returns-clause-no_read_failed
returns-clause-no_read_failed g c = λ not. c.carry_out.ensures.no_read_failed not

pub returns-clause-write_failed : goal.returns-clause-write_failed
returns-clause-write_failed g c = λ is. c.carry_out.ensures.write_failed is

pub returns-clause-no_write_failed : goal.returns-clause-no_write_failed
returns-clause-no_write_failed g c = λ not. c.carry_out.ensures.no_write_failed not
