use Rattle.std.proofs.Common.{[]}
use Rattle.wq_api.proofs.runtime.WqRuntime.settle.Goals as goal

pub returns : goal.returns
returns g c =
    let turn = c.call-answered.ensures.3 in (
      turn.1.0,
      record {
        old = c.call-answered.ensures.0.book;
        new = c.call-answered.ensures.1.book;
        holds = turn.0;
        answers = (turn.1.1 []).answers;
        settled = (turn.1.1 []).settled;
      },
    )
