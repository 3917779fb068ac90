use Rattle.wq_api.proofs.runtime.WqRuntime.answer.Goals as goal

pub returns : goal.returns
returns g c =
    let turn = c.call-answer.ensures.3 in (
      record {
        old = c.call-answer.ensures.0.book;
        new = c.call-answer.ensures.1.book;
        holds = turn.0;
        answers = turn.1.answers;
        settled = turn.1.settled;
      },
      turn.1.counted,
    )
