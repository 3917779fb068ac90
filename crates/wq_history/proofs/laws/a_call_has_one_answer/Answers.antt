use Rattle.wq_history.proofs.OneAnswer.{has-one}
use Rattle.wq_history.proofs.laws.a_call_has_one_answer.Goals as goal

pub returns : goal.returns
returns c b new next call one other book = has-one b new next call book one other
