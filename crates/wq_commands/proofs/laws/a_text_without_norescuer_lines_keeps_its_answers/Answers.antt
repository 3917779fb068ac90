use Rattle.wq_commands.proofs.AllRescued.{Judges-rescued, ReplaysRun-rescued}
use Rattle.wq_commands.proofs.laws.a_text_without_norescuer_lines_keeps_its_answers.Goals as goal

pub returns-clause-deadlock : goal.returns-clause-deadlock
returns-clause-deadlock c = λ declared text end out none sure. Judges-rescued text none declared sure end out

pub returns-clause-replay : goal.returns-clause-replay
returns-clause-replay c = λ declared text steps end out none. ReplaysRun-rescued text none declared steps end out
