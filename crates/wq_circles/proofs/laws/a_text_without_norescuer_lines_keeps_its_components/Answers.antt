use Rattle.wq_circles.proofs.AllRescued.{Circles-rescued}
use Rattle.wq_circles.proofs.laws.a_text_without_norescuer_lines_keeps_its_components.Goals as goal

pub returns : goal.returns
returns c = λ declared text end out none. Circles-rescued text none declared end out
