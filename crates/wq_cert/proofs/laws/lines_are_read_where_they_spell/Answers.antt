use Rattle.wq_cert.proofs.SpelledTexts.{SpellsPlan-plan_reading, plan_reading-SpellsPlan, SpellsCircle-circle_reading, circle_reading-SpellsCircle, SpellsRun-run_reading, run_reading-SpellsRun, SpellsWorkqueues-workqueues_reading, workqueues_reading-SpellsWorkqueues}
use Rattle.wq_cert.proofs.laws.lines_are_read_where_they_spell.Goals as goal

pub returns-clause-plan : goal.returns-clause-plan
returns-clause-plan c = λ names p lines plan differ each. (SpellsPlan-plan_reading names p each lines plan, plan_reading-SpellsPlan names p each differ lines plan)

pub returns-clause-circle : goal.returns-clause-circle
returns-clause-circle c = λ names lines circle differ. (SpellsCircle-circle_reading names lines circle, circle_reading-SpellsCircle names differ lines circle)

pub returns-clause-run : goal.returns-clause-run
returns-clause-run c = λ names lines steps differ. (SpellsRun-run_reading names lines steps, run_reading-SpellsRun names differ lines steps)

pub returns-clause-workqueues : goal.returns-clause-workqueues
returns-clause-workqueues c = λ names p lines a differ each. (SpellsWorkqueues-workqueues_reading names p each lines a, workqueues_reading-SpellsWorkqueues names p each differ lines a)
