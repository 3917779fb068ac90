use Rattle.wq_cert.proofs.FormLemmas.{number_of-is}
use Rattle.wq_cert.proofs.form.number_of.Goals as goal

pub returns : goal.returns
returns c = number_of-is c.args.word.now c.number.result c.number.ensures.some c.number.ensures.none
