use Rattle.std.proofs.Common.{map}
use Rattle.std.proofs.lemmas.Result.{IfOk-weaker}
use Rattle.wq_diagnosis.proofs.Lines.{unlawful_of}
use Rattle.wq_diagnosis.proofs.replayed.said_at.Goals as goal

pub returns : goal.returns
returns g c =
    let details = map (λ line. line.items) c.args.details.now in
    IfOk-weaker c.whole_text.result _ _ (λ said is.
    unlawful_of c.args.file.now c.args.what.now c.args.number c.args.place.now details said.items is) c.whole_text.ensures
