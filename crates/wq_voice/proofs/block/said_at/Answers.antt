use Rattle.std.proofs.Common.{map}
use Rattle.std.proofs.lemmas.Result.{IfOk-weaker}
use Rattle.wq_voice.proofs.Blocks.{said_of}
use Rattle.wq_voice.proofs.block.said_at.Goals as goal

pub returns : goal.returns
returns g c =
    let more = map (λ line. line.items) c.args.more.now in
    IfOk-weaker c.whole_text.result _ _ (λ said is. said_of c.args.file.now c.args.what.now c.args.line c.args.column more said.items is) c.whole_text.ensures
