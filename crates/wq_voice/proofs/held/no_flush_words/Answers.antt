use Rattle.std.proofs.Common.{arith}
use Rattle.std.proofs.lemmas.Result.{IfOk-weaker}
use Rattle.wq_voice.proofs.HeldNotes.{no_flush-more}
use Rattle.wq_voice.proofs.held.no_flush_words.Goals as goal

pub returns-in_default : goal.returns-in_default
returns-in_default g c =
    IfOk-weaker c.no_flush_on_these.result _ _ (λ note is.
    no_flush-more (λ words. words.items) c.args.file.now c.args.items.now note.items (omega arith) is)
    c.no_flush_on_these.ensures
