use Rattle.std.proofs.Common.{◌<◌, ℕ, length, sym, subst}
use Rattle.wq_voice.proofs.ChainNotes.{unsure_flush-item}
use Rattle.wq_voice.proofs.chain.put_unsure_wait.Goals as goal

pub put_unsure_line-requires-clause-target : goal.put_unsure_line-requires-clause-target
put_unsure_line-requires-clause-target g c =
    let t = c.args.table.now in
    let same = unsure_flush-item t.waits c.args.item c.args.target c.in-Some.flush c.in-Some.ensures in
    subst (λ (n : ℕ). n < length t.names) (sym same) c.requires.target
