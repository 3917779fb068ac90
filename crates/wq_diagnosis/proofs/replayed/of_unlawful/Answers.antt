use Rattle.std.proofs.Common.{length}
use Rattle.wq_cert.specs.Ranges.{IsRunOf}
use Rattle.wq_cert.proofs.ReadRanges.{IsRunOf-made_of}
use Rattle.wq_diagnosis.proofs.Found.{no_help}
use Rattle.wq_diagnosis.proofs.replayed.of_unlawful.Goals as goal

pub of_steps-requires-clause-few : goal.of_steps-requires-clause-few
of_steps-requires-clause-few g c =
    let names = c.args.assigned.now.declared.table.names in
    let (waits, kept, made) = c.requires.read in
    (IsRunOf-made_of names waits c.args.run.text.now kept c.args.steps.now made).few

pub of_steps-requires-clause-no_help : goal.of_steps-requires-clause-no_help
of_steps-requires-clause-no_help g c =
    let names = c.args.assigned.now.declared.table.names in
    let steps = c.args.steps.now in
    let (waits, kept, made) = c.requires.read in
    let run : IsRunOf (length names) steps = IsRunOf-made_of names waits c.args.run.text.now kept steps made in
    no_help (length names) steps run
