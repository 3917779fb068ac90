use Rattle.std.proofs.Common.{refl, ◌∙◌}
use Rattle.wq_meter.proofs.ShellLemmas.{kept_of_readers}
use Rattle.wq_meter.proofs.reading.read_texts.Goals as goal

pub returns-clause-read : goal.returns-clause-read
returns-clause-read g c =
    let h = kept_of_readers c.args.limits c.args.limits refl c.in_ok-one.ensures.came c.in_ok-two.ensures.came
    c.in_ok-three.ensures.came in
    record { had = h.had; from = h.from; is = c.new.ensures ∙ h.is }
