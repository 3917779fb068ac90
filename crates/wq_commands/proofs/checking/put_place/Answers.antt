use Rattle.std.proofs.Common.{◌++◌, List, ℕ, sym, ap, ◌∙◌, append-nil}
use Rattle.std.specs.Prelude.{decimal}
use Rattle.wq_text.specs.LineText.{spaced}
use Rattle.wq_commands.proofs.checking.put_place.Goals as goal

pub returns : goal.returns
returns g c = c.in_ok-put_number.ensures.added ∙ ap (λ (word : List ℕ). c.args.out.now.items ++ word) (sym (append-nil (spaced (decimal c.args.at))))
