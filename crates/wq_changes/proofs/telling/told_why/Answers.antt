use Rattle.std.proofs.Common.{List, ℕ, ◌++◌, ap, ◌∙◌}
use Rattle.wq_changes.proofs.telling.told_why.Goals as goal

pub returns : goal.returns
returns g c =
    (c.in_ok-text.text.items, c.in_ok-why.why.items, c.in_ok-put.ensures.added ∙ ap (λ (b : List ℕ). c.in_ok-text.text.items ++ b) c.deref.ensures.value, c.in_ok-text.ensures, c.in_ok-why.ensures)
