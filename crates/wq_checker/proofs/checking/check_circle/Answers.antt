use Rattle.std.proofs.Common.{◌<◌, ◌-◌, ℕ, length, Option, sym, subst, ◌∙◌}
use Rattle.std.specs.Prelude.{IfSome}
use Rattle.wq_checker.proofs.Arcs.{IfSome-slice_get}
use Rattle.wq_checker.proofs.checking.check_circle.Goals as goal

pub first_break-requires-clause-first : goal.first_break-requires-clause-first
first_break-requires-clause-first g c =
    let arcs = c.args.arcs.now in
    let items = length c.args.table.now.waits in
    subst (λ (o : Option (ℕ × ℕ)). IfSome o (λ b. b.1 < items)) (sym (c.copied.ensures ∙ c.last.ensures.value))
    (IfSome-slice_get (λ (b : ℕ × ℕ). b.1 < items) arcs (length arcs - 1) (λ k d within. (c.requires.asked.arcs k d within).1))
