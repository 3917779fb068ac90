use Rattle.std.proofs.Common.{ℕ, List, Option, subst}
use Rattle.wq_repair.specs.Marks.{IsMarked}
use Rattle.wq_repair.specs.Near.{IsAsked}
use Rattle.wq_repair.proofs.checking.are_in_vain.Goals as goal

pub returns : goal.returns
returns g c = λ yes v marked.
    let near = c.in_ok-near.ensures v (subst (λ xs. IsMarked xs v) c.as_slice-2.ensures.value
    (c.are_among.ensures yes v marked)) in
    let asked : IsAsked c.in_ok-asked.asked.items v near.0 =
    subst (λ (xs : List (Option ℕ)). IsAsked xs v near.0) c.as_slice.ensures.value near.1 in
    (near.0, c.in_ok-asked.ensures v near.0 asked, near.2)
