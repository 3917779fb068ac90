use Rattle.std.proofs.Common.{◌≡◌, ℕ, inl, inr, Result, Ok, Err, OnOk, OnErr}
use Rattle.std.specs.Prelude.{◌⊎◌}
use Rattle.wqplan.proofs.ending.unasked.Goals as goal

by_result : {T E : Type 0} (r : Result T E) (status : ℕ) → OnOk r (status ≡ 0) → OnErr r ((status ≡ 3) ⊎ (status ≡ 141))
    → (status ≡ 0) ⊎ ((status ≡ 3) ⊎ (status ≡ 141))
by_result (Ok x) status worked failed = inl worked
by_result (Err e) status worked failed = inr failed

pub returns-clause-shown : goal.returns-clause-shown
returns-clause-shown g c = λ _. by_result _ _ c.shown.ensures.worked c.shown.ensures.failed
