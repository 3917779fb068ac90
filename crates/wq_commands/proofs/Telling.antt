-- What is said of more is said.
use Rattle.std.proofs.Common.{ℕ, List, Option, inl, inr}
use Rattle.wq_meter.specs.Meter.{Meter}
use Rattle.wq_meter.specs.Shell.{Tells}

pub Tells-weaker : {W : Type 0} (contents : W → Option (List ℕ)) (old new : Meter W) (P Q : Option (List ℕ) → Type 0)
    → ((said : Option (List ℕ)) → P said → Q said) → Tells contents old new P → Tells contents old new Q
Tells-weaker contents old new P Q f (inl same) = inl same
Tells-weaker contents old new P Q f (inr h) = inr (h.0, f h.0 h.1, h.2)
