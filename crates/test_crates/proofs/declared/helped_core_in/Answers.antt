use Rattle.std.proofs.Common.{◌≡◌, refl, sym, subst}
use Rattle.std.proofs.lemmas.Result.{IfOk-weaker}
use Rattle.wq_core.specs.Held.{Machine}
use Rattle.wq_core.specs.State.{empty_state}
use Rattle.test_crates.proofs.declared.helped_core_in.Goals as goal

pub returns : goal.returns
returns g c = IfOk-weaker c.with_helpers.result _ _ (λ m is. subst (λ (x : Machine). x.state ≡ empty_state x.wiring) (sym is) refl) c.with_helpers.ensures.machine
