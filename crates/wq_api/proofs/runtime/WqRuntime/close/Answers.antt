use Rattle.std.proofs.Common.{sym, subst, vec_len}
use Rattle.wq_held.specs.declared.fault.CloseWhy.{CloseWhy}
use Rattle.wq_held.specs.Locked.{RefusesClose}
use Rattle.wq_api.proofs.runtime.WqRuntime.close.Goals as goal

pub returns-in-Err-clause-why : goal.returns-in-Err-clause-why
returns-in-Err-clause-why g c =
    let refused = c.in-Err.ensures.refused.0 in (
      refused.0,
      refused.1.0,
      subst (λ (why : CloseWhy). RefusesClose refused.0 (vec_len c.args.seats) why) (sym c.why.ensures) refused.1.2,
    )

pub returns-in-Err-clause-by : goal.returns-in-Err-clause-by
returns-in-Err-clause-by g c =
    let seats = c.in-Err.ensures.refused.0.1.1 in
    let why = sym c.why.ensures in λ t. record { seats = seats t; why = why t }
