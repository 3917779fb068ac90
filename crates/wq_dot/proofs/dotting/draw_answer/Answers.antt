use Rattle.std.proofs.Common.{inl, inr}
use Rattle.std.proofs.lemmas.Result.{IfOk-weaker}
use Rattle.wq_dot.proofs.dotting.draw_answer.Goals as goal

pub returns-in-Plan : goal.returns-in-Plan
returns-in-Plan g c = inl c.in_ok-text-in-Plan.ensures

pub returns : goal.returns
returns g c =
    let circled = rw c.in-Circle.is at c.requires in
    IfOk-weaker c.draw_own_lanes.result _ _ (λ text drawn. inr (circled.has_circle, drawn)) c.draw_own_lanes.ensures
