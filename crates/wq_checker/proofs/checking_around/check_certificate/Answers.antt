use Rattle.std.proofs.Common.{ℕ, List, IfOk, subst}
use Rattle.std.specs.Prelude.{option_map}
use Rattle.wq_groups.specs.DeclaredGroups.{declared_waits}
use Rattle.wq_core.specs.Workqueues.{Workqueues, wiring_of}
use Rattle.wq_cert.specs.Certificate.{CircleCertificate}
use Rattle.wq_cert.specs.AroundReading.{OfCircleAround}
use Rattle.wq_checker.specs.Around.{AnswersCircleIn, AnswersAround}
use Rattle.wq_checker.proofs.checking_around.check_certificate.Goals as goal

pub returns-in-Circle : goal.returns-in-Circle
returns-in-Circle g c =
    let d = declared_waits c.args.start.now.declared in
    let ws = c.args.start.now.workqueues in
    let circle : CircleCertificate = record
    { arcs = c.in-Circle.arcs.items; steps = option_map (λ s. s.items) c.in-Circle.steps } in
    let read : IfOk c.check_circle.result (λ r. AnswersCircleIn (wiring_of d ws) circle r) =
    subst (λ (arcs : List (ℕ × ℕ)). IfOk c.check_circle.result
    (λ r. AnswersCircleIn (wiring_of d ws) (record { arcs = arcs; steps = circle.steps }) r))
    c.as_slice-in-Circle.ensures.value c.check_circle.ensures in
    let there : IfOk c.check_circle.result (λ r. AnswersAround d c.args.fixed.now (OfCircleAround circle) r) =
    subst (λ (on : Workqueues). IfOk c.check_circle.result (λ r. AnswersCircleIn (wiring_of d on) circle r))
    c.requires.start read in
    rw c.in-Circle.is there
