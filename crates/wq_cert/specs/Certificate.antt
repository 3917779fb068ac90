-- Certificates: what the texts of plans and of circles say.
use Rattle.std.specs.Prelude.{ℕ, List, Option, option_map}
use Rattle.wq_groups.specs.Assignment.{Assignment}
use Rattle.wq_core.specs.declared.step.Step.{Step}
use Rattle.wq_cert.specs.declared.answer.CertAnswer.{CertAnswer}
use Rattle.wq_cert.specs.declared.answer.CertAnswer.TheVariants as answer

-- what a plan text says: an assignment; how many groups the chain is said to have; and its arcs, each an item and the
-- target of its flush
pub record PlanCertificate : Type 0 where
  pub assignment : Assignment
  pub length : ℕ
  pub arcs : List (ℕ × ℕ)

-- what a circle text says: the arcs of the circle, and the steps of a run, if there is one
pub record CircleCertificate : Type 0 where
  pub arcs : List (ℕ × ℕ)
  pub steps : Option (List Step)

-- what the text of an answer says
pub data Certificate : Type 0 where
  OfPlan : (plan : PlanCertificate) → Certificate
  OfCircle : (circle : CircleCertificate) → Certificate

-- the certificate that the code holds
abbrev pub certificate : {A : Type 0} → CertAnswer A → Certificate
certificate (answer.Plan assignment length arcs) =
    OfPlan (record { assignment = assignment; length = length; arcs = arcs.items })
certificate (answer.Circle arcs steps) =
    OfCircle (record { arcs = arcs.items; steps = option_map (λ s. s.items) steps })
