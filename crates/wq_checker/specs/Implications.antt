-- What a yes implies, in terms of lanes that wait and of runs that end stuck.
use Rattle.std.specs.Prelude.{◌≡◌, ℕ, ◌<◌, Result, Ok}
use Rattle.wq_items.specs.Chain.{Circle}
use Rattle.wq_groups.specs.Declaration.{Declaration}
use Rattle.wq_groups.specs.Assignment.{Assignment, IsAssignment}
use Rattle.wq_core.specs.Wiring.{LaneWaits, wiring}
use Rattle.wq_core.specs.Deadlock.{IsSafe, Deadlocks, IsLeast}
use Rattle.wq_cert.specs.Certificate.{PlanCertificate, Certificate, OfPlan}
use Rattle.wq_checker.specs.declared.answer.Yes.{Yes}
use Rattle.wq_checker.specs.declared.answer.Yes.TheVariants as yes
use Rattle.wq_checker.specs.declared.answer.No.{No}

-- if the answer to a plan is yes, the plan has this many workqueues, and is safe
abbrev pub YesIsSafe : Declaration → Certificate → Result Yes No → Type 0
YesIsSafe d certificate answer =
    (plan : PlanCertificate) (number : ℕ) → certificate ≡ OfPlan plan → answer ≡ Ok (yes.Plan number)
    → (plan.assignment.lanes ≡ number) × IsSafe (wiring d plan.assignment)

-- if the answer to a plan is yes, the lanes wait in a circle in every assignment to fewer workqueues
abbrev pub FewerWaitInCircle : Declaration → Result Yes No → Type 0
FewerWaitInCircle d answer =
    (number : ℕ) (b : Assignment) → answer ≡ Ok (yes.Plan number) → IsAssignment d.groups b → b.lanes < number
    → Circle (LaneWaits (wiring d b))

-- if the answer to a plan is yes, the plan has this many workqueues, and is least: no run of it ends stuck, and every
-- assignment to fewer deadlocks
abbrev pub YesIsLeast : Declaration → Certificate → Result Yes No → Type 0
YesIsLeast d certificate answer =
    (plan : PlanCertificate) (number : ℕ) → certificate ≡ OfPlan plan → answer ≡ Ok (yes.Plan number)
    → (plan.assignment.lanes ≡ number) × IsLeast d plan.assignment

-- if the answer to a circle is yes, the lanes wait in a circle in every assignment
abbrev pub EachWaitsInCircle : Declaration → Result Yes No → Type 0
EachWaitsInCircle d answer =
    (n : ℕ) (b : Assignment) → answer ≡ Ok (yes.Circle n) → IsAssignment d.groups b → Circle (LaneWaits (wiring d b))

-- if the answer to a circle is yes, every assignment deadlocks
abbrev pub EachDeadlocks : Declaration → Result Yes No → Type 0
EachDeadlocks d answer =
    (n : ℕ) (b : Assignment) → answer ≡ Ok (yes.Circle n) → IsAssignment d.groups b → Deadlocks (wiring d b)
