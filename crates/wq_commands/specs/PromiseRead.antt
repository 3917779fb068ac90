-- What the readers read from bytes that show what is promised, and what the checker says about it.
use Rattle.std.specs.Prelude.{◌≡◌, ℕ, List, Ok}
use Rattle.wq_cert.specs.Certificate.{PlanCertificate, CircleCertificate, OfPlan, OfCircle}
use Rattle.wq_cert.specs.Texts.{answer_of, assignment_of_text}
use Rattle.wq_checker.specs.Answers.{IsGoodPlan, IsGoodCircle}
use Rattle.wq_groups.specs.DeclaredGroups.{declared_waits, Declared}

-- this plan is read from the bytes, its assignment too, and the checker calls it good
pub record IsReadAsGoodPlan (s : Declared) (out : List ℕ) (plan : PlanCertificate) : Type 0 where
  pub read : answer_of s.table.names s.partition out ≡ Ok (OfPlan plan)
  pub assignment : assignment_of_text s.table.names s.partition out ≡ Ok plan.assignment
  pub good : IsGoodPlan (declared_waits s) plan

-- this circle is read from the bytes, and the checker calls it good
pub record IsReadAsGoodCircle (s : Declared) (out : List ℕ) (circle : CircleCertificate) : Type 0 where
  pub read : answer_of s.table.names s.partition out ≡ Ok (OfCircle circle)
  pub good : IsGoodCircle (declared_waits s) circle
