-- What a yes of `check` promises, in terms of the bytes that it reads and those that it prints.
use Rattle.std.specs.Prelude.{◌≡◌, ℕ, ◌⊎◌, List, length, Ok, MatchResult}
use Rattle.wq_groups.specs.Assignment.{Assignment, IsAssignment}
use Rattle.wq_core.specs.Wiring.{wiring}
use Rattle.wq_core.specs.Deadlock.{Deadlocks, IsLeast}
use Rattle.wq_cert.specs.Certificate.{PlanCertificate, CircleCertificate, OfPlan, OfCircle}
use Rattle.wq_text.specs.LineText.{line_text}
use Rattle.wq_cert.specs.Texts.{answer_of}
use Rattle.wq_checker.specs.declared.answer.Yes.TheVariants as yes
use Rattle.wq_checker.specs.Chains.{IsChainAlong, IsCircleAlong}
use Rattle.wq_groups.specs.DeclaredGroups.{declared_waits, Declared}
use Rattle.wq_commands.specs.Checking.{yes_words}
use Rattle.wq_commands.specs.Declaration.{declaration}

-- a plan is read from the certificate, and `yes K` is printed, where K is the number of its workqueues; no run of its
-- assignment ends stuck, and every assignment to fewer workqueues deadlocks; its arcs are those of a chain of K groups
pub record IsTrueOfPlan (s : Declared) (claim out : List ℕ) : Type 0 where
  pub plan : PlanCertificate
  pub read : answer_of s.table.names s.partition claim ≡ Ok (OfPlan plan)
  pub printed : out ≡ line_text (yes_words (yes.Plan plan.assignment.lanes))
  pub least : IsLeast (declared_waits s) plan.assignment
  pub chain : List ℕ
  pub is_chain : IsChainAlong (declared_waits s) plan.arcs chain
  pub long : length chain ≡ plan.assignment.lanes

-- a circle is read from the certificate, and `yes circle N` is printed, where N is the number of its arcs; these lead
-- round a circle of groups, and every assignment deadlocks
pub record IsTrueOfCircle (s : Declared) (claim out : List ℕ) : Type 0 where
  pub circle : CircleCertificate
  pub read : answer_of s.table.names s.partition claim ≡ Ok (OfCircle circle)
  pub printed : out ≡ line_text (yes_words (yes.Circle (length circle.arcs)))
  pub goes_round : IsCircleAlong (declared_waits s) circle.arcs
  pub deadlocks : (a : Assignment) → IsAssignment s.partition.groups a → Deadlocks (wiring (declared_waits s) a)

-- what is printed is a yes to the plan or to the circle of a certificate, and it is true of what the text declares
abbrev pub YesIsTrue : List ℕ → List ℕ → List ℕ → Type 0
YesIsTrue text claim out =
    MatchResult (declaration text) (λ s. IsTrueOfPlan s claim out ⊎ IsTrueOfCircle s claim out) (λ r. ⊥)
