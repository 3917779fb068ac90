-- What `check` answers to what `plan` prints.
use Rattle.std.specs.Prelude.{◌≡◌, ℕ, List, length, Result, Ok, Err}
use Rattle.wq_text.specs.Refusal.{Refusal}
use Rattle.wq_cert.specs.Certificate.{PlanCertificate, CircleCertificate, OfPlan, OfCircle}
use Rattle.wq_text.specs.LineText.{line_text}
use Rattle.wq_cert.specs.Texts.{answer_of, assignment_of_text}
use Rattle.wq_checker.specs.declared.answer.Yes.TheVariants as yes
use Rattle.wq_commands.specs.declared.end.End.{End}
use Rattle.wq_commands.specs.declared.end.End.TheVariants.{Good, Bad, Refused}
use Rattle.wq_commands.specs.Checking.{yes_words, ChecksDeclared}
use Rattle.wq_groups.specs.DeclaredGroups.{Declared}
use Rattle.wq_commands.specs.Declaration.{declaration}

-- a plan is read from the bytes, and the answer to them is `yes K`, where K is the number of its workqueues
pub record ChecksYesPlan (s : Declared) (out : List ℕ) : Type 0 where
  pub plan : PlanCertificate
  pub read : answer_of s.table.names s.partition out ≡ Ok (OfPlan plan)
  pub assignment : assignment_of_text s.table.names s.partition out ≡ Ok plan.assignment
  pub checked : ChecksDeclared s out Good (line_text (yes_words (yes.Plan plan.assignment.lanes)))

-- a circle is read from the bytes, and the answer to them is `yes circle N`, where N is the number of its arcs
pub record ChecksYesCircle (s : Declared) (out : List ℕ) : Type 0 where
  pub circle : CircleCertificate
  pub read : answer_of s.table.names s.partition out ≡ Ok (OfCircle circle)
  pub checked : ChecksDeclared s out Good (line_text (yes_words (yes.Circle (length circle.arcs))))

-- the answer to a printed plan is `yes K`, and the answer to a printed circle with its run is `yes circle N`
abbrev pub ChecksYesDeclared : Declared → List ℕ → End → Type 0
ChecksYesDeclared s out Good = ChecksYesPlan s out
ChecksYesDeclared s out Bad = ChecksYesCircle s out
ChecksYesDeclared s out Refused = ⊥

-- `ChecksYesDeclared` of what a text declares; nothing is said of a text that is refused
abbrev pub ChecksYesOf : Result Declared Refusal → List ℕ → End → Type 0
ChecksYesOf (Ok s) out end = ChecksYesDeclared s out end
ChecksYesOf (Err r) out end = Unit {0}

-- `check` answers yes to what is printed for this text
abbrev pub ChecksYes : List ℕ → List ℕ → End → Type 0
ChecksYes text out end = ChecksYesOf (declaration text) out end
