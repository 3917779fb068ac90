-- What `check` and `replay` read: texts are taken from readers, and answered.
use Rattle.std.specs.Prelude.{◌≡◌, ℕ, List, Option}
use Rattle.wq_meter.specs.Meter.{Meter}
use Rattle.wq_cert.specs.Texts.{max_certificate}
use Rattle.wq_commands.specs.declared.end.End.{End}
use Rattle.wq_commands.specs.declared.end.End.TheVariants.{Good}
use Rattle.wq_commands.specs.Checking.{Checks}
use Rattle.wq_commands.specs.Declaration.{max_declaration}
use Rattle.wq_meter.specs.Input.{GivesText}
use Rattle.wq_commands.specs.Replaying.{ReplaysRun}
use Rattle.wq_commands.specs.YesIsTrue.{YesIsTrue}

-- this is the checker's answer to the declaration and the certificate that two readers had
pub record ChecksInput {D C : Type 0} (known : D → Option (List ℕ)) (certified : C → Option (List ℕ))
    (old new : Meter D) (c_old c_new : Meter C) (end : End) (out : List ℕ) : Type 0 where
  pub text : List ℕ
  pub declaration : GivesText known old new max_declaration text
  pub claim : List ℕ
  pub certificate : GivesText certified c_old c_new max_certificate claim
  pub answer : Checks text claim end out

-- this is the checker's answer to the declaration and the certificate that two
-- readers had, and if it is a yes, it is true
pub record KeepsYesOfInput {D C : Type 0} (known : D → Option (List ℕ)) (certified : C → Option (List ℕ))
    (old new : Meter D) (c_old c_new : Meter C) (end : End) (out : List ℕ) : Type 0 where
  pub answered : ChecksInput known certified old new c_old c_new end out
  pub promise : end ≡ Good → YesIsTrue answered.text answered.claim out

-- this is the answer to the declaration, the assignment and the run that three readers had
pub record ReplaysInput {D S R : Type 0} (known : D → Option (List ℕ)) (assigned : S → Option (List ℕ))
    (listed : R → Option (List ℕ)) (old new : Meter D) (a_old a_new : Meter S) (r_old r_new : Meter R) (end : End)
    (out : List ℕ) : Type 0 where
  pub text : List ℕ
  pub declaration : GivesText known old new max_declaration text
  pub lanes : List ℕ
  pub assignment : GivesText assigned a_old a_new max_certificate lanes
  pub steps : List ℕ
  pub run : GivesText listed r_old r_new max_certificate steps
  pub answer : ReplaysRun text lanes steps end out
