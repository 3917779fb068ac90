-- What `deadlock` reads: a declaration and an assignment are taken from readers, and judged.
use Rattle.std.specs.Prelude.{ℕ, List, Option}
use Rattle.wq_meter.specs.Meter.{Meter}
use Rattle.wq_cert.specs.Texts.{max_certificate}
use Rattle.wq_commands.specs.declared.end.End.{End}
use Rattle.wq_commands.specs.Deadlocking.{Judges}
use Rattle.wq_commands.specs.Declaration.{max_declaration}
use Rattle.wq_meter.specs.Input.{GivesText}

-- this is the verdict on the declaration and the assignment that two readers had
pub record JudgesInput {D S : Type 0} (known : D → Option (List ℕ)) (assigned : S → Option (List ℕ)) (old new : Meter D)
    (a_old a_new : Meter S) (end : End) (out : List ℕ) : Type 0 where
  pub text : List ℕ
  pub declaration : GivesText known old new max_declaration text
  pub lanes : List ℕ
  pub assignment : GivesText assigned a_old a_new max_certificate lanes
  pub answer : Judges text lanes end out
