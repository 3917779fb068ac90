-- What `plan` reads: a text is taken from a reader, and answered.
use Rattle.std.specs.Prelude.{ℕ, List, Option}
use Rattle.wq_commands.specs.declared.end.End.{End}
use Rattle.wq_commands.specs.Answer.{Answers}
use Rattle.wq_commands.specs.Declaration.{max_declaration}
use Rattle.wq_meter.specs.Input.{GivesText}
use Rattle.wq_commands.specs.Promise.{KeepsPromise}
use Rattle.wq_commands.specs.Shown.{ShowsAnswer}
use Rattle.wq_meter.specs.Meter.{Meter}

-- this is the answer to the text that a reader had; the reader gave its bytes up to the first one past the limit
pub record AnswersInput {R : Type 0} (remaining : R → Option (List ℕ)) (old new : Meter R) (end : End) (out : List ℕ)
    : Type 0 where
  pub text : List ℕ
  pub given : GivesText remaining old new max_declaration text
  pub answer : Answers text end out

-- this is the answer to the text that a reader had, and it keeps what is promised of the answer to that text
pub record KeepsPromiseOfInput {R : Type 0} (remaining : R → Option (List ℕ)) (old new : Meter R) (end : End)
    (out : List ℕ) : Type 0 where
  pub answered : AnswersInput remaining old new end out
  pub promise : KeepsPromise answered.text end out

-- this is the answer to the text that a reader had, and its bytes show what is said of the answer to that text
pub record ShowsAnswerOfInput {R : Type 0} (remaining : R → Option (List ℕ)) (old new : Meter R) (end : End)
    (out : List ℕ) : Type 0 where
  pub answered : AnswersInput remaining old new end out
  pub shown : ShowsAnswer answered.text end out
