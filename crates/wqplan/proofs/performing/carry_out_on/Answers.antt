use Rattle.std.proofs.Common.{◌≡◌, ℕ, List, Option, None, Some, ap, subst}
use Rattle.std.proofs.lemmas.Result.{IfOk-weaker}
use Rattle.wq_meter.specs.Input.{IsInput}
use Rattle.wq_meter.specs.Meter.{Meter}
use Rattle.wq_meter.specs.Shell.{AreFrom, Given, GivesIf}
use Rattle.wq_meter.specs.declared.texts.Limits.{Limits}
use Rattle.wqplan.specs.Ended.{IsInputIf}
use Rattle.wqplan.proofs.EndedLemmas.{IsAnswered-from}
use Rattle.wqplan.proofs.FileLemmas.{one_failed}
use Rattle.wqplan.proofs.performing.carry_out_on.Goals as goal

-- what a meter of a new reader gave is the text of the reader
given_if : {R : Type 0} (remaining : R → Option (List ℕ)) (old new : Meter R) (limit : Option ℕ) (text : List ℕ)
    (reader : R) → old.device ≡ reader → GivesIf remaining old new limit text
    → IsInputIf limit (remaining reader) text
given_if remaining old new None text reader is h = h.1
given_if remaining old new (Some limit) text reader is h = subst (λ r. IsInput (remaining r) text) is h.input

module _ {D S T : Type 0} (one : D → Option (List ℕ)) (two : S → Option (List ℕ)) (three : T → Option (List ℕ))
    (old new : Meter D) (second second_new : Meter S) (third third_new : Meter T) (limits : Limits) (b : S) (d : T)
    (is : second.device ≡ b) (is_third : third.device ≡ d) where
  given : (t : Given)
      → AreFrom (GivesIf one old new (Some limits.first)) (GivesIf two second second_new limits.second)
      (GivesIf three third third_new limits.third) t
      → AreFrom (IsInput (one old.device)) (IsInputIf limits.second (two b)) (IsInputIf limits.third (three d)) t
  given t h = (
    h.0.input,
    given_if two second second_new limits.second t.second b is h.1,
    given_if three third third_new limits.third t.third d is_third h.2,
  )

pub returns-clause-answered : goal.returns-clause-answered
returns-clause-answered g c =
    let f = given g.D.Read.remaining g.S.Read.remaining g.T.Read.remaining c.args.first.now c.carry_out.new.first
    c.new-second.result c.carry_out.new.second c.new-third.result c.carry_out.new.third
    (g.C.Finds.limits c.args.command.now) c.args.second c.args.third
    (ap (λ m. m.device) c.new-second.ensures) (ap (λ m. m.device) c.new-third.ensures) in
    IfOk-weaker c.carry_out.result _ _ (λ end h. IsAnswered-from f h) c.carry_out.ensures.answered

pub returns-clause-prefix : goal.returns-clause-prefix
returns-clause-prefix g c = λ failed.
    let f = given g.D.Read.remaining g.S.Read.remaining g.T.Read.remaining c.args.first.now c.carry_out.new.first
    c.new-second.result c.carry_out.new.second c.new-third.result c.carry_out.new.third
    (g.C.Finds.limits c.args.command.now) c.args.second c.args.third
    (ap (λ m. m.device) c.new-second.ensures) (ap (λ m. m.device) c.new-third.ensures) in
    let h = c.carry_out.ensures.prefix failed in (h.0, IsAnswered-from f h.1)

pub returns-clause-lost : goal.returns-clause-lost
returns-clause-lost g c = c.carry_out.ensures.lost.0

pub returns-clause-reads : goal.returns-clause-reads
returns-clause-reads g c = c.carry_out.ensures.reads.0

pub returns-clause-read_failed : goal.returns-clause-read_failed
returns-clause-read_failed g c = λ failed.
    one_failed c.new-second.result c.carry_out.new.second c.new-third.result c.carry_out.new.third
    (g.C.Finds.limits c.args.command.now) (c.carry_out.ensures.read_failed failed)
