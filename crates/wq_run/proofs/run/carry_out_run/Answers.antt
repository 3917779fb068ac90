use Rattle.std.proofs.Common.{◌≡◌, OnErr, subst}
use Rattle.std.proofs.lemmas.Result.{IfOk-weaker, IfErr-weaker}
use Rattle.wq_meter.specs.Meter.{WritesPrefix, WritesWhole}
use Rattle.wq_meter.specs.Shell.{Tells}
use Rattle.wq_commands.specs.Shell.{SaysOfTexts}
use Rattle.wq_run.proofs.InputLemmas.{IsAnsweredByRun-read, IfUnanswered-read}
use Rattle.wq_run.proofs.run.carry_out_run.Goals as goal

pub returns-clause-answered : goal.returns-clause-answered
returns-clause-answered g c =
    let says = g.V.Voice.says c.args.voice.now c.args.command.now in
    let refuses = g.V.SaysRefusal.refuses c.args.voice.now in
    IfOk-weaker c.respond-ended.result _ _ (λ end h.
    IsAnsweredByRun-read c.args.command.now.helpers c.in_ok-text.ensures.given c.only-texts.result
    c.only-texts.ensures h.0 end
    (WritesWhole g.W.Write.contents c.args.writer.now c.respond-ended.new.writer)
    (λ t f. Tells g.E.Write.contents c.args.teller.now c.respond-ended.new.teller (SaysOfTexts says refuses t f))
    h.1 h.2 h.3 h.4) c.respond-ended.ensures.answered

pub returns-clause-prefix : goal.returns-clause-prefix
returns-clause-prefix g c = λ is.
    let h = c.respond-ended.ensures.prefix is in (
      h.1,
      IsAnsweredByRun-read c.args.command.now.helpers c.in_ok-text.ensures.given c.only-texts.result
          c.only-texts.ensures h.0 h.1
          (WritesPrefix g.W.Write.contents c.args.writer.now c.respond-ended.new.writer)
          (λ t f. c.respond-ended.new.teller ≡ c.args.teller.now)
          h.2 h.3 h.4
          (subst (λ r. OnErr r (c.respond-ended.new.teller ≡ c.args.teller.now)) is c.respond-ended.ensures.unsaid),
    )

pub returns-clause-unanswered : goal.returns-clause-unanswered
returns-clause-unanswered g c =
    IfErr-weaker c.respond-ended.result _ _
    (IfUnanswered-read c.args.command.now.helpers c.in_ok-text.ensures.given c.only-texts.result c.only-texts.ensures)
    c.respond-ended.ensures.unanswered
