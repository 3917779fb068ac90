use Rattle.std.proofs.Common.{Ok, Err, subst}
use Rattle.std.proofs.lemmas.Result.{IfOk-weaker}
use Rattle.wq_text.specs.Refusal.{Refusal}
use Rattle.wq_commands.specs.Declaration.{declaration}
use Rattle.wq_commands.specs.Stop.{StopsAt}
use Rattle.wq_commands.specs.declared.declaration.Stop.{Stop}
use Rattle.wq_commands.specs.Shell.{SaysOfTexts}
use Rattle.wq_commands.proofs.Telling.{Tells-weaker}
use Rattle.wq_commands.proofs.shell.respond.Goals as goal

pub returns-in-Ok-clause-answered : goal.returns-in-Ok-clause-answered
returns-in-Ok-clause-answered g c =
    let is = rw c.first.ensures at c.in-Ok.ensures.declaration in
    let says = g.V.Voice.says c.args.voice.now c.args.command.now in
    IfOk-weaker c.respond_declared-ended.result _ _ (λ end h. (
      Ok h.0,
      h.1,
      (c.in-Ok.declared, is, h.2),
      h.3,
      Tells-weaker g.E.Write.contents c.args.teller.now c.respond_declared-ended.new.teller
          (says c.in-Ok.declared c.args.texts.now h.0)
          (SaysOfTexts says (g.V.SaysRefusal.refuses c.args.voice.now) c.args.texts.now (Ok h.0))
          (λ said s. (c.in-Ok.declared, is, s)) h.4,
    )) c.respond_declared-ended.ensures.answered

pub returns-in-Ok-clause-prefix : goal.returns-in-Ok-clause-prefix
returns-in-Ok-clause-prefix g c = λ failed.
    let is = rw c.first.ensures at c.in-Ok.ensures.declaration in
    let h = c.respond_declared-ended.ensures.prefix failed in
    (Ok h.0, h.1, h.2, (c.in-Ok.declared, is, h.3), h.4)

pub returns-in-Err-Refused-clause-answered : goal.returns-in-Err-Refused-clause-answered
returns-in-Err-Refused-clause-answered g c =
    let stops = rw c.first.ensures at c.in-Err-Refused.ensures.stop in
    let is = subst (λ (stop : Stop). StopsAt stop (declaration c.args.texts.now.first)) c.in-Err-Refused.field-0-is
    stops in
    let r : Refusal = record { code = c.in-Err-Refused.code; line = c.in-Err-Refused.line } in
    IfOk-weaker c.respond_refused.result _ _ (λ end h. (Err r, h.0, (is, h.1), h.2, h.3))
    c.respond_refused.ensures.answered

pub returns-in-Err-Refused-clause-prefix : goal.returns-in-Err-Refused-clause-prefix
returns-in-Err-Refused-clause-prefix g c = λ failed.
    let stops = rw c.first.ensures at c.in-Err-Refused.ensures.stop in
    let is = subst (λ (stop : Stop). StopsAt stop (declaration c.args.texts.now.first)) c.in-Err-Refused.field-0-is
    stops in
    let r : Refusal = record { code = c.in-Err-Refused.code; line = c.in-Err-Refused.line } in
    let h = c.respond_refused.ensures.prefix failed in
    (Err r, h.0, h.1, (is, h.2), h.3)
