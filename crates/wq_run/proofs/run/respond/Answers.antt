use Rattle.std.proofs.Common.{◌≡◌, Ok, Err, ap, refl, subst}
use Rattle.std.proofs.lemmas.Result.{IfOk-weaker}
use Rattle.wq_text.specs.Refusal.{Refusal}
use Rattle.wq_meter.specs.declared.fault.Fault.TheVariants.{Write}
use Rattle.wq_commands.specs.Declaration.{declaration}
use Rattle.wq_commands.specs.Stop.{StopsAt}
use Rattle.wq_commands.specs.declared.declaration.Stop.{Stop}
use Rattle.wq_run.proofs.InputLemmas.{told_of_texts}
use Rattle.wq_run.proofs.run.respond.Goals as goal

pub returns-in-Ok-clause-answered : goal.returns-in-Ok-clause-answered
returns-in-Ok-clause-answered g c =
    let is = rw c.first.ensures at c.in-Ok.ensures.declaration in
    let says = g.V.Voice.says c.args.voice.now c.args.command.now in
    IfOk-weaker c.respond_declared-ended.result _ _ (λ end h. (
      Ok end,
      h.0,
      (c.in-Ok.declared, is, (refl, h.1)),
      h.2,
      told_of_texts g.E.Write.contents c.args.teller.now c.respond_declared-ended.new.teller c.args.texts.now
          c.in-Ok.declared is says (g.V.SaysRefusal.refuses c.args.voice.now) end h.3,
    )) c.respond_declared-ended.ensures.answered

pub returns-in-Ok-clause-prefix : goal.returns-in-Ok-clause-prefix
returns-in-Ok-clause-prefix g c = λ failed.
    let is = rw c.first.ensures at c.in-Ok.ensures.declaration in
    let h = c.respond_declared-ended.ensures.prefix failed in
    (Ok h.0, h.0, h.1, (c.in-Ok.declared, is, (refl, h.2)), h.3)

pub returns-in-Ok-respond_refused-clause-answered : goal.returns-in-Ok-respond_refused-clause-answered
returns-in-Ok-respond_refused-clause-answered g c =
    let stops = rw c.first.ensures at c.in-Err-Refused.ensures.stop in
    let is = subst (λ (stop : Stop). StopsAt stop (declaration c.args.texts.now.first))
    c.in-Err-Refused.field-0-is stops in
    let r : Refusal = record { code = c.in-Err-Refused.code; line = c.in-Err-Refused.line } in
    let h = c.in-Ok-respond_refused.ensures.answered in
    (Err r, h.0, (is, h.1), h.2, h.3)

pub returns-in-Err-clause-prefix : goal.returns-in-Err-clause-prefix
returns-in-Err-clause-prefix g c = λ failed.
    let stops = rw c.first.ensures at c.in-Err-Refused.ensures.stop in
    let is = subst (λ (stop : Stop). StopsAt stop (declaration c.args.texts.now.first))
    c.in-Err-Refused.field-0-is stops in
    let r : Refusal = record { code = c.in-Err-Refused.code; line = c.in-Err-Refused.line } in
    let same : c.in-Err.fault ≡ Write = cc in
    let h = c.in-Err.ensures.prefix (ap Err same) in
    (Err r, h.0, h.1, (is, h.2), h.3)
