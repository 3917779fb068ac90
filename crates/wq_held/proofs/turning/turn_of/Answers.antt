use Rattle.std.proofs.Common.{ap, subst, ◌∙◌, Result, Ok}
use Rattle.wq_held.proofs.Words.{Reply, Wrote, WroteTwo, CallError}
use Rattle.wq_held.specs.Calls.{WasAnswered}
use Rattle.wq_held.proofs.TakenTurns.{now-there}
use Rattle.wq_held.proofs.turning.turn_of.Goals as goal

pub by_row-wake-requires : goal.by_row-wake-requires
by_row-wake-requires g c =
    now-there c.args.book.now c.args.call.now (Ok (Wrote c.in-Ok-Wrote.row))
    (subst (λ (a : Result Reply CallError). WasAnswered c.args.book.now c.args.call.now a)
    (c.in-Ok-Wrote.is ∙ ap (λ (r : Reply). Ok r) c.in-Ok-Wrote.field-0-is) c.requires)

pub by_row-wake-requires-in-Ok-WroteTwo : goal.by_row-wake-requires-in-Ok-WroteTwo
by_row-wake-requires-in-Ok-WroteTwo g c =
    let two : Reply = WroteTwo c.in-Ok-WroteTwo.asked c.in-Ok-WroteTwo.taken in
    (now-there c.args.book.now c.args.call.now (Ok two)
    (subst (λ (a : Result Reply CallError). WasAnswered c.args.book.now c.args.call.now a)
    (c.in-Ok-WroteTwo.is ∙ ap (λ (r : Reply). Ok r) c.in-Ok-WroteTwo.field-0-is) c.requires)).1
