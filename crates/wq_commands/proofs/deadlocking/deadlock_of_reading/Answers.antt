use Rattle.std.proofs.Common.{◌≡◌, sym, ap, subst, ◌∙◌}
use Rattle.wq_groups.specs.DeclaredGroups.{declared_waits, reading_with_names, Declared}
use Rattle.wq_core.specs.Assigned.{Assigned}
use Rattle.wq_deadlock.specs.Judging.{IsHang, AreSafe, IsJudged}
use Rattle.wq_commands.proofs.ReadingLemmas.{IsSafe-reading}
use Rattle.wq_commands.proofs.deadlocking.deadlock_of_reading.Goals as goal

pub returns-in-Safe : goal.returns-in-Safe
returns-in-Safe g c =
    let s = c.args.assigned.now.declared in
    let ws = c.args.assigned.now.workqueues in
    let inside = ap (λ (a : Assigned). a.declared) c.assigned.view_is in
    let own : c.in_ok-declared.declared ≡ reading_with_names s c.args.kept.now =
    c.in_ok-declared.ensures ∙ ap (λ (d : Declared). reading_with_names d c.args.kept.now) inside in
    let made : c.new.result ≡ record { declared = reading_with_names s c.args.kept.now; workqueues = ws } = cc in
    let safe : AreSafe (declared_waits c.new.result.declared) c.new.result.workqueues =
    rw c.in-Safe.is at c.in_ok-judge.ensures.verdict in
    let of_reading : AreSafe (declared_waits (reading_with_names s c.args.kept.now)) ws =
    subst (λ (a : Assigned). AreSafe (declared_waits a.declared) a.workqueues) made safe in
    absurd (c.requires (IsSafe-reading s ws c.args.kept.now of_reading.safe))

pub returns : goal.returns
returns g c =
    let s = c.args.assigned.now.declared in
    let ws = c.args.assigned.now.workqueues in
    let inside = ap (λ (a : Assigned). a.declared) c.assigned.view_is in
    let own : c.in_ok-declared.declared ≡ reading_with_names s c.args.kept.now =
    c.in_ok-declared.ensures ∙ ap (λ (d : Declared). reading_with_names d c.args.kept.now) inside in
    let made : c.new.result ≡ record { declared = reading_with_names s c.args.kept.now; workqueues = ws } = cc in
    let hang : IsHang (declared_waits c.new.result.declared) c.new.result.workqueues c.in-Deadlock.steps.items =
    rw c.in-Deadlock.is at c.in_ok-judge.ensures.verdict in
    subst (λ (a : Assigned). IsHang (declared_waits a.declared) a.workqueues c.in-Deadlock.steps.items) made hang
