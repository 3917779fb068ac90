use Rattle.std.proofs.Common.{◌≡◌, ℕ, List, Option, Some, sym, ap, subst, ◌∙◌}
use Rattle.std.specs.Prelude.{option_map}
use Rattle.std.proofs.lemmas.Result.{IfOk-weaker}
use Rattle.wq_groups.specs.DeclaredGroups.{declared_waits, reading_with_names, Declared}
use Rattle.wq_core.specs.Assigned.{Assigned}
use Rattle.wq_core.specs.Workqueues.{wiring_of}
use Rattle.wq_checker.specs.RunEnds.{EndsFor}
use Rattle.wq_commands.specs.Replaying.{wiring_read}
use Rattle.wq_commands.proofs.ReadingLemmas.{end_for-reading}
use Rattle.wq_commands.proofs.replaying_for.end_in_reading_for.Goals as goal

pub returns-in_ok-reading-in-Some : goal.returns-in_ok-reading-in-Some
returns-in_ok-reading-in-Some g c =
    let s = c.args.declared.now in
    let ws = c.args.workqueues.now in
    let named = c.args.named.now in
    let steps = c.args.steps.now in
    let made : c.new.result ≡ record { declared = reading_with_names s c.as_slice.result.now; workqueues = ws } =
    c.new.ensures ∙ ap (λ (d : Declared). let a : Assigned = record { declared = d; workqueues = ws } in
    a) c.in_ok-reading-in-Some.ensures in
    let kept : option_map (λ places. places.items) c.args.kept.now ≡ Some c.in-Some.kept.items =
    ap (option_map (λ places. places.items)) c.in-Some.is in
    IfOk-weaker c.end_of_steps_for.result _ _ (λ e ends.
    let own : EndsFor (wiring_of (declared_waits (reading_with_names s c.as_slice.result.now)) ws) named steps e =
    subst (λ (a : Assigned). EndsFor (wiring_of (declared_waits a.declared) a.workqueues) named steps e) made ends in
    let of_kept : EndsFor (wiring_of (declared_waits (reading_with_names s c.in-Some.kept.items)) ws) named steps e =
    subst (λ (l : List ℕ). EndsFor (wiring_of (declared_waits (reading_with_names s l)) ws) named steps e)
    c.as_slice.ensures.value own in
    subst (λ (o : Option (List ℕ)). EndsFor (wiring_read s ws o) named steps e) (sym kept)
    (end_for-reading s ws c.in-Some.kept.items named steps e of_kept)) c.end_of_steps_for.ensures
