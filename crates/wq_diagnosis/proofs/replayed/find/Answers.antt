use Rattle.std.proofs.Common.{◌≡◌, length, Option, None, Some, refl, subst}
use Rattle.std.proofs.lemmas.Option.{slice_get_read}
use Rattle.std.specs.Prelude.{slice_get, IfNone, IfSome}
use Rattle.wq_core.specs.declared.step.Step.{Step}
use Rattle.wq_core.specs.Held.{IsRefusal}
use Rattle.wq_diagnosis.proofs.Found.{first-for, is_made, no_help-at, none_first}
use Rattle.wq_diagnosis.proofs.replayed.find.Goals as goal

if_none : {A : Type 0} (o : Option A) (P : Type 0) → P → IfNone o P
if_none None P p = p
if_none (Some x) P p = tt

pub returns-in_default-clause-none : goal.returns-in_default-clause-none
returns-in_default-clause-none g c =
    none_first c.args.core.now c.run.new.self c.args.steps.now c.requires.empty c.in_default.ensures.done

pub returns-in_err-why-clause-none : goal.returns-in_err-why-clause-none
returns-in_err-why-clause-none g c =
    let old = c.args.core.now in
    let new = c.run.new.self in
    let steps = c.args.steps.now in
    let error = c.in-Err.error in
    let refused = c.in-Err.ensures.refused in
    let step = c.in_ok-step.field-0.now in
    let stands : slice_get steps error.at ≡ Some step =
    slice_get_read steps (length steps) error.at step refl refused.2 c.in_ok-step.ensures.lookup.1 in
    let refusal = subst (λ (o : Option Step). IfSome o (λ s. IsRefusal new s error.why)) stands refused.1 in
    let lawful = c.in_err-why.ensures.none (no_help-at steps error.at step c.requires.no_help stands) in
    if_none c.from_residual-in_err-why.result _
    (λ n is. absurd
    (is_made old new steps error.at c.requires.empty refused.0 step stands c.requires.few refused.2 lawful error.why refusal))

pub returns-clause-some : goal.returns-clause-some
returns-clause-some g c =
    let steps = c.args.steps.now in
    let error = c.in-Err.error in
    let step = c.in_ok-step.field-0.now in
    let stands : slice_get steps error.at ≡ Some step =
    slice_get_read steps (length steps) error.at step refl c.in-Err.ensures.refused.2 c.in_ok-step.ensures.lookup.1 in
    first-for c.args.core.now c.run.new.self steps error.at c.requires.empty c.in-Err.ensures.refused.0 step stands
    c.in_ok-why.why c.in_ok-why.ensures.some
