use Rattle.std.proofs.Common.{◌≡◌, ◌<◌, [], ℕ, List, length, Result, Ok, sym, ap, subst, ◌∙◌}
use Rattle.std.specs.Prelude.{MatchResult}
use Rattle.std.specs.List.{All}
use Rattle.std.proofs.lemmas.Result.{IfOk-weaker}
use Rattle.wq_groups.specs.DeclaredGroups.{Declared, IsSound}
use Rattle.wq_cert.specs.declared.fault.CertError.{CertError}
use Rattle.wq_cert.specs.Certificate.{certificate, Certificate, OfPlan, PlanCertificate}
use Rattle.wq_cert.specs.Ranges.{IsArcOf, IsPlanOf}
use Rattle.wq_cert.specs.Texts.{answer_of}
use Rattle.wq_cert.proofs.ReadRanges.{IsCertificateOf-answer_of}
use Rattle.wq_voice.specs.Chain.{IsChainNote}
use Rattle.wq_voice.specs.Voice.{IsCertNote}
use Rattle.wq_voice.proofs.check.answer_note.Goals as goal

pub chain_note-requires : goal.chain_note-requires
chain_note-requires g c =
    let inside : Declared = record { table = c.declared.inside.table; partition = c.declared.inside.groups } in
    let sound : IsSound inside = c.declared.invariant in
    let plan : PlanCertificate =
    record { assignment = c.in-Ok-Plan.assignment; length = c.in-Ok-Plan.field-0-1; arcs = c.in-Ok-Plan.arcs.items } in
    let are : IsPlanOf (length inside.table.names) inside.partition.groups plan =
    IsCertificateOf-answer_of inside.table.names inside.partition sound.partition (sym sound.one_group_each)
    c.args.text.now (OfPlan plan)
    (c.in-Ok-Plan.ensures.answer ∙ ap (λ a. Ok (certificate a)) c.in-Ok-Plan.field-0-is) in
    subst (λ (arcs : List (ℕ × ℕ)). All (IsArcOf (length c.args.declared.now.table.names)) arcs)
    (sym c.as_slice.ensures.value)
    (subst (λ (s : Declared). All (IsArcOf (length s.table.names)) plan.arcs) c.declared.view_is are.arcs)

pub returns-in-Ok-Plan : goal.returns-in-Ok-Plan
returns-in-Ok-Plan g c =
    let s : Declared = c.args.declared.now in
    let file = c.args.file.now in
    let text = c.args.text.now in
    let plan : PlanCertificate =
    record { assignment = c.in-Ok-Plan.assignment; length = c.in-Ok-Plan.field-0-1; arcs = c.in-Ok-Plan.arcs.items } in
    let answer : answer_of s.table.names s.partition text ≡ Ok (OfPlan plan) =
    ap (λ (x : Declared). answer_of x.table.names x.partition text) (sym c.declared.view_is)
    ∙ c.in-Ok-Plan.ensures.answer ∙ ap (λ a. Ok (certificate a)) c.in-Ok-Plan.field-0-is in
    IfOk-weaker c.chain_note.result _ _ (λ note is.
    subst (λ (r : Result Certificate CertError).
    MatchResult r (λ x. IsCertNote file s x note.items) (λ _. note.items ≡ [])) (sym answer)
    (subst (λ (arcs : List (ℕ × ℕ)). IsChainNote file s c.in-Ok-Plan.assignment.lanes arcs note.items)
    c.as_slice.ensures.value
    (subst (λ (n : ℕ). IsChainNote file s n c.as_slice.result.now note.items)
    (c.from-lanes.ensures ∙ c.lanes.ensures.lanes) is))) c.chain_note.ensures
