-- `repair` ends in one way: with workqueues, with a circle or a run, or with a refusal.
use Rattle.std.proofs.Common.{◌≡◌, ℕ, inl, inr, List, Result, Ok, Err, Option, Some, None, refl, sym, ap, subst, ◌∙◌}
use Rattle.std.specs.Prelude.{◌⊎◌, MatchResult}
use Rattle.wq_text.specs.Refusal.{Refusal}
use Rattle.wq_graph.specs.declared.arc.WaitArc.{WaitArc}
use Rattle.wq_core.specs.Wiring.{wiring, own_lanes}
use Rattle.wq_core.specs.Workqueues.{Workqueues}
use Rattle.wq_deadlock.specs.CircleRun.{IsCircleRun}
use Rattle.wq_deadlock.proofs.OnlyRun.{same_circle_run}
use Rattle.wq_cert.specs.declared.fault.CertError.{CertError}
use Rattle.wq_cert.specs.Texts.{cert_refusal, workqueues_of_text}
use Rattle.wq_names.specs.Names.{names_of}
use Rattle.wq_commands.specs.declared.end.End.{End}
use Rattle.wq_commands.specs.declared.end.End.TheVariants.{Good, Bad, Refused}
use Rattle.wq_groups.specs.DeclaredGroups.{declared_waits, Declared}
use Rattle.wq_commands.specs.Answer.{text_of_circle, PrintsRefusal}
use Rattle.wq_commands.specs.Declaration.{declaration}
use Rattle.wq_commands.proofs.AnswerLemmas.{IsSound, IsDeclaration-sound}
use Rattle.wq_repair.proofs.Ends.{enough-safe, no_circle-safe, enough-repaired, no_circle-repaired, IsNeededCircle-unique}
use Rattle.wq_repair_command.specs.Movers.{movers}
use Rattle.wq_repair_command.specs.Repairing.{PrintsWorkqueues, PrintsNeededCircle, PrintsTooFew, RepairsMoving, RepairsIf, RepairsAssigned, RepairsDeclared, Repairs}

module _ (s : Declared) (old : Workqueues) (called : List (List ℕ)) (moving out printed : List ℕ) where
  not_both : PrintsWorkqueues s old called moving out → ¬ (PrintsNeededCircle s old printed ⊎ PrintsTooFew s old moving printed)
  not_both prints (inl circle) = elim prints.are [
    | inl same ↦ no_circle-safe (declared_waits s) old moving same.0 circle.circle circle.needed
    | inr repair ↦ no_circle-repaired (declared_waits s) old prints.new moving repair circle.circle circle.needed
  ]
  not_both prints (inr few) = elim prints.are [
    | inl same ↦ enough-safe (declared_waits s) old moving same.0 few.start few.steps few.few
    | inr repair ↦ enough-repaired (declared_waits s) old prints.new moving repair few.start few.steps few.few
  ]

one_end-moving : (s : Declared) (old : Workqueues) (called : List (List ℕ)) (moving : List ℕ) (end other : End) (out printed : List ℕ)
    → RepairsMoving s old called moving end out → RepairsMoving s old called moving other printed → end ≡ other
one_end-moving s old called moving Good Good out printed one two = refl
one_end-moving s old called moving Good Bad out printed one two = absurd (not_both s old called moving out printed one two)
one_end-moving s old called moving Good Refused out printed one two = absurd two
one_end-moving s old called moving Bad Good out printed one two = absurd (not_both s old called moving printed out two one)
one_end-moving s old called moving Bad Bad out printed one two = refl
one_end-moving s old called moving Bad Refused out printed one two = absurd two
one_end-moving s old called moving Refused other out printed one two = absurd one

one_end-named : (s : Declared) (old : Workqueues) (called : List (List ℕ)) (moving : Option (List ℕ)) (end other : End) (out printed : List ℕ)
    → RepairsIf s old called moving end out → RepairsIf s old called moving other printed → end ≡ other
one_end-named s old called None end other out printed one two = one.0 ∙ sym two.0
one_end-named s old called (Some moving) end other out printed one two = one_end-moving s old called moving end other out printed one two

one_end-read : (s : Declared) (names called : List (List ℕ)) (r : Result Workqueues CertError) (end other : End) (out printed : List ℕ)
    → MatchResult r (λ ws. RepairsAssigned s ws called names end out) (λ fault. PrintsRefusal (cert_refusal fault) end out)
    → MatchResult r (λ ws. RepairsAssigned s ws called names other printed) (λ fault. PrintsRefusal (cert_refusal fault) other printed) → end ≡ other
one_end-read s names called (Ok old) end other out printed one two = one_end-named s old called (movers s.table.names names) end other out printed one two
one_end-read s names called (Err fault) end other out printed one two = one.0 ∙ sym two.0

one_end-declared : (names : List (List ℕ)) (text : List ℕ) (r : Result Declared Refusal) (end other : End) (out printed : List ℕ)
    → MatchResult r (λ s. RepairsDeclared s names text end out) (λ refusal. PrintsRefusal refusal end out)
    → MatchResult r (λ s. RepairsDeclared s names text other printed) (λ refusal. PrintsRefusal refusal other printed) → end ≡ other
one_end-declared names text (Ok s) end other out printed one two = one_end-read s names (names_of text) (workqueues_of_text s.table.names s.partition text) end other out printed one two
one_end-declared names text (Err refusal) end other out printed one two = one.0 ∙ sym two.0

pub one_end : (names : List (List ℕ)) (declared text : List ℕ) (end other : End) (out printed : List ℕ) → Repairs names declared text end out → Repairs names declared text other printed → end ≡ other
one_end names declared text end other out printed one two = one_end-declared names text (declaration declared) end other out printed one two

-- the circle that is printed is the only one, and so is its run
pub PrintsNeededCircle-unique : (s : Declared) → IsSound s → (old : Workqueues) (out printed : List ℕ) → PrintsNeededCircle s old out → PrintsNeededCircle s old printed → out ≡ printed
PrintsNeededCircle-unique s sound old out printed one two =
    let d = declared_waits s in
    let declaration = IsDeclaration-sound s sound in
    let own = own_lanes s.partition.groups in
    let w = wiring d own in
    let circle : one.circle ≡ two.circle = IsNeededCircle-unique d old declaration one.circle two.circle one.needed two.needed in
    let run : IsCircleRun w two.circle one.steps = subst (λ (arcs : List WaitArc). IsCircleRun w arcs one.steps) circle one.is_run in
    one.text
    ∙ ap (λ (arcs : List WaitArc). text_of_circle s arcs one.steps) circle
    ∙ ap (text_of_circle s two.circle) (same_circle_run w two.circle one.steps two.steps run two.is_run)
    ∙ sym two.text
