-- What is printed is repaired to itself.
use Rattle.std.proofs.Common.{◌≡◌, ◌≢◌, ℕ, ◌<◌, false, inl, inr, List, [], ◌∷◌, ◌++◌, map, Result, Ok, Err, Option, Some, None, refl, sym, ap, subst, ◌∙◌, arith}
use Rattle.std.specs.Prelude.{MatchResult, flat_map, slice_index_or}
use Rattle.std.specs.List.{AllByRecursion, range_with_len}
use Rattle.std.proofs.lemmas.List.FromFn.{get_or-map-range_with_len}
use Rattle.wq_text.specs.Refusal.{Refusal}
use Rattle.wq_items.specs.Table.{items_at}
use Rattle.wq_groups.specs.Assignment.{item_lanes}
use Rattle.wq_core.specs.Workqueues.{Workqueues}
use Rattle.wq_cert.specs.declared.fault.CertError.{CertError}
use Rattle.wq_cert.specs.Texts.{cert_refusal}
use Rattle.wq_cert.proofs.ListLemmas.{AllByRecursion-range_with_len}
use Rattle.wq_names.specs.Names.{names_of}
use Rattle.wq_commands.specs.declared.end.End.{End}
use Rattle.wq_commands.specs.declared.end.End.TheVariants.{Good, Bad, Refused}
use Rattle.wq_groups.specs.DeclaredGroups.{declared_waits, Declared}
use Rattle.wq_commands.specs.Answer.{PrintsRefusal}
use Rattle.wq_commands.specs.Declaration.{declaration}
use Rattle.wq_commands.proofs.AnswerLemmas.{IsSound, IsSound-declaration}
use Rattle.wq_repair.proofs.Ends.{no_repair-safe, enough-safe, no_circle-safe}
use Rattle.wq_repair_command.specs.AssignmentText.{workqueue_text, assignment_text}
use Rattle.wq_repair_command.specs.Movers.{movers}
use Rattle.wq_repair_command.specs.ReadBack.{with_each}
use Rattle.wq_repair_command.specs.Repairing.{RepairsMoving, RepairsIf, RepairsAssigned, RepairsDeclared, Repairs}
use Rattle.wq_repair_command.proofs.Judged.{IsPrinted, IsPrinted-declared, AreSafe-read_back, read_back, same-bare}
use Rattle.wq_repair_command.proofs.Lines.{same-line}
use Rattle.wq_repair_command.proofs.ReadBack.{names_of-text}
use Rattle.wq_repair_command.proofs.ReadNames.{IsCalled-names_of}
use Rattle.wq_repair_command.proofs.Shown.{shown-names_of}

-- texts of equal lines
same_texts : (f g : ℕ → List ℕ) (xs : List ℕ) → AllByRecursion (λ q. f q ≡ g q) xs → flat_map f xs ≡ flat_map g xs
same_texts f g [] same = refl
same_texts f g (x ∷ xs) same = ap (λ (line : List ℕ). line ++ flat_map f xs) same.0 ∙ ap (λ (lines : List ℕ). g x ++ lines) (same_texts f g xs same.1)

module _ (s : Declared) (sound : IsSound s) (text out : List ℕ) (printed : IsPrinted s text out) where
  abbrev new : Workqueues
  new = printed.new

  abbrev lanes : ℕ
  lanes = printed.new.assignment.lanes

  abbrev lane : List ℕ
  lane = item_lanes printed.new.assignment s.partition.group_of

  same_names : names_of out ≡ map (λ (q : ℕ). slice_index_or (names_of text) q []) (range_with_len 0 lanes)
  same_names =
      ap names_of printed.same
      ∙ names_of-text s.table s.partition new (names_of text) sound.table sound.partition sound.one_group_each printed.assigned printed.few (shown-names_of text) (IsCalled-names_of text)

  same_name : (q : ℕ) → q < lanes → slice_index_or (names_of out) q [] ≡ slice_index_or (names_of text) q []
  same_name q lt =
      ap (λ (names : List (List ℕ)). slice_index_or names q []) same_names
      ∙ get_or-map-range_with_len (λ (k : ℕ). slice_index_or (names_of text) k []) 0 lanes q q [] lt (omega arith)

  same_lines : (q : ℕ) → q < lanes → workqueue_text s.table.names lane (with_each new).bare (names_of out) q ≡ workqueue_text s.table.names lane new.bare (names_of text) q
  same_lines q lt =
      same-line s.table.names q (slice_index_or (with_each new).bare q false) (slice_index_or new.bare q false) (items_at lane q) (items_at lane q)
      (slice_index_or (names_of out) q []) (slice_index_or (names_of text) q []) (same-bare new printed.bound q) refl (same_name q lt)

  same_text : assignment_text s.table.names s.partition (with_each new) (names_of out) ≡ out
  same_text =
      let one : ℕ → List ℕ = workqueue_text s.table.names lane (with_each new).bare (names_of out) in
      let other : ℕ → List ℕ = workqueue_text s.table.names lane new.bare (names_of text) in
      same_texts one other (range_with_len 0 lanes) (AllByRecursion-range_with_len (λ q. one q ≡ other q) 0 lanes (λ q low high. same_lines q (omega (arith, high)))) ∙ sym printed.same

  moving_again : (moving : List ℕ) (end : End) (again : List ℕ) → RepairsMoving s (with_each new) (names_of out) moving end again → (end ≡ Good) × (again ≡ out)
  moving_again moving Good again prints = elim prints.are [
    | inl same ↦ (refl, prints.text ∙ ap (λ (ws : Workqueues). assignment_text s.table.names s.partition ws (names_of out)) same.1 ∙ same_text)
    | inr repair ↦ absurd (no_repair-safe (declared_waits s) (with_each new) moving (AreSafe-read_back s sound text out printed) prints.new repair)
  ]
  moving_again moving Bad again (inl circle) = absurd (no_circle-safe (declared_waits s) (with_each new) moving (AreSafe-read_back s sound text out printed) circle.circle circle.needed)
  moving_again moving Bad again (inr few) = absurd (enough-safe (declared_waits s) (with_each new) moving (AreSafe-read_back s sound text out printed) few.start few.steps few.few)
  moving_again moving Refused again never = absurd never

  named_again : (moving : Option (List ℕ)) (end : End) (again : List ℕ) → end ≢ Refused → RepairsIf s (with_each new) (names_of out) moving end again → (end ≡ Good) × (again ≡ out)
  named_again None end again answered repairs = absurd (answered repairs.0)
  named_again (Some moving) end again answered repairs = moving_again moving end again repairs

  declared_again : (names : List (List ℕ)) (end : End) (again : List ℕ) → end ≢ Refused → RepairsDeclared s names out end again → (end ≡ Good) × (again ≡ out)
  declared_again names end again answered repairs =
      named_again (movers s.table.names names) end again answered
      (subst (λ (r : Result Workqueues CertError). MatchResult r (λ ws. RepairsAssigned s ws (names_of out) names end again) (λ fault. PrintsRefusal (cert_refusal fault) end again))
      (read_back s sound text out printed) repairs)

pub Repairs-again : (names more : List (List ℕ)) (declared text out again : List ℕ) (end : End) → Repairs names declared text Good out → Repairs more declared out end again → end ≢ Refused
    → (end ≡ Good) × (again ≡ out)
Repairs-again names more declared text out again end first then answered = chosen (declaration declared) refl first then
  where
    chosen : (r : Result Declared Refusal) → declaration declared ≡ r → MatchResult r (λ s. RepairsDeclared s names text Good out) (λ refusal. PrintsRefusal refusal Good out)
        → MatchResult r (λ s. RepairsDeclared s more out end again) (λ refusal. PrintsRefusal refusal end again) → (end ≡ Good) × (again ≡ out)
    chosen (Ok s) read one other =
        let sound = IsSound-declaration declared s read in
        declared_again s sound text out (IsPrinted-declared s sound text out names one) more end again answered other
    chosen (Err refusal) read one other = absurd (answered other.0)
