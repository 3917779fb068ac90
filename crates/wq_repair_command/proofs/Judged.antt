-- What is printed is judged to be safe.
use Rattle.std.proofs.Common.{◌≡◌, ℕ, ◌≤◌, Bool, false, inl, inr, List, length, map, Result, Ok, Err, refl, sym, ap, ◌∙◌, arith}
use Rattle.std.specs.Prelude.{MatchResult, max, slice_index_or, Option, Some, None}
use Rattle.std.specs.List.{range_with_len}
use Rattle.std.proofs.Math.Nat.{max-le}
use Rattle.std.proofs.lemmas.Bool.{cases_lt}
use Rattle.std.proofs.lemmas.List.{get_or_past}
use Rattle.std.proofs.lemmas.List.FromFn.{get_or-map-range_with_len, length-map-range_with_len}
use Rattle.wq_text.specs.Refusal.{Refusal}
use Rattle.wq_groups.specs.Assignment.{IsAssignment}
use Rattle.wq_groups.specs.Declaration.{Declaration, IsDeclaration}
use Rattle.wq_core.specs.Wiring.{wiring}
use Rattle.wq_core.specs.Workqueues.{Workqueues, wiring_of}
use Rattle.wq_core.specs.Deadlock.{IsSafe}
use Rattle.wq_cert.specs.declared.fault.CertError.{CertError}
use Rattle.wq_cert.specs.Ranges.{AreWorkqueuesOf}
use Rattle.wq_cert.specs.Texts.{cert_refusal, workqueues_of_text}
use Rattle.wq_cert.proofs.LanesRead.{AreWorkqueuesOf-workqueues_of_text}
use Rattle.wq_names.specs.Names.{names_of}
use Rattle.wq_deadlock.specs.Judging.{AreSafe}
use Rattle.wq_repair.specs.Repair.{IsRepair}
use Rattle.wq_commands.specs.declared.end.End.TheVariants.{Good, Refused}
use Rattle.wq_groups.specs.DeclaredGroups.{declared_waits, Declared}
use Rattle.wq_commands.specs.Answer.{PrintsRefusal}
use Rattle.wq_commands.specs.Deadlocking.{safe_text, JudgesAssigned, JudgesDeclared, Judges}
use Rattle.wq_commands.specs.Declaration.{declaration}
use Rattle.wq_commands.proofs.AnswerLemmas.{IsSound, IsDeclaration-sound, IsSound-declaration}
use Rattle.wq_commands.proofs.CheckLemmas.{MatchResult-ok}
use Rattle.wq_repair_command.specs.AssignmentText.{assignment_text}
use Rattle.wq_repair_command.specs.Movers.{movers}
use Rattle.wq_repair_command.specs.ReadBack.{with_each}
use Rattle.wq_repair_command.specs.Repairing.{PrintsWorkqueues, RepairsIf, RepairsAssigned, RepairsDeclared, Repairs}
use Rattle.wq_repair_command.proofs.ReadBack.{workqueues_of_text-printed}
use Rattle.wq_commands.proofs.SameRescuers.{same-safe}
use Rattle.wq_repair_command.proofs.Shown.{shown-names_of}

-- ---- workqueues, each of which is said to have a rescuer or none

module _ (ws : Workqueues) (bound : length ws.bare ≤ ws.assignment.lanes) where
  abbrev each : List Bool
  each = map (λ (q : ℕ). slice_index_or ws.bare q false) (range_with_len 0 ws.assignment.lanes)

  -- both lists agree on each lane
  pub same-bare : (q : ℕ) → slice_index_or each q false ≡ slice_index_or ws.bare q false
  same-bare q = elim (cases_lt q ws.assignment.lanes) [
    | inl within ↦ get_or-map-range_with_len (λ (k : ℕ). slice_index_or ws.bare k false) 0 ws.assignment.lanes q q false within (omega arith)
    | inr past ↦
        get_or_past each q false (omega (arith, past, length-map-range_with_len (λ (k : ℕ). slice_index_or ws.bare k false) 0 ws.assignment.lanes))
        ∙ sym (get_or_past ws.bare q false (omega (arith, past, bound)))
  ]

  IsSafe-with_each : (d : Declaration) → IsSafe (wiring_of d ws) → IsSafe (wiring_of d (with_each ws))
  IsSafe-with_each d safe =
      same-safe (wiring d ws.assignment) ws.bare each (λ q rescued. same-bare q ∙ rescued) (λ q rescued. sym (same-bare q) ∙ rescued) safe

-- ---- what is printed

-- workqueues that are safe are printed, by the names in this text
pub record IsPrinted (s : Declared) (text out : List ℕ) : Type 0 where
  pub new : Workqueues
  pub assigned : IsAssignment s.partition.groups new.assignment
  pub few : new.assignment.lanes ≤ 4096
  pub bound : length new.bare ≤ new.assignment.lanes
  pub safe : IsSafe (wiring_of (declared_waits s) new)
  pub same : out ≡ assignment_text s.table.names s.partition new (names_of text)

module _ (s : Declared) (sound : IsSound s) (text out : List ℕ) where
  abbrev d : Declaration
  d = declared_waits s

  is : IsDeclaration d
  is = IsDeclaration-sound s sound

  pub read_back : (printed : IsPrinted s text out) → workqueues_of_text s.table.names s.partition out ≡ Ok (with_each printed.new)
  read_back printed =
      ap (workqueues_of_text s.table.names s.partition) printed.same
      ∙ workqueues_of_text-printed s.table s.partition printed.new (names_of text) sound.table sound.partition sound.one_group_each printed.assigned printed.few (shown-names_of text)

  pub AreSafe-read_back : (printed : IsPrinted s text out) → AreSafe (declared_waits s) (with_each printed.new)
  AreSafe-read_back printed = record { assignment = printed.assigned; safe = IsSafe-with_each printed.new printed.bound d printed.safe }

  judged : IsPrinted s text out → JudgesDeclared s out Good safe_text
  judged printed =
      MatchResult-ok (workqueues_of_text s.table.names s.partition out) (with_each printed.new) (λ ws. JudgesAssigned s ws Good safe_text) (λ fault. PrintsRefusal (cert_refusal fault) Good safe_text)
      (read_back printed) (printed.assigned, (AreSafe-read_back printed).safe, refl)

  module _ (old : Workqueues) (known : AreWorkqueuesOf s.partition.groups old) (moving : List ℕ) where
    bound-old : length old.bare ≤ old.assignment.lanes
    bound-old = elim known.one_each [
      | inl none ↦ omega (arith, ap length none)
      | inr same ↦ omega (arith, same)
    ]

    few-new : (new : Workqueues) → IsRepair d old moving new → new.assignment.lanes ≤ 4096
    few-new new repair =
        let groups : d.groups ≤ 4096 = omega (arith, is.partition.few_groups, is.partition.few_items) in
        let most : max old.assignment.lanes d.groups ≤ 4096 = max-le known.assignment.few groups in
        omega (arith, repair.few, most)

    IsPrinted-workqueues : PrintsWorkqueues s old (names_of text) moving out → IsPrinted s text out
    IsPrinted-workqueues prints = elim prints.are [
      | inl same ↦ record {
        new = old;
        assigned = known.assignment.assignment;
        few = known.assignment.few;
        bound = bound-old;
        safe = same.0.safe;
        same = prints.text ∙ ap (λ (ws : Workqueues). assignment_text s.table.names s.partition ws (names_of text)) same.1;
      }
      | inr repair ↦ record {
        new = prints.new;
        assigned = repair.compared.assignment;
        few = few-new prints.new repair;
        bound = repair.bare;
        safe = repair.safe;
        same = prints.text;
      }
    ]

  not_refused : (r : Refusal) → ¬ PrintsRefusal r Good out
  not_refused r prints = let bad : Good ≡ Refused = prints.0 in cc

  moved : (old : Workqueues) → AreWorkqueuesOf s.partition.groups old → (moving : Option (List ℕ)) → RepairsIf s old (names_of text) moving Good out → IsPrinted s text out
  moved old known None repairs = absurd (not_refused (record { code = 8; line = 0 }) repairs)
  moved old known (Some moving) repairs = IsPrinted-workqueues old known moving repairs

  declared : (names : List (List ℕ)) (r : Result Workqueues CertError) → workqueues_of_text s.table.names s.partition text ≡ r
      → MatchResult r (λ ws. RepairsAssigned s ws (names_of text) names Good out) (λ fault. PrintsRefusal (cert_refusal fault) Good out) → IsPrinted s text out
  declared names (Ok old) read repairs =
      moved old (AreWorkqueuesOf-workqueues_of_text s.table.names s.partition sound.partition (sym sound.one_group_each) text old read) (movers s.table.names names) repairs
  declared names (Err fault) read repairs = absurd (not_refused (cert_refusal fault) repairs)

  pub IsPrinted-declared : (names : List (List ℕ)) → RepairsDeclared s names text Good out → IsPrinted s text out
  IsPrinted-declared names repairs = declared names (workqueues_of_text s.table.names s.partition text) refl repairs

pub Judges-printed : (names : List (List ℕ)) (declared_text text out : List ℕ) → Repairs names declared_text text Good out → Judges declared_text out Good safe_text
Judges-printed names declared_text text out repairs = chosen (declaration declared_text) refl repairs
  where
    chosen : (r : Result Declared Refusal) → declaration declared_text ≡ r → MatchResult r (λ s. RepairsDeclared s names text Good out) (λ refusal. PrintsRefusal refusal Good out)
        → MatchResult r (λ s. JudgesDeclared s out Good safe_text) (λ refusal. PrintsRefusal refusal Good safe_text)
    chosen (Ok s) read h =
        let sound = IsSound-declaration declared_text s read in
        judged s sound text out (IsPrinted-declared s sound text out names h)
    chosen (Err refusal) read h = absurd (let bad : Good ≡ Refused = h.0 in cc)
