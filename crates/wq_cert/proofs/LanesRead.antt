-- Workqueues that are read, of which some may have no rescuer: what is known of them, and of texts that name none of these.
use Rattle.std.proofs.Common.{◌≡◌, ℕ, ◌≤◌, inl, inr, Bool, true, false, cond, List, length, map, Result, Ok, refl, ap}
use Rattle.std.proofs.Common.{subst, arith}
use Rattle.std.proofs.lemmas.List.{length-map}
use Rattle.std.proofs.lemmas.List.FromFn.{length-enumerate_from}
use Rattle.wq_text.specs.Lines.{LineView, lines_of}
use Rattle.wq_groups.specs.Partition.{Partition, IsPartition}
use Rattle.wq_groups.specs.Assignment.{Assignment}
use Rattle.wq_core.specs.Workqueues.{Workqueues, all_rescued}
use Rattle.wq_items.specs.Building.{and_then}
use Rattle.wq_cert.specs.declared.fault.CertError.{CertError}
use Rattle.wq_cert.specs.Certificate.{PlanCertificate}
use Rattle.wq_cert.specs.Lines.{CertLine, cert_line, cert_lines}
use Rattle.wq_cert.specs.PlanText.{workqueue_line}
use Rattle.wq_cert.specs.Ranges.{AreWorkqueuesOf}
use Rattle.wq_cert.specs.Reading.{begins_plan, plan_reading, workqueues_reading, as_wq, is_bare_line, lanes_reading}
use Rattle.wq_cert.specs.Texts.{workqueues_of_text}
use Rattle.wq_cert.proofs.ReadRanges.{IsReadSo-text_reading, IsAssignmentOf-read}
use Rattle.wq_cert.proofs.SpelledLines.{Follows-and_then, same_ok}
use Rattle.wq_cert.proofs.SpelledTexts.{SpellsWorkqueues-workqueues_reading}
use Rattle.std.specs.List.{enumerate_from}

-- the workqueues of a plan, and those of lines
abbrev pub of_plan : PlanCertificate → Result Workqueues CertError
of_plan plan = Ok (all_rescued plan.assignment)

abbrev pub of_lines : List CertLine → Assignment → Result Workqueues CertError
of_lines lines a = Ok (record { assignment = a; bare = map is_bare_line lines })

module _ (names : List (List ℕ)) (p : Partition) (one_group_each : length names ≡ length p.group_of) where
  -- a workqueue for each line
  pub lanes-read : (lines : List CertLine) (a : Assignment) → workqueues_reading names p lines ≡ Ok a
      → a.lanes ≡ length lines
  lanes-read lines a e =
      let spells = SpellsWorkqueues-workqueues_reading names p one_group_each lines a e in
      let count = ap length spells.words in
      omega (
        arith,
        count,
        length-map lines (λ (line : CertLine). line.words),
        length-map (enumerate_from 0 spells.workqueues) (workqueue_line names),
        length-enumerate_from 0 spells.workqueues,
        ap (λ (b : Assignment). b.lanes) spells.assignment,
      )

  -- there are no more lines than workqueues
  pub few-bare : (view one two : List LineView) (bare : List Bool) (a : Assignment) → one ≡ view → two ≡ view
      → workqueues_reading names p (map as_wq (map cert_line one)) ≡ Ok a
      → bare ≡ map is_bare_line (map cert_line two) → length bare ≤ a.lanes
  few-bare view one two bare a first second read is =
      let lines = λ (ls : List LineView). length-map ls cert_line in
      omega (
        arith,
        ap length is,
        length-map (map cert_line two) is_bare_line,
        lines one,
        lines two,
        ap length first,
        ap length second,
        length-map (map cert_line one) as_wq,
        lanes-read (map as_wq (map cert_line one)) a read,
      )

module _ (names : List (List ℕ)) (p : Partition) (partition : IsPartition p)
    (one_group_each : length names ≡ length p.group_of) where
  AreWorkqueuesOf-lines : (lines : List CertLine) (a : Assignment) → workqueues_reading names p (map as_wq lines) ≡ Ok a
      → AreWorkqueuesOf p.groups (record { assignment = a; bare = map is_bare_line lines })
  AreWorkqueuesOf-lines lines a e = record {
    assignment = IsAssignmentOf-read names p partition one_group_each (map as_wq lines) a (inl e);
    one_each = inr (omega (
      arith,
      length-map lines is_bare_line,
      length-map lines as_wq,
      lanes-read names p one_group_each (map as_wq lines) a e,
    ));
  }

  AreWorkqueuesOf-read : (lines : List CertLine) (ws : Workqueues) → lanes_reading names p lines ≡ Ok ws
      → AreWorkqueuesOf p.groups ws
  AreWorkqueuesOf-read lines ws e = chosen (begins_plan lines) e
    where
      chosen : (b : Bool) → cond b (and_then of_plan (plan_reading names p lines))
          (and_then (of_lines lines) (workqueues_reading names p (map as_wq lines))) ≡ Ok ws
          → AreWorkqueuesOf p.groups ws
      chosen true e =
          let found = Follows-and_then of_plan (plan_reading names p lines) ws e in
          let same : all_rescued found.value.assignment ≡ ws =
          same_ok (all_rescued found.value.assignment) ws found.then in
          subst (AreWorkqueuesOf p.groups) same (record {
            assignment = IsAssignmentOf-read names p partition
                one_group_each lines found.value.assignment (inr (found.value, found.first, refl));
            one_each = inl refl;
          })
      chosen false e =
          let found = Follows-and_then (of_lines lines) (workqueues_reading names p (map as_wq lines)) ws e in
          let read : Workqueues = record { assignment = found.value; bare = map is_bare_line lines } in
          let same : read ≡ ws = same_ok read ws found.then in
          subst (AreWorkqueuesOf p.groups) same (AreWorkqueuesOf-lines lines found.value found.first)

  pub AreWorkqueuesOf-workqueues_of_text : (text : List ℕ) (ws : Workqueues) → workqueues_of_text names p text ≡ Ok ws
      → AreWorkqueuesOf p.groups ws
  AreWorkqueuesOf-workqueues_of_text text ws e =
      let found = IsReadSo-text_reading (lanes_reading names p) text ws e in
      AreWorkqueuesOf-read (cert_lines (lines_of text)) ws found.is_read

module _ (names : List (List ℕ)) (p : Partition) where
  abbrev lanes_or : List CertLine → Bool → Result Workqueues CertError
  lanes_or lines b = cond b (and_then of_plan (plan_reading names p lines))
      (and_then (of_lines lines) (workqueues_reading names p (map as_wq lines)))
