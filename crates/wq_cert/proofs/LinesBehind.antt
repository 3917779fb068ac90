-- A line after the end of a plan, of a run, or of a circle with a run.
use Rattle.std.proofs.Common.{◌≡◌, ◌≢◌, ℕ, ◌-◌, List, [], ◌∷◌, ◌++◌, Option, Some, None, Result, Ok, Err, refl, sym, ap, subst, ◌∙◌, append_assoc}
use Rattle.std.specs.Prelude.{codes, ok_or}
use Rattle.wq_core.specs.declared.step.Step.{Step}
use Rattle.wq_groups.specs.Partition.{Partition}
use Rattle.wq_cert.proofs.FirstLines.{ReadsInOrder, read_and, ReadsInOrder-next_line, ReadsInOrder-next_lines}
use Rattle.wq_cert.proofs.FirstReaders.{circle_made, plan_made, at-count, at-circle, at-run, at-arc, at-step, ReadsInOrder-counted}
use Rattle.wq_cert.proofs.SpelledLines.{same_ok, at_end-Ok}
use Rattle.wq_cert.specs.Certificate.{PlanCertificate, CircleCertificate}
use Rattle.wq_cert.specs.declared.fault.CertError.{CertError}
use Rattle.wq_cert.specs.declared.fault.CertError.TheVariants.{BadCertLine}
use Rattle.wq_cert.specs.Forms.{count_form}
use Rattle.wq_cert.specs.Lines.{CertLine}
use Rattle.wq_items.specs.Building.{and_then}
use Rattle.wq_cert.specs.Reading.{Read, and_read, next_line, next_lines, at_end, count_reading, circle_count_reading, arc_reading, step_reading, chain_reading, counted_assignment, plan_reading, run_reading, run_after, circle_reading}

-- ---- what ends

-- if such a value is read from lines, each line after them is refused
record Ends {V : Type 0} (P : V → Type 0) (read : List CertLine → Result V CertError) : Type 0 where
  refused : (lines : List CertLine) (v : V) (line : CertLine) (behind : List CertLine) → read lines ≡ Ok v → P v → read (lines ++ (line ∷ behind)) ≡ Err (BadCertLine line.no)

-- nothing more is demanded of the value
abbrev AnyValue : {V : Type 0} → V → Type 0
AnyValue v = Unit {0}

Ends-at_end : {V : Type 0} (P : V → Type 0) (v : V) → Ends P (at_end v)
Ends-at_end P v = record {
  refused = λ lines w line behind e holds. ap (λ (ls : List CertLine). at_end v (ls ++ (line ∷ behind))) (at_end-Ok v w lines e).0;
}

Ends-and_read : {V W : Type 0} (P : W → Type 0) (read : List CertLine → Read V) (next : V → List CertLine → Result W CertError) → ReadsInOrder read → ((v : V) → Ends P (next v)) → Ends P (read_and read next)
Ends-and_read {V} {W} P read next first then = record { refused = λ lines w line behind e holds. judged lines w line behind holds (read lines) refl e }
  where
    judged : (lines : List CertLine) (w : W) (line : CertLine) (behind : List CertLine) → P w → (r : Read V) → read lines ≡ r → and_read next r ≡ Ok w → read_and read next (lines ++ (line ∷ behind)) ≡ Err (BadCertLine line.no)
    judged lines w line behind holds (Err found) is e = absurd cc
    judged lines w line behind holds (Ok p) is e =
        let f = first.reads lines p.0 p.1 is in
        ap (λ (ls : List CertLine). read_and read next (ls ++ (line ∷ behind))) f.lines_are
        ∙ ap (read_and read next) (append_assoc f.front p.1 (line ∷ behind))
        ∙ ap (and_read next) (f.is_read (p.1 ++ (line ∷ behind)))
        ∙ (then p.0).refused p.1 w line behind e holds

Ends-and_then : {V W : Type 0} (P : V → Type 0) (Q : W → Type 0) (read : List CertLine → Result V CertError) (made : V → W) → ((v : V) → Q (made v) → P v) → Ends P read → Ends Q (λ lines. and_then (λ v. Ok (made v)) (read lines))
Ends-and_then {V} {W} P Q read made holds_of ends = record { refused = λ lines w line behind e holds. judged lines w line behind holds (read lines) refl e }
  where
    judged : (lines : List CertLine) (w : W) (line : CertLine) (behind : List CertLine) → Q w → (r : Result V CertError) → read lines ≡ r → and_then (λ v. Ok (made v)) r ≡ Ok w
        → and_then (λ v. Ok (made v)) (read (lines ++ (line ∷ behind))) ≡ Err (BadCertLine line.no)
    judged lines w line behind holds (Err found) is e = absurd cc
    judged lines w line behind holds (Ok v) is e =
        ap (and_then (λ v. Ok (made v))) (ends.refused lines v line behind is (holds_of v (subst Q (sym (same_ok (made v) w e)) holds)))

-- ---- plans, runs and circles

module _ (names : List (List ℕ)) (p : Partition) where
  Ends-chain_reading : Ends AnyValue (chain_reading names)
  Ends-chain_reading =
      Ends-and_read AnyValue (next_line (count_reading (codes "chain")))
      (λ n behind_chain. and_read (λ arcs rest. at_end (n, arcs) rest) (next_lines (arc_reading names) (n - 1) behind_chain))
      (ReadsInOrder-next_line (count_reading (codes "chain")) (at-count (codes "chain")))
      (λ n. Ends-and_read AnyValue (next_lines (arc_reading names) (n - 1)) (λ arcs rest. at_end (n, arcs) rest) (ReadsInOrder-next_lines (arc_reading names) (at-arc names) (n - 1))
      (λ arcs. Ends-at_end {V = ℕ × List (ℕ × ℕ)} AnyValue (n, arcs)))

  Ends-plan_reading : Ends AnyValue (plan_reading names p)
  Ends-plan_reading =
      Ends-and_read AnyValue (next_line (count_reading (codes "plan")))
      (λ lanes behind_plan. and_read (λ assignment behind_workqueues. and_then (λ chain. Ok (plan_made assignment chain)) (chain_reading names behind_workqueues)) (counted_assignment names p lanes behind_plan))
      (ReadsInOrder-next_line (count_reading (codes "plan")) (at-count (codes "plan")))
      (λ lanes. Ends-and_read AnyValue (counted_assignment names p lanes) (λ assignment behind_workqueues. and_then (λ chain. Ok (plan_made assignment chain)) (chain_reading names behind_workqueues)) (ReadsInOrder-counted names p lanes)
      (λ assignment. Ends-and_then AnyValue AnyValue (chain_reading names) (plan_made assignment) (λ chain holds. tt) Ends-chain_reading))

  pub plan_reading-behind : (lines : List CertLine) (c : PlanCertificate) (line : CertLine) (behind : List CertLine) → plan_reading names p lines ≡ Ok c → plan_reading names p (lines ++ (line ∷ behind)) ≡ Err (BadCertLine line.no)
  plan_reading-behind lines c line behind e = Ends-plan_reading.refused lines c line behind e tt

module _ (names : List (List ℕ)) where
  Ends-run_reading : Ends AnyValue (run_reading names)
  Ends-run_reading =
      Ends-and_read AnyValue (next_line (λ line. ok_or (count_form (codes "run") line.words) (BadCertLine line.no)))
      (λ m behind_run. and_read (λ steps rest. at_end steps rest) (next_lines (step_reading names) m behind_run))
      (ReadsInOrder-next_line (λ line. ok_or (count_form (codes "run") line.words) (BadCertLine line.no)) at-run)
      (λ m. Ends-and_read AnyValue (next_lines (step_reading names) m) (λ steps rest. at_end steps rest) (ReadsInOrder-next_lines (step_reading names) (at-step names) m) (Ends-at_end AnyValue))

  pub run_reading-behind : (lines : List CertLine) (steps : List Step) (line : CertLine) (behind : List CertLine) → run_reading names lines ≡ Ok steps → run_reading names (lines ++ (line ∷ behind)) ≡ Err (BadCertLine line.no)
  run_reading-behind lines steps line behind e = Ends-run_reading.refused lines steps line behind e tt

  Ends-run_after : Ends (λ steps. steps ≢ None) (run_after names)
  Ends-run_after = record { refused = refused }
    where
      refused : (lines : List CertLine) (steps : Option (List Step)) (line : CertLine) (behind : List CertLine) → run_after names lines ≡ Ok steps → steps ≢ None → run_after names (lines ++ (line ∷ behind)) ≡ Err (BadCertLine line.no)
      refused [] steps line behind e some =
          let none : Option (List Step) = None in
          absurd (some (sym (same_ok none steps e)))
      refused (front ∷ lines) steps line behind e some =
          (Ends-and_then {W = Option (List Step)} AnyValue AnyValue (run_reading names) (λ (s : List Step). Some s) (λ s holds. tt) Ends-run_reading).refused (front ∷ lines) steps line behind e tt

  pub circle_reading-behind : (lines : List CertLine) (c : CircleCertificate) (line : CertLine) (behind : List CertLine) → circle_reading names lines ≡ Ok c → c.steps ≢ None → circle_reading names (lines ++ (line ∷ behind)) ≡ Err (BadCertLine line.no)
  circle_reading-behind lines c line behind e some = ends.refused lines c line behind e some
    where
      ends : Ends (λ (d : CircleCertificate). d.steps ≢ None) (circle_reading names)
      ends =
          Ends-and_read (λ (d : CircleCertificate). d.steps ≢ None) (next_line circle_count_reading)
          (λ n behind_circle. and_read (λ arcs rest. and_then (λ steps. Ok (circle_made arcs steps)) (run_after names rest)) (next_lines (arc_reading names) n behind_circle))
          (ReadsInOrder-next_line circle_count_reading at-circle)
          (λ n. Ends-and_read (λ (d : CircleCertificate). d.steps ≢ None) (next_lines (arc_reading names) n) (λ arcs rest. and_then (λ steps. Ok (circle_made arcs steps)) (run_after names rest))
          (ReadsInOrder-next_lines (arc_reading names) (at-arc names) n)
          (λ arcs. Ends-and_then (λ (steps : Option (List Step)). steps ≢ None) (λ (d : CircleCertificate). d.steps ≢ None) (run_after names) (circle_made arcs) (λ steps h. h) Ends-run_after))
