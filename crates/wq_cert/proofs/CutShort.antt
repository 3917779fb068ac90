-- A plan or a run that is cut before its end.
use Rattle.std.proofs.Common.{◌≡◌, ◌≢◌, ℕ, zero, suc, ◌-◌, List, [], ◌∷◌, ◌++◌, Result, Ok, Err, refl, sym, ap, ◌∙◌}
use Rattle.std.specs.Prelude.{codes, ok_or}
use Rattle.wq_core.specs.declared.step.Step.{Step}
use Rattle.wq_groups.specs.Partition.{Partition}
use Rattle.wq_cert.proofs.FirstLines.{ReadsInOrder, with_more, read_and, of_no_line, ReadsInOrder-next_line, ReadsInOrder-next_lines}
use Rattle.wq_cert.proofs.FirstReaders.{plan_made, at-count, at-run, at-arc, at-step, at-wq, ReadsInOrder-next_workqueues, ReadsInOrder-counted}
use Rattle.wq_cert.proofs.SpelledLines.{Follows-and_then, FollowsRead-and_read, at_end-Ok}
use Rattle.wq_cert.specs.Certificate.{PlanCertificate}
use Rattle.wq_cert.specs.declared.fault.CertError.{CertError}
use Rattle.wq_cert.specs.declared.fault.CertError.TheVariants.{BadCertLine}
use Rattle.wq_cert.specs.Forms.{count_form}
use Rattle.wq_cert.specs.Lines.{CertLine}
use Rattle.wq_items.specs.Building.{and_then}
use Rattle.wq_cert.specs.Reading.{Read, and_read, next_line, next_lines, at_end, count_reading, arc_reading, step_reading, wq_reading, next_workqueues, whole_assignment, chain_reading, counted_assignment, plan_reading, run_reading}

-- ---- what may be cut

-- a value is read, or the lines end too early
abbrev IsShort : {V : Type 0} → Read V → Type 0
IsShort (Ok p) = Unit {0}
IsShort (Err fault) = fault ≡ BadCertLine 0

-- the same if a value is read from more lines
record MayBeShort {V : Type 0} (read : List CertLine → Read V) : Type 0 where
  short : (lines more : List CertLine) (p : V × List CertLine) → read (lines ++ more) ≡ Ok p → IsShort (read lines)

-- if a value is read from more lines, the lines end too early
record EndsEarly {V : Type 0} (read : List CertLine → Result V CertError) : Type 0 where
  early : (lines more : List CertLine) (v : V) → more ≢ [] → read (lines ++ more) ≡ Ok v → read lines ≡ Err (BadCertLine 0)

-- ---- one thing after the other

of_no_line-short : {V : Type 0} (r : Result V CertError) (lines more : List CertLine) (p : V × List CertLine) → of_no_line r more ≡ Ok p → IsShort (of_no_line r lines)
of_no_line-short (Ok v) lines more p e = tt
of_no_line-short (Err fault) lines more p e = absurd cc

MayBeShort-of_no_line : {V : Type 0} (r : Result V CertError) → MayBeShort (of_no_line r)
MayBeShort-of_no_line r = record { short = λ lines more p e. of_no_line-short r lines (lines ++ more) p e }

MayBeShort-next_line : {V : Type 0} (read : CertLine → Result V CertError) → MayBeShort (next_line read)
MayBeShort-next_line {V} read = record { short = shortened }
  where
    shortened : (lines more : List CertLine) (p : V × List CertLine) → next_line read (lines ++ more) ≡ Ok p → IsShort (next_line read lines)
    shortened [] more p e = refl
    shortened (line ∷ lines) more p e = of_no_line-short (read line) lines (lines ++ more) p e

module _ {V W : Type 0} (read : List CertLine → Read V) (first : ReadsInOrder read) (may : MayBeShort read) where
  MayBeShort-and_read : (next : V → List CertLine → Read W) → ((v : V) → MayBeShort (next v)) → MayBeShort (read_and read next)
  MayBeShort-and_read next then = record {
    short = λ lines more p e.
        let found = FollowsRead-and_read next (read (lines ++ more)) p e in
        judged lines more p e (read lines) refl (may.short lines more (found.value, found.rest) found.first);
  }
    where
      judged : (lines more : List CertLine) (p : W × List CertLine) → read_and read next (lines ++ more) ≡ Ok p → (r : Read V) → read lines ≡ r → IsShort r → IsShort (and_read next r)
      judged lines more p e (Err fault) is h = h
      judged lines more p e (Ok q) is h = (then q.0).short q.1 more p (sym (ap (and_read next) (with_more read lines more q.0 q.1 first is)) ∙ e)

  EndsEarly-and_read : (next : V → List CertLine → Result W CertError) → ((v : V) → EndsEarly (next v)) → EndsEarly (read_and read next)
  EndsEarly-and_read next then = record {
    early = λ lines more w some e.
        let found = FollowsRead-and_read next (read (lines ++ more)) w e in
        judged lines more w some e (read lines) refl (may.short lines more (found.value, found.rest) found.first);
  }
    where
      judged : (lines more : List CertLine) (w : W) → more ≢ [] → read_and read next (lines ++ more) ≡ Ok w → (r : Read V) → read lines ≡ r → IsShort r → and_read next r ≡ Err (BadCertLine 0)
      judged lines more w some e (Err fault) is h = ap (λ (x : CertError). Err x) h
      judged lines more w some e (Ok q) is h = (then q.0).early q.1 more w some (sym (ap (and_read next) (with_more read lines more q.0 q.1 first is)) ∙ e)

MayBeShort-next_lines : {V : Type 0} (read : CertLine → Result V CertError) → ReadsInOrder (next_line read) → ((n : ℕ) → ReadsInOrder (next_lines read n)) → (n : ℕ) → MayBeShort (next_lines read n)
MayBeShort-next_lines {V} read first each zero = MayBeShort-of_no_line {V = List V} (Ok [])
MayBeShort-next_lines {V} read first each (suc n) =
    MayBeShort-and_read (next_line read) first (MayBeShort-next_line read) (λ v rest. and_read (λ vs behind. Ok (v ∷ vs, behind)) (next_lines read n rest))
    (λ v. MayBeShort-and_read (next_lines read n) (each n) (MayBeShort-next_lines read first each n) (λ vs behind. Ok (v ∷ vs, behind)) (λ vs. MayBeShort-of_no_line {V = List V} (Ok (v ∷ vs))))

EndsEarly-at_end : {V : Type 0} (v : V) → EndsEarly (at_end v)
EndsEarly-at_end {V} v = record { early = cut }
  where
    cut : (lines more : List CertLine) (w : V) → more ≢ [] → at_end v (lines ++ more) ≡ Ok w → at_end v lines ≡ Err (BadCertLine 0)
    cut [] more w some e = absurd (some (at_end-Ok v w more e).0)
    cut (line ∷ lines) more w some e = absurd cc

EndsEarly-and_then : {V W : Type 0} (read : List CertLine → Result V CertError) (made : V → W) → EndsEarly read → EndsEarly (λ lines. and_then (λ v. Ok (made v)) (read lines))
EndsEarly-and_then {V} {W} read made ends = record {
  early = λ lines more w some e.
      let found = Follows-and_then {W = W} (λ v. Ok (made v)) (read (lines ++ more)) w e in
      ap (and_then {W = W} (λ v. Ok (made v))) (ends.early lines more found.value some found.first);
}

-- ---- plans and runs

module _ (names : List (List ℕ)) where
  EndsEarly-run_reading : EndsEarly (run_reading names)
  EndsEarly-run_reading =
      EndsEarly-and_read (next_line (λ line. ok_or (count_form (codes "run") line.words) (BadCertLine line.no)))
      (ReadsInOrder-next_line (λ line. ok_or (count_form (codes "run") line.words) (BadCertLine line.no)) at-run)
      (MayBeShort-next_line (λ line. ok_or (count_form (codes "run") line.words) (BadCertLine line.no)))
      (λ m behind_run. and_read (λ steps rest. at_end steps rest) (next_lines (step_reading names) m behind_run))
      (λ m. EndsEarly-and_read (next_lines (step_reading names) m) (ReadsInOrder-next_lines (step_reading names) (at-step names) m)
      (MayBeShort-next_lines (step_reading names) (ReadsInOrder-next_line (step_reading names) (at-step names)) (ReadsInOrder-next_lines (step_reading names) (at-step names)) m)
      (λ steps rest. at_end steps rest) EndsEarly-at_end)

  pub run_reading-cut : (lines more : List CertLine) (steps : List Step) → more ≢ [] → run_reading names (lines ++ more) ≡ Ok steps → run_reading names lines ≡ Err (BadCertLine 0)
  run_reading-cut lines more steps some e = EndsEarly-run_reading.early lines more steps some e

  EndsEarly-chain_reading : EndsEarly (chain_reading names)
  EndsEarly-chain_reading =
      EndsEarly-and_read (next_line (count_reading (codes "chain"))) (ReadsInOrder-next_line (count_reading (codes "chain")) (at-count (codes "chain"))) (MayBeShort-next_line (count_reading (codes "chain")))
      (λ n behind_chain. and_read (λ arcs rest. at_end (n, arcs) rest) (next_lines (arc_reading names) (n - 1) behind_chain))
      (λ n. EndsEarly-and_read (next_lines (arc_reading names) (n - 1)) (ReadsInOrder-next_lines (arc_reading names) (at-arc names) (n - 1))
      (MayBeShort-next_lines (arc_reading names) (ReadsInOrder-next_line (arc_reading names) (at-arc names)) (ReadsInOrder-next_lines (arc_reading names) (at-arc names)) (n - 1))
      (λ arcs rest. at_end (n, arcs) rest) (λ arcs. EndsEarly-at_end {V = ℕ × List (ℕ × ℕ)} (n, arcs)))

module _ (names : List (List ℕ)) (p : Partition) where
  MayBeShort-next_workqueues : (n : ℕ) (workqueues : List (List ℕ)) → MayBeShort (next_workqueues names p.group_of n workqueues)
  MayBeShort-next_workqueues zero workqueues = MayBeShort-of_no_line {V = List (List ℕ)} (Ok workqueues)
  MayBeShort-next_workqueues (suc n) workqueues =
      MayBeShort-and_read (next_line (wq_reading names p.group_of workqueues)) (ReadsInOrder-next_line (wq_reading names p.group_of workqueues) (at-wq names p.group_of workqueues)) (MayBeShort-next_line (wq_reading names p.group_of workqueues))
      (λ items rest. next_workqueues names p.group_of n (workqueues ++ (items ∷ [])) rest) (λ items. MayBeShort-next_workqueues n (workqueues ++ (items ∷ [])))

  MayBeShort-counted : (lanes : ℕ) → MayBeShort (counted_assignment names p lanes)
  MayBeShort-counted lanes =
      MayBeShort-and_read (next_workqueues names p.group_of lanes []) (ReadsInOrder-next_workqueues names p lanes []) (MayBeShort-next_workqueues lanes [])
      (λ workqueues rest. and_then (λ a. Ok (a, rest)) (whole_assignment p workqueues)) (λ workqueues. MayBeShort-of_no_line (whole_assignment p workqueues))

  EndsEarly-plan_reading : EndsEarly (plan_reading names p)
  EndsEarly-plan_reading =
      EndsEarly-and_read (next_line (count_reading (codes "plan"))) (ReadsInOrder-next_line (count_reading (codes "plan")) (at-count (codes "plan"))) (MayBeShort-next_line (count_reading (codes "plan")))
      (λ lanes behind_plan. and_read (λ assignment behind_workqueues. and_then (λ chain. Ok (plan_made assignment chain)) (chain_reading names behind_workqueues)) (counted_assignment names p lanes behind_plan))
      (λ lanes. EndsEarly-and_read (counted_assignment names p lanes) (ReadsInOrder-counted names p lanes) (MayBeShort-counted lanes)
      (λ assignment behind_workqueues. and_then (λ chain. Ok (plan_made assignment chain)) (chain_reading names behind_workqueues))
      (λ assignment. EndsEarly-and_then (chain_reading names) (plan_made assignment) (EndsEarly-chain_reading names)))

  pub plan_reading-cut : (lines more : List CertLine) (c : PlanCertificate) → more ≢ [] → plan_reading names p (lines ++ more) ≡ Ok c → plan_reading names p lines ≡ Err (BadCertLine 0)
  plan_reading-cut lines more c some e = EndsEarly-plan_reading.early lines more c some e
