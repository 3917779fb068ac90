-- Each reader of certificates reads in order: a fault at a line is settled by the lines up to it.
use Rattle.std.proofs.Common.{◌≡◌, ℕ, zero, suc, ◌-◌, ◌<◌, Bool, true, false, cond, List, [], ◌∷◌, ◌++◌, length, Option, Some, Result, Ok, Err, refl, sym, ap, subst, ◌∙◌, arith}
use Rattle.std.specs.Prelude.{codes, ok_or, nat_lt, nat_le, ◌==◌, ◌||◌, not}
use Rattle.std.specs.List.{concat}
use Rattle.wq_core.specs.declared.step.Step.{Step}
use Rattle.wq_groups.specs.Assignment.{Assignment}
use Rattle.wq_groups.specs.Partition.{Partition}
use Rattle.wq_cert.proofs.FirstLines.{IsAt, IsAt-Err, IsAt-ok_or, IsAt-and_then, IsAt-cond, IsSettled, Settles, ReadsInOrder, Settles-and_read, ReadsInOrder-and_read, ReadsInOrder-of_no_line, ReadsInOrder-next_line, ReadsInOrder-next_lines, Settles-at_end, Settles-and_then}
use Rattle.wq_cert.proofs.PlanTurns.{assigned}
use Rattle.wq_cert.specs.Certificate.{PlanCertificate, CircleCertificate, Certificate, OfPlan, OfCircle}
use Rattle.wq_cert.specs.declared.fault.CertError.{CertError}
use Rattle.wq_cert.specs.declared.fault.CertError.TheVariants.{BadCertLine, NotAllItems, GroupSplit, NumberOutOfRange}
use Rattle.wq_cert.specs.FirstFaults.{line_of, NoLineIsAtFault}
use Rattle.wq_cert.specs.Forms.{begins_with, count_form, wq_form, arc_form, step_form}
use Rattle.wq_cert.specs.Lines.{CertLine}
use Rattle.wq_items.specs.Building.{and_then}
use Rattle.wq_cert.specs.Reading.{and_read, next_line, next_lines, at_end, count_reading, circle_count_reading, arc_reading, names_far_lane, step_reading, has_stood, splits_group, fresh_items, wq_items, wq_reading, next_workqueues, all_workqueues, hold_all, assignment_of, whole_assignment, chain_reading, counted_assignment, plan_reading, run_reading, run_after, circle_reading, answer_reading, workqueues_reading, assignment_reading}

-- ---- what is made of what is read

abbrev pub circle_made : List (ℕ × ℕ) → Option (List Step) → CircleCertificate
circle_made arcs steps = record { arcs = arcs; steps = steps }

abbrev pub plan_made : Assignment → ℕ × List (ℕ × ℕ) → PlanCertificate
plan_made assignment chain = record { assignment = assignment; length = chain.0; arcs = chain.1 }

-- ---- lines

pub at-count : (keyword : List ℕ) (line : CertLine) → IsAt line.no (count_reading keyword line)
at-count keyword line =
    IsAt-and_then line.no (λ n. cond (nat_lt 4096 n) (Err (NumberOutOfRange line.no)) (Ok n)) (ok_or (count_form keyword line.words) (BadCertLine line.no))
    (IsAt-ok_or line.no (count_form keyword line.words))
    (λ n. IsAt-cond line.no (nat_lt 4096 n) (NumberOutOfRange line.no) (Ok n) refl tt)

pub at-circle : (line : CertLine) → IsAt line.no (circle_count_reading line)
at-circle line =
    IsAt-and_then line.no (λ n. cond (n == 0) (Err (NumberOutOfRange line.no)) (Ok n)) (count_reading (codes "circle") line) (at-count (codes "circle") line)
    (λ n. IsAt-cond line.no (n == 0) (NumberOutOfRange line.no) (Ok n) refl tt)

pub at-run : (line : CertLine) → IsAt line.no (ok_or (count_form (codes "run") line.words) (BadCertLine line.no))
at-run line = IsAt-ok_or line.no (count_form (codes "run") line.words)

module _ (names : List (List ℕ)) where
  pub at-arc : (line : CertLine) → IsAt line.no (arc_reading names line)
  at-arc line = IsAt-ok_or line.no (arc_form names line.words)

  pub at-step : (line : CertLine) → IsAt line.no (step_reading names line)
  at-step line =
      IsAt-and_then line.no (λ found. cond (names_far_lane found) (Err (NumberOutOfRange line.no)) (Ok found)) (ok_or (step_form names line.words) (BadCertLine line.no))
      (IsAt-ok_or line.no (step_form names line.words))
      (λ found. IsAt-cond line.no (names_far_lane found) (NumberOutOfRange line.no) (Ok found) refl tt)

  at-wq_items : (place : ℕ) (line : CertLine) → IsAt line.no (wq_items names place line)
  at-wq_items place line =
      IsAt-and_then line.no (λ (p : ℕ × List ℕ). cond (not (p.0 == place) || nat_le 4096 place) (Err (NumberOutOfRange line.no)) (Ok p.1)) (ok_or (wq_form names line.words) (BadCertLine line.no))
      (IsAt-ok_or line.no (wq_form names line.words))
      (λ p. IsAt-cond line.no (not (p.0 == place) || nat_le 4096 place) (NumberOutOfRange line.no) (Ok p.1) refl tt)

  pub at-wq : (group_of : List ℕ) (workqueues : List (List ℕ)) (line : CertLine) → IsAt line.no (wq_reading names group_of workqueues line)
  at-wq group_of workqueues line =
      IsAt-and_then line.no (λ items. fresh_items group_of (concat workqueues) line.no items) (wq_items names (length workqueues) line) (at-wq_items (length workqueues) line)
      (λ items. IsAt-cond line.no (has_stood (concat workqueues) items) (NotAllItems line.no) (cond (splits_group group_of (concat workqueues) items) (Err (GroupSplit line.no)) (Ok items)) refl
      (IsAt-cond line.no (splits_group group_of (concat workqueues) items) (GroupSplit line.no) (Ok items) refl tt))

-- ---- what the first line decides

-- two readers that agree after this line, the first of which has no fault at a line where there are no lines
pub IsSettled-first : {V : Type 0} (read other : List CertLine → Result V CertError) (line : CertLine) (lines : List CertLine) (fault : CertError)
    → ((rest : List CertLine) → other (line ∷ rest) ≡ read (line ∷ rest)) → IsSettled read (line ∷ lines) fault → IsSettled other (line ∷ lines) fault
IsSettled-first read other line lines fault same h = placed h.before h.lines_are h.settled
  where
    placed : (before : List CertLine) → line ∷ lines ≡ before ++ (h.line ∷ h.behind) → ((others : List CertLine) → read (before ++ (h.line ∷ others)) ≡ Err fault) → IsSettled other (line ∷ lines) fault
    placed [] are settled =
        let first : line ≡ h.line = cc in
        record {
          before = [];
          line = h.line;
          behind = h.behind;
          lines_are = are;
          number = h.number;
          settled = λ others. subst (λ (l : CertLine). other (l ∷ others) ≡ read (l ∷ others)) first (same others) ∙ settled others;
        }
    placed (front ∷ before) are settled =
        let first : line ≡ front = cc in
        record {
          before = front ∷ before;
          line = h.line;
          behind = h.behind;
          lines_are = are;
          number = h.number;
          settled = λ others. subst (λ (l : CertLine). other (l ∷ before ++ (h.line ∷ others)) ≡ read (l ∷ before ++ (h.line ∷ others))) first (same (before ++ (h.line ∷ others))) ∙ settled others;
        }

-- ---- runs and circles

abbrev pub last_step : List Step → List CertLine → Result (List Step) CertError
last_step steps rest = at_end steps rest

module _ (names : List (List ℕ)) where
  -- what is read after the number of a run
  abbrev pub steps_behind : ℕ → List CertLine → Result (List Step) CertError
  steps_behind m lines = and_read last_step (next_lines (step_reading names) m lines)

  pub Settles-steps : (m : ℕ) → Settles (steps_behind m)
  Settles-steps m = Settles-and_read (next_lines (step_reading names) m) last_step (ReadsInOrder-next_lines (step_reading names) (at-step names) m) Settles-at_end

  pub Settles-run_reading : Settles (run_reading names)
  Settles-run_reading =
      Settles-and_read (next_line (λ line. ok_or (count_form (codes "run") line.words) (BadCertLine line.no)))
      steps_behind
      (ReadsInOrder-next_line (λ line. ok_or (count_form (codes "run") line.words) (BadCertLine line.no)) at-run) Settles-steps

  run_if_some : List CertLine → Result (Option (List Step)) CertError
  run_if_some lines = and_then (λ steps. Ok (Some steps)) (run_reading names lines)

  pub Settles-run_after : Settles (run_after names)
  unfolding run_if_some
  Settles-run_after = record { refuses = refused }
    where
      refused : (lines : List CertLine) (fault : CertError) → run_after names lines ≡ Err fault → 0 < line_of fault → IsSettled (run_after names) lines fault
      refused [] fault e some = absurd cc
      refused (line ∷ lines) fault e some =
          IsSettled-first run_if_some (run_after names) line lines fault (λ rest. refl)
          ((Settles-and_then (run_reading names) (λ (steps : List Step). Some steps) Settles-run_reading).refuses (line ∷ lines) fault e some)

  -- what is read after the arcs of a circle, and after its number
  abbrev pub behind_arcs : List (ℕ × ℕ) → List CertLine → Result CircleCertificate CertError
  behind_arcs arcs rest = and_then (λ steps. Ok (circle_made arcs steps)) (run_after names rest)

  abbrev pub behind_circle : ℕ → List CertLine → Result CircleCertificate CertError
  behind_circle n lines = and_read behind_arcs (next_lines (arc_reading names) n lines)

  pub Settles-behind_arcs : (arcs : List (ℕ × ℕ)) → Settles (behind_arcs arcs)
  Settles-behind_arcs arcs = Settles-and_then (run_after names) (circle_made arcs) Settles-run_after

  pub Settles-behind_circle : (n : ℕ) → Settles (behind_circle n)
  Settles-behind_circle n = Settles-and_read (next_lines (arc_reading names) n) behind_arcs (ReadsInOrder-next_lines (arc_reading names) (at-arc names) n) Settles-behind_arcs

  pub Settles-circle_reading : Settles (circle_reading names)
  Settles-circle_reading = Settles-and_read (next_line circle_count_reading) behind_circle (ReadsInOrder-next_line circle_count_reading at-circle) Settles-behind_circle

-- ---- workqueues

module _ (p : Partition) (workqueues : List (List ℕ)) where
  whole-no_line : NoLineIsAtFault (whole_assignment p workqueues)
  whole-no_line = whole_or (hold_all (length p.group_of) workqueues)
    where
      whole_or : (b : Bool) → NoLineIsAtFault (cond b (Ok (assignment_of p workqueues)) (Err (NotAllItems 0)))
      whole_or true = tt
      whole_or false = refl

module _ (names : List (List ℕ)) (p : Partition) where
  pub ReadsInOrder-next_workqueues : (n : ℕ) (workqueues : List (List ℕ)) → ReadsInOrder (next_workqueues names p.group_of n workqueues)
  ReadsInOrder-next_workqueues zero workqueues = ReadsInOrder-of_no_line {V = List (List ℕ)} (Ok workqueues) tt
  ReadsInOrder-next_workqueues (suc n) workqueues =
      ReadsInOrder-and_read (next_line (wq_reading names p.group_of workqueues)) (λ items rest. next_workqueues names p.group_of n (workqueues ++ (items ∷ [])) rest)
      (ReadsInOrder-next_line (wq_reading names p.group_of workqueues) (at-wq names p.group_of workqueues))
      (λ items. ReadsInOrder-next_workqueues n (workqueues ++ (items ∷ [])))

  pub ReadsInOrder-counted : (lanes : ℕ) → ReadsInOrder (counted_assignment names p lanes)
  ReadsInOrder-counted lanes =
      ReadsInOrder-and_read (next_workqueues names p.group_of lanes []) (λ workqueues rest. and_then (λ a. Ok (a, rest)) (whole_assignment p workqueues)) (ReadsInOrder-next_workqueues lanes [])
      (λ workqueues. ReadsInOrder-of_no_line (whole_assignment p workqueues) (whole-no_line p workqueues))

  -- ---- plans

  -- what is read after the number of a chain
  abbrev pub behind_chain : ℕ → List CertLine → Result (ℕ × List (ℕ × ℕ)) CertError
  behind_chain n lines = and_read (λ arcs rest. at_end (n, arcs) rest) (next_lines (arc_reading names) (n - 1) lines)

  pub Settles-behind_chain : (n : ℕ) → Settles (behind_chain n)
  Settles-behind_chain n =
      Settles-and_read (next_lines (arc_reading names) (n - 1)) (λ arcs rest. at_end (n, arcs) rest) (ReadsInOrder-next_lines (arc_reading names) (at-arc names) (n - 1))
      (λ arcs. Settles-at_end {V = ℕ × List (ℕ × ℕ)} (n, arcs))

  pub Settles-chain_reading : Settles (chain_reading names)
  Settles-chain_reading =
      Settles-and_read (next_line (count_reading (codes "chain"))) behind_chain (ReadsInOrder-next_line (count_reading (codes "chain")) (at-count (codes "chain"))) Settles-behind_chain

  -- what is read after the workqueues of a plan, and after their number
  abbrev pub behind_assignment : Assignment → List CertLine → Result PlanCertificate CertError
  behind_assignment assignment lines = and_then (λ chain. Ok (plan_made assignment chain)) (chain_reading names lines)

  abbrev pub behind_lanes : ℕ → List CertLine → Result PlanCertificate CertError
  behind_lanes lanes lines = and_read behind_assignment (counted_assignment names p lanes lines)

  pub Settles-behind_assignment : (assignment : Assignment) → Settles (behind_assignment assignment)
  Settles-behind_assignment assignment = Settles-and_then (chain_reading names) (plan_made assignment) Settles-chain_reading

  pub Settles-behind_lanes : (lanes : ℕ) → Settles (behind_lanes lanes)
  Settles-behind_lanes lanes = Settles-and_read (counted_assignment names p lanes) behind_assignment (ReadsInOrder-counted lanes) Settles-behind_assignment

  pub Settles-plan_reading : Settles (plan_reading names p)
  Settles-plan_reading = Settles-and_read (next_line (count_reading (codes "plan"))) behind_lanes (ReadsInOrder-next_line (count_reading (codes "plan")) (at-count (codes "plan"))) Settles-behind_lanes

  -- ---- only workqueues

  abbrev workqueues_behind : List (List ℕ) → List CertLine → Result Assignment CertError
  workqueues_behind workqueues lines = and_read (assigned p) (all_workqueues names p.group_of workqueues lines)

  ended : (workqueues : List (List ℕ)) (line : CertLine) (lines : List CertLine) (fault : CertError) → begins_with (codes "wq") line.words ≡ false → (r : Result Assignment CertError) → whole_assignment p workqueues ≡ r → NoLineIsAtFault r
      → and_then (λ assignment. at_end assignment (line ∷ lines)) r ≡ Err fault → 0 < line_of fault → IsSettled (workqueues_behind workqueues) (line ∷ lines) fault
  ended workqueues line lines fault other (Err found) is none e some =
      let same : found ≡ fault = cc in
      let zero_is : line_of fault ≡ 0 = ap line_of (sym same) ∙ none in
      absurd (omega (arith, some, zero_is))
  ended workqueues line lines fault other (Ok a) is none e some =
      let same : BadCertLine line.no ≡ fault = cc in
      record {
        before = [];
        line = line;
        behind = lines;
        lines_are = refl;
        number = ap line_of same;
        settled = λ others.
            ap (λ (b : Bool). and_read (assigned p) (cond b (and_then (λ items. all_workqueues names p.group_of (workqueues ++ (items ∷ [])) others) (wq_reading names p.group_of workqueues line)) (Ok (workqueues, line ∷ others)))) other
            ∙ ap (and_then (λ assignment. at_end assignment (line ∷ others))) is
            ∙ ap (λ (x : CertError). Err x) same;
      }

  -- the reader of one more line, if it is that of a workqueue
  abbrev one_more : List (List ℕ) → List CertLine → Result (List ℕ) CertError → Result Assignment CertError
  one_more workqueues lines r = and_read (assigned p) (and_then (λ items. all_workqueues names p.group_of (workqueues ++ (items ∷ [])) lines) r)

  abbrev by_word : List (List ℕ) → CertLine → List CertLine → Bool → Result Assignment CertError
  by_word workqueues line lines b = and_read (assigned p) (cond b (and_then (λ items. all_workqueues names p.group_of (workqueues ++ (items ∷ [])) lines) (wq_reading names p.group_of workqueues line)) (Ok (workqueues, line ∷ lines)))

  refused-line : (line : CertLine) (lines : List CertLine) (workqueues : List (List ℕ)) (fault : CertError)
      → ((more : List (List ℕ)) → workqueues_behind more lines ≡ Err fault → IsSettled (workqueues_behind more) lines fault) → begins_with (codes "wq") line.words ≡ true
      → (r : Result (List ℕ) CertError) → wq_reading names p.group_of workqueues line ≡ r → one_more workqueues lines r ≡ Err fault → IsSettled (workqueues_behind workqueues) (line ∷ lines) fault
  refused-line line lines workqueues fault others is_wq (Err found) is e =
      let same : found ≡ fault = cc in
      let refused : wq_reading names p.group_of workqueues line ≡ Err fault = is ∙ ap (λ (x : CertError). Err x) same in
      record {
        before = [];
        line = line;
        behind = lines;
        lines_are = refl;
        number = sym (IsAt-Err line.no (wq_reading names p.group_of workqueues line) fault (at-wq names p.group_of workqueues line) refused);
        settled = λ others. ap (by_word workqueues line others) is_wq ∙ ap (one_more workqueues others) refused;
      }
  refused-line line lines workqueues fault others is_wq (Ok items) is e =
      let h = others (workqueues ++ (items ∷ [])) e in
      record {
        before = line ∷ h.before;
        line = h.line;
        behind = h.behind;
        lines_are = ap (λ (ls : List CertLine). line ∷ ls) h.lines_are;
        number = h.number;
        settled = λ rest. ap (by_word workqueues line (h.before ++ (h.line ∷ rest))) is_wq ∙ ap (one_more workqueues (h.before ++ (h.line ∷ rest))) is ∙ h.settled rest;
      }

  refused-word : (line : CertLine) (lines : List CertLine) (workqueues : List (List ℕ)) (fault : CertError)
      → ((more : List (List ℕ)) → workqueues_behind more lines ≡ Err fault → IsSettled (workqueues_behind more) lines fault)
      → (b : Bool) → begins_with (codes "wq") line.words ≡ b → by_word workqueues line lines b ≡ Err fault → 0 < line_of fault → IsSettled (workqueues_behind workqueues) (line ∷ lines) fault
  refused-word line lines workqueues fault others true is e some = refused-line line lines workqueues fault others is (wq_reading names p.group_of workqueues line) refl e
  refused-word line lines workqueues fault others false is e some = ended workqueues line lines fault is (whole_assignment p workqueues) refl (whole-no_line p workqueues) e some

  nothing_behind : (workqueues : List (List ℕ)) (fault : CertError) (r : Result Assignment CertError) → NoLineIsAtFault r → and_then (λ assignment. at_end assignment []) r ≡ Err fault → 0 < line_of fault → ⊥
  nothing_behind workqueues fault (Ok a) none e some = absurd cc
  nothing_behind workqueues fault (Err found) none e some =
      let same : found ≡ fault = cc in
      let zero_is : line_of fault ≡ 0 = ap line_of (sym same) ∙ none in
      absurd (omega (arith, some, zero_is))

  refused-workqueues : (lines : List CertLine) (workqueues : List (List ℕ)) (fault : CertError) → workqueues_behind workqueues lines ≡ Err fault → 0 < line_of fault → IsSettled (workqueues_behind workqueues) lines fault
  refused-workqueues [] workqueues fault e some = absurd (nothing_behind workqueues fault (whole_assignment p workqueues) (whole-no_line p workqueues) e some)
  refused-workqueues (line ∷ lines) workqueues fault e some =
      refused-word line lines workqueues fault (λ more again. refused-workqueues lines more fault again some) (begins_with (codes "wq") line.words) refl e some

  -- ---- whole texts, by their first word

  abbrev pub plan_or : List CertLine → Bool → Result Certificate CertError
  plan_or lines b = cond b (and_then (λ circle. Ok (OfCircle circle)) (circle_reading names lines)) (and_then (λ plan. Ok (OfPlan plan)) (plan_reading names p lines))

  answer_by : (line : CertLine) (lines : List CertLine) (fault : CertError) (b : Bool) → begins_with (codes "circle") line.words ≡ b → plan_or (line ∷ lines) b ≡ Err fault → 0 < line_of fault → IsSettled (answer_reading names p) (line ∷ lines) fault
  answer_by line lines fault true is e some =
      IsSettled-first (λ ls. and_then (λ circle. Ok (OfCircle circle)) (circle_reading names ls)) (answer_reading names p) line lines fault (λ rest. ap (plan_or (line ∷ rest)) is)
      ((Settles-and_then (circle_reading names) (λ circle. OfCircle circle) (Settles-circle_reading names)).refuses (line ∷ lines) fault e some)
  answer_by line lines fault false is e some =
      IsSettled-first (λ ls. and_then (λ plan. Ok (OfPlan plan)) (plan_reading names p ls)) (answer_reading names p) line lines fault (λ rest. ap (plan_or (line ∷ rest)) is)
      ((Settles-and_then (plan_reading names p) (λ plan. OfPlan plan) Settles-plan_reading).refuses (line ∷ lines) fault e some)

  pub Settles-answer_reading : Settles (answer_reading names p)
  Settles-answer_reading = record { refuses = refused }
    where
      refused : (lines : List CertLine) (fault : CertError) → answer_reading names p lines ≡ Err fault → 0 < line_of fault → IsSettled (answer_reading names p) lines fault
      refused [] fault e some =
          let same : BadCertLine 0 ≡ fault = cc in
          let zero_is : line_of fault ≡ 0 = ap line_of (sym same) in
          absurd (omega (arith, some, zero_is))
      refused (line ∷ lines) fault e some = answer_by line lines fault (begins_with (codes "circle") line.words) refl e some

  abbrev pub workqueues_or : List CertLine → Bool → Result Assignment CertError
  workqueues_or lines b = cond b (and_then (λ (plan : PlanCertificate). Ok plan.assignment) (plan_reading names p lines)) (workqueues_reading names p lines)

  assignment_by : (line : CertLine) (lines : List CertLine) (fault : CertError) (b : Bool) → begins_with (codes "plan") line.words ≡ b → workqueues_or (line ∷ lines) b ≡ Err fault → 0 < line_of fault → IsSettled (assignment_reading names p) (line ∷ lines) fault
  assignment_by line lines fault true is e some =
      IsSettled-first (λ ls. and_then (λ (plan : PlanCertificate). Ok plan.assignment) (plan_reading names p ls)) (assignment_reading names p) line lines fault (λ rest. ap (workqueues_or (line ∷ rest)) is)
      ((Settles-and_then (plan_reading names p) (λ (plan : PlanCertificate). plan.assignment) Settles-plan_reading).refuses (line ∷ lines) fault e some)
  assignment_by line lines fault false is e some =
      IsSettled-first (workqueues_reading names p) (assignment_reading names p) line lines fault (λ rest. ap (workqueues_or (line ∷ rest)) is)
      (refused-workqueues (line ∷ lines) [] fault e some)

  pub Settles-assignment_reading : Settles (assignment_reading names p)
  Settles-assignment_reading = record { refuses = refused }
    where
      refused : (lines : List CertLine) (fault : CertError) → assignment_reading names p lines ≡ Err fault → 0 < line_of fault → IsSettled (assignment_reading names p) lines fault
      refused [] fault e some = absurd (nothing_behind [] fault (whole_assignment p []) (whole-no_line p []) e some)
      refused (line ∷ lines) fault e some = assignment_by line lines fault (begins_with (codes "plan") line.words) refl e some
