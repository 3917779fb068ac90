-- What is read is in range.
use Rattle.std.proofs.Common.{◌≡◌, ℕ, zero, suc, ◌+◌, ◌≤◌, ◌⊎◌, inl, inr, Bool, true, false, cond, eqb, List, [], ◌∷◌}
use Rattle.std.proofs.Common.{◌++◌, length, map, Option, Some, None, Result, Ok, refl, sym, ap, subst, arith}
use Rattle.std.proofs.Common.{length-append}
use Rattle.std.specs.Prelude.{codes, filter}
use Rattle.std.proofs.lemmas.List.{length-map}
use Rattle.wq_text.specs.declared.text.TextError.{TextError}
use Rattle.wq_text.specs.declared.text.TextError.TheVariants.{TextTooLong, LineTooLong}
use Rattle.wq_text.specs.Lines.{Piece, pieces, in_front, lines_from, taken, lines_of}
use Rattle.wq_text.specs.Limits.{limit_fault}
use Rattle.wq_text.proofs.LimitLaws.{fits-limit_fault}
use Rattle.wq_groups.specs.Partition.{Partition, IsPartition}
use Rattle.wq_groups.specs.Assignment.{Assignment, IsAssignmentOf}
use Rattle.wq_core.specs.declared.step.Step.{Step}
use Rattle.wq_cert.specs.declared.fault.CertError.{CertError}
use Rattle.wq_cert.specs.Certificate.{PlanCertificate, CircleCertificate, Certificate, OfPlan, OfCircle}
use Rattle.wq_cert.specs.Lines.{CertLine, holds_word, cert_line, cert_lines}
use Rattle.wq_cert.specs.Forms.{begins_with}
use Rattle.wq_cert.specs.Part.{begins_unsure, made_of, made_reading, next_unsure, part_reading, unsure_count_reading}
use Rattle.wq_cert.specs.Part.{unsure_reading}
use Rattle.wq_cert.specs.PlanText.{arc_line}
use Rattle.wq_cert.specs.RunText.{step_line}
use Rattle.wq_cert.specs.Ranges.{IsRunOf, IsPlanOf, IsCircleOf, IsCertificateOf}
use Rattle.wq_items.specs.declared.target.Target.{Target}
use Rattle.wq_items.specs.Building.{and_then}
use Rattle.wq_cert.specs.Reading.{Read, and_read, next_line, plan_reading, circle_reading, run_reading}
use Rattle.wq_cert.specs.Reading.{workqueues_reading, answer_reading, assignment_reading, assignment_of}
use Rattle.wq_cert.specs.Spelled.{words_of_lines, AreWorkqueues, SpellsPlan, SpellsRun, SpellsRunAfter, SpellsCircle}
use Rattle.wq_cert.specs.Texts.{max_certificate, max_certificate_line, unless_too_long, text_reading, answer_of, assignment_of_text, run_of}
use Rattle.wq_cert.proofs.ListLemmas.{length-filter-le}
use Rattle.wq_cert.proofs.SpelledLines.{Follows-and_then, FollowsRead-and_read, same_ok}
use Rattle.wq_cert.proofs.SpelledTexts.{SpellsRun-run_reading, SpellsCircle-circle_reading, SpellsWorkqueues-workqueues_reading, SpellsPlan-plan_reading}
use Rattle.wq_cert.proofs.WorkqueueLanes.{IsAssignmentOf-workqueues}

-- ---- lines

length-in_front : (b : ℕ) (ps : List Piece) → length (in_front b ps) ≤ suc (length ps)
length-in_front b [] = omega arith
length-in_front b (p ∷ ps) = omega arith

-- a text has no more pieces than bytes
length-pieces : (text : List ℕ) → length (pieces text) ≤ length text
length-pieces [] = omega arith
length-pieces (b ∷ bs) = chosen (eqb b 10) (length-pieces bs)
  where
    chosen : (feed : Bool) → length (pieces bs) ≤ length bs → length (cond feed (record { bytes = []; ended = true } ∷ pieces bs) (in_front b (pieces bs))) ≤ length (b ∷ bs)
    chosen true few = omega arith
    chosen false few = omega (arith, length-in_front b (pieces bs))

length-lines_from : (n start : ℕ) (ps : List Piece) → length (lines_from n start ps) ≡ length ps
length-lines_from n start [] = refl
length-lines_from n start (p ∷ ps) = ap suc (length-lines_from (n + 1) (start + taken p) ps)

pub length-cert_lines : (text : List ℕ) → length (cert_lines (lines_of text)) ≤ length text
length-cert_lines text =
    omega (
      arith,
      length-map (filter holds_word (lines_of text)) cert_line,
      length-filter-le holds_word (lines_of text),
      length-lines_from 1 0 (pieces text),
      length-pieces text,
    )

length-words_of_lines : (lines : List CertLine) → length (words_of_lines lines) ≡ length lines
length-words_of_lines lines = length-map lines (λ (line : CertLine). line.words)

-- ---- texts

-- the text keeps the limits, and its lines are read in this way
pub record IsReadSo {V : Type 0} (read : List CertLine → Result V CertError) (text : List ℕ) (v : V) : Type 0 where
  pub within : limit_fault max_certificate max_certificate_line text ≡ None
  pub is_read : read (cert_lines (lines_of text)) ≡ Ok v

pub IsReadSo-text_reading : {V : Type 0} (read : List CertLine → Result V CertError) (text : List ℕ) (v : V) → text_reading read text ≡ Ok v → IsReadSo read text v
IsReadSo-text_reading {V} read text v e = chosen (limit_fault max_certificate max_certificate_line text) refl e
  where
    chosen : (o : Option TextError) → limit_fault max_certificate max_certificate_line text ≡ o → unless_too_long o (read (cert_lines (lines_of text))) ≡ Ok v → IsReadSo read text v
    chosen None within e = record { within = within; is_read = e }
    chosen (Some TextTooLong) within e = absurd cc
    chosen (Some (LineTooLong line)) within e = absurd cc

few_lines : (text : List ℕ) → limit_fault max_certificate max_certificate_line text ≡ None → length (cert_lines (lines_of text)) ≤ 8388608
few_lines text within =
    let fits : length text ≤ 8388608 = (fits-limit_fault max_certificate max_certificate_line text within).0 in
    omega (arith, fits, length-cert_lines text)

-- ---- the text of an answer

-- the lines are read as what the certificate says
abbrev pub IsReadAs : List (List ℕ) → Partition → List CertLine → Certificate → Type 0
IsReadAs names p lines (OfPlan c) = plan_reading names p lines ≡ Ok c
IsReadAs names p lines (OfCircle c) = circle_reading names lines ≡ Ok c

abbrev pub circle_answer : CircleCertificate → Result Certificate CertError
circle_answer circle = Ok (OfCircle circle)

abbrev pub plan_answer : PlanCertificate → Result Certificate CertError
plan_answer plan = Ok (OfPlan plan)

pub IsReadAs-answer_reading : (names : List (List ℕ)) (p : Partition) (lines : List CertLine) (c : Certificate) → answer_reading names p lines ≡ Ok c → IsReadAs names p lines c
IsReadAs-answer_reading names p [] c e = absurd cc
IsReadAs-answer_reading names p (line ∷ lines) c e = chosen (begins_with (codes "circle") line.words) e
  where
    chosen : (b : Bool) → cond b (and_then circle_answer (circle_reading names (line ∷ lines))) (and_then plan_answer (plan_reading names p (line ∷ lines))) ≡ Ok c → IsReadAs names p (line ∷ lines) c
    chosen true e =
        let found = Follows-and_then circle_answer (circle_reading names (line ∷ lines)) c e in
        subst (IsReadAs names p (line ∷ lines)) (same_ok (OfCircle found.value) c found.then) found.first
    chosen false e =
        let found = Follows-and_then plan_answer (plan_reading names p (line ∷ lines)) c e in
        subst (IsReadAs names p (line ∷ lines)) (same_ok (OfPlan found.value) c found.then) found.first

-- ---- the text of an assignment

-- the lines are only `wq` lines, or those of a plan
abbrev pub IsAssignedBy : List (List ℕ) → Partition → List CertLine → Assignment → Type 0
IsAssignedBy names p lines a = (workqueues_reading names p lines ≡ Ok a) ⊎ ((c : PlanCertificate) × (plan_reading names p lines ≡ Ok c) × (c.assignment ≡ a))

abbrev pub of_plan : PlanCertificate → Result Assignment CertError
of_plan plan = Ok plan.assignment

pub IsAssignedBy-assignment_reading : (names : List (List ℕ)) (p : Partition) (lines : List CertLine) (a : Assignment) → assignment_reading names p lines ≡ Ok a → IsAssignedBy names p lines a
IsAssignedBy-assignment_reading names p [] a e = inl e
IsAssignedBy-assignment_reading names p (line ∷ lines) a e = chosen (begins_with (codes "plan") line.words) e
  where
    chosen : (b : Bool) → cond b (and_then of_plan (plan_reading names p (line ∷ lines))) (workqueues_reading names p (line ∷ lines)) ≡ Ok a → IsAssignedBy names p (line ∷ lines) a
    chosen true e =
        let found = Follows-and_then of_plan (plan_reading names p (line ∷ lines)) a e in
        inr (found.value, found.first, same_ok found.value.assignment a found.then)
    chosen false e = inl e

-- ---- in range

-- there are fewer steps than lines
IsRunOf-spelled : (names : List (List ℕ)) (lines : List (List (List ℕ))) (steps : List Step) → length lines ≤ 8388608 → SpellsRun names lines steps → IsRunOf (length names) steps
IsRunOf-spelled names lines steps few spells = record {
  known = spells.known;
  few = omega (arith, few, ap length spells.words, length-map steps (step_line names));
}

module _ (names : List (List ℕ)) (p : Partition) (partition : IsPartition p) (one_group_each : length names ≡ length p.group_of) where
  IsAssignmentOf-spelled : (workqueues : List (List ℕ)) (a : Assignment) → AreWorkqueues (length names) p.group_of workqueues → a ≡ assignment_of p workqueues → IsAssignmentOf p.groups a
  IsAssignmentOf-spelled workqueues a are is =
      subst (IsAssignmentOf p.groups) (sym is) (IsAssignmentOf-workqueues p workqueues partition (subst (λ (n : ℕ). AreWorkqueues n p.group_of workqueues) one_group_each are))

  IsPlanOf-spelled : (lines : List (List (List ℕ))) (c : PlanCertificate) → SpellsPlan names p lines c → IsPlanOf (length names) p.groups c
  IsPlanOf-spelled lines c spells = record {
    assignment = IsAssignmentOf-spelled spells.workqueues c.assignment spells.are spells.assignment;
    few = spells.few;
    count = spells.count;
    arcs = spells.known;
  }

  run_after : (behind : List (List (List ℕ))) (run : Option (List Step)) (steps : List Step) → length behind ≤ 8388608 → SpellsRunAfter names behind run → run ≡ Some steps → IsRunOf (length names) steps
  run_after behind None steps few spells is = absurd cc
  run_after behind (Some others) steps few spells is =
      let same : others ≡ steps = cc in
      subst (IsRunOf (length names)) same (IsRunOf-spelled names behind others few spells)

  IsCircleOf-spelled : (lines : List (List (List ℕ))) (c : CircleCertificate) → length lines ≤ 8388608 → SpellsCircle names lines c → IsCircleOf (length names) c
  IsCircleOf-spelled lines c few spells =
      let behind : length spells.behind ≤ 8388608 = omega (arith, few, ap length spells.words, length-append (map (arc_line names) c.arcs) spells.behind) in
      record { some = spells.some; few = spells.few; arcs = spells.known; run = λ steps is. run_after spells.behind c.steps steps behind spells.run is }

  IsCertificateOf-read : (lines : List CertLine) (c : Certificate) → length lines ≤ 8388608 → IsReadAs names p lines c → IsCertificateOf (length names) p.groups c
  IsCertificateOf-read lines (OfPlan c) few e = IsPlanOf-spelled (words_of_lines lines) c (SpellsPlan-plan_reading names p one_group_each lines c e)
  IsCertificateOf-read lines (OfCircle c) few e =
      IsCircleOf-spelled (words_of_lines lines) c (omega (arith, few, length-words_of_lines lines)) (SpellsCircle-circle_reading names lines c e)

  pub IsCertificateOf-answer_of : (text : List ℕ) (c : Certificate) → answer_of names p text ≡ Ok c → IsCertificateOf (length names) p.groups c
  IsCertificateOf-answer_of text c e =
      let found = IsReadSo-text_reading (answer_reading names p) text c e in
      let lines = cert_lines (lines_of text) in
      IsCertificateOf-read lines c (few_lines text found.within) (IsReadAs-answer_reading names p lines c found.is_read)

  pub IsAssignmentOf-read : (lines : List CertLine) (a : Assignment) → IsAssignedBy names p lines a → IsAssignmentOf p.groups a
  IsAssignmentOf-read lines a (inl e) =
      let spells = SpellsWorkqueues-workqueues_reading names p one_group_each lines a e in
      IsAssignmentOf-spelled spells.workqueues a spells.are spells.assignment
  IsAssignmentOf-read lines a (inr (c, e, is)) =
      subst (IsAssignmentOf p.groups) is (IsPlanOf-spelled (words_of_lines lines) c (SpellsPlan-plan_reading names p one_group_each lines c e)).assignment

  pub IsAssignmentOf-assignment_of_text : (text : List ℕ) (a : Assignment) → assignment_of_text names p text ≡ Ok a → IsAssignmentOf p.groups a
  IsAssignmentOf-assignment_of_text text a e =
      let found = IsReadSo-text_reading (assignment_reading names p) text a e in
      let lines = cert_lines (lines_of text) in
      IsAssignmentOf-read lines a (IsAssignedBy-assignment_reading names p lines a found.is_read)

pub IsRunOf-run_of : (names : List (List ℕ)) (text : List ℕ) (steps : List Step) → run_of names text ≡ Ok steps → IsRunOf (length names) steps
IsRunOf-run_of names text steps e =
    let found = IsReadSo-text_reading (run_reading names) text steps e in
    let lines = cert_lines (lines_of text) in
    IsRunOf-spelled names (words_of_lines lines) steps (omega (arith, few_lines text found.within, length-words_of_lines lines)) (SpellsRun-run_reading names lines steps found.is_read)

-- ---- runs that may have an unsure part

length-after_line : (read : CertLine → Result ℕ CertError) (lines : List CertLine) (v : ℕ) (rest : List CertLine)
    → next_line read lines ≡ Ok (v, rest) → length rest ≤ length lines
length-after_line read [] v rest e = absurd cc
length-after_line read (line ∷ lines) v rest e =
    let next : ℕ → Read ℕ = λ u. Ok (u, lines) in
    let found = Follows-and_then next (read line) (v, rest) e in
    let same : (found.value, lines) ≡ (v, rest) = same_ok (found.value, lines) (v, rest) found.then in
    let behind : lines ≡ rest = ap (λ (p : ℕ × List CertLine). p.1) same in
    omega (arith, ap (λ (ls : List CertLine). length ls) behind)

length-after_unsure : (names : List (List ℕ)) (waits : List (List Target)) (n : ℕ) (taken : List ℕ)
    (lines : List CertLine) (kept : List ℕ) (rest : List CertLine)
    → next_unsure names waits n taken lines ≡ Ok (kept, rest) → length rest ≤ length lines
length-after_unsure names waits zero taken lines kept rest e =
    let same : (taken, lines) ≡ (kept, rest) = same_ok (taken, lines) (kept, rest) e in
    let behind : lines ≡ rest = ap (λ (p : List ℕ × List CertLine). p.1) same in
    omega (arith, ap (λ (ls : List CertLine). length ls) behind)
length-after_unsure names waits (suc n) taken lines kept rest e =
    let next : ℕ → List CertLine → Read (List ℕ) =
    λ place behind. next_unsure names waits n (taken ++ (place ∷ [])) behind in
    let first = FollowsRead-and_read next (next_line (unsure_reading names waits taken) lines) (kept, rest) e in
    let fewer : length first.rest ≤ length lines =
    length-after_line (unsure_reading names waits taken) lines first.value first.rest first.first in
    let more : length rest ≤ length first.rest =
    length-after_unsure names waits n (taken ++ (first.value ∷ [])) first.rest kept rest first.then in
    omega arith

module _ (names : List (List ℕ)) (waits : List (List Target)) (lines : List CertLine) (kept : Option (List ℕ))
    (steps : List Step) (few : length lines ≤ 8388608) where
  run_is : (rest : List CertLine) → length rest ≤ 8388608 → (found : List Step) → run_reading names rest ≡ Ok found
      → found ≡ steps → IsRunOf (length names) steps
  run_is rest less found is same =
      subst (IsRunOf (length names)) same
      (IsRunOf-spelled names (words_of_lines rest) found (omega (arith, less, length-words_of_lines rest))
      (SpellsRun-run_reading names rest found is))

  IsRunOf-made : (b : Bool)
      → cond b (part_reading names waits lines)
      (and_then (λ (made : List Step). Ok (None, made)) (run_reading names lines)) ≡ Ok (kept, steps)
      → IsRunOf (length names) steps
  IsRunOf-made false e =
      let without : List Step → Result (Option (List ℕ) × List Step) CertError = λ made. Ok (None, made) in
      let found = Follows-and_then without (run_reading names lines) (kept, steps) e in
      let same : (None, found.value) ≡ (kept, steps) = same_ok (None, found.value) (kept, steps) found.then in
      run_is lines few found.value found.first (ap (λ (p : Option (List ℕ) × List Step). p.1) same)
  IsRunOf-made true e =
      let last : List ℕ → List Step → Result (Option (List ℕ) × List Step) CertError =
      λ kept made. Ok (Some kept, made) in
      let after : List ℕ → List CertLine → Result (Option (List ℕ) × List Step) CertError =
      λ kept rest. and_then (last kept) (run_reading names rest) in
      let behind : ℕ → List CertLine → Result (Option (List ℕ) × List Step) CertError =
      λ n ls. and_read after (next_unsure names waits n [] ls) in
      let count = FollowsRead-and_read behind (next_line unsure_count_reading lines) (kept, steps) e in
      let places = FollowsRead-and_read after (next_unsure names waits count.value [] count.rest) (kept, steps)
      count.then in
      let found = Follows-and_then (last places.value) (run_reading names places.rest) (kept, steps) places.then in
      let same : (Some places.value, found.value) ≡ (kept, steps) =
      same_ok (Some places.value, found.value) (kept, steps) found.then in
      let one : length count.rest ≤ length lines =
      length-after_line unsure_count_reading lines count.value count.rest count.first in
      let other : length places.rest ≤ length count.rest =
      length-after_unsure names waits count.value [] count.rest places.value places.rest places.first in
      run_is places.rest (omega (arith, one, other, few)) found.value found.first
      (ap (λ (p : Option (List ℕ) × List Step). p.1) same)

pub IsRunOf-made_of : (names : List (List ℕ)) (waits : List (List Target)) (text : List ℕ) (kept : Option (List ℕ))
    (steps : List Step) → made_of names waits text ≡ Ok (kept, steps) → IsRunOf (length names) steps
IsRunOf-made_of names waits text kept steps e =
    let found = IsReadSo-text_reading (made_reading names waits) text (kept, steps) e in
    let lines : List CertLine = cert_lines (lines_of text) in
    IsRunOf-made names waits lines kept steps (few_lines text found.within) (begins_unsure lines) found.is_read
