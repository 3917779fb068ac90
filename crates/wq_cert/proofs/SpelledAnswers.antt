-- Which texts are read as an answer, an assignment or a run.
use Rattle.std.proofs.Common.{◌≡◌, ◌≢◌, ℕ, inl, inr, Bool, false, cond, List, [], ◌∷◌, length, map, get_or, Option, None, Result, Ok, sym, subst, ap, ◌∙◌}
use Rattle.std.specs.Prelude.{AllPairs, codes, decimal}
use Rattle.wq_text.specs.declared.text.TextError.{TextError}
use Rattle.wq_text.specs.Lines.{lines_of}
use Rattle.wq_text.specs.Limits.{limit_fault}
use Rattle.wq_text.proofs.LimitLaws.{fits-limit_fault, limit_fault-fits}
use Rattle.wq_groups.specs.Partition.{Partition}
use Rattle.wq_groups.specs.Assignment.{Assignment}
use Rattle.wq_core.specs.declared.step.Step.{Step}
use Rattle.wq_cert.specs.declared.fault.CertError.{CertError}
use Rattle.wq_cert.specs.Certificate.{CircleCertificate, Certificate, OfPlan, OfCircle}
use Rattle.wq_cert.specs.Lines.{CertLine, cert_lines}
use Rattle.wq_cert.specs.Forms.{begins_with}
use Rattle.wq_cert.specs.PlanText.{plan_line}
use Rattle.wq_cert.specs.CircleText.{circle_line}
use Rattle.wq_items.specs.Building.{and_then}
use Rattle.wq_cert.specs.Reading.{plan_reading, circle_reading, run_reading, workqueues_reading, answer_reading, assignment_reading}
use Rattle.wq_cert.specs.Spelled.{words_of_lines, words_of_text, workqueue_lines, SpellsCircle, SpellsRun, SpellsCertificate, SpellsAssignment, KeepsLimits}
use Rattle.wq_cert.specs.Texts.{max_certificate, max_certificate_line, unless_too_long, text_reading, answer_of, assignment_of_text, run_of}
use Rattle.wq_cert.proofs.SpelledTexts.{SpellsRun-run_reading, run_reading-SpellsRun, SpellsCircle-circle_reading, circle_reading-SpellsCircle, SpellsWorkqueues-workqueues_reading, workqueues_reading-SpellsWorkqueues, SpellsPlan-plan_reading, plan_reading-SpellsPlan}
use Rattle.wq_cert.proofs.ReadRanges.{IsReadSo-text_reading, IsReadAs, IsReadAs-answer_reading, circle_answer, plan_answer, IsAssignedBy, IsAssignedBy-assignment_reading, of_plan}
use Rattle.wq_cert.proofs.TextWords.{words_of_lines-text}

-- ---- limits

module _ {V : Type 0} (read : List CertLine → Result V CertError) (text : List ℕ) (v : V) where
  pub KeepsLimits-text_reading : text_reading read text ≡ Ok v → KeepsLimits text × (read (cert_lines (lines_of text)) ≡ Ok v)
  KeepsLimits-text_reading e =
      let found = IsReadSo-text_reading read text v e in
      let fits = fits-limit_fault max_certificate max_certificate_line text found.within in
      (record { text_fits = fits.0; lines_fit = fits.1 }, found.is_read)

  pub text_reading-KeepsLimits : KeepsLimits text → read (cert_lines (lines_of text)) ≡ Ok v → text_reading read text ≡ Ok v
  text_reading-KeepsLimits keeps e =
      let within : limit_fault max_certificate max_certificate_line text ≡ None = limit_fault-fits max_certificate max_certificate_line text (keeps.text_fits, keeps.lines_fit) in
      ap (λ (o : Option TextError). unless_too_long o (read (cert_lines (lines_of text)))) within ∙ e

-- ---- lines

-- a circle, whatever the groups: the first word decides that it is one
pub answer_reading-circle : (names : List (List ℕ)) (p : Partition) → AllPairs (λ (a b : List ℕ). a ≢ b) names → (lines : List CertLine) (c : CircleCertificate) → SpellsCircle names (words_of_lines lines) c
    → answer_reading names p lines ≡ Ok (OfCircle c)
answer_reading-circle names p differ [] c spells = absurd (let words = spells.words in cc)
answer_reading-circle names p differ (line ∷ lines) c spells =
    let words = spells.words in
    let first : line.words ≡ circle_line c.arcs = cc in
    let circle = and_then circle_answer (circle_reading names (line ∷ lines)) in
    let plan = and_then plan_answer (plan_reading names p (line ∷ lines)) in
    ap (λ (ws : List (List ℕ)). cond (begins_with (codes "circle") ws) circle plan) first
    ∙ ap (and_then circle_answer) (circle_reading-SpellsCircle names differ (line ∷ lines) c spells)

module _ (names : List (List ℕ)) (p : Partition) (one_group_each : length names ≡ length p.group_of) where
  SpellsCertificate-read : (lines : List CertLine) (c : Certificate) → IsReadAs names p lines c → SpellsCertificate names p (words_of_lines lines) c
  SpellsCertificate-read lines (OfPlan c) e = SpellsPlan-plan_reading names p one_group_each lines c e
  SpellsCertificate-read lines (OfCircle c) e = SpellsCircle-circle_reading names lines c e

  pub SpellsCertificate-answer_of : (text : List ℕ) (c : Certificate) → answer_of names p text ≡ Ok c → KeepsLimits text × SpellsCertificate names p (words_of_text text) c
  SpellsCertificate-answer_of text c e =
      let found = KeepsLimits-text_reading (answer_reading names p) text c e in
      let lines = cert_lines (lines_of text) in (
        found.0,
        subst (λ (ws : List (List (List ℕ))). SpellsCertificate names p ws c) (words_of_lines-text text)
            (SpellsCertificate-read lines c (IsReadAs-answer_reading names p lines c found.1)),
      )

  SpellsAssignment-read : (lines : List CertLine) (a : Assignment) → IsAssignedBy names p lines a → SpellsAssignment names p (words_of_lines lines) a
  SpellsAssignment-read lines a (inl e) = inl (SpellsWorkqueues-workqueues_reading names p one_group_each lines a e)
  SpellsAssignment-read lines a (inr (c, e, is)) = inr (c, SpellsPlan-plan_reading names p one_group_each lines c e, is)

  pub SpellsAssignment-assignment_of_text : (text : List ℕ) (a : Assignment) → assignment_of_text names p text ≡ Ok a → KeepsLimits text × SpellsAssignment names p (words_of_text text) a
  SpellsAssignment-assignment_of_text text a e =
      let found = KeepsLimits-text_reading (assignment_reading names p) text a e in
      let lines = cert_lines (lines_of text) in (
        found.0,
        subst (λ (ws : List (List (List ℕ))). SpellsAssignment names p ws a) (words_of_lines-text text)
            (SpellsAssignment-read lines a (IsAssignedBy-assignment_reading names p lines a found.1)),
      )

  module _ (differ : AllPairs (λ (a b : List ℕ). a ≢ b) names) where
    -- the first word decides what is read
    answer_reading-spelled : (lines : List CertLine) (c : Certificate) → SpellsCertificate names p (words_of_lines lines) c → answer_reading names p lines ≡ Ok c
    answer_reading-spelled lines (OfCircle c) spells = answer_reading-circle names p differ lines c spells
    answer_reading-spelled [] (OfPlan c) spells = absurd (let words = spells.words in cc)
    answer_reading-spelled (line ∷ lines) (OfPlan c) spells =
        let words = spells.words in
        let first : line.words ≡ plan_line (length spells.workqueues) = cc in
        let circle = and_then circle_answer (circle_reading names (line ∷ lines)) in
        let plan = and_then plan_answer (plan_reading names p (line ∷ lines)) in
        ap (λ (ws : List (List ℕ)). cond (begins_with (codes "circle") ws) circle plan) first
        ∙ ap (and_then plan_answer) (plan_reading-SpellsPlan names p one_group_each differ (line ∷ lines) c spells)

    pub answer_of-spelled : (text : List ℕ) (c : Certificate) → KeepsLimits text × SpellsCertificate names p (words_of_text text) c → answer_of names p text ≡ Ok c
    answer_of-spelled text c h =
        let spells = subst (λ (ws : List (List (List ℕ))). SpellsCertificate names p ws c) (sym (words_of_lines-text text)) h.1 in
        text_reading-KeepsLimits (answer_reading names p) text c h.0 (answer_reading-spelled (cert_lines (lines_of text)) c spells)

    no_plan : (workqueues : List (List ℕ)) (line : CertLine) (lines : List CertLine) → words_of_lines (line ∷ lines) ≡ workqueue_lines names workqueues → begins_with (codes "plan") line.words ≡ false
    no_plan [] line lines e = absurd cc
    no_plan (workqueue ∷ more) line lines e =
        let first : line.words ≡ codes "wq" ∷ decimal 0 ∷ map (λ (i : ℕ). get_or names i []) workqueue = cc in
        ap (begins_with (codes "plan")) first

    assignment_reading-spelled : (lines : List CertLine) (a : Assignment) → SpellsAssignment names p (words_of_lines lines) a → assignment_reading names p lines ≡ Ok a
    assignment_reading-spelled [] a (inl spells) = workqueues_reading-SpellsWorkqueues names p one_group_each differ [] a spells
    assignment_reading-spelled [] a (inr (c, spells, is)) = absurd (let words = spells.words in cc)
    assignment_reading-spelled (line ∷ lines) a (inl spells) =
        let plan = and_then of_plan (plan_reading names p (line ∷ lines)) in
        let workqueues = workqueues_reading names p (line ∷ lines) in
        ap (λ (b : Bool). cond b plan workqueues) (no_plan spells.workqueues line lines spells.words)
        ∙ workqueues_reading-SpellsWorkqueues names p one_group_each differ (line ∷ lines) a spells
    assignment_reading-spelled (line ∷ lines) a (inr (c, spells, is)) =
        let words = spells.words in
        let first : line.words ≡ plan_line (length spells.workqueues) = cc in
        let plan = and_then of_plan (plan_reading names p (line ∷ lines)) in
        let workqueues = workqueues_reading names p (line ∷ lines) in
        ap (λ (ws : List (List ℕ)). cond (begins_with (codes "plan") ws) plan workqueues) first
        ∙ ap (and_then of_plan) (plan_reading-SpellsPlan names p one_group_each differ (line ∷ lines) c spells)
        ∙ ap (λ (b : Assignment). Ok b) is

    pub assignment_of_text-spelled : (text : List ℕ) (a : Assignment) → KeepsLimits text × SpellsAssignment names p (words_of_text text) a → assignment_of_text names p text ≡ Ok a
    assignment_of_text-spelled text a h =
        let spells = subst (λ (ws : List (List (List ℕ))). SpellsAssignment names p ws a) (sym (words_of_lines-text text)) h.1 in
        text_reading-KeepsLimits (assignment_reading names p) text a h.0 (assignment_reading-spelled (cert_lines (lines_of text)) a spells)

-- ---- runs

module _ (names : List (List ℕ)) where
  pub SpellsRun-run_of : (text : List ℕ) (steps : List Step) → run_of names text ≡ Ok steps → KeepsLimits text × SpellsRun names (words_of_text text) steps
  SpellsRun-run_of text steps e =
      let found = KeepsLimits-text_reading (run_reading names) text steps e in (
        found.0,
        subst (λ (ws : List (List (List ℕ))). SpellsRun names ws steps) (words_of_lines-text text)
            (SpellsRun-run_reading names (cert_lines (lines_of text)) steps found.1),
      )

  pub run_of-spelled : AllPairs (λ (a b : List ℕ). a ≢ b) names → (text : List ℕ) (steps : List Step) → KeepsLimits text × SpellsRun names (words_of_text text) steps → run_of names text ≡ Ok steps
  run_of-spelled differ text steps h =
      let spells = subst (λ (ws : List (List (List ℕ))). SpellsRun names ws steps) (sym (words_of_lines-text text)) h.1 in
      text_reading-KeepsLimits (run_reading names) text steps h.0 (run_reading-SpellsRun names differ (cert_lines (lines_of text)) steps spells)
