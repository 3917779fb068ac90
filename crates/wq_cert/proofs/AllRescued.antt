-- Texts of workqueues that have no `norescuer` line: they say an assignment, and each workqueue has a rescuer.
use Rattle.std.proofs.Common.{◌≡◌, ℕ, zero, suc, Bool, true, false, cond, ◌||◌, List, [], ◌∷◌, map, Option, Some, None, Result, Ok, Err, slice_index_or, bytes_eq, codes, refl, sym, ap, ap₂, subst, ◌∙◌}
use Rattle.std.specs.List.{list_any}
use Rattle.wq_text.specs.Lines.{lines_of}
use Rattle.wq_text.specs.Limits.{limit_fault}
use Rattle.wq_text.specs.declared.text.TextError.{TextError}
use Rattle.wq_text.specs.declared.text.TextError.TheVariants.{TextTooLong, LineTooLong}
use Rattle.wq_groups.specs.Partition.{Partition}
use Rattle.wq_groups.specs.Assignment.{Assignment}
use Rattle.wq_core.specs.Workqueues.{Workqueues, all_rescued}
use Rattle.wq_items.specs.Building.{and_then}
use Rattle.wq_cert.specs.declared.fault.CertError.{CertError}
use Rattle.wq_cert.specs.Certificate.{PlanCertificate}
use Rattle.wq_cert.specs.Forms.{begins_with}
use Rattle.wq_cert.specs.Lines.{CertLine, cert_lines}
use Rattle.wq_cert.specs.Reading.{begins_plan, plan_reading, workqueues_reading, assignment_reading, wq_word, with_wq, as_wq, is_bare_line, lanes_reading}
use Rattle.wq_cert.specs.Texts.{max_certificate, max_certificate_line, unless_too_long, workqueues_of_text, assignment_of_text}
use Rattle.wq_cert.proofs.ReadRanges.{IsReadSo-text_reading}
use Rattle.wq_cert.proofs.LanesRead.{of_plan, of_lines}
use Rattle.wq_cert.proofs.SpelledLines.{Follows-and_then, same_ok}

-- neither of two is so
neither : (a b : Bool) → (a || b) ≡ false → (a ≡ false) × (b ≡ false)
neither false b e = (refl, e)
neither true b e = absurd cc

-- the assignment of what is read
abbrev as_assignment : Result Workqueues CertError → Result Assignment CertError
as_assignment r = and_then (λ (ws : Workqueues). Ok ws.assignment) r

-- ---- the lines are read as they stand

wq_word-other : (word : List ℕ) → bytes_eq word (codes "norescuer") ≡ false → wq_word true word ≡ word
wq_word-other word e = ap (λ (b : Bool). cond b (codes "wq") word) e

with_wq-other : (words : List (List ℕ)) → begins_with (codes "norescuer") words ≡ false → with_wq true words ≡ words
with_wq-other [] e = refl
with_wq-other (word ∷ words) e = ap (λ (w : List ℕ). w ∷ words) (wq_word-other word e)

as_wq-other : (line : CertLine) → is_bare_line line ≡ false → as_wq line ≡ line
as_wq-other line e = λ t. record { no = line.no; words = with_wq-other line.words e t }

all-as_wq : (lines : List CertLine) → list_any is_bare_line lines ≡ false → map as_wq lines ≡ lines
all-as_wq [] e = refl
all-as_wq (line ∷ lines) e =
    let both = neither (is_bare_line line) (list_any is_bare_line lines) e in
    ap₂ (λ (l : CertLine) (ls : List CertLine). l ∷ ls) (as_wq-other line both.0) (all-as_wq lines both.1)

none-bare : (lines : List CertLine) (q : ℕ) → list_any is_bare_line lines ≡ false → slice_index_or (map is_bare_line lines) q false ≡ false
none-bare [] zero e = refl
none-bare [] (suc q) e = refl
none-bare (line ∷ lines) zero e = (neither (is_bare_line line) (list_any is_bare_line lines) e).0
none-bare (line ∷ lines) (suc q) e = none-bare lines q (neither (is_bare_line line) (list_any is_bare_line lines) e).1

-- ---- what is read

of_plan-assignment : (r : Result PlanCertificate CertError) → as_assignment (and_then of_plan r) ≡ and_then (λ (plan : PlanCertificate). Ok plan.assignment) r
of_plan-assignment (Ok plan) = refl
of_plan-assignment (Err e) = refl

of_lines-assignment : (lines : List CertLine) (r : Result Assignment CertError) → as_assignment (and_then (of_lines lines) r) ≡ r
of_lines-assignment lines (Ok a) = refl
of_lines-assignment lines (Err e) = refl

module _ (names : List (List ℕ)) (p : Partition) where
  reading-without-bare : (lines : List CertLine) → list_any is_bare_line lines ≡ false → as_assignment (lanes_reading names p lines) ≡ assignment_reading names p lines
  reading-without-bare lines none = chosen (begins_plan lines)
    where
      chosen : (b : Bool) →
          as_assignment (cond b (and_then of_plan (plan_reading names p lines)) (and_then (of_lines lines) (workqueues_reading names p (map as_wq lines))))
          ≡ cond b (and_then (λ (plan : PlanCertificate). Ok plan.assignment) (plan_reading names p lines)) (workqueues_reading names p lines)
      chosen true = of_plan-assignment (plan_reading names p lines)
      chosen false = of_lines-assignment lines (workqueues_reading names p (map as_wq lines)) ∙ ap (workqueues_reading names p) (all-as_wq lines none)

  rescued-without-bare : (lines : List CertLine) (ws : Workqueues) (q : ℕ) → list_any is_bare_line lines ≡ false → lanes_reading names p lines ≡ Ok ws
      → slice_index_or ws.bare q false ≡ false
  rescued-without-bare lines ws q none e = chosen (begins_plan lines) e
    where
      chosen : (b : Bool) → cond b (and_then of_plan (plan_reading names p lines)) (and_then (of_lines lines) (workqueues_reading names p (map as_wq lines))) ≡ Ok ws
          → slice_index_or ws.bare q false ≡ false
      chosen true e =
          let found = Follows-and_then of_plan (plan_reading names p lines) ws e in
          subst (λ (w : Workqueues). slice_index_or w.bare q false ≡ false) (same_ok (all_rescued found.value.assignment) ws found.then) (none-bare [] q refl)
      chosen false e =
          let found = Follows-and_then (of_lines lines) (workqueues_reading names p (map as_wq lines)) ws e in
          let read : Workqueues = record { assignment = found.value; bare = map is_bare_line lines } in
          subst (λ (w : Workqueues). slice_index_or w.bare q false ≡ false) (same_ok read ws found.then) (none-bare lines q none)

-- ---- texts

unless-assignment : (limit : Option TextError) (r : Result Workqueues CertError) → as_assignment (unless_too_long limit r) ≡ unless_too_long limit (as_assignment r)
unless-assignment None r = refl
unless-assignment (Some TextTooLong) r = refl
unless-assignment (Some (LineTooLong line)) r = refl

pub assignment-without-bare : (names : List (List ℕ)) (p : Partition) (text : List ℕ) → list_any is_bare_line (cert_lines (lines_of text)) ≡ false
    → as_assignment (workqueues_of_text names p text) ≡ assignment_of_text names p text
assignment-without-bare names p text none =
    let limit = limit_fault max_certificate max_certificate_line text in
    unless-assignment limit (lanes_reading names p (cert_lines (lines_of text)))
    ∙ ap (unless_too_long limit) (reading-without-bare names p (cert_lines (lines_of text)) none)

pub rescuers-without-bare : (names : List (List ℕ)) (p : Partition) (text : List ℕ) (ws : Workqueues) (q : ℕ) → list_any is_bare_line (cert_lines (lines_of text)) ≡ false
    → workqueues_of_text names p text ≡ Ok ws → slice_index_or ws.bare q false ≡ false
rescuers-without-bare names p text ws q none e =
    let found = IsReadSo-text_reading (lanes_reading names p) text ws e in
    rescued-without-bare names p (cert_lines (lines_of text)) ws q none found.is_read
