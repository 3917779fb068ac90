-- How the line of a workqueue is judged: its form, its number, then items that are there again, then groups that are split.
use Rattle.std.proofs.Common.{◌≡◌, ℕ, Bool, true, false, cond, List, length, Result, Ok, Err, refl}
use Rattle.std.specs.Prelude.{not, ◌==◌, ◌||◌, nat_le, ok_or}
use Rattle.std.specs.List.{concat}
use Rattle.wq_cert.specs.declared.fault.CertError.{CertError}
use Rattle.wq_cert.specs.declared.fault.CertError.TheVariants.{BadCertLine, NotAllItems, GroupSplit, NumberOutOfRange}
use Rattle.wq_cert.specs.Forms.{wq_form}
use Rattle.wq_cert.specs.Lines.{CertLine}
use Rattle.wq_items.specs.Building.{and_then}
use Rattle.wq_cert.specs.Reading.{has_stood, splits_group, fresh_items, wq_reading}

module _ (group_of : List ℕ) (workqueues : List (List ℕ)) where
  -- groups that are split
  abbrev pub in_groups : ℕ → List ℕ → Result (List ℕ) CertError
  in_groups line items = cond (splits_group group_of (concat workqueues) items) (Err (GroupSplit line)) (Ok items)

  -- items that are there again, and then groups
  abbrev pub in_once : ℕ → List ℕ → Result (List ℕ) CertError
  in_once line items = cond (has_stood (concat workqueues) items) (Err (NotAllItems line)) (in_groups line items)

module _ (names : List (List ℕ)) (group_of : List ℕ) (workqueues : List (List ℕ)) where
  -- a number out of place, or above 4,095
  abbrev pub is_out : ℕ → Bool
  is_out n = not (n == length workqueues) || nat_le 4096 (length workqueues)

  abbrev pub in_turn : ℕ → ℕ × List ℕ → Result (List ℕ) CertError
  in_turn line p = cond (is_out p.0) (Err (NumberOutOfRange line)) (in_once group_of workqueues line p.1)

  out_first : (line : ℕ) (out : Bool) (items : List ℕ)
      → and_then (λ found. fresh_items group_of (concat workqueues) line found) (cond out (Err (NumberOutOfRange line)) (Ok items))
      ≡ cond out (Err (NumberOutOfRange line)) (fresh_items group_of (concat workqueues) line items)
  out_first line true items = refl
  out_first line false items = refl

  read_in_turn : (line : ℕ) (r : Result (ℕ × List ℕ) CertError)
      → and_then (λ found. fresh_items group_of (concat workqueues) line found) (and_then (λ (p : ℕ × List ℕ). cond (is_out p.0) (Err (NumberOutOfRange line)) (Ok p.1)) r) ≡ and_then (in_turn line) r
  read_in_turn line (Ok p) = out_first line (is_out p.0) p.1
  read_in_turn line (Err e) = refl

  pub wq_reading-turn : (line : CertLine) → wq_reading names group_of workqueues line ≡ and_then (in_turn line.no) (ok_or (wq_form names line.words) (BadCertLine line.no))
  wq_reading-turn line = read_in_turn line.no (ok_or (wq_form names line.words) (BadCertLine line.no))
