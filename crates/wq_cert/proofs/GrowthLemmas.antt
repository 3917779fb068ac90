-- What is read without a fault before memory is requested.
use Rattle.std.proofs.Common.{◌≡◌, ℕ, zero, suc, ◌+◌, ◌-◌, ◌<◌, List, [], ◌∷◌, ◌++◌, map, Result, Ok, Err, refl, sym}
use Rattle.std.proofs.Common.{ap, subst, ◌∙◌, arith}
use Rattle.std.specs.Prelude.{codes, IsErrAnd}
use Rattle.wq_groups.specs.Partition.{Partition}
use Rattle.wq_text.specs.Lines.{LineView}
use Rattle.wq_cert.specs.declared.fault.CertError.{CertError}
use Rattle.wq_cert.specs.FirstFaults.{NoLineIsAtFault}
use Rattle.wq_cert.specs.Growth.{BeginsWell, ReadsOne}
use Rattle.wq_cert.specs.Lines.{CertLine, cert_line}
use Rattle.wq_items.specs.Building.{and_then}
use Rattle.wq_cert.specs.Reading.{Read, and_read, next_line, next_lines, at_end, count_reading, circle_count_reading}
use Rattle.wq_cert.specs.Reading.{arc_reading, step_reading, plan_reading, run_reading, circle_reading}
use Rattle.wq_cert.proofs.FirstLines.{IsAt, Settles, read_and, of_no_line, Settles-at_end}
use Rattle.wq_cert.proofs.FirstReaders.{at-circle, at-run, at-arc, at-step, behind_arcs, Settles-behind_arcs}
use Rattle.wq_cert.proofs.FirstReaders.{behind_lanes, Settles-behind_lanes}
use Rattle.wq_cert.proofs.JudgedLines.{IsJudged, JudgesNext-next_line, JudgesNext-first_line, Judges-first}
use Rattle.wq_cert.proofs.ReadLemmas.{GoesOn, goes_on-more}
use Rattle.wq_cert.proofs.SpelledLines.{Follows-and_then, FollowsRead-and_read, run_count, Shows-circle}

-- ---- faults that are passed on

pub Err-passed : {T E : Type 0} (r : Result T E) (met error : E) → IsErrAnd r (λ e. e ≡ met) → r ≡ Err error
    → met ≡ error
Err-passed (Ok x) met error passed is = absurd passed
Err-passed (Err e) met error passed is = sym passed ∙ cc

-- ---- reading a line requests no memory

-- ---- a line for each value, if the first is read

-- i of n are read, and if any is, the first line is
pub record ReadTo {V : Type 0} (read : CertLine → Result V CertError) (n i : ℕ) (lines : List CertLine) (vs : List V)
    (rest : List CertLine) : Type 0 where
  pub goes_on : GoesOn read n lines vs (n - i) rest
  pub first : i ≡ 0 → rest ≡ lines
  pub one : 0 < i → ReadsOne read n lines

module _ {V : Type 0} (read : CertLine → Result V CertError) (n : ℕ) (lines : List CertLine) where
  module _ (i : ℕ) (vs : List V) (left : List LineView) (line : LineView) (rest : List LineView) (v : V) (below : i < n)
      (stands : left ≡ line ∷ rest) (taken : Ok v ≡ read (cert_line line))
      (h : ReadTo read n i lines vs (map cert_line left)) where
    pub ReadsOne-next : ReadsOne read n lines
    ReadsOne-next = by_place i refl
      where
        by_place : (k : ℕ) → i ≡ k → ReadsOne read n lines
        by_place zero at = record {
          line = cert_line line;
          rest = map cert_line rest;
          stands = sym (h.first at) ∙ ap (map cert_line) stands;
          some = omega (arith, below);
          value = v;
          is_read = sym taken;
        }
        by_place (suc k) at = h.one (omega (arith, at))

    pub ReadTo-more : (ws : List V) → ws ≡ vs ++ (v ∷ []) → ReadTo read n (i + 1) lines ws (map cert_line rest)
    ReadTo-more ws grown = record {
      goes_on = goes_on-more read n i lines vs left line rest v ws below stands taken grown h.goes_on;
      first = λ e. absurd (omega (arith, e));
      one = λ some. ReadsOne-next;
    }

  -- if all are read, the first is
  pub ReadsOne-all : (vs : List V) (rest : List CertLine) → 0 < n → next_lines read n lines ≡ Ok (vs, rest)
      → ReadsOne read n lines
  ReadsOne-all vs rest some e = by_count n refl lines refl some e
    where
      by_count : (m : ℕ) → n ≡ m → (ls : List CertLine) → lines ≡ ls → 0 < m → next_lines read m ls ≡ Ok (vs, rest)
          → ReadsOne read n lines
      by_count zero is ls same none e = absurd (omega (arith, none))
      by_count (suc m) is [] same some e = absurd cc
      by_count (suc m) is (line ∷ others) same some e =
          let next : V → List CertLine → Read (List V) = λ v behind. and_read (λ us ends. Ok (v ∷ us, ends))
          (next_lines read m behind) in
          let found = FollowsRead-and_read next (next_line read (line ∷ others)) (vs, rest) e in
          let keep : V → Read V = λ v. Ok (v, others) in
          let value = Follows-and_then keep (read line) (found.value, found.rest) found.first in
          record {
            line = line;
            rest = others;
            stands = same;
            some = omega (arith, is);
            value = value.value;
            is_read = value.first;
          }

-- ---- what begins well

-- no fault is demanded of the line
abbrev Never : CertError → Type 0
Never fault = ⊥

module _ {V : Type 0} (read : CertLine → Result V CertError) (line : CertLine) (v : V) (is : read line ≡ Ok v) where
  in_order : IsJudged line Never (Unit {0}) read
  in_order = record { refused = λ fault h. absurd h; kept = λ h. (v, is) }

module _ (names : List (List ℕ)) (p : Partition) (first : CertLine) (rest : List CertLine) where
  pub BeginsWell-plan : (k : ℕ) → count_reading (codes "plan") first ≡ Ok k
      → BeginsWell (plan_reading names p) 1 (first ∷ rest)
  BeginsWell-plan k is = record {
    stand = omega arith;
    no_fault =
        (Judges-first first Never (Unit {0}) (next_line (count_reading (codes "plan"))) [] (behind_lanes names p)
        (JudgesNext-next_line first Never (Unit {0}) (count_reading (codes "plan"))
        (in_order (count_reading (codes "plan")) first k is)) (Settles-behind_lanes names p)).kept tt;
  }

module _ (names : List (List ℕ)) (first : CertLine) (n : ℕ) where
  BeginsWell-line : {V : Type 0} (read : List CertLine → Result V CertError) (line : CertLine)
      (rest behind : List CertLine) → rest ≡ line ∷ behind → NoLineIsAtFault (read (first ∷ line ∷ []))
      → BeginsWell read 2 (first ∷ rest)
  BeginsWell-line read line rest behind are none =
      subst (λ (ls : List CertLine). BeginsWell read 2 (first ∷ ls)) (sym are)
      (record { stand = omega arith; no_fault = none })

  -- the first of this many lines is read, after their number
  module _ {V W : Type 0} (read : CertLine → Result V CertError) (at : (other : CertLine) → IsAt other.no (read other))
      (count : CertLine → Result ℕ CertError) (counts : (other : CertLine) → IsAt other.no (count other))
      (next : List V → List CertLine → Result W CertError) (then : (vs : List V) → Settles (next vs))
      (rest : List CertLine) (is : count first ≡ Ok n) (one : ReadsOne read n rest) where
    abbrev all_of : ℕ → List CertLine → Result W CertError
    all_of m lines = and_read next (next_lines read m lines)

    opened : (m : ℕ) → 0 < m → count first ≡ Ok m → NoLineIsAtFault
        (read_and (next_line count) all_of (first ∷ one.line ∷ []))
    opened zero none e = absurd (omega (arith, none))
    opened (suc m) some e =
        subst (λ (r : Result ℕ CertError). NoLineIsAtFault (and_read all_of (of_no_line r (one.line ∷ [])))) (sym e)
        ((Judges-first one.line Never (Unit {0}) (next_lines read (suc m)) [] next
        (JudgesNext-first_line one.line Never (Unit {0}) read at (in_order read one.line one.value one.is_read) m)
        then).kept tt)

    BeginsWell-first : BeginsWell (read_and (next_line count) all_of) 2 (first ∷ rest)
    BeginsWell-first = BeginsWell-line (read_and (next_line count) all_of) one.line rest one.rest one.stands
        (opened n one.some is)

  pub BeginsWell-run : (rest : List CertLine) → run_count first ≡ Ok n → ReadsOne (step_reading names) n rest
      → BeginsWell (run_reading names) 2 (first ∷ rest)
  BeginsWell-run rest is one = BeginsWell-first (step_reading names) (at-step names) run_count at-run
      (λ steps rest. at_end steps rest) Settles-at_end rest is one

  pub BeginsWell-circle : (rest : List CertLine) → circle_count_reading first ≡ Ok n
      → ReadsOne (arc_reading names) n rest → BeginsWell (circle_reading names) 2 (first ∷ rest)
  BeginsWell-circle rest is one = BeginsWell-first (arc_reading names) (at-arc names) circle_count_reading at-circle
      (behind_arcs names) (Settles-behind_arcs names) rest is one

-- the number of a circle's arcs isn't 0
pub circle_count-some : (first : CertLine) (n : ℕ) → circle_count_reading first ≡ Ok n → 0 < n
circle_count-some first n is = (Shows-circle.holds first n is).0

-- ---- by the first word

pub made_of : {V W : Type 0} (made : V → W) (r : Result V CertError) → NoLineIsAtFault r
    → NoLineIsAtFault (and_then {W = W} (λ v. Ok (made v)) r)
made_of made (Ok v) h = tt
made_of made (Err fault) h = h

-- ---- texts
